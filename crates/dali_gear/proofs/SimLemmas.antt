-- Lists of units, and the lists that a loop over them builds.
use Rattle.std.proofs.Common.{◌≡◌, ◌≢◌, ◌<◌, ◌+◌, ℕ, zero, suc, List, [], ◌∷◌, ◌++◌, map, length, get_or, take, drop}
use Rattle.std.proofs.Common.{Option, Some, None, refl, ◌∙◌, subst, ap, Bool, true, false, arith}
use Rattle.std.specs.Prelude.{slice_get, ◌==◌, if◌then◌else◌}
use Rattle.std.specs.List.{filter_map, cons_option}
use Rattle.std.proofs.lemmas.Bool.{eq-eqb, ne_eqb}
use Rattle.std.proofs.lemmas.List.{take_more}
use Rattle.std.proofs.lemmas.List.Elements.{filter_map-append}
use Rattle.dali_gear.specs.UnitState.{UnitState, gear_of}
use Rattle.dali_gear.specs.SimState.{world_of, AreApart}

-- if no unit of a first list is at an address, the unit there is that of the further ones
world_behind : (units more : List UnitState) (address : ℕ) → world_of units address ≡ None
    → world_of (units ++ more) address ≡ world_of more address
world_behind [] more address free = refl
world_behind (unit ∷ units) more address free = first (address == unit.address) (world_behind units more address) free
  where
    first : (here : Bool) → (world_of units address ≡ None → world_of (units ++ more) address ≡ world_of more address)
        → (if here then Some (gear_of unit) else world_of units address) ≡ None
        → (if here then Some (gear_of unit) else world_of (units ++ more) address) ≡ world_of more address
    first true rest free = cc
    first false rest free = rest free

-- one more unit that isn't at the address
pub still_free : (units : List UnitState) (i address : ℕ) (unit : UnitState) → i < length units
    → unit ≡ get_or units i unit
    → unit.address ≢ address → world_of (take i units) address ≡ None → world_of (take (i + 1) units) address ≡ None
still_free units i address unit lt is other free =
    let elsewhere : (address == unit.address) ≡ false = ne_eqb address unit.address (λ e. other (omega (arith, e))) in
    rw (take_more units i unit lt, ← is) (world_behind (take i units) (unit ∷ []) address free ∙ rw elsewhere refl)

-- a unit is at its address
pub not_free : (units : List UnitState) (i : ℕ) (unit : UnitState) → i < length units → unit ≡ get_or units i unit
    → world_of units unit.address ≢ None
not_free [] i unit lt is = absurd (omega arith)
not_free (first ∷ units) zero unit lt is = rw (is, eq-eqb first.address first.address refl) (λ e. cc)
not_free (first ∷ units) (suc i) unit lt is =
    behind (unit.address == first.address) (not_free units i unit (omega arith) is)
  where
    behind : (here : Bool) → world_of units unit.address ≢ None
        → (if here then Some (gear_of first) else world_of units unit.address) ≢ None
    behind true rest = λ e. cc
    behind false rest = rest

-- no unit comes to an address if each stays at its own
stays_free : (f : UnitState → UnitState) → ((unit : UnitState) → (f unit).address ≡ unit.address)
    → (units : List UnitState) (address : ℕ) → world_of units address ≡ None → world_of (map f units) address ≡ None
stays_free f keeps [] address free = refl
stays_free f keeps (unit ∷ units) address free =
    rw (keeps unit) (at_first (address == unit.address) (stays_free f keeps units address) free)
  where
    at_first : (mine : Bool) → (world_of units address ≡ None → world_of (map f units) address ≡ None)
        → (if mine then Some (gear_of unit) else world_of units address) ≡ None
        → (if mine then Some (gear_of (f unit)) else world_of (map f units) address) ≡ None
    at_first true rest free = cc
    at_first false rest free = rest free

-- units that are apart stay so
pub AreApart-map : (f : UnitState → UnitState) → ((unit : UnitState) → (f unit).address ≡ unit.address)
    → (units : List UnitState) → AreApart units → AreApart (map f units)
AreApart-map f keeps [] apart = tt
AreApart-map f keeps (unit ∷ units) apart =
    (rw (keeps unit) (stays_free f keeps units unit.address apart.0), AreApart-map f keeps units apart.1)

-- an element that the loop hasn't reached is as it was
at_turn : {X : Type 0} (f : X → X) (xs : List X) (i : ℕ) (d : X)
    → get_or (map f (take i xs) ++ drop i xs) i d ≡ get_or xs i d
at_turn f [] zero d = refl
at_turn f [] (suc i) d = refl
at_turn f (x ∷ xs) zero d = refl
at_turn f (x ∷ xs) (suc i) d = at_turn f xs i d

-- one more answer, or none
pub answers_more : {X : Type 0} (f : X → X) (g : X → Option ℕ) (xs ys : List X) (i : ℕ) (x : X) (answer : Option ℕ)
    → i < length xs
    → ys ≡ map f (take i xs) ++ drop i xs → x ≡ get_or ys i x → answer ≡ g x
    → filter_map g (take (i + 1) xs) ≡ filter_map g (take i xs) ++ cons_option answer []
answers_more {X = X} f g xs ys i x answer lt built at is =
    let P : List X → Type 0 = λ zs. x ≡ get_or zs i x in
    let here : x ≡ get_or xs i x = subst P built at ∙ at_turn f xs i x in
    rw (take_more xs i x lt, filter_map-append g (take i xs) (get_or xs i x ∷ []), ← here, ← is) refl

-- the first answer stays the first
pub first_more : (answers : List ℕ) (byte : ℕ) → length answers ≢ 0
    → slice_get (answers ++ byte ∷ []) 0 ≡ slice_get answers 0
first_more [] byte some = absurd (some refl)
first_more (answer ∷ answers) byte some = refl

-- a first answer
pub first_of_none : (answers : List ℕ) (byte : ℕ) → length answers ≡ 0 → slice_get (answers ++ byte ∷ []) 0 ≡ Some byte
first_of_none [] byte none = refl
first_of_none (answer ∷ answers) byte none = absurd (omega arith)

-- a part that was lent, written back
pub written_back : {X : Type 0} (new old : List X) (n : ℕ) → n ≡ length old → length new ≡ length old
    → take n (new ++ drop (length new) old) ≡ new
written_back [] [] n e f = rw e refl
written_back [] (y ∷ old) n e f = absurd (omega arith)
written_back (x ∷ new) [] n e f = absurd (omega arith)
written_back (x ∷ new) (y ∷ old) n e f = rw e (ap (λ xs. x ∷ xs) (written_back new old (length old) refl (omega arith)))
