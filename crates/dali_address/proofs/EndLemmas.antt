-- The result of a census at its end, if nothing was lost.
use Rattle.std.proofs.Common.{◌≡◌, ◌≢◌, ℕ, ◌<◌, ◌≤◌, Bool, true, false, inl, inr, ◌⊎◌, List, [], ◌∷◌, Option, Some}
use Rattle.std.proofs.Common.{None, IsSome, IsNone, refl, sym, subst, ap, ◌∙◌, arith, length, eq-eqb}
use Rattle.std.specs.Prelude.{◌==◌, ◌||◌, ◌&&◌}
use Rattle.std.proofs.lemmas.Bool.Decides.{eqb_tells}
use Rattle.dali_address.specs.Calls.{short_byte}
use Rattle.dali_address.specs.Units.{Three, number_of, Enabled, Member, Units, IsAt, IsAlone}
use Rattle.dali_address.specs.Obeys.{told_short}
use Rattle.dali_address.specs.Census.{IsWhole, HasAddresses, highest, AllHaveOne, AllHaveTheirOwn, IsListed, IsListedOnce}
use Rattle.dali_address.specs.Census.{AreSoMany, IsShared, LacksOne, IsSharing}
use Rattle.dali_address.specs.Tallying.{Counted, IsIn, Rises}
use Rattle.dali_address.specs.Marking.{IsNoShort, is_told, is_told_twice, AreApart, AreMarks}
use Rattle.dali_address.proofs.HeardLemmas.{some_is, some_there, From, from, AreSound}
use Rattle.dali_address.proofs.CensusLemmas.{entry, Named, IsRising, IsAmid}
use Rattle.dali_address.specs.declared.call.Call.TheVariants.{Compare}
use Rattle.dali_address.specs.declared.sharing.Marks.{Marks}

-- the counted units are exactly the units that are there
pub record AreJust (counted : List Counted) (units : Units) : Type 0 where
  pub sound : AreSound units
  pub covers : (number : ℕ) (member : Member) → units number ≡ Some member → IsIn (entry member) counted
  pub named : (one : Counted) → IsIn one counted → Named units one
  pub rising : IsRising counted

-- with the highest search address a silent COMPARE says that each unit was counted
least : (random search : Three) → (random.high < 256) × (random.middle < 256) × (random.low < 256)
    → search ≡ record { high = 0xFF; middle = 0xFF; low = 0xFF } → number_of random ≤ number_of search
least random search (high, middle, low) most = rw most (omega arith)

entry_same : (before after : Member) (counted : List Counted) → after.short ≡ before.short
    → after.random ≡ before.random → IsIn (entry after) counted → IsIn (entry before) counted
entry_same before after counted short random is =
    subst (λ (r : Three). IsIn (record { random = r; told = told_short before.short }) counted) random
    (subst (λ (s : Option ℕ). IsIn (record { random = after.random; told = told_short s }) counted) short is)

pub all_counted : (counted : List Counted) (old last : Units) (search : Three) → IsAmid counted old search
    → search ≡ highest → AreSound old → IsWhole old (record { call = Compare; answer = None }) last
    → (number : ℕ) (after : Member) → last number ≡ Some after → IsIn (entry after) counted
all_counted counted old last search amid most sound whole number after is =
    let it : From (record { call = Compare; answer = None }) (old number) after
    = from old (record { call = Compare; answer = None }) last whole number after is in
    let short : after.short ≡ it.member.short = it.on.short ∙ ap (λ (m : Member). m.short) it.does.0 in
    let random : after.random ≡ it.member.random = it.on.random ∙ ap (λ (m : Member). m.random) it.does.0 in
    let has : HasAddresses it.member = sound.addresses number it.member it.was in
    let low : number_of it.member.random ≤ number_of it.member.search
    = least it.member.random it.member.search (has.high, has.middle, has.low)
    ((amid.on number it.member it.was).1 ∙ most) in
    entry_same after it.member counted (sym short) (sym random)
    (by it.member it.answer (λ some. it.told some refl) low it.does.1 (amid.covers number it.member it.was))
  where
    by : (member : Member) (answer : Option ℕ) → (IsSome answer → ⊥)
        → number_of member.random ≤ number_of member.search
        → ((((member.phase ≡ Enabled) × (number_of member.random ≤ number_of member.search)) × (answer ≡ Some 0xFF))
        ⊎ ((((member.phase ≡ Enabled) × (number_of member.random ≤ number_of member.search)) → ⊥)
        × (answer ≡ None)))
        → ((member.phase ≡ Enabled) ⊎ IsIn (entry member) counted) → IsIn (entry member) counted
    by member answer told low tells (inr is) = is
    by member answer told low (inl (applies, same)) (inl on) =
        absurd (told (let P : Option ℕ → Type 0 = λ o. IsSome o in subst P (sym same) refl))
    by member answer told low (inr (never, same)) (inl on) = absurd (never (on, low))

or_false : (one other : Bool) → (one || other) ≡ false → (one ≡ false) × (other ≡ false)
or_false true other e = absurd (no e)
  where
    no : true ≡ false → ⊥
    no e = cc
or_false false other e = (refl, e)

told_in : (counted : List Counted) (byte : ℕ) (it : Counted) → IsIn it counted → it.told ≡ byte
    → is_told counted byte ≡ true
told_in [] byte it is told = absurd is
told_in (one ∷ more) byte it (inl same) told =
    let now : (one.told == byte) ≡ true
    = eq-eqb one.told byte (ap (λ (c : Counted). c.told) (sym same) ∙ told) in
    subst (λ (b : Bool). (b || is_told more byte) ≡ true) (sym now) refl
told_in (one ∷ more) byte it (inr is) told = by (one.told == byte) (told_in more byte it is told)
  where
    by : (b : Bool) → is_told more byte ≡ true → (b || is_told more byte) ≡ true
    by true e = refl
    by false e = e

no_both : (one other : Bool) → one ≡ true → other ≡ true → (one && other) ≡ false → ⊥
no_both true true a b e = cc
no_both true false a b e = cc
no_both false other a b e = cc

-- if a byte wasn't told twice, one unit told it
once : (counted : List Counted) (byte : ℕ) (one two : Counted) → is_told_twice counted byte ≡ false
    → IsIn one counted → IsIn two counted → one.told ≡ byte → two.told ≡ byte → one.random ≡ two.random
once [] byte one two never is_one is_two told_one told_two = absurd is_one
once (first ∷ more) byte one two never (inl a) (inl b) told_one told_two =
    ap (λ (c : Counted). c.random) (a ∙ sym b)
once (first ∷ more) byte one two never (inl a) (inr b) told_one told_two =
    let now : (first.told == byte) ≡ true
    = eq-eqb first.told byte (ap (λ (c : Counted). c.told) (sym a) ∙ told_one) in
    absurd (no_both _ _ now (told_in more byte two b told_two) (or_false _ _ never).0)
once (first ∷ more) byte one two never (inr a) (inl b) told_one told_two =
    let now : (first.told == byte) ≡ true
    = eq-eqb first.told byte (ap (λ (c : Counted). c.told) (sym b) ∙ told_two) in
    absurd (no_both _ _ now (told_in more byte one a told_one) (or_false _ _ never).0)
once (first ∷ more) byte one two never (inr a) (inr b) told_one told_two =
    once more byte one two (or_false _ _ never).1 a b told_one told_two

-- so at most one unit has the short address
pub alone : (counted : List Counted) (units : Units) (short : ℕ) → AreJust counted units
    → is_told_twice counted (short_byte short) ≡ false → IsAlone units short
alone counted units short just never one two at_one at_two =
    just.sound.numbers one two at_one.member at_two.member at_one.there at_two.there
    (once counted (short_byte short) (entry at_one.member) (entry at_two.member) never
    (just.covers one at_one.member at_one.there) (just.covers two at_two.member at_two.there)
    (ap (λ (o : Option ℕ). told_short o) at_one.has) (ap (λ (o : Option ℕ). told_short o) at_two.has))

-- what was counted before has a lower random address
below : (counted : List Counted) (random : Three) (it : Counted) → Rises counted random → IsRising counted
    → IsIn it counted → number_of it.random < number_of random
below [] random it rises rising is = absurd is
below (newest ∷ older) random it rises rising (inl same) =
    subst (λ (c : Counted). number_of c.random < number_of random) (sym same) rises
below (newest ∷ older) random it rises rising (inr is) =
    let low : number_of it.random < number_of newest.random
    = below older newest.random it rising.0 rising.1 is in
    omega arith

-- two were counted that told the byte
record Twice (counted : List Counted) (byte : ℕ) : Type 0 where
  one : Counted
  two : Counted
  is_one : IsIn one counted
  is_two : IsIn two counted
  told_one : one.told ≡ byte
  told_two : two.told ≡ byte
  others : number_of two.random < number_of one.random

told_one : (counted : List Counted) (byte : ℕ) → is_told counted byte ≡ true
    → (it : Counted) × IsIn it counted × (it.told ≡ byte)
told_one [] byte e = absurd (no e)
  where
    no : false ≡ true → ⊥
    no e = cc
told_one (first ∷ more) byte e = elim (eqb_tells first.told byte) [
  | inl (test, same) ↦ (first, inl refl, same)
  | inr (test, other) ↦
      let later : is_told more byte ≡ true
      = subst (λ (b : Bool). (b || is_told more byte) ≡ true) test e in
      let (it, is, told) = told_one more byte later in (it, inr is, told)
]

either : (one other : Bool) → (one || other) ≡ true → (one ≡ true) ⊎ (other ≡ true)
either true other e = inl refl
either false other e = inr e

both : (one other : Bool) → (one && other) ≡ true → (one ≡ true) × (other ≡ true)
both true other e = (refl, e)
both false other e = absurd (no e)
  where
    no : false ≡ true → ⊥
    no e = cc

is_same : (one byte : ℕ) → (one == byte) ≡ true → one ≡ byte
is_same one byte test = elim (eqb_tells one byte) [
  | inl (on, same) ↦ same
  | inr (off, other) ↦ absurd (no (sym test ∙ off))
]
  where
    no : true ≡ false → ⊥
    no e = cc

twice_now : (first : Counted) (more : List Counted) (byte : ℕ) → IsRising (first ∷ more)
    → ((first.told == byte) && is_told more byte) ≡ true → Twice (first ∷ more) byte
twice_now first more byte rising now =
    let (test, later) = both _ _ now in
    let (it, is, told) = told_one more byte later in
    record {
      one = first;
      two = it;
      is_one = inl refl;
      is_two = inr is;
      told_one = is_same first.told byte test;
      told_two = told;
      others = below more first.random it rising.0 rising.1 is;
    }

twice_later : (first : Counted) (more : List Counted) (byte : ℕ) → Twice more byte → Twice (first ∷ more) byte
twice_later first more byte it =
    record {
      one = it.one;
      two = it.two;
      is_one = inr it.is_one;
      is_two = inr it.is_two;
      told_one = it.told_one;
      told_two = it.told_two;
      others = it.others;
    }

twice : (counted : List Counted) (byte : ℕ) → IsRising counted → is_told_twice counted byte ≡ true
    → Twice counted byte
twice [] byte rising e = absurd (no e)
  where
    no : false ≡ true → ⊥
    no e = cc
twice (first ∷ more) byte rising e = elim (either _ _ e) [
  | inl now ↦ twice_now first more byte rising now
  | inr later ↦ twice_later first more byte (twice more byte rising.1 later)
]

-- the short address that a unit told
short_of : (short : Option ℕ) (own : ℕ) → own < 64 → told_short short ≡ short_byte own → short ≡ Some own
short_of None own within told = absurd (omega arith)
short_of (Some other) own within told =
    let same : other ≡ own = omega arith in ap (λ (it : ℕ). Some it) same

at_of : (units : Units) (one : Counted) (short : ℕ) → short < 64 → one.told ≡ short_byte short
    → (named : Named units one) → IsAt units short named.number
at_of units one short within told named =
    record {
      member = named.member;
      there = named.there;
      has = short_of named.member.short short within (named.told ∙ told);
    }

-- units with other random addresses are others
others : (units : Units) (one two : Counted) → number_of two.random < number_of one.random
    → (named : Named units one) (also : Named units two) → named.number ≢ also.number
others units one two low named also = λ same.
    let it : named.member ≡ also.member
    = some_is named.member also.member (sym named.there ∙ ap units same ∙ also.there) in
    let equal : number_of one.random ≡ number_of two.random
    = ap number_of (sym named.random ∙ ap (λ (m : Member). m.random) it ∙ also.random) in
    absurd (omega arith)

pub shared : (counted : List Counted) (units : Units) (short : ℕ) → short < 64 → AreJust counted units
    → is_told_twice counted (short_byte short) ≡ true → IsShared units short
shared counted units short within just told =
    let it : Twice counted (short_byte short) = twice counted (short_byte short) just.rising told in
    let one : Named units it.one = just.named it.one it.is_one in
    let two : Named units it.two = just.named it.two it.is_two in
    record {
      one = one.number;
      two = two.number;
      others = others units it.one it.two it.others one two;
      at_one = at_of units it.one short within it.told_one one;
      at_two = at_of units it.two short within it.told_two two;
    }

-- a unit that told no short address has none
none_of : (member : Member) (told : ℕ) → HasAddresses member → told_short member.short ≡ told → IsNoShort told
    → IsNone member.short
none_of member told has is never = by member.short refl
  where
    by : (short : Option ℕ) → member.short ≡ short → IsNone short
    by None same = refl
    by (Some own) same =
        absurd (never own (has.short own same)
        (sym is ∙ ap (λ (o : Option ℕ). told_short o) same))

pub lacks : (counted : List Counted) (units : Units) (one : Counted) → AreJust counted units → IsIn one counted
    → IsNoShort one.told → LacksOne units
lacks counted units one just is never =
    let named : Named units one = just.named one is in
    record {
      number = named.number;
      member = named.member;
      there = named.there;
      none = none_of named.member one.told (just.sound.addresses named.number named.member named.there) named.told
          never;
    }

mask_is_none : (short : Option ℕ) → (IsNoShort (told_short short) → ⊥) → IsSome short
mask_is_none None never = absurd (never (λ short within same. absurd (omega arith)))
mask_is_none (Some short) never = refl

pub all_have : (counted : List Counted) (units : Units) → AreJust counted units
    → ((one : Counted) → IsIn one counted → IsNoShort one.told → ⊥) → AllHaveOne units
all_have counted units just spelled number member is =
    mask_is_none member.short (spelled (entry member) (just.covers number member is))

-- the units that were counted, by their numbers
abbrev numbers_of : (units : Units) (counted : List Counted)
    → ((one : Counted) → IsIn one counted → Named units one) → List ℕ
numbers_of units [] named = []
numbers_of units (one ∷ more) named =
    (named one (inl refl)).number ∷ numbers_of units more (λ it is. named it (inr is))

numbers_long : (units : Units) (counted : List Counted) (named : (one : Counted) → IsIn one counted → Named units one)
    → length (numbers_of units counted named) ≡ length counted
numbers_long units [] named = refl
numbers_long units (one ∷ more) named =
    let more_long : length (numbers_of units more (λ it is. named it (inr is))) ≡ length more
    = numbers_long units more (λ it is. named it (inr is)) in
    omega arith

-- a number that is listed is that of a unit that was counted
record Listed (units : Units) (counted : List Counted) (number : ℕ) : Type 0 where
  one : Counted
  is : IsIn one counted
  member : Member
  there : units number ≡ Some member
  random : member.random ≡ one.random

listed : (units : Units) (counted : List Counted) (named : (one : Counted) → IsIn one counted → Named units one)
    (number : ℕ) → IsListed number (numbers_of units counted named) → Listed units counted number
listed units [] named number is = absurd is
listed units (one ∷ more) named number (inl same) =
    let it : Named units one = named one (inl refl) in
    record {
      one = one;
      is = inl refl;
      member = it.member;
      there = ap units same ∙ it.there;
      random = it.random;
    }
listed units (one ∷ more) named number (inr is) =
    let it : Listed units more number = listed units more (λ it is. named it (inr is)) number is in
    record { one = it.one; is = inr it.is; member = it.member; there = it.there; random = it.random }

numbers_once : (units : Units) (counted : List Counted)
    (named : (one : Counted) → IsIn one counted → Named units one) → IsRising counted
    → IsListedOnce (numbers_of units counted named)
numbers_once units [] named rising = tt
numbers_once units (one ∷ more) named rising =
    (never, numbers_once units more (λ it is. named it (inr is)) rising.1)
  where
    never : IsListed (named one (inl refl)).number (numbers_of units more (λ it is. named it (inr is))) → ⊥
    never is =
        let first : Named units one = named one (inl refl) in
        let it : Listed units more (named one (inl refl)).number
        = listed units more (λ it is. named it (inr is)) (named one (inl refl)).number is in
        let same : first.member ≡ it.member = some_is first.member it.member (sym first.there ∙ it.there) in
        let equal : number_of one.random ≡ number_of it.one.random
        = ap number_of (sym first.random ∙ ap (λ (m : Member). m.random) same ∙ it.random) in
        let low : number_of it.one.random < number_of one.random
        = below more one.random it.one rising.0 rising.1 it.is in
        absurd (omega arith)

in_listed : (units : Units) (counted : List Counted) (named : (one : Counted) → IsIn one counted → Named units one)
    (number : ℕ) (member : Member) → AreSound units → units number ≡ Some member → IsIn (entry member) counted
    → IsListed number (numbers_of units counted named)
in_listed units [] named number member sound there is = absurd is
in_listed units (one ∷ more) named number member sound there (inl same) =
    let it : Named units one = named one (inl refl) in
    inl (sound.numbers number it.number member it.member there it.there
    (ap (λ (c : Counted). c.random) same ∙ sym it.random))
in_listed units (one ∷ more) named number member sound there (inr is) =
    inr (in_listed units more (λ it later. named it (inr later)) number member sound there is)

is_there : (it : Option Member) (member : Member) → it ≡ Some member → IsSome it
is_there None member e = cc
is_there (Some other) member e = refl

pub so_many : (counted : List Counted) (units : Units) → AreJust counted units → AreSoMany (length counted) units
so_many counted units just =
    record {
      numbers = numbers_of units counted just.named;
      long = numbers_long units counted just.named;
      once = numbers_once units counted just.named just.rising;
      each = λ number. (
        λ some.
            let (member, there) = some_there units number some in
            in_listed units counted just.named number member just.sound there (just.covers number member there),
        λ is.
            let it : Listed units counted number = listed units counted just.named number is in
            is_there (units number) it.member it.there,
      );
    }

pub apart_so : (counted : List Counted) (units : Units) (many : ℕ) → AreJust counted units → AreApart counted many
    → AllHaveTheirOwn units × AreSoMany many units
apart_so counted units many just apart = (
  (
    all_have counted units just apart.spelled,
    λ short one two at_one at_two.
        alone counted units short just
        (apart.once short ((just.sound.addresses one at_one.member at_one.there).short short at_one.has)) one two at_one
        at_two,
  ),
  subst (λ (it : ℕ). AreSoMany it units) apart.many (so_many counted units just),
)

pub sharing_so : (counted : List Counted) (units : Units) (marks : Marks) → AreJust counted units
    → AreMarks marks counted → IsSharing marks.sharing units
sharing_so counted units marks just are =
    record {
      shared = λ short within on.
          shared counted units short within just (sym (are.shared short within) ∙ on);
      alone = λ short within off. alone counted units short just (sym (are.shared short within) ∙ off);
      missing = λ on.
          let (one, is, never) = are.missing on in lacks counted units one just is never;
      complete = λ off. all_have counted units just (are.complete off);
    }
