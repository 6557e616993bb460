-- A trace whose answers are those of a simulated bus is a chain of it.
use Rattle.std.proofs.Common.{◌≡◌, refl, ap, ℕ, Bool, true, false, ◌==◌, ◌&&◌, not, if◌then◌else◌}
use Rattle.std.proofs.Common.{List, [], ◌∷◌, Option, Some, None}
use Rattle.std.proofs.lemmas.Bool.{eqb-true}
use Rattle.std.specs.List.{AllByRecursion, filter_map}
use Rattle.std.specs.Prelude.{drop}
use Rattle.dali_bus.specs.Chain.{IsChain}
use Rattle.dali_bus.proofs.OpenLemmas.{is_open}
use Rattle.dali_bus.specs.Unenabled.{NoneEnabled}
use Rattle.dali_gear.specs.declared.fate.Fate.{Fate}
use Rattle.dali_gear.specs.Fate.{next_fate}
use Rattle.dali_gear.specs.SimState.{SimState, SimStep, AreApart, AreBanks, unit_answer, bus_answer, world_of}
use Rattle.dali_gear.specs.SimSteps.{fate_keeps, power_keeps}
use Rattle.dali_gear.specs.UnitState.{UnitState, gear_of}
use Rattle.dali_gear.proofs.BankLemmas.{fate_bank, power_bank, banks_after}
use Rattle.dali_gear.proofs.SimLemmas.{AreApart-map}
use Rattle.dali_trace.specs.declared.happening.Reply.TheVariants as replies
use Rattle.dali_trace.specs.declared.happening.Happening.{Happening}
use Rattle.dali_trace.specs.declared.happening.Happening.TheVariants.{Answered, Sent, Stopped, Powered}
use Rattle.dali_trace.specs.Moves.{MovesBy}
use Rattle.dali_trace.specs.Spared.{UnrefusedSince}
use Rattle.dali_trace.specs.WorkedLosses.{bus_after, buses_along}
use Rattle.dali_journal.proofs.PairLemmas.{and-parts}

-- each answer in the trace is the one that the bus gives
abbrev same_answer : Option ℕ → Option ℕ → Bool
same_answer None None = true
same_answer (Some byte) (Some other) = byte == other
same_answer _ _ = false

abbrev pub are_answers : SimState → List Happening → Bool
are_answers first [] = true
are_answers first (Sent frame answer ∷ past) =
    let old = bus_after first past in
    same_answer answer (bus_answer (next_fate old.fates)
    (filter_map (unit_answer (next_fate old.fates) frame) old.units))
    && are_answers first past
are_answers first (other ∷ past) = are_answers first past

is_same : (one other : Option ℕ) → same_answer one other ≡ true → one ≡ other
is_same None None same = refl
is_same (Some byte) (Some other) same = ap Some (eqb-true byte other same)
is_same None (Some other) same = cc
is_same (Some byte) None same = cc

-- its units stay apart, and their banks whole
stays_whole : (first : SimState) (past : List Happening) → AreApart first.units → AreBanks first.units
    → AreApart (bus_after first past).units × AreBanks (bus_after first past).units
stays_whole first [] apart banks = (apart, banks)
stays_whole first (Sent frame answer ∷ past) apart banks =
    let old = bus_after first past in
    let before = stays_whole first past apart banks in (
      AreApart-map _ (fate_keeps (next_fate old.fates) frame) old.units before.0,
      banks_after _ (fate_bank (next_fate old.fates) frame) old.units before.1,
    )
stays_whole first (Powered address ∷ past) apart banks =
    let old = bus_after first past in
    let before = stays_whole first past apart banks in
    (AreApart-map _ (power_keeps address) old.units before.0, banks_after _ (power_bank address) old.units before.1)
stays_whole first (_ ∷ past) apart banks = stays_whole first past apart banks

pub bus_chain : (first : SimState) (past : List Happening) → AreApart first.units → AreBanks first.units
    → are_answers first past ≡ true
    → IsChain (MovesBy SimStep) first past (bus_after first past) (buses_along first past)
bus_chain first [] apart banks answers = refl
bus_chain first (Sent frame answer ∷ past) apart banks answers =
    let both = and-parts _ (are_answers first past) answers in
    let whole = stays_whole first past apart banks in (
      record {
        apart = whole.0;
        banks = whole.1;
        units = refl;
        fates = refl;
        answers = is_same answer _ both.0;
      },
      bus_chain first past apart banks both.1,
    )
bus_chain first (Powered address ∷ past) apart banks answers =
    let whole = stays_whole first past apart banks in (
      record { apart = whole.0; banks = whole.1; units = refl; fates = refl },
      bus_chain first past apart banks answers,
    )
bus_chain first (_ ∷ past) apart banks answers = (refl, bus_chain first past apart banks answers)

-- if no fate of the bus refuses, none does that comes next
abbrev pub none_refuse : List Fate → Bool
none_refuse [] = true
none_refuse (fate ∷ fates) = not fate.refuse && none_refuse fates

not_refused : (fate : Fate) → not fate.refuse ≡ true → fate.refuse ≡ false
not_refused fate kind = by fate.refuse kind
  where
    by : (refuses : Bool) → not refuses ≡ true → refuses ≡ false
    by true kind = cc
    by false kind = refl

next_kind : (fates : List Fate) → none_refuse fates ≡ true
    → ((next_fate fates).refuse ≡ false) × (none_refuse (drop 1 fates) ≡ true)
next_kind [] kind = (refl, refl)
next_kind (fate ∷ fates) kind =
    let both = and-parts (not fate.refuse) (none_refuse fates) kind in (not_refused fate both.0, both.1)

kind_after : (first : SimState) (past : List Happening) → none_refuse first.fates ≡ true
    → none_refuse (bus_after first past).fates ≡ true
kind_after first [] kind = kind
kind_after first (Sent frame answer ∷ past) kind =
    (next_kind (bus_after first past).fates (kind_after first past kind)).1
kind_after first (_ ∷ past) kind = kind_after first past kind

pub none_refused : (first : SimState) (past : List Happening) → none_refuse first.fates ≡ true
    → UnrefusedSince past (buses_along first past)
none_refused first [] kind = tt
none_refused first (Answered id replies.Taken ∷ past) kind = tt
none_refused first (Stopped pace ∷ past) kind = tt
none_refused first (Sent frame answer ∷ past) kind =
    ((next_kind (bus_after first past).fates (kind_after first past kind)).0, none_refused first past kind)
none_refused first (_ ∷ past) kind = none_refused first past kind

-- if no unit is enabled
abbrev pub AreOff : List UnitState → Type 0
AreOff units = AllByRecursion (λ (unit : UnitState). unit.enabled ≡ false) units

pub none_on : (units : List UnitState) → AreOff units → NoneEnabled (world_of units)
none_on [] off address = refl
none_on (unit ∷ units) off address = by (address == unit.address) (none_on units off.1)
  where
    by : (here : Bool) → NoneEnabled (world_of units)
        → is_open (if here then Some (gear_of unit) else world_of units address) ≡ false
    by true rest = off.0
    by false rest = rest address
