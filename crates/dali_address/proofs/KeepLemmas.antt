-- The state of units that no frame of a giving of addresses changes.
use Rattle.std.proofs.Common.{◌≡◌, ◌≢◌, ℕ, false, inl, inr, ◌⊎◌, List, [], ◌∷◌, Option, Some, None, IsNone}
use Rattle.std.proofs.Common.{refl, sym, subst, ap, ◌∙◌}
use Rattle.std.specs.List.{AllByRecursion}
use Rattle.dali_bus.specs.World.{Gear}
use Rattle.dali_bus.specs.Hears.{MayEnd}
use Rattle.dali_bus.specs.Power.{PowersUp}
use Rattle.dali_bus.specs.Chain.{IsChain, AtEachMoment}
use Rattle.dali_address.specs.Units.{Three, Phase, Disabled, Enabled, Withdrawn, Member, Units}
use Rattle.dali_address.specs.Obeys.{Does, MayBecome, Tells, Seeks, Passes}
use Rattle.dali_address.specs.Steps.{Exchange, MayObey, Step}
use Rattle.dali_address.specs.Keeps.{LeavesUnitsAt, Rests, AddressesStay, Holds, MemoriesStay, GivesNone, HasShort}
use Rattle.dali_address.specs.Keeps.{ShortsStay}
use Rattle.dali_address.specs.declared.call.Call.{Call}
use Rattle.dali_address.specs.declared.call.Call.TheVariants.{Terminate, InitialiseAll, InitialiseMissing, InitialiseAt}
use Rattle.dali_address.specs.declared.call.Call.TheVariants.{Randomise, Compare, Withdraw, SearchHigh, SearchMiddle}
use Rattle.dali_address.specs.declared.call.Call.TheVariants.{SearchLow, Program, Remove, AskShort, AskMissing}
use Rattle.dali_address.specs.declared.call.Call.TheVariants.{AskPresent, AskRandomHigh, AskRandomMiddle, AskRandomLow}

-- the addresses are as they were, and it isn't in the initialisation state
record Still (old new : Member) : Type 0 where
  short : new.short ≡ old.short
  random : new.random ≡ old.random
  off : new.phase ≡ Disabled

still_same : (old new : Member) → old.phase ≡ Disabled → new ≡ old → Still old new
still_same old new off same = rw same record { short = refl; random = refl; off = off }

still_told : {P : Type 0} (byte : ℕ) (old : Member) (answer : Option ℕ) (new : Member) → old.phase ≡ Disabled
    → Tells P byte old answer new → Still old new
still_told byte old answer new off tells = still_same old new off tells.0

still_sought : (search : Three) (old : Member) (answer : Option ℕ) (new : Member) → old.phase ≡ Disabled
    → Seeks search old answer new → Still old new
still_sought search old answer new off (inl same, none) = rw same record { short = refl; random = refl; off = off }
still_sought search old answer new off (inr (out, same), none) = still_same old new off same

still_kept : {P : Type 0} (changed old : Member) (answer : Option ℕ) (new : Member) → old.phase ≡ Disabled
    → (P → ⊥) → MayBecome P changed old answer new → Still old new
still_kept changed old answer new off never (inl same, none) = still_same old new off same
still_kept changed old answer new off never (inr (applies, same), none) = absurd (never applies)

has_one : (short : Option ℕ) (own : ℕ) → short ≡ Some own → IsNone short → ⊥
has_one None own is none = cc
has_one (Some other) own is none = cc

same_short : (has : Option ℕ) (one two : ℕ) → has ≡ Some one → has ≡ Some two → one ≡ two
same_short has one two first second = cc

off_enabled : (phase : Phase) → phase ≡ Disabled → phase ≡ Enabled → ⊥
off_enabled phase off on = cc

still_done : (own : ℕ) (old : Member) (call : Call) (answer : Option ℕ) (new : Member) → old.phase ≡ Disabled
    → old.short ≡ Some own → LeavesUnitsAt own call → Does old call answer new → Still old new
still_done own old Terminate answer new off has leaves (same, none) =
    rw same record { short = refl; random = refl; off = refl }
still_done own old InitialiseAll answer new off has leaves does = absurd leaves
still_done own old InitialiseMissing answer new off has leaves does =
    still_kept (record old { phase = Enabled }) old answer new off (has_one old.short own has) does
still_done own old (InitialiseAt short) answer new off has leaves does =
    still_kept (record old { phase = Enabled }) old answer new off
    (λ at. leaves (same_short old.short short own at has)) does
still_done own old Randomise answer new off has leaves (random, does) =
    still_kept (record old { random = random }) old answer new off (λ active. active off) does
still_done own old Compare answer new off has leaves does = still_told 0xFF old answer new off does
still_done own old Withdraw answer new off has leaves does =
    still_kept (record old { phase = Withdrawn }) old answer new off
    (λ applies. off_enabled old.phase off applies.0) does
still_done own old (SearchHigh byte) answer new off has leaves does = still_sought _ old answer new off does
still_done own old (SearchMiddle byte) answer new off has leaves does = still_sought _ old answer new off does
still_done own old (SearchLow byte) answer new off has leaves does = still_sought _ old answer new off does
still_done own old (Program short) answer new off has leaves does =
    still_kept (record old { short = Some short }) old answer new off (λ chosen. chosen.0 off) does
still_done own old Remove answer new off has leaves does =
    still_kept (record old { short = None }) old answer new off (λ chosen. chosen.0 off) does
still_done own old AskShort answer new off has leaves does = still_told _ old answer new off does
still_done own old AskMissing answer new off has leaves does = still_told _ old answer new off does
still_done own old (AskPresent short) answer new off has leaves does = still_told _ old answer new off does
still_done own old (AskRandomHigh short) answer new off has leaves does = still_told _ old answer new off does
still_done own old (AskRandomMiddle short) answer new off has leaves does = still_told _ old answer new off does
still_done own old (AskRandomLow short) answer new off has leaves does = still_told _ old answer new off does

still_passed : (old mid new : Member) → Still old mid → Passes mid new → Still old new
still_passed old mid new still passes =
    record {
      short = passes.short ∙ still.short;
      random = passes.random ∙ still.random;
      off = elim passes.phase [ inl out ↦ out | inr (same, search) ↦ same ∙ still.off ];
    }

still_there : (own : ℕ) (old : Member) (call : Call) (new : Option Member) → old.phase ≡ Disabled
    → old.short ≡ Some own → LeavesUnitsAt own call → MayObey (Some old) call new
    → (after : Member) × (new ≡ Some after) × Still old after
still_there own old call None off has leaves may = absurd may
still_there own old call (Some new) off has leaves (inl passes) =
    (new, refl, still_passed old old new (still_same old old off refl) passes)
still_there own old call (Some new) off has leaves (inr (answer, obeys)) = (
  new,
  refl,
  still_passed old obeys.obeyed new (still_done own old call answer obeys.obeyed off has leaves obeys.does)
      obeys.passes,
)

rests_after : (short : ℕ) (random : Three) (number : ℕ) (old : Units) (exchange : Exchange) (new : Units)
    → LeavesUnitsAt short exchange.call → Step old exchange new → Rests short random number old
    → Rests short random number new
rests_after short random number old exchange new leaves step rests =
    let may : MayObey (Some rests.member) exchange.call (new number)
    = subst (λ (it : Option Member). MayObey it exchange.call (new number)) rests.there (step.each number) in
    let (after, is, still) = still_there short rests.member exchange.call (new number) rests.off rests.has leaves may in
    record {
      member = after;
      there = is;
      has = still.short ∙ rests.has;
      drew = still.random ∙ rests.drew;
      off = still.off;
    }

-- what one step keeps is kept along a chain
along : (P : Units → Type 0) (Q : Exchange → Type 0)
    → ((old : Units) (exchange : Exchange) (new : Units) → Q exchange → Step old exchange new → P old → P new)
    → (first : Units) (past : List Exchange) (last : Units) (states : List Units) → P first
    → AllByRecursion Q past → IsChain Step first past last states
    → P last × AtEachMoment (λ (happened : List Exchange) units. P units) past last states
along P Q keeps first [] last [] at_first all same =
    let here : P last = subst P (sym same) at_first in (here, here)
along P Q keeps first [] last (state ∷ states) at_first all wrong = absurd wrong
along P Q keeps first (newest ∷ past) last [] at_first all wrong = absurd wrong
along P Q keeps first (newest ∷ past) last (state ∷ states) at_first all steps =
    let before = along P Q keeps first past state states at_first all.1 steps.1 in
    let here : P last = keeps state newest last all.0 steps.0 before.0 in
    (here, (here, before.1))

pub addresses_stay : AddressesStay
addresses_stay first past last states short leaves steps random number rests =
    (along (λ units. Rests short random number units) (λ exchange. LeavesUnitsAt short exchange.call)
    (λ old exchange new left step at. rests_after short random number old exchange new left step at) first past last
    states rests leaves steps).1

-- no frame of addresses touches what memory access sees
gear_kept : (old : Member) (call : Call) (answer : Option ℕ) (new : Member) → Does old call answer new
    → new.gear ≡ old.gear
gear_kept old Terminate answer new (same, none) = rw same refl
gear_kept old InitialiseAll answer new (inl same, none) = rw same refl
gear_kept old InitialiseAll answer new (inr (applies, same), none) = rw same refl
gear_kept old InitialiseMissing answer new (inl same, none) = rw same refl
gear_kept old InitialiseMissing answer new (inr (applies, same), none) = rw same refl
gear_kept old (InitialiseAt short) answer new (inl same, none) = rw same refl
gear_kept old (InitialiseAt short) answer new (inr (applies, same), none) = rw same refl
gear_kept old Randomise answer new (random, (inl same, none)) = rw same refl
gear_kept old Randomise answer new (random, (inr (applies, same), none)) = rw same refl
gear_kept old Compare answer new does = ap (λ (it : Member). it.gear) does.0
gear_kept old Withdraw answer new (inl same, none) = rw same refl
gear_kept old Withdraw answer new (inr (applies, same), none) = rw same refl
gear_kept old (SearchHigh byte) answer new (inl same, none) = rw same refl
gear_kept old (SearchHigh byte) answer new (inr (applies, same), none) = rw same refl
gear_kept old (SearchMiddle byte) answer new (inl same, none) = rw same refl
gear_kept old (SearchMiddle byte) answer new (inr (applies, same), none) = rw same refl
gear_kept old (SearchLow byte) answer new (inl same, none) = rw same refl
gear_kept old (SearchLow byte) answer new (inr (applies, same), none) = rw same refl
gear_kept old (Program short) answer new (inl same, none) = rw same refl
gear_kept old (Program short) answer new (inr (applies, same), none) = rw same refl
gear_kept old Remove answer new (inl same, none) = rw same refl
gear_kept old Remove answer new (inr (applies, same), none) = rw same refl
gear_kept old AskShort answer new does = ap (λ (it : Member). it.gear) does.0
gear_kept old AskMissing answer new does = ap (λ (it : Member). it.gear) does.0
gear_kept old (AskPresent short) answer new does = ap (λ (it : Member). it.gear) does.0
gear_kept old (AskRandomHigh short) answer new does = ap (λ (it : Member). it.gear) does.0
gear_kept old (AskRandomMiddle short) answer new does = ap (λ (it : Member). it.gear) does.0
gear_kept old (AskRandomLow short) answer new does = ap (λ (it : Member). it.gear) does.0

-- not write-enabled, and the memory except for lock bytes is this
record Shows (memory : ℕ → ℕ → Option ℕ) (gear : Gear) : Type 0 where
  shut : gear.enabled ≡ false
  bytes : (bank location : ℕ) → (bank ≡ 0) ⊎ (location ≢ 2) → gear.memory bank location ≡ memory bank location

shows_passed : (memory : ℕ → ℕ → Option ℕ) (old new : Gear) → Shows memory old → MayEnd old new ⊎ PowersUp old new
    → Shows memory new
shows_passed memory old new shows (inl (inl same)) = rw same shows
shows_passed memory old new shows (inl (inr ended)) = rw ended record { shut = refl; bytes = shows.bytes }
shows_passed memory old new shows (inr powers) =
    record {
      shut = powers.off;
      bytes = λ bank location apart. powers.rest bank location apart ∙ shows.bytes bank location apart;
    }

shows_there : (memory : ℕ → ℕ → Option ℕ) (old : Member) (call : Call) (new : Option Member) → Shows memory old.gear
    → MayObey (Some old) call new → (after : Member) × (new ≡ Some after) × Shows memory after.gear
shows_there memory old call None shows may = absurd may
shows_there memory old call (Some new) shows (inl passes) =
    (new, refl, shows_passed memory old.gear new.gear shows passes.gear)
shows_there memory old call (Some new) shows (inr (answer, obeys)) =
    let kept : obeys.obeyed.gear ≡ old.gear = gear_kept old call answer obeys.obeyed obeys.does in
    let mid : Shows memory obeys.obeyed.gear = subst (λ (it : Gear). Shows memory it) (sym kept) shows in
    (new, refl, shows_passed memory obeys.obeyed.gear new.gear mid obeys.passes.gear)

holds_after : (memory : ℕ → ℕ → Option ℕ) (number : ℕ) (old : Units) (exchange : Exchange) (new : Units)
    → Step old exchange new → Holds memory number old → Holds memory number new
holds_after memory number old exchange new step holds =
    let may : MayObey (Some holds.member) exchange.call (new number)
    = subst (λ (it : Option Member). MayObey it exchange.call (new number)) holds.there (step.each number) in
    let before : Shows memory holds.member.gear = record { shut = holds.shut; bytes = holds.bytes } in
    let (after, is, shows) = shows_there memory holds.member exchange.call (new number) before may in
    record { member = after; there = is; shut = shows.shut; bytes = shows.bytes }

any : (past : List Exchange) → AllByRecursion (λ (exchange : Exchange). Unit {0}) past
any [] = tt
any (newest ∷ past) = (tt, any past)

pub memories_stay : MemoriesStay
memories_stay first past last states steps memory number holds =
    (along (λ units. Holds memory number units) (λ exchange. Unit {0})
    (λ old exchange new free step at. holds_after memory number old exchange new step at) first past last states holds
    (any past) steps).1

-- and at the end
pub rests_along : (first : Units) (past : List Exchange) (last : Units) (states : List Units) (short : ℕ)
    → AllByRecursion (λ exchange. LeavesUnitsAt short exchange.call) past → IsChain Step first past last states
    → (random : Three) (number : ℕ) → Rests short random number first → Rests short random number last
rests_along first past last states short leaves steps random number rests =
    (along (λ units. Rests short random number units) (λ exchange. LeavesUnitsAt short exchange.call)
    (λ old exchange new left step at. rests_after short random number old exchange new left step at) first past last
    states rests leaves steps).0

-- a frame that gives none and takes none away
short_kept : (old : Member) (call : Call) (answer : Option ℕ) (new : Member) → GivesNone call
    → Does old call answer new → new.short ≡ old.short
short_kept old Terminate answer new gives (same, none) = rw same refl
short_kept old InitialiseAll answer new gives (inl same, none) = rw same refl
short_kept old InitialiseAll answer new gives (inr (applies, same), none) = rw same refl
short_kept old InitialiseMissing answer new gives (inl same, none) = rw same refl
short_kept old InitialiseMissing answer new gives (inr (applies, same), none) = rw same refl
short_kept old (InitialiseAt short) answer new gives (inl same, none) = rw same refl
short_kept old (InitialiseAt short) answer new gives (inr (applies, same), none) = rw same refl
short_kept old Randomise answer new gives (random, (inl same, none)) = rw same refl
short_kept old Randomise answer new gives (random, (inr (applies, same), none)) = rw same refl
short_kept old Compare answer new gives does = ap (λ (it : Member). it.short) does.0
short_kept old Withdraw answer new gives (inl same, none) = rw same refl
short_kept old Withdraw answer new gives (inr (applies, same), none) = rw same refl
short_kept old (SearchHigh byte) answer new gives (inl same, none) = rw same refl
short_kept old (SearchHigh byte) answer new gives (inr (applies, same), none) = rw same refl
short_kept old (SearchMiddle byte) answer new gives (inl same, none) = rw same refl
short_kept old (SearchMiddle byte) answer new gives (inr (applies, same), none) = rw same refl
short_kept old (SearchLow byte) answer new gives (inl same, none) = rw same refl
short_kept old (SearchLow byte) answer new gives (inr (applies, same), none) = rw same refl
short_kept old (Program short) answer new gives does = absurd gives
short_kept old Remove answer new gives does = absurd gives
short_kept old AskShort answer new gives does = ap (λ (it : Member). it.short) does.0
short_kept old AskMissing answer new gives does = ap (λ (it : Member). it.short) does.0
short_kept old (AskPresent short) answer new gives does = ap (λ (it : Member). it.short) does.0
short_kept old (AskRandomHigh short) answer new gives does = ap (λ (it : Member). it.short) does.0
short_kept old (AskRandomMiddle short) answer new gives does = ap (λ (it : Member). it.short) does.0
short_kept old (AskRandomLow short) answer new gives does = ap (λ (it : Member). it.short) does.0

pub short_there : (old : Member) (call : Call) (new : Option Member) → GivesNone call → MayObey (Some old) call new
    → (after : Member) × (new ≡ Some after) × (after.short ≡ old.short)
short_there old call None gives may = absurd may
short_there old call (Some new) gives (inl passes) = (new, refl, passes.short)
short_there old call (Some new) gives (inr (answer, obeys)) =
    (new, refl, obeys.passes.short ∙ short_kept old call answer obeys.obeyed gives obeys.does)

short_after : (short : Option ℕ) (number : ℕ) (old : Units) (exchange : Exchange) (new : Units)
    → GivesNone exchange.call → Step old exchange new → HasShort short number old → HasShort short number new
short_after short number old exchange new gives step was =
    let may : MayObey (Some was.member) exchange.call (new number)
    = subst (λ (it : Option Member). MayObey it exchange.call (new number)) was.there (step.each number) in
    let (after, is, same) = short_there was.member exchange.call (new number) gives may in
    record { member = after; there = is; has = same ∙ was.has }

pub shorts_stay : ShortsStay
shorts_stay first past last states gives steps short number was =
    (along (λ units. HasShort short number units) (λ exchange. GivesNone exchange.call)
    (λ old exchange new left step at. short_after short number old exchange new left step at) first past last states was
    gives steps).1

-- and at the end
pub shorts_along : (first : Units) (past : List Exchange) (last : Units) (states : List Units)
    → AllByRecursion (λ exchange. GivesNone exchange.call) past → IsChain Step first past last states
    → (short : Option ℕ) (number : ℕ) → HasShort short number first → HasShort short number last
shorts_along first past last states gives steps short number was =
    (along (λ units. HasShort short number units) (λ exchange. GivesNone exchange.call)
    (λ old exchange new left step at. short_after short number old exchange new left step at) first past last states was
    gives steps).0
