-- The happenings of the whole bus happen to the units that stay, whichever units come and go at other addresses: no
-- unit there is enabled, no frame is to them, and so none of them answers.
use Rattle.std.proofs.Common.{◌≡◌, ◌≢◌, ◌⊎◌, inl, inr, refl, ap, sym, subst, ◌∙◌, ℕ, Bool, true, false, true≢false}
use Rattle.std.proofs.Common.{List, [], ◌∷◌, map, Option, Some, None, if◌then◌else◌}
use Rattle.std.specs.Prelude.{⊤, IfSome}
use mathlib.Core.Path.{fun_ext}
use Rattle.dali_frame.specs.declared.forward.Frame.{Frame}
use Rattle.dali_frame.specs.declared.forward.Frame.TheVariants.{Dtr0, Dtr1, Write, Enable, AskDtr0, AskDtr1, Read}
use Rattle.dali_bus.specs.World.{Gear, World, IfThere, is_enabled}
use Rattle.dali_bus.specs.Hears.{Obeys}
use Rattle.dali_bus.specs.Power.{PowersUp, LosesPower}
use Rattle.dali_bus.specs.Carry.{Carry, MayHear, Answered}
use Rattle.dali_bus.specs.Chain.{IsChain, AtEachMoment}
use Rattle.dali_bus.proofs.OpenLemmas.{is_open}
use Rattle.dali_bus.proofs.UnenabledLemmas.{powered_at}
use Rattle.dali_journal.specs.declared.standing.Standing.{Standing}
use Rattle.dali_journal.specs.declared.standing.Standing.TheVariants as standings
use Rattle.dali_journal.specs.Sentence.{named_unit}
use Rattle.dali_write.specs.Exchanges.{Exchange}
use Rattle.dali_write.proofs.GearLemmas.{StaysAt, IsOff, memory_of, carry_stays, passing_keeps, end_steady}
use Rattle.dali_trace.specs.declared.happening.Happening.{Happening}
use Rattle.dali_trace.specs.declared.happening.Happening.TheVariants.{Sent, Powered}
use Rattle.dali_trace.specs.Trace.{Start, standing_at, sent_of}
use Rattle.dali_trace.specs.Moves.{Moves}
use Rattle.dali_laws.specs.Stays.{among, Exchanged, MovesAmid, unit_at_work}
use Rattle.dali_laws.proofs.SafeLemmas.{IsSafeFrame, IsSafe, AllSafe}

-- Units that no frame is to

-- the frame is to no unit at this address
abbrev IsElsewhere : ℕ → Frame → Type 0
IsElsewhere at (Dtr0 byte) = ⊤
IsElsewhere at (Dtr1 byte) = ⊤
IsElsewhere at (Write byte) = ⊤
IsElsewhere at (Enable to) = to ≢ at
IsElsewhere at (AskDtr0 to) = to ≢ at
IsElsewhere at (AskDtr1 to) = to ≢ at
IsElsewhere at (Read to) = to ≢ at
IsElsewhere at other = ⊥

-- if it isn't enabled, it gives no answer
silent : (at : ℕ) (old : Gear) (frame : Frame) (answer : Option ℕ) (new : Gear) → old.enabled ≡ false
    → IsElsewhere at frame → Obeys at old frame answer new → answer ≡ None
silent at old (Dtr0 byte) answer new off free (same, none) = none
silent at old (Dtr1 byte) answer new off free (same, none) = none
silent at old (Write byte) answer new off free (inl ((on, some, same), told)) = absurd (true≢false (sym on ∙ off))
silent at old (Write byte) answer new off free (inr (inl (dtr0, goes, same, none))) = none
silent at old (Write byte) answer new off free (inr (inr (on, aside))) = absurd (true≢false (sym on ∙ off))
silent at old (Enable to) answer new off free (inl (mine, same, none)) = none
silent at old (Enable to) answer new off free (inr (same, none)) = none
silent at old (AskDtr0 to) answer new off free (inl (mine, tells)) = absurd (free mine)
silent at old (AskDtr0 to) answer new off free (inr (other, (same, none))) = none
silent at old (AskDtr1 to) answer new off free (inl (mine, tells)) = absurd (free mine)
silent at old (AskDtr1 to) answer new off free (inr (other, (same, none))) = none
silent at old (Read to) answer new off free (inl (mine, reads)) = absurd (free mine)
silent at old (Read to) answer new off free (inr (other, (same, none))) = none
silent at old _ answer new off free obeys = absurd free

-- and it keeps its memory, and isn't newly enabled
unwritten : (at byte : ℕ) (old new : Option Gear) → is_open old ≡ false → MayHear at old (Write byte) new
    → (memory_of new ≡ memory_of old) × (IsOff old → IsOff new)
unwritten at byte None None off hears = (refl, λ off. off)
unwritten at byte (Some old) (Some new) off (inl same) =
    (ap (λ (g : Gear). Some g.memory) same, λ was. ap (λ (g : Gear). g.enabled) same ∙ was)
unwritten at byte (Some old) (Some new) off (inr (answer, hears)) = by hears.obeys where
  by : Obeys at old (Write byte) answer hears.obeyed
      → (memory_of (Some new) ≡ memory_of (Some old)) × (IsOff (Some old) → IsOff (Some new))
  by (inl ((on, some, same), told)) = absurd (true≢false (sym on ∙ off))
  by (inr (inl passes)) =
      let kept = passing_keeps old hears.obeyed answer passes in
      let ends = (end_steady hears.obeyed new hears.ends).keeps in
      (ap Some (ends.memory ∙ kept.memory), λ was. ends.off (kept.off was))
  by (inr (inr (on, aside))) = absurd (true≢false (sym on ∙ off))
unwritten at byte None (Some new) off hears = absurd hears
unwritten at byte (Some old) None off hears = absurd hears

pub untouched : (old : World) (frame : Frame) (answer : Option ℕ) (new : World) (at : ℕ) → IsElsewhere at frame
    → is_enabled old at ≡ false → Carry old frame answer new → StaysAt old new at
untouched old (Write byte) answer new at free off carry =
    let both = unwritten at byte (old at) (new at) off (carry.units at) in
    record { memory = both.0; off = both.1 }
untouched old (Dtr0 byte) answer new at free off carry = carry_stays old (Dtr0 byte) answer new at tt carry
untouched old (Dtr1 byte) answer new at free off carry = carry_stays old (Dtr1 byte) answer new at tt carry
untouched old (Enable to) answer new at free off carry = carry_stays old (Enable to) answer new at free carry
untouched old (AskDtr0 to) answer new at free off carry = carry_stays old (AskDtr0 to) answer new at tt carry
untouched old (AskDtr1 to) answer new at free off carry = carry_stays old (AskDtr1 to) answer new at tt carry
untouched old (Read to) answer new at free off carry = carry_stays old (Read to) answer new at tt carry
untouched old _ answer new at free off carry = absurd free

-- Those who stay

-- no unit that may come and go is enabled
abbrev pub OthersOff : (ℕ → Bool) → World → Type 0
OthersOff staying world = (address : ℕ) → staying address ≡ false → is_enabled world address ≡ false

-- the unit at work stays, with this standing of the records
abbrev pub WorkStaysAt : (ℕ → Bool) → Standing → Type 0
WorkStaysAt staying stands = IfSome (unit_at_work stands) (λ unit. staying unit ≡ true)

-- a unit that is at work isn't one that doesn't stay
apart : (staying : ℕ → Bool) (stands : Standing) (unit at : ℕ) → WorkStaysAt staying stands
    → unit_at_work stands ≡ Some unit → staying at ≡ false → unit ≢ at
apart staying stands unit at stays works off same =
    let found : IfSome (Some unit) (λ u. staying u ≡ true) =
    subst (λ (found : Option ℕ). IfSome found (λ u. staying u ≡ true)) works stays in
    true≢false (sym found ∙ ap staying same ∙ off)

named_works : (stands : Standing) (unit : ℕ) → named_unit stands ≡ Some unit → unit_at_work stands ≡ Some unit
named_works (standings.Opened order) unit named = named
named_works (standings.Left left) unit named = named
named_works standings.Idle unit named = cc
named_works (standings.Began order) unit named = cc

pub stays_apart : (staying : ℕ → Bool) (stands : Standing) (unit : ℕ) → WorkStaysAt staying stands
    → named_unit stands ≡ Some unit → staying unit ≡ false → ⊥
stays_apart staying stands unit stays named gone =
    apart staying stands unit unit stays (named_works stands unit named) gone refl

-- so each safe frame is to no unit that doesn't stay
pub safe_elsewhere : (staying : ℕ → Bool) (stands : Standing) (sent : List Exchange) (frame : Frame) (at : ℕ)
    → WorkStaysAt staying stands → IsSafeFrame sent stands frame → staying at ≡ false → IsElsewhere at frame
safe_elsewhere staying stands sent (Dtr0 byte) at stays safe off = tt
safe_elsewhere staying stands sent (Dtr1 byte) at stays safe off = tt
safe_elsewhere staying stands sent (Write byte) at stays safe off = tt
safe_elsewhere staying stands sent (Enable unit) at stays safe off =
    apart staying stands unit at stays (named_works stands unit safe) off
safe_elsewhere staying stands sent (AskDtr0 unit) at stays safe off = apart staying stands unit at stays safe off
safe_elsewhere staying stands sent (AskDtr1 unit) at stays safe off = apart staying stands unit at stays safe off
safe_elsewhere staying stands sent (Read unit) at stays safe off = apart staying stands unit at stays safe off
safe_elsewhere staying stands sent _ at stays safe off = absurd safe

-- One happening

hear_among : (at : ℕ) (frame : Frame) (old new : Option Gear) (here : Bool) → MayHear at old frame new
    → MayHear at (if here then old else None) frame (if here then new else None)
hear_among at frame old new true hears = hears
hear_among at frame old new false hears = tt

there_among : (staying : ℕ → Bool) (world : World) (at : ℕ) (gear : Gear) → staying at ≡ true → world at ≡ Some gear
    → among staying world at ≡ Some gear
there_among staying world at gear stays is = rw stays is

answered_among : (staying : ℕ → Bool) (old : World) (frame : Frame) (answer : Option ℕ) (new : World)
    → OthersOff staying old → ((at : ℕ) → staying at ≡ false → IsElsewhere at frame)
    → IfSome answer (λ byte. Answered old frame byte new)
    → IfSome answer (λ byte. Answered (among staying old) frame byte (among staying new))
answered_among staying old frame None new off free answers = answers
answered_among staying old frame (Some byte) new off free answers = by (staying answers.address) refl where
  by : (stays : Bool) → staying answers.address ≡ stays → Answered (among staying old) frame byte (among staying new)
  by true stays = record {
    address = answers.address;
    before = answers.before;
    after = answers.after;
    was = there_among staying old answers.address answers.before stays answers.was;
    is = there_among staying new answers.address answers.after stays answers.is;
    hears = answers.hears;
  }
  by false stays =
      let shut : answers.before.enabled ≡ false =
      subst (λ (unit : Option Gear). is_open unit ≡ false) answers.was (off answers.address stays) in
      let none : Some byte ≡ None =
      silent answers.address answers.before frame (Some byte) answers.hears.obeyed shut (free answers.address stays)
      answers.hears.obeys in
      cc

loses_among : (staying : ℕ → Bool) (old : World) (address : ℕ) (new : World) → LosesPower old address new
    → LosesPower (among staying old) address (among staying new)
loses_among staying old address new loses = record {
  there = by (staying address);
  others = λ other elsewhere.
      ap (λ (unit : Option Gear). if staying other then unit else None) (loses.others other elsewhere);
} where
  by : (here : Bool) → IfThere PowersUp (if here then old address else None) (if here then new address else None)
  by true = loses.there
  by false = tt

-- an exchange is nothing to those who stay, and leaves the others off
same_among : (staying : ℕ → Bool) (old middle : World) → Exchanged staying old middle
    → among staying middle ≡ among staying old
same_among staying old middle comes = fun_ext (λ at. by at (staying at) refl (comes at)) where
  by : (at : ℕ) (here : Bool) → staying at ≡ here
      → (middle at ≡ old at) ⊎ ((staying at ≡ false) × (is_enabled middle at ≡ false))
      → (if here then middle at else None) ≡ (if here then old at else None)
  by at false e came = refl
  by at true e (inl same) = same
  by at true e (inr came) = absurd (true≢false (sym e ∙ came.0))

off_then : (staying : ℕ → Bool) (old middle : World) → Exchanged staying old middle → OthersOff staying old
    → OthersOff staying middle
off_then staying old middle comes off at stays = elim (comes at) [
  | inl same ↦ ap is_open same ∙ off at stays
  | inr came ↦ came.1
]

moves_among : (staying : ℕ → Bool) (start : Start) (past : List Happening) (next : Happening) (old new : World)
    → WorkStaysAt staying (standing_at start past) → IsSafe start past next → OthersOff staying old
    → Moves old next new → Moves (among staying old) next (among staying new) × OthersOff staying new
moves_among staying start past (Sent frame answer) old new stays safe off carry =
    let free : (at : ℕ) → staying at ≡ false → IsElsewhere at frame =
    λ at. safe_elsewhere staying (standing_at start past) (sent_of past) frame at stays safe in (
      record {
        units = λ at. hear_among at frame (old at) (new at) (staying at) (carry.units at);
        answers = answered_among staying old frame answer new off free carry.answers;
      },
      λ at gone. (untouched old frame answer new at (free at gone) (off at gone) carry).off (off at gone),
    )
moves_among staying start past (Powered address) old new stays safe off loses =
    (loses_among staying old address new loses, λ at gone. (powered_at old address new loses at).shut (off at gone))
moves_among staying start past _ old new stays safe off same =
    (ap (among staying) same, subst (OthersOff staying) (sym same) off)

-- Happenings one after another

-- what is so at each moment is so at the last
pub at_the_last : (holds : List Happening → World → Type 0) (past : List Happening) (last : World)
    (states : List World) → AtEachMoment holds past last states → holds past last
at_the_last holds [] last [] each = each
at_the_last holds [] last (state ∷ states) each = absurd each
at_the_last holds (next ∷ past) last [] each = absurd each
at_the_last holds (next ∷ past) last (state ∷ states) each = each.0

pub chain_among : (staying : ℕ → Bool) (start : Start) (first : World) (past : List Happening) (last : World)
    (states : List World) → AllSafe start past → OthersOff staying first
    → AtEachMoment (λ moment now. WorkStaysAt staying (standing_at start moment)) past last states
    → IsChain (MovesAmid staying) first past last states
    → IsChain Moves (among staying first) past (among staying last) (map (among staying) states)
    × AtEachMoment (λ moment now. OthersOff staying now) past last states
chain_among staying start first [] last [] safe off stays same =
    (ap (among staying) same, subst (OthersOff staying) (sym same) off)
chain_among staying start first [] last (state ∷ states) safe off stays wrong = absurd wrong
chain_among staying start first (next ∷ past) last [] safe off stays wrong = absurd wrong
chain_among staying start first (next ∷ past) last (state ∷ states) safe off stays ((middle, comes, moves), steps) =
    let before = chain_among staying start first past state states safe.0 off stays.1 steps in
    let here = at_the_last (λ moment now. WorkStaysAt staying (standing_at start moment)) past state states stays.1 in
    let shut = at_the_last (λ moment now. OthersOff staying now) past state states before.1 in
    let now =
    moves_among staying start past next middle last here safe.1 (off_then staying state middle comes shut) moves in (
      (
        subst (λ (w : World). Moves w next (among staying last)) (same_among staying state middle comes) now.0,
        before.0,
      ),
      (now.1, before.1),
    )
