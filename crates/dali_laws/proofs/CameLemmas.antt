-- A luminaire that comes while an order is at work at another address keeps its memory.
use Rattle.std.proofs.Common.{◌≡◌, inl, inr, refl, ap, sym, subst, ◌∙◌, ℕ, Bool, false, true≢false}
use Rattle.std.proofs.Common.{List, [], ◌∷◌, ◌++◌, append_assoc, Option, is_some}
use Rattle.std.proofs.lemmas.Bool.{eq-eqb}
use Rattle.dali_bus.specs.World.{World, Gear, is_enabled, byte_in, byte_at}
use Rattle.dali_bus.specs.Chain.{IsChain, AtEachMoment}
use Rattle.dali_bus.proofs.OpenLemmas.{is_open}
use Rattle.dali_write.specs.Worlds.{IsAmong, KeepsAt}
use Rattle.dali_write.proofs.PowerLemmas.{relock_then, keeps_then, stays_keeps, drifts_keep}
use Rattle.dali_write.proofs.RunLemmas.{Stays, Loses}
use Rattle.dali_trace.specs.declared.happening.Happening.{Happening}
use Rattle.dali_trace.specs.declared.happening.Happening.TheVariants.{Sent, Powered}
use Rattle.dali_trace.specs.Trace.{Start, standing_at, sent_of, powered_of}
use Rattle.dali_trace.specs.Moves.{Moves}
use Rattle.dali_laws.specs.Stays.{Stay, Exchanged, MovesAmid, IsStay, just}
use Rattle.dali_trace.specs.Legal.{Legal}
use Rattle.dali_trace.specs.ByPlan.{ByPlan}
use Rattle.dali_laws.proofs.SafeLemmas.{IsSafe, AllSafe}
use Rattle.dali_laws.proofs.StayLemmas.{stay_safe}
use Rattle.dali_laws.proofs.AmongLemmas.{WorkStaysAt, safe_elsewhere, untouched}

-- what is so at each moment is so of each older part of a trace
pub at_older : (holds : List Happening → Type 0) (newer older : List Happening) (last : World) (states : List World)
    → AtEachMoment (λ moment now. holds moment) (newer ++ older) last states → holds older
at_older holds [] [] last [] each = each
at_older holds [] [] last (state ∷ states) each = absurd each
at_older holds [] (next ∷ older) last [] each = absurd each
at_older holds [] (next ∷ older) last (state ∷ states) each = each.0
at_older holds (next ∷ newer) older last [] each = absurd each
at_older holds (next ∷ newer) older last (state ∷ states) each = at_older holds newer older state states each.1

module _ (staying : ℕ → Bool) (start : Start) (address : ℕ) (gone : staying address ≡ false)
    (loses : ℕ → Type 0) where
  unchanged : (world : World) → KeepsAt loses world world address
  unchanged world = record { there = refl; memory = λ bank location. inl refl; off = λ was. was }

  keeps_by : (past : List Happening) (next : Happening) (old new : World)
      → ((at : ℕ) → next ≡ Powered at → loses at)
      → WorkStaysAt staying (standing_at start past) → IsSafe start past next → is_enabled old address ≡ false
      → Moves old next new → KeepsAt loses old new address
  keeps_by past (Sent frame answer) old new of_these works safe off carry =
      stays_keeps old new address
      (untouched old frame answer new address
      (safe_elsewhere staying (standing_at start past) (sent_of past) frame address works safe gone) off carry)
  keeps_by past (Powered at) old new of_these works safe off lost =
      drifts_keep old new (Loses at (of_these at refl) Stays lost) address
  keeps_by past _ old new of_these works safe off same =
      subst (λ (now : World). KeepsAt loses old now address) (sym same) (unchanged old)

  -- it is there all the time
  stands_there : (old new : World) → Exchanged (just address) old new → new address ≡ old address
  stands_there old new comes = elim (comes address) [
    | inl same ↦ same
    | inr other ↦ absurd (true≢false (sym (eq-eqb address address refl) ∙ other.0))
  ]

  -- those who lost their power before did by now
  among_next : (next : Happening) (past : List Happening) (at : ℕ) → IsAmong (powered_of [] past) at
      → IsAmong (powered_of [] (next ∷ past)) at
  among_next (Powered other) past at among = inr among
  among_next _ past at among = among

  pub came_keeps : (older newer : List Happening) (came last : World) (states : List World)
      → ((at : ℕ) → IsAmong (powered_of [] newer) at → loses at) → AllSafe start (newer ++ older)
      → ((front back : List Happening) → newer ≡ front ++ back
      → WorkStaysAt staying (standing_at start (back ++ older)))
      → is_enabled came address ≡ false → IsChain (MovesAmid (just address)) came newer last states
      → KeepsAt loses came last address
  came_keeps older [] came last [] of_these safe works off same =
      subst (λ (now : World). KeepsAt loses came now address) (sym same) (unchanged came)
  came_keeps older [] came last (state ∷ states) of_these safe works off wrong = absurd wrong
  came_keeps older (next ∷ newer) came last [] of_these safe works off wrong = absurd wrong
  came_keeps older (next ∷ newer) came last (state ∷ states) of_these safe works off ((middle, comes, moves), steps) =
      let before =
      came_keeps older newer came state states (λ at among. of_these at (among_next next newer at among)) safe.0
      (λ front back same. works (next ∷ front) back (ap (λ (l : List Happening). next ∷ l) same)) off steps in
      let there = stands_there state middle comes in
      let so : KeepsAt loses came middle address = record {
        there = ap is_some there ∙ before.there;
        memory = λ bank location. relock_then (byte_at came address bank location) (byte_at state address bank location)
            (byte_at middle address bank location) (before.memory bank location)
            (inl (ap (λ (unit : Option Gear). byte_in unit bank location) there));
        off = λ was. ap is_open there ∙ before.off was;
      } in
      keeps_then came middle last address so
      (keeps_by (newer ++ older) next middle last
      (λ at same. of_these at (subst (λ (n : Happening). IsAmong (powered_of [] (n ∷ newer)) at) (sym same) (inl refl)))
      (works (next ∷ []) newer refl) safe.1 (so.off off) moves)

pub came_beside : (start : Start) (happened : List Happening) (stay : Stay) (older newer : List Happening)
    (address : ℕ) (came last : World) (states : List World) → Legal start happened → ByPlan start happened
    → IsStay start happened stay → stay.past ≡ newer ++ older → stay.staying address ≡ false
    → is_enabled came address ≡ false → IsChain (MovesAmid (just address)) came newer last states
    → KeepsAt (IsAmong (powered_of [] newer)) came last address
came_beside start happened stay older newer address came last states legal planned is past gone off chain =
    came_keeps stay.staying stay.start address gone (IsAmong (powered_of [] newer)) older newer came last states
    (λ at among. among)
    (subst (AllSafe stay.start) past (stay_safe start happened stay legal planned is))
    (λ front back same. at_older Works front (back ++ older) stay.last stay.states
    (subst (λ (whole : List Happening). AtEachMoment (λ moment now. Works moment) whole stay.last stay.states)
    (past ∙ ap (λ (l : List Happening). l ++ older) same ∙ append_assoc front back older) is.along.work)) off chain
  where
    Works : List Happening → Type 0
    Works moment = WorkStaysAt stay.staying (standing_at stay.start moment)
