-- The state if a drive isn't begun, since its journal isn't opened or an older one can't be used, and near misses of
-- that.
use Rattle.std.proofs.Common.{◌≡◌, ℕ, List, [], ◌∷◌, Option, Some, codes}
use Rattle.dali_journal.specs.JournalState.{JournalState}
use Rattle.dali_drive.specs.declared.following.Given.{Given}
use Rattle.dali_drive.specs.Desks.{Look}
use Rattle.dali_report.specs.declared.report.Report.{Report}
use Rattle.dali_input.specs.declared.command_fault.Status.{Status}
use Rattle.dali_link_commands.specs.BehindAnswers.{EndsUnread, UnopenedBehind}
use Rattle.dali_write.specs.declared.pace.Pace.{Pace}

module _ {N : Type 0} (knowns : List (Option (List ℕ))) (before after : Report N) (first : Look) (status : Status)
    (last : Look) where
  -- ---- an older journal can't be used

  -- no frame was sent, no line read and no record kept
  pub unread_and_sent : EndsUnread knowns before after first status last → first.streams.link ≡ Some []
      → last.streams.link ≡ Some (codes "C301\n") → ⊥
  unread_and_sent (fault, may, undriven, told, same) none sent = let kept = undriven.link in cc

  pub unread_and_heard : EndsUnread knowns before after first status last → first.streams.answers ≡ Some (codes "--\n")
      → last.streams.answers ≡ Some [] → ⊥
  unread_and_heard (fault, may, undriven, told, same) line heard = let kept = undriven.answers in cc

  pub unread_and_kept : EndsUnread knowns before after first status last → first.streams.journal ≡ Some []
      → last.streams.journal ≡ Some (1 ∷ []) → ⊥
  unread_and_kept (fault, may, undriven, told, same) none kept = let same = undriven.journal in cc

  -- and nothing was added to the report
  pub unread_and_reported : EndsUnread knowns before after first status last → (after ≡ before → ⊥) → ⊥
  unread_and_reported (fault, may, undriven, told, same) reported = reported same

module _ {G N : Type 0} (gave : G → G → List Given → Type 0) (contents : N → Option (List ℕ))
    (older : Option JournalState) (pace : Pace) (before after : Report N) (orders left : G) (first : Look)
    (status : Status) (last : Look) where
  -- ---- the journal isn't opened

  -- no order was taken, and nothing was added to the report
  pub unopened_and_given : UnopenedBehind gave contents older pace before after orders left first status last
      → (left ≡ orders → ⊥) → ⊥
  unopened_and_given u given = given u.unread

  pub unopened_and_reported : UnopenedBehind gave contents older pace before after orders left first status last
      → (after ≡ before → ⊥) → ⊥
  unopened_and_reported u reported = reported u.unreported
