-- The state after a drive that isn't begun, breaks off, or comes to its end; and near misses of each.
use Rattle.std.proofs.Common.{◌≡◌, sym, ap, Bool, true, false, ℕ, List, [], ◌∷◌, Option, Some, codes}
use Rattle.dali_bank.specs.Order.{Contents}
use Rattle.dali_journal.specs.declared.behind.JoinFault.{JoinFault}
use Rattle.dali_journal.specs.JournalState.{JournalState}
use Rattle.dali_store.specs.declared.opening.OpenFault.TheVariants as unopened
use Rattle.dali_store.specs.declared.store.StoreFault.TheVariants as stores
use Rattle.dali_trace.specs.declared.fault.DriveFault.TheVariants as faults
use Rattle.dali_drive.specs.declared.following.Given.{Given}
use Rattle.dali_drive.specs.Desks.{Look}
use Rattle.dali_drive.specs.Transcript.{Streams}
use Rattle.dali_report.specs.declared.report.Report.{Report}
use Rattle.dali_input.specs.declared.command_fault.Status.{Status}
use Rattle.dali_link_commands.specs.BehindAnswers.{UnopenedBehind, BrokenBehind, FollowsBehind}
use Rattle.dali_job.specs.declared.link_command.Required.{Required}
use Rattle.dali_link_commands.specs.BehindAnswers.{EndsListBehind, EndsSourceBehind}
use Rattle.dali_link_commands.proofs.WorkedBenchLemmas.{emptied_unsettled}
use Rattle.dali_write.specs.declared.pace.Pace.{Pace}

module _ {G N : Type 0} (gave : G → G → List Given → Type 0) (contents : N → Option (List ℕ))
    (older : Option JournalState) (pace : Pace) (before after : Report N) (orders left : G) (first : Look)
    (status : Status) (last : Look) where
  -- ---- a journal that isn't opened

  -- 21 File comes only where its store has failed, and no other stream
  pub unopened_where_no_store_failed :
      (u : UnopenedBehind gave contents older pace before after orders left first status last)
      → u.fault ≡ unopened.Store stores.Failed → last.failed.journal ≡ false → ⊥
  unopened_where_no_store_failed u is unfailed = cc

  pub unopened_where_a_link_failed : UnopenedBehind gave contents older pace before after orders left first status last
      → last.failed.link_out ≡ true → ⊥
  unopened_where_a_link_failed u failed = cc

  pub unopened_too_big_where_a_store_failed :
      (u : UnopenedBehind gave contents older pace before after orders left first status last)
      → u.fault ≡ unopened.Store stores.TooBig → last.failed.journal ≡ true → ⊥
  unopened_too_big_where_a_store_failed u is failed = cc

  -- ---- journals that are none together

  module _ (why : JoinFault)
      (u : UnopenedBehind gave contents older pace before after orders left first status last)
      (is : u.fault ≡ unopened.Join why) where
    pub unjoined_and_sent : first.streams.link ≡ Some [] → last.streams.link ≡ Some (codes "C301\n") → ⊥
    unjoined_and_sent none sent = cc (ap (λ (s : Streams). s.link) (rw is at u.unopened).streams)

    pub unjoined_and_heard : first.streams.answers ≡ Some (codes "--\n") → last.streams.answers ≡ Some [] → ⊥
    unjoined_and_heard none heard = cc (ap (λ (s : Streams). s.answers) (rw is at u.unopened).streams)

    pub unjoined_and_unsettled : last.streams.journal ≡ Some (1 ∷ []) → last.may_leave [] → ⊥
    unjoined_and_unsettled shows less = emptied_unsettled _ _ shows less (rw is at u.unopened).settled

    pub unjoined_where_a_store_failed : last.failed.journal ≡ true → ⊥
    unjoined_where_a_store_failed failed = cc

  -- ---- what is broken off

  -- a stop leaves the record that was kept before, and no less
  pub broken_and_forgotten : (b : BrokenBehind gave contents older pace before after orders left first status last)
      → b.broken.observed.breaks.follow.then.journal ≡ Some (1 ∷ []) → last.streams.journal ≡ Some (1 ∷ 2 ∷ [])
      → last.may_leave [] → ⊥
  broken_and_forgotten b then shows less =
      let (more, rest, front, whole) = rw (then, shows) at (b.broken.observed.breaks.left [] less) in cc

  pub broken_where_none_failed : (b : BrokenBehind gave contents older pace before after orders left first status last)
      → b.fault ≡ faults.Journal → last.failed.journal ≡ false → ⊥
  broken_where_none_failed b is unfailed = let failed = (rw is at b.failed).0 in cc

-- ---- drives that completed

pub ended_and_unsettled : {G N : Type 0} (gave : G → G → List Given → Type 0) (over : G → Type 0)
    (contents : N → Option (List ℕ)) (older : Option JournalState) (pace : Pace) (before after : Report N)
    (orders left : G)
    (first last : Look) → FollowsBehind gave over contents older pace before after orders left first last
    → last.streams.journal ≡ Some (1 ∷ []) → last.may_leave [] → ⊥
ended_and_unsettled _ _ _ _ _ _ _ _ _ _ _ f shows less = emptied_unsettled _ _ shows less f.settled

pub source_ended_and_unsettled : {G N : Type 0} (gave : G → G → List Given → Type 0) (over : G → Type 0)
    (failed refused : G → Bool) (contents : N → Option (List ℕ)) (older : Option JournalState) (pace : Pace)
    (required : Required) (before after : Report N) (orders left : G) (first : Look) (status : Status) (last : Look)
    → EndsSourceBehind gave over failed refused contents older pace required before after orders left first status last
    → last.streams.journal ≡ Some (1 ∷ []) → last.may_leave [] → ⊥
source_ended_and_unsettled _ _ _ _ _ _ _ _ _ _ _ _ _ _ _ e shows less =
    emptied_unsettled _ _ shows less e.follows.settled

pub list_ended_and_unsettled : {N : Type 0} (older : Option JournalState) (contents : N → Option (List ℕ)) (moment : ℕ)
    (pace : Pace) (required : Required) (before after : Report N) (orders : List Contents) (first : Look)
    (status : Status)
    (last : Look) → EndsListBehind older contents moment pace required before after orders first status last
    → last.streams.journal ≡ Some (1 ∷ []) → last.may_leave [] → ⊥
list_ended_and_unsettled _ _ _ _ _ _ _ _ _ _ _ e shows less = emptied_unsettled _ _ shows less e.settled

pub list_ended_where_a_store_failed : {N : Type 0} (older : Option JournalState) (contents : N → Option (List ℕ))
    (moment : ℕ) (pace : Pace) (required : Required) (before after : Report N) (orders : List Contents) (first : Look)
    (status : Status) (last : Look)
    → EndsListBehind older contents moment pace required before after orders first status last
    → last.failed.journal ≡ true → ⊥
list_ended_where_a_store_failed _ _ _ _ _ _ _ _ _ _ _ e failed = cc (sym failed, e.unfailed.0)
