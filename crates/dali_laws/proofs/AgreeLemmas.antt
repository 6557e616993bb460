-- Two traces that tell the same: what may follow the one may follow the other, and the plan asks for the same.
use Rattle.std.proofs.Common.{ap, ◌≡◌, ◌≢◌, refl, sym, ◌∙◌, subst, ℕ, List, [], ◌∷◌, ◌++◌}
use Rattle.dali_bank.specs.Order.{Contents}
use Rattle.dali_frame.specs.declared.forward.Frame.{Frame}
use Rattle.dali_frame.specs.declared.forward.Frame.TheVariants.{Dtr0, Dtr1, Write, Enable, AskDtr0, AskDtr1, Read}
use Rattle.dali_journal.specs.declared.record.Record.{Record}
use Rattle.dali_journal.specs.declared.record.Record.TheVariants.{Began, Closed}
use Rattle.dali_journal.specs.declared.standing.Standing.{Standing}
use Rattle.dali_journal.specs.declared.standing.Standing.TheVariants as standings
use Rattle.dali_write.specs.Worlds.{Selects}
use Rattle.dali_trace.specs.declared.happening.Reply.{Reply}
use Rattle.dali_trace.specs.declared.happening.Reply.TheVariants as replies
use Rattle.dali_trace.specs.declared.happening.Happening.{Happening}
use Rattle.dali_trace.specs.declared.happening.Happening.TheVariants.{Asked, Answered, Sent, Kept, Stopped}
use Rattle.dali_trace.specs.Cut.{since, is_stop, is_start, is_turn}
use Rattle.dali_trace.proofs.CutLemmas.{frames_on}
use Rattle.dali_trace.specs.Trace.{pace_at, waiting_since, since_in}
use Rattle.dali_trace.specs.Trace.{Start, records_of, standing_at, sent_of, sent_since_taken, waiting, outstanding_of}
use Rattle.dali_trace.specs.Trace.{waits_in, replied, next_outstanding, Outstanding, Quiet}
use Rattle.dali_trace.specs.Legal.{Serves, IsGuardedWrite, MaySend, IsDue, MayKeep, MaySay, MayHappen, Replies}
use Rattle.dali_trace.specs.Legal.{MayFollow, IsFinished}
use Rattle.dali_trace.specs.ByPlan.{told_in, IsPlanned}
use Rattle.dali_laws.specs.Law.{RefusedOrdersChangeNothing}

-- two traces, each from its start, that tell the same
pub record Agree (start next : Start) (whole more : List Happening) : Type 0 where
  pub limit : start.limit ≡ next.limit
  pub records : records_of start whole ≡ records_of next more
  pub sent : sent_of whole ≡ sent_of more
  pub since : sent_since_taken whole ≡ sent_since_taken more
  pub outstanding : outstanding_of whole ≡ outstanding_of more

-- A happening that may follow the one may follow the other

serves_too : (whole more : List Happening) (stands : Standing) (unit : ℕ) → waiting whole ≡ waiting more
    → Serves more stands unit → Serves whole stands unit
serves_too whole more standings.Idle unit waits serves = serves
serves_too whole more (standings.Began order) unit waits serves = serves
serves_too whole more (standings.Opened order) unit waits serves = serves
serves_too whole more (standings.Left left) unit waits serves = rw waits serves

guarded_too : (whole more : List Happening) (stands : Standing) (byte : ℕ) → waiting whole ≡ waiting more
    → sent_of whole ≡ sent_of more
    → IsGuardedWrite more stands byte → IsGuardedWrite whole stands byte
guarded_too whole more stands byte waits sent guarded = record {
  unit = guarded.unit;
  location = guarded.location;
  serves = serves_too whole more stands guarded.unit waits guarded.serves;
  is_named = guarded.is_named;
  may = guarded.may;
  selected = subst (Selects guarded.unit guarded.location) (sym sent) guarded.selected;
}

sends_too : (whole more : List Happening) (stands : Standing) (frame : Frame) → waiting whole ≡ waiting more
    → sent_of whole ≡ sent_of more
    → MaySend more stands frame → MaySend whole stands frame
sends_too whole more stands (Dtr0 byte) waits sent may = (may.0, serves_too whole more stands may.0 waits may.1)
sends_too whole more stands (Dtr1 byte) waits sent may = (may.0, serves_too whole more stands may.0 waits may.1)
sends_too whole more stands (AskDtr0 unit) waits sent may = serves_too whole more stands unit waits may
sends_too whole more stands (AskDtr1 unit) waits sent may = serves_too whole more stands unit waits may
sends_too whole more stands (Read unit) waits sent may = serves_too whole more stands unit waits may
sends_too whole more stands (Enable unit) waits sent may = (serves_too whole more stands unit waits may.0, may.1)
sends_too whole more stands (Write byte) waits sent may = guarded_too whole more stands byte waits sent may
sends_too whole more stands other waits sent may = absurd may

due_too : (whole more : List Happening) (entry : Record) → waiting whole ≡ waiting more
    → waiting_since whole ≡ waiting_since more → sent_since_taken whole ≡ sent_since_taken more
    → IsDue more entry → IsDue whole entry
due_too whole more (Began order moment) waits moments since due = (rw waits due.0, rw moments due.1)
due_too whole more (Closed unit) waits moments since due = rw (waits, since) due
due_too whole more other waits moments since due = tt

keeps_too : (start next : Start) (whole more : List Happening) (entry : Record) → Agree start next whole more
    → MayKeep next more entry
    → MayKeep start whole entry
keeps_too start next whole more entry agree may = record {
  whole = rw (agree.records, agree.limit) may.whole;
  due = due_too whole more entry (ap waits_in agree.outstanding) (ap since_in agree.outstanding) agree.since may.due;
  grounds = rw (agree.records, agree.sent) may.grounds;
}

says_too : (start next : Start) (whole more : List Happening) (id : ℕ) (reply : Reply) → Agree start next whole more
    → MaySay next more id reply
    → MaySay start whole id reply
says_too start next whole more id (replies.Kept code) agree may = rw (agree.outstanding, agree.records) may
says_too start next whole more id (replies.Blocked unit) agree may =
    rw (agree.records, agree.outstanding, agree.since) may
says_too start next whole more id reply agree may = absurd may

pub happens_too : (start next : Start) (whole more : List Happening) (newest : Happening) → Agree start next whole more
    → MayHappen next more newest
    → MayHappen start whole newest
happens_too start next whole more (Answered id reply) agree may = says_too start next whole more id reply agree may
happens_too start next whole more (Sent frame answer) agree may =
    rw agree.records (sends_too whole more (standing_at next more) frame (ap waits_in agree.outstanding) agree.sent may)
happens_too start next whole more (Kept entry) agree may = keeps_too start next whole more entry agree may
happens_too start next whole more _ agree may = tt

pub replies_too : (start next : Start) (whole more : List Happening) (order : Contents) (newest : Happening)
    → Agree start next whole more
    → Replies next more order newest → Replies start whole order newest
replies_too start next whole more order (Answered id reply) agree due =
    (due.0, rw (agree.records, agree.outstanding, agree.limit) due.1)
replies_too start next whole more order _ agree due = absurd due

pub planned_too : (start next : Start) (whole more : List Happening) (newest : Happening)
    → pace_at start whole ≡ pace_at next more → records_of start whole ≡ records_of next more
    → told_in whole ≡ told_in more → IsPlanned next more newest → IsPlanned start whole newest
planned_too start next whole more (Sent frame answer) pace records told planned = rw (pace, records, told) planned
planned_too start next whole more (Kept (Began order moment)) pace records told planned = tt
planned_too start next whole more (Kept entry) pace records told planned = rw (pace, records, told) planned
planned_too start next whole more (Answered id (replies.Blocked unit)) pace records told planned =
    rw (pace, records, told) planned
planned_too start next whole more other pace records told planned = tt

-- An order that gets another reply than Taken changes nothing, wherever it is in the trace

passed_over : (start : Start) (past : List Happening) (order : Contents) (moment : ℕ) (reply : Reply)
    → reply ≢ replies.Taken
    → Agree start start (Answered order.id reply ∷ Asked order moment ∷ past) past
passed_over start past order moment replies.Taken other = absurd (other refl)
passed_over start past order moment reply other =
    record { limit = refl; records = refl; sent = refl; since = refl; outstanding = refl }

told_still : (past : List Happening) (order : Contents) (moment : ℕ) (reply : Reply) → reply ≢ replies.Taken
    → told_in (Answered order.id reply ∷ Asked order moment ∷ past) ≡ told_in past
told_still past order moment replies.Taken other = absurd (other refl)
told_still past order moment reply other = refl

turned : {start next : Start} {whole more : List Happening} → Agree start next whole more → Agree next start more whole
turned agree = record {
  limit = sym agree.limit;
  records = sym agree.records;
  sent = sym agree.sent;
  since = sym agree.since;
  outstanding = sym agree.outstanding;
}

-- if no reply is due, what may follow is what may happen
pub may_happen : (start : Start) (past : List Happening) (next : Happening) → IsFinished past
    → MayFollow start past next → MayHappen start past next
may_happen start (Asked order moment ∷ past) next finished may = absurd finished
may_happen start _ next finished may = may

pub may_follow : (start : Start) (past : List Happening) (next : Happening) → IsFinished past
    → MayHappen start past next
    → MayFollow start past next
may_follow start (Asked order moment ∷ past) next finished may = absurd finished
may_follow start _ next finished may = may

-- and an answer is a saying
pub said_quiet : (id : ℕ) (reply : Reply) (past : List Happening) → IsFinished past
    → Quiet ≡ outstanding_of (Answered id reply ∷ past)
said_quiet id reply (Asked order moment ∷ past) finished = absurd finished
said_quiet id reply _ finished = refl

-- two traces after which the same comes
outstanding_on : (more whole past : List Happening) → IsFinished whole → IsFinished past
    → outstanding_of whole ≡ outstanding_of past → outstanding_of (more ++ whole) ≡ outstanding_of (more ++ past)
outstanding_on [] whole past ends finished same = same
outstanding_on (Answered id reply ∷ []) whole past ends finished same =
    sym (said_quiet id reply whole ends) ∙ said_quiet id reply past finished
outstanding_on (Answered id reply ∷ Asked order moment ∷ more) whole past ends finished same =
    ap (replied order moment reply) (outstanding_on more whole past ends finished same)
outstanding_on (newest ∷ more) whole past ends finished same =
    ap (λ (before : Outstanding). next_outstanding before newest) (outstanding_on more whole past ends finished same)

records_on : (start : Start) (more whole past : List Happening) → records_of start whole ≡ records_of start past
    → records_of start (more ++ whole) ≡ records_of start (more ++ past)
records_on start [] whole past same = same
records_on start (Kept entry ∷ more) whole past same = ap (◌∷◌ entry) (records_on start more whole past same)
records_on start (_ ∷ more) whole past same = records_on start more whole past same

pub pace_on : (start : Start) (more whole past : List Happening) → pace_at start whole ≡ pace_at start past
    → pace_at start (more ++ whole) ≡ pace_at start (more ++ past)
pace_on start [] whole past same = same
pace_on start (Stopped pace ∷ more) whole past same = refl
pace_on start (other ∷ more) whole past same = pace_on start more whole past same

agree_on : (start : Start) (whole past : List Happening) → IsFinished whole → IsFinished past
    → Agree start start whole past → (more : List Happening) → Agree start start (more ++ whole) (more ++ past)
agree_on start whole past ends finished agree more = record {
  limit = refl;
  records = records_on start more whole past agree.records;
  sent = frames_on is_stop more whole past agree.sent;
  since = frames_on is_start more whole past agree.since;
  outstanding = outstanding_on more whole past ends finished agree.outstanding;
}

-- what may follow the one may follow the other
follow_on : (start : Start) (whole past : List Happening) → IsFinished whole → IsFinished past
    → ((more : List Happening) → Agree start start (more ++ whole) (more ++ past))
    → (more : List Happening) (next : Happening)
    → MayFollow start (more ++ past) next → MayFollow start (more ++ whole) next
follow_on start whole past ends finished agree [] next may =
    may_follow start whole next ends (happens_too start start whole past next (agree [])
    (may_happen start past next finished may))
follow_on start whole past ends finished agree (Asked order moment ∷ more) next may =
    replies_too start start (more ++ whole) (more ++ past) order next (agree more) may
follow_on start whole past ends finished agree (last ∷ more) next may =
    happens_too start start (last ∷ more ++ whole) (last ∷ more ++ past) next (agree (last ∷ more)) may

pub nothing_changed : RefusedOrdersChangeNothing
nothing_changed start past more order moment reply next finished other =
    let whole : List Happening = Answered order.id reply ∷ Asked order moment ∷ past in
    let one = passed_over start past order moment reply other in
    let agree = agree_on start whole past tt finished one in
    let told = frames_on is_turn more whole past (told_still past order moment reply other) in
    let pace = pace_on start more whole past refl in (
      (
        follow_on start past whole finished tt (agree_on start past whole finished tt (turned one)) more next,
        follow_on start whole past tt finished agree more next,
      ),
      (
        planned_too start start (more ++ past) (more ++ whole) next (sym pace) (sym (agree more).records)
            (sym told),
        planned_too start start (more ++ whole) (more ++ past) next pace (agree more).records told,
      ),
    )
