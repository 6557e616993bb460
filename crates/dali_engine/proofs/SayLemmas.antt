-- A saying that a writer wants may come, and then the writer is idle.
use Rattle.std.proofs.Common.{◌≡◌, refl, ap, ◌∙◌, subst, ℕ, false, List, ◌∷◌, Some}
use Rattle.std.specs.Prelude.{⊤}
use Rattle.dali_frame.specs.declared.forward.Frame.{Frame}
use Rattle.dali_bank.specs.Order.{Contents}
use Rattle.dali_journal.specs.declared.standing.Standing.TheVariants as standings
use Rattle.dali_journal.specs.Orders.{orders_of}
use Rattle.dali_journal.specs.JournalState.{JournalState}
use Rattle.dali_write.specs.declared.ask.Ask.{Ask}
use Rattle.dali_write.specs.declared.ask.Ask.TheVariants as asks
use Rattle.dali_write.specs.declared.ask.Verdict.{Verdict}
use Rattle.dali_write.specs.declared.ask.Verdict.TheVariants as verdicts
use Rattle.dali_write.specs.Told.{unit_of, aim_of}
use Rattle.dali_write.specs.Verdicts.{EndsClosing}
use Rattle.dali_write.proofs.SessionLemmas.{closing_over, closing_unreached}
use Rattle.dali_trace.specs.declared.happening.Reply.{Reply}
use Rattle.dali_trace.specs.declared.happening.Reply.TheVariants as replies
use Rattle.dali_trace.specs.declared.happening.Happening.{Happening}
use Rattle.dali_trace.specs.declared.happening.Happening.TheVariants.{Asked, Answered}
use Rattle.dali_trace.specs.declared.happening.Want.TheVariants.{Send, Say}
use Rattle.dali_engine.specs.declared.phase.Phase.{Phase}
use Rattle.dali_engine.specs.declared.phase.Phase.TheVariants.{Idle, Begins, Checks, Writes, Closes, Says}
use Rattle.dali_trace.specs.Trace.{Start, records_of, sent_since_taken, waiting, is_unsaid}
use Rattle.dali_trace.specs.Legal.{MaySay, HasNumber, EndsAs, IsFinished}
use Rattle.dali_engine.specs.Phases.{want_of, check_of, write_of, closing_of}
use Rattle.dali_engine.specs.WriterState.{IsReady}
use Rattle.dali_engine.specs.Describes.{Describes}
use Rattle.dali_laws.proofs.AgreeLemmas.{may_follow}
use Rattle.dali_engine.proofs.StepLemmas.{stands_so}
use Rattle.dali_write.specs.declared.pace.Pace.{Pace}

-- what a writer may say
abbrev IsSaying : Reply → Type 0
IsSaying (replies.Kept code) = ⊤
IsSaying (replies.Blocked unit) = ⊤
IsSaying _ = ⊥

-- after a saying nothing is unsaid
all_said : (past : List Happening) (id : ℕ) (reply : Reply) → IsSaying reply → IsFinished past
    → is_unsaid (Answered id reply ∷ past) ≡ false
all_said (Asked order moment ∷ past) id reply saying finished = absurd finished
all_said past id (replies.Kept code) saying finished = refl
all_said past id (replies.Blocked unit) saying finished = refl
all_said past id _ saying finished = absurd saying

said : (pace : Pace) (start : Start) (past : List Happening) (journal : JournalState) (phase : Phase) (id : ℕ)
    (reply : Reply)
    → Describes start past (record { journal = journal; phase = phase; pace = pace }) → IsSaying reply
    → MaySay start past id reply
    → Describes start (Answered id reply ∷ past) (record { journal = journal; phase = Idle; pace = pace })
said pace start past journal phase id reply d saying may = record {
  legal = (d.legal, may_follow start past (Answered id reply) d.finished may);
  finished = tt;
  same = d.same;
  limit = d.limit;
  pace = d.pace;
  place = all_said past id reply saying d.finished;
}

pub no_check : {A : Type 0} (unit id : ℕ) (ask : Ask) (reply : Reply) → check_of unit ask ≡ Say id reply → A
no_check unit id (asks.Send frame) reply e = cc
no_check unit id (asks.Ended verdicts.MayOpen) reply e = cc
no_check unit id (asks.Ended verdict) reply e = cc

pub no_write : {A : Type 0} (id : ℕ) (ask : Ask) (reply : Reply) → write_of ask ≡ Say id reply → A
no_write id (asks.Send frame) reply e = cc
no_write id (asks.Ended verdict) reply e = cc

-- how a closing session ended that leaves the order blocked
pub record Blocks (order unit id : ℕ) (ask : Ask) (reply : Reply) : Type 0 where
  pub verdict : Verdict
  pub ended : ask ≡ asks.Ended verdict
  pub other : verdict ≡ verdicts.Closed → ⊥
  pub number : order ≡ id
  pub blocked : replies.Blocked unit ≡ reply

pub blocks : (order unit id : ℕ) (ask : Ask) (reply : Reply) → closing_of order unit ask ≡ Say id reply
    → Blocks order unit id ask reply
blocks order unit id (asks.Send frame) reply e = cc
blocks order unit id (asks.Ended verdicts.Closed) reply e = cc
blocks order unit id (asks.Ended verdict) reply e =
    record { verdict = verdict; ended = refl; other = λ same. cc; number = cc; blocked = cc }

-- a closing session that isn't closed ends as NotClosed
pub not_closed : (verdict : Verdict) → EndsClosing verdict → (verdict ≡ verdicts.Closed → ⊥)
    → verdict ≡ verdicts.NotClosed
not_closed verdicts.Closed ends other = absurd (other refl)
not_closed verdicts.NotClosed ends other = refl
not_closed _ ends other = absurd ends

numbered : (past : List Happening) (order : Contents) (id : ℕ) → waiting past ≡ Some order → order.id ≡ id
    → HasNumber id (waiting past)
numbered past order id waits number = rw waits number

pub said_on : (pace : Pace) (start : Start) (past : List Happening) (journal : JournalState) (phase : Phase) (id : ℕ)
    (reply : Reply)
    → Describes start past (record { journal = journal; phase = phase; pace = pace }) → IsReady pace phase journal
    → want_of phase ≡ Say id reply
    → Describes start (Answered id reply ∷ past) (record { journal = journal; phase = Idle; pace = pace })
said_on pace start past journal Idle id reply d ready e = cc
said_on pace start past journal (Begins order moment) id reply d ready e = cc
said_on pace start past journal (Checks order s) id reply d ready e = no_check order.unit id (aim_of s) reply e
said_on pace start past journal (Writes order s) id reply d ready e = no_write id (aim_of s) reply e
said_on pace start past journal (Says last code) id reply d ready e =
    let same : last ≡ id = cc in
    let is : replies.Kept code ≡ reply = cc in
    let ends : EndsAs last code (orders_of (records_of start past)) = rw d.same ready.1 in
    let may : MaySay start past last (replies.Kept code) = (d.place, ends) in
    subst (λ (r : Reply). Describes start (Answered id r ∷ past)
    (record { journal = journal; phase = Idle; pace = pace })) is
    (subst
    (λ (n : ℕ). Describes start (Answered n (replies.Kept code) ∷ past)
    (record { journal = journal; phase = Idle; pace = pace }))
    same
    (said pace start past journal (Says last code) last (replies.Kept code) d tt may))
said_on pace start past journal (Closes order moment s) id reply d ready e =
    let b = blocks order.id (unit_of s) id (aim_of s) reply e in
    let ends = (closing_over (unit_of s) (sent_since_taken past) s b.verdict ready.1 d.place.2 b.ended).0 in
    let aim : aim_of s ≡ asks.Ended verdicts.NotClosed = b.ended ∙ ap asks.Ended (not_closed b.verdict ends b.other) in
    let may : MaySay start past id (replies.Blocked (unit_of s)) = (
      stands_so start past _ (standings.Left (unit_of s)) d ready.0,
      numbered past order id d.place.0 b.number,
      closing_unreached (unit_of s) (sent_since_taken past) s ready.1 d.place.2 aim,
    ) in
    subst (λ (r : Reply). Describes start (Answered id r ∷ past)
    (record { journal = journal; phase = Idle; pace = pace })) b.blocked
    (said pace start past journal (Closes order moment s) id (replies.Blocked (unit_of s)) d tt may)

-- a wanted frame is the session's
pub check_sends : (unit : ℕ) (ask : Ask) (frame : Frame) → check_of unit ask ≡ Send frame → ask ≡ asks.Send frame
check_sends unit (asks.Send sent) frame e = let same : sent ≡ frame = cc in ap asks.Send same
check_sends unit (asks.Ended verdict) frame e = cc

pub write_sends : (ask : Ask) (frame : Frame) → write_of ask ≡ Send frame → ask ≡ asks.Send frame
write_sends (asks.Send sent) frame e = let same : sent ≡ frame = cc in ap asks.Send same
write_sends (asks.Ended verdict) frame e = cc

pub closing_sends_it : (id unit : ℕ) (ask : Ask) (frame : Frame) → closing_of id unit ask ≡ Send frame
    → ask ≡ asks.Send frame
closing_sends_it id unit (asks.Send sent) frame e = let same : sent ≡ frame = cc in ap asks.Send same
closing_sends_it id unit (asks.Ended verdicts.Closed) frame e = cc
closing_sends_it id unit (asks.Ended _) frame e = cc
