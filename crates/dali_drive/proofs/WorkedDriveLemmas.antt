-- A small drive, and what is near it and isn't one.
use Rattle.std.proofs.Common.{◌≡◌, ◌≢◌, inl, inr, refl, sym, ℕ, List, [], ◌∷◌, Some, None, codes, Bool, true, false}
use Rattle.std.proofs.Common.{not, ◌⊎◌, arith, Option, ◌++◌, ◌≤◌, length}
use Rattle.std.proofs.lemmas.Fmt.{decimal_digit}
use Rattle.std.proofs.lemmas.List.Elements.{All-from_recursion}
use Rattle.dali_bank.specs.Order.{Contents}
use Rattle.dali_frame.specs.declared.forward.Frame.TheVariants.{Dtr0, Dtr1}
use Rattle.dali_journal.specs.declared.record.Code.TheVariants.{DoubtOpen}
use Rattle.dali_journal.specs.declared.record.Record.{Record}
use Rattle.dali_journal.specs.declared.record.Record.TheVariants.{Began}
use Rattle.dali_journal.specs.declared.version.Version.TheVariants.{Two}
use Rattle.dali_journal.specs.Spelling.{IsRecord}
use Rattle.dali_write.proofs.NextLemmas.{none_ended}
use Rattle.dali_trace.specs.declared.happening.Reply.TheVariants as replies
use Rattle.dali_trace.specs.declared.happening.Happening.TheVariants.{Asked, Sent, Kept, Stopped, Powered}
use Rattle.dali_trace.specs.declared.fault.DriveFault.TheVariants as faults
use Rattle.dali_frame.specs.declared.fault.LineFault.{LineFault}
use Rattle.dali_trace.specs.Work.{AtEachPast}
use Rattle.dali_trace.specs.Next.{IsNext}
use Rattle.dali_drive.specs.Lines.{IsAnswerLine, IsShort}
use Rattle.dali_trace.specs.Replies.{reply_line}
use Rattle.dali_drive.specs.Transcript.{Streams, AreAnswers}
use Rattle.dali_drive.specs.Driven.{IsDriven, BrokenOff, IsInTurn, NoneFailed, FailedAs}
use Rattle.dali_trace.specs.Faults.{drive_number}
use Rattle.dali_trace.specs.Worked.{empty, first_order, begun}
use Rattle.dali_trace.specs.WorkedPlans.{half_tried}
use Rattle.dali_drive.specs.WorkedDrives.{before_two, after_two}
use Rattle.dali_trace.proofs.WorkedLemmas.{begun_legal}
use Rattle.dali_trace.proofs.WorkedPlanLemmas.{first_planned, not_another_first, next_frame_planned}
use Rattle.std.specs.List.{AllByRecursion}
use Rattle.std.specs.Io.BufRead.{strip_last}
use Rattle.dali_frame.specs.Line.{SpellsAnswer}
use Rattle.dali_write.specs.declared.pace.Pace.TheVariants.{Checked}

pub first_is_record : IsRecord Two (Began first_order 7)
first_is_record = grind arith

-- a line of few bytes, none of them a line feed
pub is_short : (line : List ℕ) → (length line ≤ 8) × AllByRecursion (λ byte. byte ≢ 10) line → IsShort line
is_short line is = record { short = is.0; inside = All-from_recursion (λ byte. byte ≢ 10) line is.1 }

pub answer_line : {answer : Option ℕ} (line : List ℕ) → (length line ≤ 8) × AllByRecursion (λ byte. byte ≢ 10) line
    → SpellsAnswer (strip_last 13 line) answer → IsAnswerLine answer (line ++ 10 ∷ [])
answer_line line is spells = record { line = line; is_short = is_short line is; spells = spells; ended = refl }

pub none_line : IsAnswerLine None (codes "--\n")
none_line = answer_line (codes "--") (omega arith) refl

one_line : IsAnswerLine (Some 1) (codes "01\r\n")
one_line = answer_line (codes "01\r") (omega arith) (omega arith)

pub kept_line : reply_line 7 (replies.Kept DoubtOpen) ≡ codes "reply 7 kept 5 DoubtOpen\n"
kept_line = rw (decimal_digit 7 (omega arith), decimal_digit 5 (omega arith)) refl

pub taken_line : reply_line 1 replies.Taken ≡ codes "reply 1 taken\n"
taken_line = rw (decimal_digit 1 (omega arith)) refl

pub first_next : IsNext empty begun (Sent (Dtr1 1) None)
first_next = record { work = tt; may = (5, refl); planned = first_planned.1 }

two_heard : AreAnswers half_tried (codes "--\n01\r\n")
two_heard = (_, _, (_, _, refl, none_line, refl), one_line, refl)

pub two_driven : IsDriven empty half_tried before_two after_two
two_driven = record {
  legal = ((begun_legal, (5, refl)), refl);
  planned = next_frame_planned.0;
  in_turn = (tt, (tt, (tt, (tt, (refl, tt)))));
  in_range = (first_is_record, tt);
  text = record { heard = _; lines = two_heard; journal = refl; link = refl; answers = refl; out = sym taken_line };
}

pub not_another_frame : IsNext empty begun (Sent (Dtr0 0) None) → ⊥
not_another_frame next = not_another_first (first_planned.0, next.planned)

pub no_record : (entry : Record) → IsNext empty begun (Kept entry) → ⊥
no_record (Began order moment) next = absurd next.may.whole.0.1
no_record _ next = none_ended 5 _ _ next.planned.0 next.planned.1

pub no_record_broken : (rest : List (Contents × ℕ)) (old new : Streams)
    → BrokenOff empty begun rest faults.Journal old new → ⊥
no_record_broken rest old new (entry, next, cut) = no_record entry next

-- Which happenings a drive makes

pub asked_in_turn : AtEachPast (IsInTurn empty) (Asked first_order 7 ∷ [])
asked_in_turn = (refl, tt)

pub not_asked_at_work : AtEachPast (IsInTurn empty) (Asked first_order 8 ∷ begun) → ⊥
not_asked_at_work turn = let busy : true ≡ false = turn.0 in cc

pub not_stopped_in_turn : AtEachPast (IsInTurn empty) (Stopped Checked ∷ begun) → ⊥
not_stopped_in_turn turn = turn.0

pub no_loss_of_power_in_turn : AtEachPast (IsInTurn empty) (Powered 5 ∷ begun) → ⊥
no_loss_of_power_in_turn turn = turn.0

pub no_loss_of_power_before : AtEachPast (IsInTurn empty) (Sent (Dtr1 1) None ∷ Powered 5 ∷ begun) → ⊥
no_loss_of_power_before turn = turn.1.0

-- Which streams have failed at a fault: its own, and no other

pub each_its_own : (fault : LineFault)
    → FailedAs faults.Journal true false false false × FailedAs faults.Link false true false false
    × FailedAs faults.Link false false true false × FailedAs faults.Out false false false true
    × FailedAs faults.End false false false false × FailedAs faults.NoMemory false false false false
    × FailedAs (faults.Line fault) false false false false × FailedAs faults.TooLong false false false false
each_its_own fault = search (inl, inr)

pub journal_alone : (journal link_out link_in out : Bool) → FailedAs faults.Journal journal link_out link_in out
    → NoneFailed (not journal) link_out link_in out
journal_alone journal link_out link_in out came = grind arith

pub one_of_the_link : (journal link_out link_in out : Bool) → FailedAs faults.Link journal link_out link_in out
    → NoneFailed journal (not link_out) link_in out ⊎ NoneFailed journal link_out (not link_in) out
one_of_the_link journal link_out link_in out came = grind arith

pub out_alone : (journal link_out link_in out : Bool) → FailedAs faults.Out journal link_out link_in out
    → NoneFailed journal link_out link_in (not out)
out_alone journal link_out link_in out came = grind arith

pub none_else : (fault : LineFault) (journal link_out link_in out : Bool)
    → (FailedAs faults.End journal link_out link_in out → NoneFailed journal link_out link_in out)
    × (FailedAs faults.NoMemory journal link_out link_in out → NoneFailed journal link_out link_in out)
    × (FailedAs (faults.Line fault) journal link_out link_in out → NoneFailed journal link_out link_in out)
    × (FailedAs faults.TooLong journal link_out link_in out → NoneFailed journal link_out link_in out)
none_else fault journal link_out link_in out = (λ came. came, λ came. came, λ came. came, λ came. came)

-- The numbers of the faults

pub fault_numbers : (fault : LineFault)
    → (drive_number faults.Journal ≡ 1) × (drive_number faults.Link ≡ 2) × (drive_number (faults.Line fault) ≡ 3)
    × (drive_number faults.End ≡ 4) × (drive_number faults.NoMemory ≡ 5) × (drive_number faults.TooLong ≡ 6)
    × (drive_number faults.Out ≡ 7)
fault_numbers fault = (refl, refl, refl, refl, refl, refl, refl)
