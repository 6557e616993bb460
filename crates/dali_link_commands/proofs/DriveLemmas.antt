-- Lemmas on how a drive ended.
use Rattle.std.proofs.Common.{◌≡◌, refl, ℕ, ◌+◌, ◌<◌, Bool, false, true, List, [], Option, arith}
use Rattle.std.proofs.Common.{length, get_or, take, inl, inr}
use Rattle.std.proofs.Math.Seq.{take-length}
use Rattle.std.specs.Io.KnownBytes.{Appends, Keeps}
use Rattle.std.proofs.lemmas.List.{flat_map_more, take_more}
use Rattle.dali_input.specs.declared.item.ItemFault.{ItemFault}
use Rattle.dali_bank.specs.Order.{Contents}
use Rattle.dali_input.specs.declared.fault.InputFault.{InputFault}
use Rattle.dali_input.specs.declared.fault.InputFault.TheVariants as inputs
use Rattle.dali_input.specs.Input.{InputState, IsReadFailure, ReadsInput}
use Rattle.dali_input.specs.Orders.{orders_limit}
use Rattle.dali_drive.specs.Desks.{Look}
use Rattle.dali_drive.specs.Streams.{PutsFirst}
use Rattle.dali_input.specs.declared.command_fault.Status.{Status}
use Rattle.dali_job.specs.declared.link_command.DriveTask.{DriveTask}
use Rattle.dali_journal.specs.JournalState.{JournalState}
use Rattle.dali_report.specs.declared.report.Report.{Report}
use Rattle.dali_link_commands.specs.LinkCommands.{Drives}
use Rattle.dali_link_commands.specs.OrdersAnswers.{EndsUndriven, IsInputAnswer, IsReaderAnswer, IsFileAnswer, IsUnread}
use Rattle.dali_link_commands.specs.Told.{TellsLine, refused_lines}
use Rattle.dali_input.specs.CommandFaults.{item_line}
use Rattle.dali_text.proofs.StreamLemmas.{appends_both, appends_kept}

-- the bytes that were read are those that the command had
pub read_and_answered : (answers : List Contents → Look → Status → Look → Type 0) (unreported : Type 0)
    (before after : InputState) (first last : Look) (status : Status) (input given : List ℕ)
    → given ≡ input → ReadsInput orders_limit before after input
    → IsInputAnswer answers unreported first status last given
    → IsReaderAnswer answers unreported first status last before after
read_and_answered answers unreported before after first last status input given is read answered =
    inl (input, read, rw is at answered)

-- one more refused item is printed; any default will do
pub refused_more : (refused : List (ℕ × ItemFault)) (i : ℕ) (default : ℕ × ItemFault) (before mid now : Option (List ℕ))
    → i < length refused → Appends before mid (refused_lines (take i refused))
    → Appends mid now (item_line (get_or refused i default).0 (get_or refused i default).1)
    → Appends before now (refused_lines (take (i + 1) refused))
refused_more refused i default before mid now within so_far written =
    let line : ℕ × ItemFault → List ℕ = λ item. item_line item.0 item.1 in
    rw (take_more refused i default, ← flat_map_more line [] (take i refused) (get_or refused i default))
    (appends_both before mid now (refused_lines (take i refused)) (line (get_or refused i default)) so_far written)

-- it was written whole, and then nothing
pub puts_all : (before mid after : Option (List ℕ)) (bytes : List ℕ) → Appends before mid bytes → Keeps mid after
    → PutsFirst before after bytes
puts_all before mid after bytes whole kept =
    (length bytes, omega arith, rw take-length (appends_kept before mid after bytes whole kept))

-- a reader fails at these alone
pub is_unread : (before after : InputState) (fault : InputFault) → IsReadFailure before after fault → IsUnread fault
is_unread before after inputs.Memory failure = inr refl
is_unread before after inputs.File failure = inl refl
is_unread before after _ failure = absurd failure

-- what a reader gave are some bytes
pub file_answered : (answers : List Contents → Look → Status → Look → Type 0) (unreported : Type 0)
    (before after : InputState) (first : Look) (status : Status) (last : Look)
    → IsReaderAnswer answers unreported first status last before after
    → IsFileAnswer answers unreported first status last
file_answered answers unreported before after first status last (inl (input, read, answer)) = inl (input, answer)
file_answered answers unreported before after first status last (inr (fault, failure, undriven, none)) =
    inr (fault, is_unread before after fault failure, undriven, none)

-- the file of the orders isn't opened, which is reported, however they were to come
pub drives_unopened : {N : Type 0} (follow : Bool) (task : DriveTask) (contents : N → Option (List ℕ))
    (older : Option JournalState) (report : Report N) (first : Look) (status : Status) (last : Look)
    (fault : InputFault)
    → IsUnread fault → EndsUndriven fault first status last
    → Drives follow task contents older report report first status last
drives_unopened true task contents older report first status last fault unread undriven =
    inr (fault, unread, undriven, refl)
drives_unopened false task contents older report first status last fault unread undriven =
    inr (fault, unread, undriven, refl)

-- the line by another name
pub line_told : (good status : Status) (before after : Option (List ℕ)) (one two : List ℕ) → one ≡ two
    → TellsLine one good status before after → TellsLine two good status before after
line_told _ status before after one two same told = rw same at told
