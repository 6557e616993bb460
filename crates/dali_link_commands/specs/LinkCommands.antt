-- The effect of each command over a link, as its own definition says.
use Rattle.std.specs.Prelude.{◌≡◌, ◌⊎◌, ◌&&◌, ◌||◌, not, ℕ, Bool, true, false, is_some, length, List, [], Option, None, ⊤}
use Rattle.std.specs.Io.KnownBytes.{Appends}
use Rattle.std.specs.declared.fs.File.{File}
use Rattle.dali_drive.specs.Desks.{Look}
use Rattle.dali_store.specs.Files.{IsIn}
use Rattle.dali_store.specs.declared.file_store.FileStore.{FileStore}
use Rattle.dali_report.specs.declared.report.Report.{Report}
use Rattle.dali_report.specs.Told.{has_failed, has_output}
use Rattle.dali_report.specs.declared.progress.Watched.{Watched}
use Rattle.dali_input.specs.declared.command_fault.Status.{Status}
use Rattle.dali_input.specs.declared.command_fault.Status.TheVariants.{Failed, Unwritten}
use Rattle.dali_job.specs.declared.link_command.DriveTask.{DriveTask}
use Rattle.dali_job.specs.declared.link_command.LinkCommand.{LinkCommand}
use Rattle.dali_link_commands.specs.declared.report_output.ReportOutput.{ReportOutput}
use Rattle.dali_job.specs.declared.link_command.LinkCommand.TheVariants.{Drive, Read, Verify, Scan, Address}
use Rattle.dali_link_commands.specs.AddressAnswers.{IsAddressAnswer, watched_asked}
use Rattle.dali_link_commands.specs.BehindAnswers.{IsAnswerBehind, IsBehindNamed, IsFileFollow, EndsUnread}
use Rattle.dali_journal.specs.JournalState.{JournalState}
use Rattle.dali_link_commands.specs.Benches.{with_lines}
use Rattle.dali_link_commands.specs.Older.{held_under}
use Rattle.dali_link_commands.specs.OrdersAnswers.{IsFileAnswer}
use Rattle.dali_link_commands.specs.ReadAnswers.{IsReadAnswer, IsScanAnswer, IsVerifyAnswer, asked_addresses}
use Rattle.dali_link_commands.specs.Told.{IsPlain, error_line}

-- the store is in the file that it writes: its journal, which may have to be there, or the text of a bank; one without
-- a name if it writes none
abbrev pub HasStore : {R : Type 0} → LinkCommand → FileStore R → Type 0
HasStore (Drive task) store = IsIn true (not task.require_journal) task.journal.now store
HasStore (Read unit bank) store = IsIn false true bank.now store
HasStore other store = IsIn false true [] store

-- the kind of progress that is shown
abbrev pub watched_of : LinkCommand → Watched
watched_of (Drive task) = Watched.Drive task.pace
watched_of (Read unit bank) = Watched.Read
watched_of (Verify orders report) = Watched.Verify
watched_of (Scan addresses sought) = Watched.Scan (length (asked_addresses addresses.items))
watched_of (Address command) = watched_asked command.asked (length command.units.items)

-- a report was wanted, and wasn't opened, or has failed
abbrev pub is_lost : {N : Type 0} → Bool → Bool → Report N → Bool
is_lost wanted opened report = wanted && (not opened || has_failed report)

-- how a command ends that has ended so far: as it did; if its report is lost, it says that in plain words after all
-- else, unless the output has failed
abbrev pub EndsReported : Bool → Status → Status → Option (List ℕ) → Option (List ℕ) → Type 0
EndsReported true ended status before after = (status ≡ Unwritten)
    ⊎ ((status ≡ Failed) × ((words : List ℕ) × IsPlain words × Appends before after (error_line words)))
EndsReported false ended status before after = (status ≡ ended) × (after ≡ before)

-- no bytes of a file are known
abbrev pub file_contents : File → Option (List ℕ)
file_contents file = None

abbrev pub report_contents : ReportOutput → Option (List ℕ)
report_contents output = None

-- a command with a report, which is opened before all else if it is wanted: it hasn't failed then, and has an output if
-- and only if it was opened
pub record IsReported (wanted : Bool)
    (answers : Report ReportOutput → Report ReportOutput → Look → Status → Look → Type 0) (first : Look)
    (status : Status) (last : Look) : Type 0 where
  pub before : Report ReportOutput
  pub after : Report ReportOutput
  pub ended : Status
  pub lines : Option (List ℕ)
  pub failed : Bool
  pub unfailed : has_failed before ≡ false
  pub only_wanted : wanted ≡ false → has_output before ≡ false
  pub answered : answers before after first ended (with_lines last lines failed)
  pub reported : EndsReported (is_lost wanted (has_output before) after) ended status lines last.streams.out

-- a drive of a task, with an older journal or none: of orders that come line by line, or of all those of a file
abbrev pub Drives : {N : Type 0} → Bool → DriveTask → (N → Option (List ℕ)) → Option JournalState → Report N → Report N
    → Look → Status → Look → Type 0
Drives true task contents older before after first status last =
    IsFileFollow older file_contents contents task.moment task.pace task.required before after first status last
Drives false task contents older before after first status last =
    IsFileAnswer (IsAnswerBehind older contents task.moment task.pace task.required before after) (after ≡ before)
    first status last

-- each command does what its own function promises, if this is known of the files of older journals, by their names;
-- nothing is known of what a stop may leave of the file of a bank
abbrev pub IsLinkAnswer : (List ℕ → Option (List ℕ)) → LinkCommand → Look → Status → Look → Type 0
IsLinkAnswer has (Drive task) first status last =
    IsReported (is_some task.report) (λ before after begun ended behind.
    IsBehindNamed (held_under has task.older.items)
    (λ older. Drives task.follow task report_contents older before after begun ended behind)
    (EndsUnread (held_under has task.older.items) before after begun ended behind)) first status last
IsLinkAnswer has (Read unit bank) first status last = IsReadAnswer unit (λ leaves. ⊤) first status last
IsLinkAnswer has (Verify orders report) first status last =
    IsReported (is_some report) (λ before after. IsFileAnswer (IsVerifyAnswer report_contents before after)
    (after ≡ before)) first status last
IsLinkAnswer has (Scan addresses sought) first status last =
    IsScanAnswer sought (asked_addresses addresses.items) first status last
IsLinkAnswer has (Address command) first status last = IsAddressAnswer has command first status last
