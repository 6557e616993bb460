-- The events that a report has seen, and what it holds.
use Rattle.std.specs.Prelude.{◌≡◌, ◌||◌, ◌==◌, ℕ, Bool, true, false, List, [], Option, Some, None, is_some, option_map}
use Rattle.std.specs.Io.KnownBytes.{Appends}
use Rattle.std.proofs.Common.{refl}
use Rattle.std.proofs.KnownBytes.{Appends-nil}
use Rattle.dali_bank.specs.Order.{Contents}
use Rattle.dali_frame.specs.declared.forward.Frame.{Frame}
use Rattle.dali_text.specs.declared.output.Output.{Output}
use Rattle.dali_text.specs.Output as output
use Rattle.dali_trace.specs.declared.happening.Happening.{Happening}
use Rattle.dali_trace.specs.Trace.{Start}
use Rattle.dali_trace.specs.declared.fault.DriveFault.{DriveFault}
use Rattle.dali_drive.specs.Found.{Found}
use Rattle.dali_report.specs.declared.outcome.Outcome.{Outcome}
use Rattle.dali_report.specs.declared.report.Report.{Report}
use Rattle.dali_report.specs.declared.report.Spoken.{Spoken}
use Rattle.dali_report.specs.Reports.{unfinished_at, spoken_of, newly_ended, exchanges, IsCauseTold, IsReportText}
use Rattle.dali_report.specs.Reports.{IsBrokenText, AreFoundLines}
use Rattle.dali_report.specs.Outcomes.{outcome_of}
use Rattle.dali_report.specs.Tallies.{IsTally}

-- an output that may be none
abbrev pub output_held : {W : Type 0} → (W → Option (List ℕ)) → Option (Output W) → Option (List ℕ)
output_held contents None = None
output_held contents (Some out) = output.held contents out

abbrev pub output_failed : {W : Type 0} → Option (Output W) → Bool
output_failed None = false
output_failed (Some out) = output.has_failed out

-- the bytes that a report holds, if they are known, whether a line couldn't be written, and whether its output failed
abbrev pub report_held : {W : Type 0} → (W → Option (List ℕ)) → Report W → Option (List ℕ)
report_held contents report = output_held contents report.output

abbrev pub has_failed : {W : Type 0} → Report W → Bool
has_failed report = report.starved || output_failed report.output

abbrev pub has_failed_output : {W : Type 0} → Report W → Bool
has_failed_output report = output_failed report.output

-- it goes somewhere
abbrev pub has_output : {W : Type 0} → Report W → Bool
has_output report = is_some report.output

-- a person watches it
abbrev pub is_watched : {W : Type 0} → Report W → Bool
is_watched report = is_some report.progress

-- which run of the report this is
abbrev pub run_of : {W : Type 0} → Report W → ℕ
run_of report = report.run

-- the result of all last replies so far
abbrev pub outcome_so_far : {W : Type 0} → Report W → Outcome
outcome_so_far report = report.outcome

-- it stays failed, and its output as it is
abbrev pub IsSilent : {W : Type 0} → Report W → Report W → Type 0
IsSilent old new = (has_failed new ≡ true) × (new.output ≡ old.output)

-- an order, in what a report keeps of it
abbrev pub spoken : Contents → Spoken
spoken order = record { id = order.id; unit = order.unit }

-- it is that of this number
abbrev pub is_number : ℕ → Option Spoken → Bool
is_number id None = false
is_number id (Some one) = one.id == id

-- unless it has failed, this text follows what the first of the two held; and once that had failed nothing more was
-- written
abbrev pub HasWritten : {W : Type 0} → (W → Option (List ℕ)) → Report W → Report W → List ℕ → Type 0
HasWritten contents first now text =
    (has_failed now ≡ false → Appends (report_held contents first) (report_held contents now) text)
    × (has_failed first ≡ true → IsSilent first now)

-- a text that is so
abbrev pub HasWrittenAs : {W : Type 0} → (W → Option (List ℕ)) → Report W → Report W → (List ℕ → Type 0) → Type 0
HasWrittenAs contents first now is_so = (text : List ℕ) × is_so text × HasWritten contents first now text

-- since it was the first of the two, it has seen this trace from that start
pub record IsTold {W : Type 0} (contents : W → Option (List ℕ)) (start : Start) (first now : Report W)
    (past : List Happening) : Type 0 where
  pub unfinished_is : now.unfinished ≡ option_map spoken (unfinished_at start past)
  pub spoken_is : now.spoken ≡ option_map spoken (spoken_of start past)
  pub ended_is : now.ended ≡ option_map spoken (newly_ended start past)
  pub tally_is : IsTally (exchanges past) now.tally
  pub outcome_is : now.outcome ≡ outcome_of start past
  pub cause_is : IsCauseTold start past now.cause
  pub run_is : now.run ≡ first.run
  pub written : HasWrittenAs contents first now (IsReportText first.run start past)

-- and then that this fault broke the exchange of this frame off, with what was read of the answer
pub record IsToldEnd {W : Type 0} (contents : W → Option (List ℕ)) (start : Start) (first now : Report W)
    (past : List Happening) (fault : DriveFault) (frame : Frame) (text : List ℕ) : Type 0 where
  pub outcome_is : now.outcome ≡ outcome_of start past
  pub run_is : now.run ≡ first.run
  pub written : HasWrittenAs contents first now (IsBrokenText first.run start past fault frame text)

-- unless it has failed or goes nowhere, the lines of what was found follow what the first of the two held
abbrev pub HasWrittenFound : {W : Type 0} → (W → Option (List ℕ)) → Report W → Report W → List Found → Type 0
HasWrittenFound contents first now found =
    has_failed now ≡ false → has_output now ≡ true
    → (text : List ℕ) × AreFoundLines first.run found text
    × Appends (report_held contents first) (report_held contents now) text

-- it has seen that all this was found, the newest first; and once it had failed nothing more was written
pub record IsToldFound {W : Type 0} (contents : W → Option (List ℕ)) (first now : Report W) (found : List Found)
    : Type 0 where
  pub same_run : now.run ≡ first.run
  pub written : HasWrittenFound contents first now found
  pub silent : has_failed first ≡ true → IsSilent first now

-- at first, nothing
pub none_found : {W : Type 0} (contents : W → Option (List ℕ)) (report : Report W)
    → IsToldFound contents report report []
none_found contents report = record {
  same_run = refl;
  written = λ well goes. ([], refl, Appends-nil (report_held contents report));
  silent = λ failed. (failed, refl);
}
