-- The answers of `journal` to an input, by hand, and near misses.
use Rattle.std.proofs.Common.{◌≡◌, ◌+◌, ◌≤◌, inl, inr, ℕ, Bool, true, false, List, None, length, arith}
use Rattle.dali_input.specs.declared.fault.InputFault.TheVariants.{TooBig, Memory, File}
use Rattle.dali_input.specs.declared.fault.InputFault.{InputFault}
use Rattle.dali_input.specs.Input.{InputState, IsReadFailure}
use Rattle.dali_text.specs.JournalLines.{journal_text}
use Rattle.dali_input.specs.declared.command_fault.Fault.{Fault}
use Rattle.dali_input.specs.declared.command_fault.Fault.TheVariants.{Input}
use Rattle.dali_input.specs.declared.command_fault.Status.{Status}
use Rattle.dali_input.specs.declared.command_fault.Status.TheVariants.{Good, Refused}
use Rattle.dali_input.specs.CommandFaults.{IsRefusal, status_of, told_line}
use Rattle.dali_input.specs.JournalInput.{IsUnloaded, journal_limit}
use Rattle.dali_file_commands.specs.JournalAnswers.{IsJournalAnswer, IsJournalReport, IsNoJournal}

module _ (with_updates : Bool) (input : List ℕ) (status : Status) (text : List ℕ) where
  -- ---- of a journal its text is printed, and it ends well

  pub reported_as_refused : IsJournalReport with_updates input Refused text → ⊥
  reported_as_refused report = let is = report.status_is in cc

  pub reported_by_another_text : (report : IsJournalReport with_updates input status text)
      → (text ≡ journal_text with_updates report.version report.journal.records report.counted (length input) → ⊥) → ⊥
  reported_by_another_text report others = others report.text_is

  pub reported_past_the_limit : IsJournalReport with_updates input status text → length input ≡ journal_limit + 1 → ⊥
  reported_past_the_limit report long = omega (arith, report.loaded.0, long)

  -- ---- of an input that is none its fault, and it ends by that

  pub no_journal_by_another_status : (none : IsNoJournal input status text) → (status ≡ status_of none.fault → ⊥) → ⊥
  no_journal_by_another_status none others = others none.refusal.status_is

  pub no_journal_by_another_line : (none : IsNoJournal input status text) → (text ≡ told_line none.fault → ⊥) → ⊥
  no_journal_by_another_line none others = others none.refusal.text_is

  too_big_is_long : (fault : Fault) → IsUnloaded input fault → fault ≡ Input TooBig → length input ≤ journal_limit → ⊥
  too_big_is_long fault stands is fits =
      let longer : IsUnloaded input (Input TooBig) = rw is at stands in omega (arith, longer, fits)

  pub too_big_within_the_limit : (none : IsNoJournal input status text) → none.fault ≡ Input TooBig
      → length input ≤ journal_limit → ⊥
  too_big_within_the_limit none is fits = too_big_is_long none.fault none.stands is fits

-- ---- of a reader that failed nothing else is reported

abbrev reader : InputState
reader = record { left = None; failed = false }

abbrev failed_reader : InputState
failed_reader = record { left = None; failed = true }

pub failed_reader_ends_well : (with_updates : Bool) (text : List ℕ)
    → IsJournalAnswer with_updates reader failed_reader Good text → ⊥
failed_reader_ends_well with_updates text (inl (input, read, told)) = let unfailed = read.unfailed in cc
failed_reader_ends_well with_updates text (inr (fault, failure, refusal)) = by fault failure refusal where
  by : (fault : InputFault) → IsReadFailure reader failed_reader fault → IsRefusal (Input fault) Good text → ⊥
  by File failure refusal = let is = refusal.status_is in cc
  by Memory failure refusal = let is = refusal.status_is in cc
  by other failure refusal = absurd failure
