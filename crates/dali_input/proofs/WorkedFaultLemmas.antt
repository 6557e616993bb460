-- When an input is a journal and when it is none, and how a call ends that writes, by hand, on both sides of each rule.
use Rattle.std.proofs.Common.{◌≡◌, ◌≢◌, refl, ℕ, true, false, List, [], None, Ok, Err, length, arith}
use Rattle.dali_journal.specs.declared.fault.JournalFault.{JournalFault}
use Rattle.dali_journal.specs.declared.fault.JournalFault.TheVariants as journals
use Rattle.dali_journal.specs.declared.version.Version.{Version}
use Rattle.dali_journal.specs.declared.version.Version.TheVariants.{One, Two}
use Rattle.dali_journal.specs.JournalState.{JournalState}
use Rattle.dali_journal.specs.Loading.{HasBrokenHeader, HasFault}
use Rattle.dali_journal.proofs.TornLemmas.{torn_no_fault}
use Rattle.dali_text.specs.declared.output.Output.{Output}
use Rattle.dali_text.specs.Output.{has_failed, is_flushed}
use Rattle.dali_input.specs.declared.fault.InputFault.{InputFault}
use Rattle.dali_input.specs.declared.fault.InputFault.TheVariants.{Json, Document, TooBig, Hex, Memory, File}
use Rattle.dali_input.specs.Input.{InputState, IsReadFailure}
use Rattle.dali_input.specs.declared.command_fault.Fault.TheVariants.{Input, Journal, Older}
use Rattle.dali_input.specs.declared.command_fault.Status.TheVariants.{Good, Refused, Failed, Unwritten}
use Rattle.dali_input.specs.Ends.{TellsEnd}
use Rattle.dali_input.specs.CommandFaults.{IsRefusal, IsFailure, told_line}
use Rattle.dali_input.specs.JournalInput.{IsJournalIn, IsUnloaded}

-- ---- a journal

-- of no bytes
abbrev empty : JournalState
empty = record { records = []; limit = 100000; room = 0; numbers = []; index_room = 0 }

pub no_bytes_are_one : IsJournalIn [] empty 0 Two
no_bytes_are_one =
    (omega arith, (refl, record { in_range = tt; whole = (tt, omega arith) }, (refl, refl, refl)))

pub no_bytes_arent_of_version_1 : ¬ IsJournalIn [] empty 0 One
no_bytes_arent_of_version_1 = λ is. let version = is.1.2.0 in cc

pub no_byte_of_none_counts : ¬ IsJournalIn [] empty 1 Two
no_byte_of_none_counts = λ is. omega (arith, is.1.2.2)

pub not_of_another_limit : ¬ IsJournalIn [] (record empty { limit = 99999 }) 0 Two
not_of_another_limit = λ is. omega (arith, is.1.0)

-- the most bytes, and one more
pub none_of_one_byte_too_many : (input : List ℕ) (journal : JournalState) (counted : ℕ) (version : Version)
    → length input ≡ 33554433 → ¬ IsJournalIn input journal counted version
none_of_one_byte_too_many input journal counted version long = λ is. omega (arith, is.0)

pub one_byte_too_many_told : (input : List ℕ) → length input ≡ 33554433 → IsUnloaded input (Input TooBig)
one_byte_too_many_told input long = omega arith

pub not_too_big : (input : List ℕ) → length input ≡ 33554432 → ¬ IsUnloaded input (Input TooBig)
not_too_big input fits = λ big. omega arith

pub too_big_before_its_records : (input : List ℕ) (fault : JournalFault) → length input ≡ 33554433
    → ¬ IsUnloaded input (Journal fault)
too_big_before_its_records input fault long = λ is. omega (arith, is.0)

-- a journal has no fault but want of memory
pub good_is_not_refused : (input : List ℕ) (journal : JournalState) (counted : ℕ) (version : Version)
    (fault : JournalFault) → IsJournalIn input journal counted version → fault ≢ journals.NoMemory
    → ¬ IsUnloaded input (Journal fault)
good_is_not_refused input journal counted version fault is other = λ refused. by fault other refused where
  none : ((other : JournalFault) → ¬ HasFault 100000 input other) × (¬ HasBrokenHeader input)
  none = let no = torn_no_fault 100000 input version journal.records counted is.1.1 is.1.2 in (no.0, no.1)

  by : (fault : JournalFault) → fault ≢ journals.NoMemory → IsUnloaded input (Journal fault) → ⊥
  by journals.Limit other refused = refused.1 (omega arith)
  by journals.NoMemory other refused = other refl
  by journals.Header other refused = none.1 refused.1.1
  by (journals.Record place) other refused = none.0 (journals.Record place) refused.1.1
  by (journals.Sequence place) other refused = none.0 (journals.Sequence place) refused.1.1
  by (journals.Repeated place) other refused = none.0 (journals.Repeated place) refused.1.1
  by (journals.Full place) other refused = none.0 (journals.Full place) refused.1.1

pub no_fault_of_another_input : (input : List ℕ) → (¬ IsUnloaded input (Input Json)) × (¬ IsUnloaded input Older)
no_fault_of_another_input input = (λ is. is, λ is. is)

-- ---- an end

pub ended_well : (W E : Type 0) (output : Output W) → has_failed output ≡ false → is_flushed output ≡ true
    → TellsEnd {E = E} (Ok Refused) output
ended_well W E output well flushed = ((λ is. cc), well, flushed)

pub no_end_before_the_flush : (W E : Type 0) (output : Output W) → is_flushed output ≡ false
    → ¬ TellsEnd {E = E} (Ok Good) output
no_end_before_the_flush W E output unflushed = λ ends. let flushed = ends.2 in cc

pub no_good_end_of_a_failed_output : (W E : Type 0) (output : Output W) → has_failed output ≡ true
    → ¬ TellsEnd {E = E} (Ok Good) output
no_good_end_of_a_failed_output W E output failed = λ ends. let well = ends.1 in cc

pub unwritten_is_an_error : (W E : Type 0) (output : Output W) → ¬ TellsEnd {E = E} (Ok Unwritten) output
unwritten_is_an_error W E output = λ ends. ends.0 refl

pub no_error_of_a_good_output : {W E : Type 0} (output : Output W) (error : E) → has_failed output ≡ false
    → ¬ TellsEnd (Err error) output
no_error_of_a_good_output output error well = λ failed. cc

-- ---- a failure

abbrev reader : InputState
reader = record { left = None; failed = false }

abbrev failed_reader : InputState
failed_reader = record { left = None; failed = true }

pub failed_file_told : IsFailure reader failed_reader Failed (told_line (Input File))
failed_file_told = (File, refl, record { status_is = refl; text_is = refl })

pub good_file_untold : (text : List ℕ) → ¬ IsFailure reader reader Refused text
good_file_untold text = λ (fault, failure, refusal). by fault failure refusal where
  by : (fault : InputFault) → IsReadFailure reader reader fault → IsRefusal (Input fault) Refused text → ⊥
  by Json failure refusal = failure
  by Document failure refusal = failure
  by TooBig failure refusal = failure
  by Hex failure refusal = failure
  by Memory failure refusal = let is = refusal.status_is in cc
  by File failure refusal = cc
