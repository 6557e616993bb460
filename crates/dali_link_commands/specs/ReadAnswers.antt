-- The answers of `read`, `verify` and `scan`, and what they write.
use Rattle.std.specs.Prelude.{◌≡◌, ◌⊎◌, ℕ, Bool, List, [], Option, Some, None, length, if◌then◌else◌}
use Rattle.std.specs.List.{range_with_len}
use Rattle.dali_bank.specs.Order.{Contents}
use Rattle.dali_input.specs.declared.fault.InputFault.{InputFault}
use Rattle.dali_input.specs.BankText.{rows_text}
use Rattle.dali_store.specs.declared.opening.OpenFault.TheVariants.{Store}
use Rattle.dali_store.specs.declared.store.StoreFault.TheVariants as stores
use Rattle.dali_store.specs.Stores.{Becomes, KeepsOrBecomes}
use Rattle.dali_read.specs.Places.{bank_course}
use Rattle.dali_trace.specs.declared.fault.DriveFault.{DriveFault}
use Rattle.dali_drive.specs.declared.sought.Sought.{Sought}
use Rattle.dali_drive.specs.SurveyLines.{bytes_line, silent_line}
use Rattle.dali_drive.specs.Surveys.{IsScan, ScanBroke, IsVerifiedTold, VerifyBrokeTold, link_of}
use Rattle.dali_drive.specs.Transcript.{Streams}
use Rattle.dali_drive.specs.Desks.{Look, IsDurableAt, IsUnfailed, FailsOpen, ShowsFault, LeavesNoMore}
use Rattle.dali_drive.specs.UnitRead.{IsUnitRead, UnitReadBroke}
use Rattle.dali_report.specs.declared.report.Report.{Report}
use Rattle.dali_report.specs.Told.{IsToldFound}
use Rattle.dali_input.specs.declared.command_fault.Fault.TheVariants.{Drive, Input}
use Rattle.dali_input.specs.declared.command_fault.Status.{Status}
use Rattle.dali_input.specs.declared.command_fault.Status.TheVariants.{Good, Refused}
use Rattle.dali_link_commands.specs.Benches.{with_lines}
use Rattle.dali_link_commands.specs.Bare.{TellsBare, is_empty}
use Rattle.dali_link_commands.specs.OrdersAnswers.{IsUnread}
use Rattle.dali_link_commands.specs.Told.{IsFaultTold, TellsLine}

-- what a survey goes over: a desk without its journal, which is left alone
abbrev pub on_link : Look → Streams
on_link look = record look.streams { journal = None }

pub record IsUntouched (first last : Look) : Type 0 where
  pub journal : last.streams.journal ≡ first.streams.journal
  pub leaves : LeavesNoMore first last

-- ---- `read`. Of the desk, the journal is the file of the bank; 'leaves_only' says what a stop may leave of it at each
-- moment.

module _ (unit : ℕ) (leaves_only : (List ℕ → Type 0) → Type 0) (first : Look) (status : Status) (last : Look) where
  -- the whole bank was read, its text is in the file, also after a stop, and its line was printed
  pub record EndsRead : Type 0 where
    pub bytes : List ℕ
    pub read : IsUnitRead unit bank_course (Some bytes) (link_of first.streams) (link_of last.streams)
    pub file : Becomes first.streams.journal last.streams.journal (rows_text bytes)
    pub settled : IsDurableAt last
    pub leaves : leaves_only (λ c. first.may_leave c ⊎ (c ≡ rows_text bytes))
    pub lost : Bool
    pub unfailed : IsUnfailed (with_lines last first.streams.out lost).failed
    pub told : TellsLine (bytes_line unit (length bytes)) Good status first.streams.out last.streams.out

  -- all tries of a block missed, which is reported, and the file is as it was
  pub record EndsSilent : Type 0 where
    pub read : IsUnitRead unit bank_course None (link_of first.streams) (link_of last.streams)
    pub file : last.streams.journal ≡ first.streams.journal
    pub leaves : leaves_only first.may_leave
    pub lost : Bool
    pub unfailed : IsUnfailed (with_lines last first.streams.out lost).failed
    pub told : TellsLine (silent_line unit) Refused status first.streams.out last.streams.out

  -- the whole bank was read, and the file failed or there was no memory for it, which is reported
  pub record EndsUnkept : Type 0 where
    pub bytes : List ℕ
    pub read : IsUnitRead unit bank_course (Some bytes) (link_of first.streams) (link_of last.streams)
    pub file : KeepsOrBecomes first.streams.journal last.streams.journal (rows_text bytes)
    pub leaves : leaves_only (λ c. first.may_leave c ⊎ (c ≡ rows_text bytes))
    pub lost : Bool
    pub failed : FailsOpen (Store stores.Failed) (with_lines last first.streams.out lost).failed
    pub told : (fault : InputFault) × IsUnread fault
        × IsFaultTold (Input fault) status first.streams.out last.streams.out

  -- the link broke the reading off, which is reported, and the file is as it was
  pub record EndsUnread : Type 0 where
    pub fault : DriveFault
    pub broke : UnitReadBroke unit bank_course fault (link_of first.streams) (link_of last.streams)
    pub file : last.streams.journal ≡ first.streams.journal
    pub leaves : leaves_only first.may_leave
    pub lost : Bool
    pub failed : ShowsFault fault (with_lines last first.streams.out lost).failed
    pub told : IsFaultTold (Drive fault) status first.streams.out last.streams.out

  abbrev pub IsReadAnswer : Type 0
  IsReadAnswer = EndsRead ⊎ EndsSilent ⊎ EndsUnkept ⊎ EndsUnread

-- ---- `verify`

module _ {N : Type 0} (contents : N → Option (List ℕ)) (before after : Report N) (orders : List Contents)
    (first : Look) (status : Status) (last : Look) where
  -- the units of all the orders were read and the results were reported, and it ended well if all are the same; if
  -- there are none, that is reported after what the lines held then, which hadn't failed, and refused
  pub record EndsVerified : Type 0 where
    pub all_same : Bool
    pub lines : Option (List ℕ)
    pub lost : Bool
    pub verified : IsVerifiedTold (IsToldFound contents) orders all_same (on_link first) before
        (on_link (with_lines last lines lost)) after
    pub untouched : IsUntouched first last
    pub unfailed : IsUnfailed (with_lines last lines lost).failed
    pub told : TellsBare (is_empty orders) (if all_same then Good else Refused) status lines last.streams.out

  -- the link or the output broke it off, which is reported
  pub record EndsUnverified : Type 0 where
    pub fault : DriveFault
    pub lines : Option (List ℕ)
    pub lost : Bool
    pub broke : VerifyBrokeTold (IsToldFound contents) orders fault (on_link first) before
        (on_link (with_lines last lines lost)) after
    pub untouched : IsUntouched first last
    pub failed : ShowsFault fault (with_lines last lines lost).failed
    pub told : IsFaultTold (Drive fault) status lines last.streams.out

  abbrev pub IsVerifyAnswer : Type 0
  IsVerifyAnswer = EndsVerified ⊎ EndsUnverified

-- ---- `scan`

-- the short addresses that are asked if these are named: all if none is
abbrev pub asked_addresses : List ℕ → List ℕ
asked_addresses [] = range_with_len 0 64
asked_addresses addresses = addresses

pub record EndsScanned (sought : Sought) (addresses : List ℕ) (first : Look) (status : Status) (last : Look)
    : Type 0 where
  pub units : ℕ
  pub scanned : IsScan sought addresses units (on_link first) (on_link last)
  pub untouched : IsUntouched first last
  pub unfailed : IsUnfailed last.failed
  pub status_is : status ≡ Good

pub record EndsUnscanned (sought : Sought) (addresses : List ℕ) (first : Look) (status : Status) (last : Look)
    : Type 0 where
  pub fault : DriveFault
  pub lines : Option (List ℕ)
  pub lost : Bool
  pub broke : ScanBroke sought addresses fault (on_link first) (on_link (with_lines last lines lost))
  pub untouched : IsUntouched first last
  pub failed : ShowsFault fault (with_lines last lines lost).failed
  pub told : IsFaultTold (Drive fault) status lines last.streams.out

abbrev pub IsScanAnswer : Sought → List ℕ → Look → Status → Look → Type 0
IsScanAnswer sought addresses first status last =
    EndsScanned sought addresses first status last ⊎ EndsUnscanned sought addresses first status last
