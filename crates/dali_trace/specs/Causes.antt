-- Why an order comes to no good end.
use Rattle.std.specs.Prelude.{◌≡◌, Bool, true, false, List, Option, None, IsSome}
use Rattle.dali_journal.specs.declared.record.Code.TheVariants as codes
use Rattle.dali_journal.specs.declared.record.Record.{Record}
use Rattle.dali_journal.specs.declared.record.Record.TheVariants.{Ended}
use Rattle.dali_journal.specs.declared.standing.Standing.{Standing}
use Rattle.dali_journal.specs.declared.standing.Standing.TheVariants.{Began, Opened}
use Rattle.dali_write.specs.Exchanges.{Exchange}
use Rattle.dali_write.specs.declared.ask.Cause.{Cause}
use Rattle.dali_write.specs.declared.pace.Pace.{Pace}
use Rattle.dali_write.specs.declared.stage.Task.TheVariants as tasks
use Rattle.dali_write.specs.Found.{IsCause}
use Rattle.dali_trace.specs.declared.happening.Happening.{Happening}
use Rattle.dali_trace.specs.declared.happening.Happening.TheVariants.{Kept}
use Rattle.dali_trace.specs.Trace.{Start, pace_at, standing_at}
use Rattle.dali_trace.specs.ByPlan.{told_in}

-- with this standing of the records, the cause of the session at hand after these frames: a fresh one of the order that
-- was begun, an opened one of the order that was opened
abbrev pub HasCause : Pace → Standing → List Exchange → Option Cause → Type 0
HasCause pace (Began order) told cause = IsCause (tasks.Fresh order pace) order.unit told cause
HasCause pace (Opened order) told cause = IsCause (tasks.Opened order pace) order.unit told cause
HasCause pace other told cause = cause ≡ None

-- that of the order at hand after a trace
abbrev pub IsCauseAt : Start → List Happening → Option Cause → Type 0
IsCauseAt start past cause = HasCause (pace_at start past) (standing_at start past) (told_in past) cause

-- the end is no good one: an access failed, or another byte was read back
abbrev pub is_ill : Record → Bool
is_ill (Ended codes.Silent) = true
is_ill (Ended codes.Doubt) = true
is_ill (Ended codes.DoubtOpen) = true
is_ill other = false

-- that beside what happens next, a record that is kept: there is one if it is such an end
abbrev pub IsCauseBeside : Start → List Happening → Happening → Option Cause → Type 0
IsCauseBeside start past (Kept entry) cause = IsCauseAt start past cause × (is_ill entry ≡ true → IsSome cause)
IsCauseBeside start past other cause = cause ≡ None
