-- A trace is the joined parts of its events, in their order. Events, as happenings, are listed newest first.
use Rattle.std.specs.Prelude.{◌≡◌, ◌<◌, ◌≤◌, ◌⊎◌, true, false, List, [], ◌∷◌, length, Option, Some, None, ℕ, ⊤}
use Rattle.dali_bank.specs.Order.{Contents}
use Rattle.dali_journal.specs.declared.record.Record.{Record}
use Rattle.dali_journal.specs.declared.record.Record.TheVariants.{Began}
use Rattle.dali_journal.specs.declared.standing.Standing.{Standing}
use Rattle.dali_journal.specs.declared.standing.Standing.TheVariants as standings
use Rattle.dali_journal.specs.declared.version.Version.TheVariants.{Two}
use Rattle.dali_journal.specs.Spelling.{spelling}
use Rattle.dali_write.specs.Exchanges.{Exchange}
use Rattle.dali_write.specs.declared.ask.Ask.TheVariants as asks
use Rattle.dali_write.specs.declared.ask.Verdict.{Verdict}
use Rattle.dali_trace.specs.declared.happening.Event.{Event}
use Rattle.dali_trace.specs.declared.happening.Event.TheVariants.{Submit, Step, Stop, Power}
use Rattle.dali_trace.specs.declared.happening.Reply.{Reply}
use Rattle.dali_trace.specs.declared.happening.Happening.{Happening}
use Rattle.dali_trace.specs.declared.happening.Happening.TheVariants.{Asked, Answered, Sent, Kept, Stopped, Powered}
use Rattle.dali_trace.specs.Trace.{pace_at, Start, standing_at, waiting, waiting_since, is_busy}
use Rattle.dali_trace.specs.Grounds.{EndsIn}
use Rattle.dali_trace.specs.ByPlan.{told_in, Asks}
use Rattle.dali_write.specs.declared.pace.Pace.{Pace}

-- what a step may add: a saying, a frame or a record
abbrev pub IsWork : Happening → Type 0
IsWork (Answered id reply) = ⊤
IsWork (Sent frame answer) = ⊤
IsWork (Kept entry) = ⊤
IsWork other = ⊥

-- with this standing of the records, if this order waits since that moment and the session at hand has seen these
-- exchanges, this record is to be kept next: the order is begun, or the session has ended, and it is the one that
-- follows its end
abbrev pub NextRecord : Pace → Standing → Option Contents → ℕ → List Exchange → Record → Type 0
NextRecord pace standings.Idle (Some order) since told entry = entry ≡ Began order since
NextRecord pace standings.Idle None since told entry = ⊥
NextRecord pace (standings.Left unit) None since told entry = ⊥
NextRecord pace stands waits since told entry =
    (verdict : Verdict) × Asks pace stands told (asks.Ended verdict) × EndsIn stands verdict entry

abbrev pub IsKeptNext : Start → List Happening → Record → Type 0
IsKeptNext start past entry =
    NextRecord (pace_at start past) (standing_at start past) (waiting past) (waiting_since past) (told_in past) entry

-- The part of one event, from the trace before it to the trace after it. A Submit adds the order and its reply. A Step
-- adds one piece of work where the trace is busy, else nothing. A Stop adds Stopped, and before it the record that is
-- to be kept next exactly when there is one, and all its bytes reached the journal. A Power adds Powered.
abbrev pub Part : Start → Event → List Happening → List Happening → Type 0
Part start (Submit order moment) before after =
    (reply : Reply) × (after ≡ Answered order.id reply ∷ Asked order moment ∷ before)
Part start Step before after =
    ((is_busy start before ≡ true) × ((work : Happening) × IsWork work × (after ≡ work ∷ before)))
    ⊎ ((is_busy start before ≡ false) × (after ≡ before))
Part start (Stop bytes) before after =
    ((after ≡ Stopped (pace_at start before) ∷ before) × ((entry : Record) → IsKeptNext start before entry
    → bytes < length (spelling Two entry)))
    ⊎ ((entry : Record) × IsKeptNext start before entry × (length (spelling Two entry) ≤ bytes)
    × (after ≡ Stopped (pace_at start before) ∷ Kept entry ∷ before))
Part start (Power address) before after = after ≡ Powered address ∷ before

-- the trace is the parts of these events
abbrev pub AreParts : Start → List Event → List Happening → Type 0
AreParts start [] trace = trace ≡ []
AreParts start (event ∷ events) trace =
    (before : List Happening) × Part start event before trace × AreParts start events before
