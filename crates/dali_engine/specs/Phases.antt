-- The next step of a writer, and its want.
use Rattle.std.specs.Prelude.{ℕ, Bool, true, false, ⊤, Option, None}
use Rattle.dali_journal.specs.declared.record.Code.{Code}
use Rattle.dali_journal.specs.declared.record.Code.TheVariants as codes
use Rattle.dali_journal.specs.declared.record.Record.{Record}
use Rattle.dali_journal.specs.declared.record.Record.TheVariants.{Began, Opened, Ended, Closed}
use Rattle.dali_write.specs.declared.ask.Ask.{Ask}
use Rattle.dali_write.specs.declared.ask.Ask.TheVariants as asks
use Rattle.dali_write.specs.declared.ask.Verdict.{Verdict}
use Rattle.dali_write.specs.declared.ask.Verdict.TheVariants as verdicts
use Rattle.dali_write.specs.declared.ask.Cause.{Cause}
use Rattle.dali_write.specs.Told.{unit_of, aim_of, cause_of}
use Rattle.dali_trace.specs.declared.happening.Reply.TheVariants as replies
use Rattle.dali_trace.specs.declared.happening.Want.{Want}
use Rattle.dali_trace.specs.declared.happening.Want.TheVariants.{Keep, Send, Say}
use Rattle.dali_trace.specs.declared.happening.Want.TheVariants as wants
use Rattle.dali_engine.specs.declared.phase.Phase.{Phase}
use Rattle.dali_engine.specs.declared.phase.Phase.TheVariants.{Idle, Begins, Checks, Writes, Closes, Says}

-- the end of an order, by that of its fresh session: Short, Format or Silent, if the session didn't end as MayOpen
abbrev pub check_code : Verdict → Code
check_code verdicts.Short = codes.Short
check_code verdicts.Format = codes.Format
check_code verdicts.Silent = codes.Silent
check_code verdicts.MayOpen = codes.Silent
check_code verdicts.Done = codes.Silent
check_code verdicts.Doubt = codes.Silent
check_code verdicts.DoubtOpen = codes.Silent
check_code verdicts.Closed = codes.Silent
check_code verdicts.NotClosed = codes.Silent
check_code verdicts.Read = codes.Silent

-- the record by which a fresh session is followed
abbrev pub check_record : ℕ → Verdict → Record
check_record unit verdicts.MayOpen = Opened unit
check_record unit verdict = Ended (check_code verdict)

-- how an order ends whose opened session ended so: it ends as Done, Doubt or DoubtOpen
abbrev pub write_code : Verdict → Code
write_code verdicts.Done = codes.Done
write_code verdicts.Doubt = codes.Doubt
write_code verdicts.DoubtOpen = codes.DoubtOpen
write_code verdicts.MayOpen = codes.DoubtOpen
write_code verdicts.Short = codes.DoubtOpen
write_code verdicts.Format = codes.DoubtOpen
write_code verdicts.Silent = codes.DoubtOpen
write_code verdicts.Closed = codes.DoubtOpen
write_code verdicts.NotClosed = codes.DoubtOpen
write_code verdicts.Read = codes.DoubtOpen

-- while a session goes on its frame is wanted, and then the record
abbrev pub check_of : ℕ → Ask → Want
check_of unit (asks.Send frame) = Send frame
check_of unit (asks.Ended verdict) = Keep (check_record unit verdict)

abbrev pub write_of : Ask → Want
write_of (asks.Send frame) = Send frame
write_of (asks.Ended verdict) = Keep (Ended (write_code verdict))

-- the same of a session that closes a unit for the order of this number: it ends as Closed or NotClosed, and then the
-- order is blocked
abbrev pub closing_of : ℕ → ℕ → Ask → Want
closing_of id unit (asks.Send frame) = Send frame
closing_of id unit (asks.Ended verdicts.Closed) = Keep (Closed unit)
closing_of id unit (asks.Ended verdicts.NotClosed) = Say id (replies.Blocked unit)
closing_of id unit (asks.Ended verdicts.MayOpen) = Say id (replies.Blocked unit)
closing_of id unit (asks.Ended verdicts.Done) = Say id (replies.Blocked unit)
closing_of id unit (asks.Ended verdicts.Short) = Say id (replies.Blocked unit)
closing_of id unit (asks.Ended verdicts.Format) = Say id (replies.Blocked unit)
closing_of id unit (asks.Ended verdicts.Silent) = Say id (replies.Blocked unit)
closing_of id unit (asks.Ended verdicts.Doubt) = Say id (replies.Blocked unit)
closing_of id unit (asks.Ended verdicts.DoubtOpen) = Say id (replies.Blocked unit)
closing_of id unit (asks.Ended verdicts.Read) = Say id (replies.Blocked unit)

-- what a phase wants
abbrev pub want_of : Phase → Want
want_of Idle = wants.Idle
want_of (Begins order moment) = Keep (Began order moment)
want_of (Checks order s) = check_of order.unit (aim_of s)
want_of (Writes order s) = write_of (aim_of s)
want_of (Closes order moment s) = closing_of order.id (unit_of s) (aim_of s)
want_of (Says id code) = Say id (replies.Kept code)

-- why the order at hand comes to no good end
abbrev pub cause_at : Phase → Option Cause
cause_at (Checks order s) = cause_of s
cause_at (Writes order s) = cause_of s
cause_at other = None

abbrev pub is_idle : Phase → Bool
is_idle Idle = true
is_idle other = false

-- whether something is wanted
abbrev pub is_wanting : Want → Bool
is_wanting wants.Idle = false
is_wanting other = true

-- a record is wanted to be kept, a frame to be sent, something to be said
abbrev pub IsKeep : Want → Type 0
IsKeep (Keep entry) = ⊤
IsKeep other = ⊥

abbrev pub IsSend : Want → Type 0
IsSend (Send frame) = ⊤
IsSend other = ⊥

abbrev pub IsSay : Want → Type 0
IsSay (Say id reply) = ⊤
IsSay other = ⊥
