-- The grounds of a record of the journal, where 'shows unit location byte' says that the unit's location in bank 1
-- shows the byte. A legal trace shows it by reads of blocks, and so it holds in the world.
use Rattle.std.specs.Prelude.{◌≡◌, ℕ, List, [], Option, Some, None, ⊤}
use Rattle.dali_journal.specs.declared.record.Code.TheVariants as codes
use Rattle.dali_journal.specs.declared.record.Record.{Record}
use Rattle.dali_journal.specs.declared.record.Record.TheVariants.{Began, Opened, Ended, Closed}
use Rattle.dali_journal.specs.declared.standing.Standing.{Standing}
use Rattle.dali_journal.specs.declared.standing.Standing.TheVariants as standings
use Rattle.dali_journal.specs.Sentence.{Allows}
use Rattle.dali_write.specs.declared.ask.Verdict.{Verdict}
use Rattle.dali_write.specs.declared.ask.Verdict.TheVariants as verdicts
use Rattle.dali_write.specs.Findings.{RestsOn}

-- the verdict of the session at hand that a record tells of: the order's unit is opened where it may be, the left one
-- is closed, and an order ends with the code of the verdict's name
abbrev pub verdict_of : Record → Option Verdict
verdict_of (Began order moment) = None
verdict_of (Opened unit) = Some verdicts.MayOpen
verdict_of (Ended codes.Done) = Some verdicts.Done
verdict_of (Ended codes.Short) = Some verdicts.Short
verdict_of (Ended codes.Format) = Some verdicts.Format
verdict_of (Ended codes.Silent) = Some verdicts.Silent
verdict_of (Ended codes.Doubt) = Some verdicts.Doubt
verdict_of (Ended codes.DoubtOpen) = Some verdicts.DoubtOpen
verdict_of (Closed unit) = Some verdicts.Closed

-- the record that follows the end of the session: the one that may be kept and tells of its verdict
abbrev pub EndsIn : Standing → Verdict → Record → Type 0
EndsIn stands verdict entry = Allows stands entry × (verdict_of entry ≡ Some verdict)

-- some location shows some byte
abbrev pub IsSeen : (ℕ → ℕ → Type 0) → Type 0
IsSeen shows = (location : ℕ) × (byte : ℕ) × shows location byte

-- the grounds of a record that reports the verdict, if there is one: the read that was answered is of any location
abbrev pub RestsIfAny : (ℕ → ℕ → Type 0) → List (ℕ × ℕ) → Option Verdict → Type 0
RestsIfAny shows updates None = ⊤
RestsIfAny shows updates (Some verdict) = RestsOn shows (IsSeen shows) updates verdict

-- what a record rests on, by the verdict that it tells of
abbrev pub Grounds : (ℕ → ℕ → ℕ → Type 0) → Standing → Record → Type 0
Grounds shows standings.Idle entry = ⊤
Grounds shows (standings.Began order) entry = RestsIfAny (shows order.unit) order.updates (verdict_of entry)
Grounds shows (standings.Opened order) entry = RestsIfAny (shows order.unit) order.updates (verdict_of entry)
Grounds shows (standings.Left unit) entry = RestsIfAny (shows unit) [] (verdict_of entry)
