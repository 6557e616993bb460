-- Readings of one unit after another, and the line that tells of each.
use Rattle.std.specs.Prelude.{◌≡◌, ◌↔◌, ℕ, ◌+◌, List, [], ◌∷◌, ◌++◌, Bool, true, Option, Some, None, is_some, map}
use Rattle.std.specs.Prelude.{reverse, if◌then◌else◌}
use Rattle.std.specs.List.{AllByRecursion}
use Rattle.std.specs.Io.KnownBytes.{Appends, Keeps}
use Rattle.dali_bank.specs.Order.{Contents}
use Rattle.dali_write.specs.Exchanges.{Exchange}
use Rattle.dali_read.specs.Readings.{Course, Ends}
use Rattle.dali_read.specs.Places.{last_course, identity_course, order_course}
use Rattle.dali_read.specs.Findings.{IsFound}
use Rattle.dali_read.specs.declared.finding.Finding.{Finding}
use Rattle.dali_read.specs.declared.finding.Finding.TheVariants.{Same}
use Rattle.dali_trace.specs.declared.fault.DriveFault.{DriveFault}
use Rattle.dali_trace.specs.declared.fault.DriveFault.TheVariants.{Out}
use Rattle.dali_drive.specs.Transcript.{Streams, link_shown}
use Rattle.dali_drive.specs.Driven.{AppendsPart}
use Rattle.dali_drive.specs.UnitRead.{LinkText, UnitReadBroke}
use Rattle.dali_drive.specs.declared.sought.Sought.{Sought}
use Rattle.dali_drive.specs.declared.sought.Sought.TheVariants.{Last, Identity}
use Rattle.dali_drive.specs.SurveyLines.{IsUnitLine, units_line, finding_line, order_silent_line}
use Rattle.dali_drive.specs.Found.{Found}

-- what a reading is for, what it ended with, its exchanges, and the line that tells of it
pub record Report (A : Type 0) : Type 0 where
  pub item : A
  pub outcome : Option (List ℕ)
  pub told : List Exchange
  pub line : List ℕ

-- of reports, the newest first: what they are for, their exchanges with the newest first, their lines, and how many
-- units answered
abbrev pub items_in : {A : Type 0} → List (Report A) → List A
items_in reports = map (λ report. report.item) reports

abbrev pub all_told : {A : Type 0} → List (Report A) → List Exchange
all_told [] = []
all_told (newest ∷ reports) = newest.told ++ all_told reports

abbrev pub lines_in : {A : Type 0} → List (Report A) → List ℕ
lines_in [] = []
lines_in (newest ∷ reports) = lines_in reports ++ newest.line

abbrev pub answered : {A : Type 0} → List (Report A) → ℕ
answered [] = 0
answered (newest ∷ reports) = answered reports + (if is_some newest.outcome then 1 else 0)

abbrev pub link_of : Streams → Streams
link_of streams = link_shown streams.link streams.answers

-- from first to last these were read, their lines were written, and nothing else was
pub record Surveyed {A : Type 0} (is_report : Report A → Type 0) (reports : List (Report A)) (first last : Streams)
    : Type 0 where
  pub each : AllByRecursion is_report reports
  pub link : LinkText (all_told reports) (link_of first) (link_of last)
  pub out : Appends first.out last.out (lines_in reports)

-- one was read for this item, and its line written; and this holds for its report
pub record Reported {A : Type 0} (is_report : Report A → Type 0) (item : A) (is_so : Report A → Type 0)
    (first last : Streams) : Type 0 where
  pub report : Report A
  pub item_is : report.item ≡ item
  pub is : is_report report
  pub so : is_so report
  pub link : LinkText report.told (link_of first) (link_of last)
  pub out : Appends first.out last.out report.line

-- The fault broke one reading off, or the line that tells of it: that of a reading for this item, of this unit along
-- this course.
abbrev pub BreaksReport : {A : Type 0} → (Report A → Type 0) → DriveFault → A → ℕ → Course → Streams → Streams → Type 0
BreaksReport {A} is_report Out item unit course old new =
    (report : Report A) × (report.item ≡ item) × is_report report
    × LinkText report.told (link_of old) (link_of new) × AppendsPart old.out new.out report.line
BreaksReport is_report fault item unit course old new =
    UnitReadBroke unit course fault (link_of old) (link_of new) × Keeps old.out new.out

-- ---- which units answer

-- what a scan reads of each unit
abbrev pub sought_course : Sought → Course
sought_course Last = last_course
sought_course Identity = identity_course

-- a unit that answers has a line, and no other
abbrev pub TellsUnit : ℕ → Option (List ℕ) → List ℕ → Type 0
TellsUnit unit None line = line ≡ []
TellsUnit unit (Some bytes) line = IsUnitLine unit bytes line

abbrev pub IsScanReport : Sought → Report ℕ → Type 0
IsScanReport sought report =
    Ends report.item (sought_course sought) report.outcome report.told
    × TellsUnit report.item report.outcome report.line

-- all of these addresses were asked, in this order, and this many units answered
pub record IsScan (sought : Sought) (addresses : List ℕ) (units : ℕ) (first last : Streams) : Type 0 where
  pub reports : List (Report ℕ)
  pub each : AllByRecursion (IsScanReport sought) reports
  pub all : reverse (items_in reports) ≡ addresses
  pub link : LinkText (all_told reports) (link_of first) (link_of last)
  pub out : Appends first.out last.out (lines_in reports ++ units_line units)
  pub units_are : units ≡ answered reports

-- the point where a fault broke a scan off: at the next of these addresses, or, if none was left, in the last line
abbrev pub BreaksScan : Sought → DriveFault → List ℕ → ℕ → Streams → Streams → Type 0
BreaksScan sought fault [] units old new =
    (fault ≡ Out) × LinkText [] (link_of old) (link_of new) × AppendsPart old.out new.out (units_line units)
BreaksScan sought fault (next ∷ rest) units old new =
    BreaksReport (IsScanReport sought) fault next next (sought_course sought) old new

-- the first of these addresses were asked, and after them the fault broke the scan off
pub record ScanBroke (sought : Sought) (addresses : List ℕ) (fault : DriveFault) (first last : Streams) : Type 0 where
  pub reports : List (Report ℕ)
  pub rest : List ℕ
  pub asked : reverse (items_in reports) ++ rest ≡ addresses
  pub middle : Streams
  pub surveyed : Surveyed (IsScanReport sought) reports first middle
  pub broke : BreaksScan sought fault rest (answered reports) middle last

-- ---- units beside orders

-- an order's line says what is found of it, or that its unit is silent
abbrev pub TellsOrder : Contents → Option (List ℕ) → List ℕ → Type 0
TellsOrder order None line = line ≡ order_silent_line order
TellsOrder order (Some bytes) line =
    (finding : Finding) × IsFound order.updates bytes finding × (line ≡ finding_line order finding)

abbrev pub IsOrderReport : Report Contents → Type 0
IsOrderReport report =
    Ends report.item.unit (order_course report.item.updates) report.outcome report.told
    × TellsOrder report.item report.outcome report.line

-- each location that the order writes was read, and had the order's byte
abbrev pub IsSame : Report Contents → Type 0
IsSame report = (bytes : List ℕ) × (report.outcome ≡ Some bytes) × IsFound report.item.updates bytes Same

-- the units of all these orders were read, in this order, and whether all are the same
pub record IsVerified (orders : List Contents) (all_same : Bool) (first last : Streams) : Type 0 where
  pub reports : List (Report Contents)
  pub surveyed : Surveyed IsOrderReport reports first last
  pub all : reverse (items_in reports) ≡ orders
  pub same : (all_same ≡ true) ↔ AllByRecursion IsSame reports

-- those of the first of these orders were read, and at the next one the fault broke it off
pub record VerifyBroke (orders : List Contents) (fault : DriveFault) (first last : Streams) : Type 0 where
  pub reports : List (Report Contents)
  pub next : Contents
  pub rest : List Contents
  pub asked : reverse (items_in reports) ++ next ∷ rest ≡ orders
  pub middle : Streams
  pub surveyed : Surveyed IsOrderReport reports first middle
  pub broke : BreaksReport IsOrderReport fault next next.unit (order_course next.updates) middle last

-- what was found of an order, and in which bytes: nothing of a silent unit
abbrev pub FoundOf : Contents → Option (List ℕ) → Option Finding → List ℕ → Type 0
FoundOf order None found read = (found ≡ None) × (read ≡ [])
FoundOf order (Some bytes) found read =
    (finding : Finding) × IsFound order.updates bytes finding × (found ≡ Some finding) × (read ≡ bytes)

-- this was found of the orders that were read, the newest first
abbrev pub AreFound : List (Report Contents) → List Found → Type 0
AreFound [] found = found ≡ []
AreFound (report ∷ reports) [] = ⊥
AreFound (report ∷ reports) (one ∷ found) =
    (one.order ≡ report.item) × FoundOf report.item report.outcome one.finding one.bytes × AreFound reports found

-- and the observer has seen all of it
pub record IsAllTold {B : Type 0} (told : B → B → List Found → Type 0)
    (reports : List (Report Contents)) (before after : B) : Type 0 where
  pub found : List Found
  pub are_found : AreFound reports found
  pub told_all : told before after found

-- units were read beside orders, and the observer has seen what was found
pub record IsVerifiedTold {B : Type 0} (told : B → B → List Found → Type 0)
    (orders : List Contents) (all_same : Bool) (first : Streams) (before : B) (last : Streams) (after : B)
    : Type 0 where
  pub verified : IsVerified orders all_same first last
  pub told_all : IsAllTold told verified.reports before after

-- the same if a fault broke it off: nothing was passed on of the order at which it came
pub record VerifyBrokeTold {B : Type 0} (told : B → B → List Found → Type 0)
    (orders : List Contents) (fault : DriveFault) (first : Streams) (before : B) (last : Streams) (after : B)
    : Type 0 where
  pub broke : VerifyBroke orders fault first last
  pub told_all : IsAllTold told broke.reports before after
