-- How surveys of units go on, report by report, and how they are broken off.
use Rattle.std.proofs.Common.{◌≡◌, ◌<◌, ◌↔◌, inl, inr, refl, ap, sym, ℕ, List, ◌∷◌, ◌++◌, Option, Some, None, Bool, true, false}
use Rattle.std.proofs.Common.{is_some, suc, ◌+◌, length, take, drop, drop-cons, reverse, get_or, arith, ◌&&◌}
use Rattle.std.proofs.lemmas.List.{take_more, take-append-drop, reverse-append, reverse-reverse}
use Rattle.std.specs.Io.KnownBytes.{Appends}
use Rattle.std.proofs.KnownBytes.{Appends-trans}
use Rattle.dali_bank.specs.Order.{Contents}
use Rattle.dali_read.specs.Readings.{Course}
use Rattle.dali_read.specs.Places.{order_course}
use Rattle.dali_read.specs.declared.finding.Finding.{Finding}
use Rattle.dali_read.specs.declared.finding.Finding.TheVariants.{Same}
use Rattle.dali_read.proofs.FindingLemmas.{same_found}
use Rattle.dali_read.proofs.CourseLemmas.{last_read}
use Rattle.dali_read.proofs.IdentityLemmas.{identity_read}
use Rattle.dali_trace.specs.declared.fault.DriveFault.{DriveFault}
use Rattle.dali_trace.specs.declared.fault.DriveFault.TheVariants.{Out}
use Rattle.dali_drive.specs.Transcript.{Streams, shown, link_shown}
use Rattle.dali_drive.specs.UnitRead.{IsUnitRead, UnitReadBroke}
use Rattle.dali_drive.specs.Surveys.{Report, Surveyed, Reported, BreaksReport, IsScanReport, IsOrderReport, IsSame}
use Rattle.dali_drive.specs.Surveys.{FoundOf, IsAllTold, TellsUnit, TellsOrder, answered, sought_course}
use Rattle.dali_drive.specs.declared.sought.Sought.{Sought}
use Rattle.dali_drive.specs.declared.sought.Sought.TheVariants.{Last, Identity}
use Rattle.dali_drive.specs.SurveyLines.{HasUnitLine}
use Rattle.dali_drive.specs.Found.{Found, was_found}
use Rattle.dali_drive.proofs.DriveLemmas.{IsCut, part_of_it}
use Rattle.dali_drive.proofs.ReadingLemmas.{told_both}

pub surveyed_more : {A : Type 0} (is_report : Report A → Type 0) (reports : List (Report A)) (item : A)
    (is_so : Report A → Type 0) (first mid last : Streams)
    → Surveyed is_report reports first mid → (r : Reported is_report item is_so mid last)
    → Surveyed is_report (r.report ∷ reports) first last
surveyed_more is_report reports item is_so first mid last s r =
    record { each = search; link = told_both _ _ _ _ _ s.link r.link; out = Appends-trans _ _ _ _ _ s.out r.out }

-- the fault broke the reading off, before its line
pub breaks_reading : {A : Type 0} (is_report : Report A → Type 0) (fault : DriveFault) (item : A) (unit : ℕ)
    (course : Course) (l more a less o : Option (List ℕ))
    → UnitReadBroke unit course fault (link_shown l a) (link_shown more less)
    → BreaksReport is_report fault item unit course (shown None l a o) (shown None more less o)
breaks_reading is_report fault item unit course l more a less o broke = grind arith

-- ---- which units answer

module _ (unit : ℕ) (sought : Sought) (l more a less o out : Option (List ℕ)) (outcome : Option (List ℕ))
    (r : IsUnitRead unit (sought_course sought) outcome (link_shown l a) (link_shown more less)) (line : List ℕ)
    (tells : TellsUnit unit outcome line) where
  abbrev pub scan_report : Report ℕ
  scan_report = record { item = unit; outcome = outcome; told = r.told; line = line }

  pub unit_scanned : Appends o out line
      → Reported (IsScanReport sought) unit (λ report. is_some outcome ≡ is_some report.outcome) (shown None l a o)
      (shown None more less out)
  unit_scanned written =
      record { report = scan_report; item_is = refl; is = (r.ends, tells); so = refl; link = r.text; out = written }

  pub scan_cut : IsCut o out line
      → BreaksReport (IsScanReport sought) Out unit unit (sought_course sought) (shown None l a o)
      (shown None more less out)
  scan_cut cut = (scan_report, refl, (r.ends, tells), r.text, part_of_it o out line cut)

-- this many bytes were read of a unit
pub has_line : (sought : Sought) (unit : ℕ) (bytes : List ℕ) (first last : Streams)
    → IsUnitRead unit (sought_course sought) (Some bytes) first last → HasUnitLine bytes
has_line Last unit bytes first last r =
    let one = last_read r.told unit bytes r.ends in inl (ap (λ (l : List ℕ). length l) one.1)
has_line Identity unit bytes first last r =
    let all = identity_read r.told unit bytes r.ends in
    let long = ap (λ (l : List ℕ). length l) all.bytes_are in
    elim all.reach [
      | inl (short, none) ↦ let count = ap (λ (l : List ℕ). length l) none in inl (omega arith)
      | inr (reach, many) ↦ inr (omega arith)
    ]

-- along a course by another name
pub read_along : {unit : ℕ} {outcome : Option (List ℕ)} {first last : Streams} (one two : Course) → one ≡ two
    → IsUnitRead unit one outcome first last → IsUnitRead unit two outcome first last
read_along one two same read = grind arith

pub broke_along : {unit : ℕ} {fault : DriveFault} {first last : Streams} (one two : Course) → one ≡ two
    → UnitReadBroke unit one fault first last → UnitReadBroke unit two fault first last
broke_along one two same broke = grind arith

-- ---- units beside orders

-- what is found of an order is all the same, or not
pub same_told : (report : Report Contents) (outcome : Option (List ℕ)) (found : Option Finding) (read : List ℕ)
    → report.outcome ≡ outcome → FoundOf report.item outcome found read → (found ≡ Some Same) ↔ IsSame report
same_told report None found read is none = grind arith
same_told report (Some bytes) found read is so = grind (arith, same_found report.item.updates bytes so.0)

module _ (order : Contents) (l more a less o out : Option (List ℕ)) (outcome : Option (List ℕ))
    (r : IsUnitRead order.unit (order_course order.updates) outcome (link_shown l a) (link_shown more less))
    (line : List ℕ) (tells : TellsOrder order outcome line) where
  abbrev pub order_report : Report Contents
  order_report = record { item = order; outcome = outcome; told = r.told; line = line }

  pub order_verified : (found : Option Finding) (read : List ℕ) → FoundOf order outcome found read
      → Appends o out line
      → Reported IsOrderReport order (λ report. FoundOf report.item report.outcome found read) (shown None l a o)
      (shown None more less out)
  order_verified found read so written =
      record { report = order_report; item_is = refl; is = (r.ends, tells); so = so; link = r.text; out = written }

  pub verify_cut : IsCut o out line
      → BreaksReport IsOrderReport Out order order.unit (order_course order.updates) (shown None l a o)
      (shown None more less out)
  verify_cut cut = (order_report, refl, (r.ends, tells), r.text, part_of_it o out line cut)

-- the unit by another name
pub read_of : {course : Course} {outcome : Option (List ℕ)} {first last : Streams} (one two : ℕ) → one ≡ two
    → IsUnitRead one course outcome first last → IsUnitRead two course outcome first last
read_of one two same read = grind arith

pub broke_of : {course : Course} {fault : DriveFault} {first last : Streams} (one two : ℕ) → one ≡ two
    → UnitReadBroke one course fault first last → UnitReadBroke two course fault first last
broke_of one two same broke = grind arith

-- one more item, of those that a list begins with
pub items_more : {A : Type 0} (orders : List A) (index : ℕ) (d order : A) (items : List A)
    → index < length orders → order ≡ get_or orders index d → items ≡ reverse (take index orders)
    → order ∷ items ≡ reverse (take (index + 1) orders)
items_more orders index d order items below is so = grind (arith, take_more orders index d below, reverse-append)

-- those that are left
pub items_left : {A : Type 0} (orders : List A) (index : ℕ) (d order : A) (items : List A)
    → index < length orders → order ≡ get_or orders index d → items ≡ reverse (take index orders)
    → reverse items ++ order ∷ drop (suc index) orders ≡ orders
items_left orders index d order items below is so =
    rw (so, reverse-reverse, is) (grind (arith, drop-cons orders index d below, take-append-drop index orders))

-- all so far and this one
pub both_same : (all one : Bool) (older now : Type 0) → ((all ≡ true) ↔ older) → ((one ≡ true) ↔ now)
    → ((all && one) ≡ true) ↔ (now × older)
both_same all one older now so this = grind arith

-- the same of what is the same
pub same_by : {A B C : Type 0} → (A ↔ B) → (B ↔ C) → A ↔ C
same_by first second = grind arith

-- one more order was passed on
pub told_more : {B : Type 0} (told : B → B → List Found → Type 0)
    (reports : List (Report Contents)) (first mid last : B) (order : Contents) (found : Option Finding)
    (read : List ℕ) (report : Report Contents) → report.item ≡ order → FoundOf report.item report.outcome found read
    → (t : IsAllTold told reports first mid) → told first last (was_found order found read ∷ t.found)
    → IsAllTold told (report ∷ reports) first last
told_more told reports first mid last order found read report is so t more = record {
  found = was_found order found read ∷ t.found;
  are_found = (sym is, so, t.are_found);
  told_all = more;
}

-- one more unit answered, or none
pub counts_one : {A : Type 0} (report : Report A) (reports : List (Report A)) (answers : Bool)
    → answers ≡ is_some report.outcome → answers ≡ true → answered (report ∷ reports) ≡ answered reports + 1
counts_one report reports answers same is = grind arith

pub counts_none : {A : Type 0} (report : Report A) (reports : List (Report A)) (answers : Bool)
    → answers ≡ is_some report.outcome → answers ≡ false → answered (report ∷ reports) ≡ answered reports
counts_none report reports answers same is = grind arith
