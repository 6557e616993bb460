-- An order of a year and a week at a unit that has this year and no week, with what is reported of it, and near misses.
use Rattle.std.proofs.Common.{◌≡◌, ◌∙◌, ap, refl, sym, ℕ, List, [], ◌∷◌, codes, get_or, arith}
use Rattle.std.proofs.lemmas.Fmt.{decimal_digit}
use Rattle.std.specs.List.{filter}
use Rattle.dali_bank.specs.declared.field.Field.TheVariants.{Year, Week}
use Rattle.dali_bank.specs.declared.shown.Shown.{Shown}
use Rattle.dali_bank.specs.declared.shown.Shown.TheVariants.{Unknown, Number}
use Rattle.dali_bank.specs.Layout.{fields}
use Rattle.dali_bank.specs.Order.{Contents}
use Rattle.dali_bank.specs.Shown.{IsShown, part_of}
use Rattle.dali_bank.proofs.LawLemmas.{shown_once}
use Rattle.dali_text.specs.declared.bank_lines.Row.TheVariants.{Of}
use Rattle.dali_text.specs.BankLines.{IsRowText, shown_text}
use Rattle.dali_report.specs.Differences.{AreDifferences, Difference, as_told, differs, held_bank, wanted_bank}

abbrev order : Contents
order = record { id = 7; unit = 5; updates = (0x13, 24) ∷ (0x14, 5) ∷ [] }

-- its bank ends at 77h, and its content format is that of the fields
abbrev held : List ℕ
held = held_bank order (0x77 ∷ 0x00 ∷ 0x03 ∷ 24 ∷ 0xFF ∷ [])

abbrev wanted : List ℕ
wanted = wanted_bank order

pub bytes_in_their_places : (part_of Year held ≡ 24 ∷ []) × (part_of Week held ≡ 0xFF ∷ [])
    × (part_of Year wanted ≡ 24 ∷ []) × (part_of Week wanted ≡ 5 ∷ [])
bytes_in_their_places = (refl, refl, refl, refl)

pub week_differs_alone : filter (differs held wanted) fields ≡ Week ∷ []
week_differs_alone = refl

no_week : IsShown held Week Unknown
no_week = (omega arith, refl)

fifth_week : IsShown wanted Week (Number 5)
fifth_week = (
  omega arith,
  (
    λ e. let same : 5 ≡ 0xFF = ap (λ (l : List ℕ). get_or l 0 0) e in omega (arith, same),
    (omega arith, omega arith, record { sized = refl; in_range = (omega arith, tt); adds_up = refl }),
  ),
)

abbrev week : Difference
week = record { field = Week; has = codes "unknown"; wants = codes "5" }

pub week_is_told : AreDifferences held wanted (week ∷ [])
week_is_told = record {
  all = refl;
  each = (((Unknown, no_week, refl), (Number 5, fifth_week, sym (decimal_digit 5 (omega arith)))), tt);
}

-- nor is the year reported, nor is the week left out
abbrev year : Difference
year = record { field = Year; has = codes "24"; wants = codes "24" }

pub same_year_is_not_told : ¬ AreDifferences held wanted (year ∷ week ∷ [])
same_year_is_not_told = λ are. let all = are.all in cc

pub week_is_not_left_out : ¬ AreDifferences held wanted []
week_is_not_left_out = λ are. let all = are.all in cc

-- nor is the unit reported to hold what the order wants
pub wanted_week_is_not_held : (text : List ℕ) → IsRowText held (Of Week) text → text ≡ codes "unknown"
wanted_week_is_not_held text (answer, shows, is) =
    let once : answer ≡ Unknown = shown_once Week held answer Unknown shows no_week in
    is ∙ ap (λ (one : Shown). shown_text Week (part_of Week held) one) once

-- of a silent unit, and of one of which no location of the order was read, no field differs
pub unread_unit_differs_nowhere : (held_bank order [] ≡ wanted) × (held_bank order (0x12 ∷ []) ≡ wanted)
    × (held_bank order (0x77 ∷ 0xFF ∷ 0xFF ∷ []) ≡ wanted)
unread_unit_differs_nowhere = (refl, refl, refl)

-- the bytes that were read take the place of the order's own bytes, as far as they go
pub told_as_far : as_told order.updates (1 ∷ []) ≡ (0x13, 1) ∷ (0x14, 5) ∷ []
told_as_far = refl

pub no_place_behind_the_last : as_told order.updates (1 ∷ 2 ∷ 3 ∷ []) ≡ (0x13, 1) ∷ (0x14, 2) ∷ []
no_place_behind_the_last = refl
