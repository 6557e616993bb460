-- The fields in which a unit that was read for an order differs from it.
use Rattle.std.specs.Prelude.{◌≡◌, ℕ, Bool, List, [], ◌∷◌, codes, map, not, slice_set}
use Rattle.std.specs.List.{AllByRecursion, filter}
use Rattle.std.specs.Str.{bytes_eq}
use Rattle.serde_json.specs.Data.{Data, string, array, object, member, no_members}
use Rattle.serde_json.specs.View.{items_of}
use Rattle.dali_bank.specs.declared.field.Field.{Field}
use Rattle.dali_bank.specs.Blank.{blank_bank}
use Rattle.dali_bank.specs.Keys.{key_of}
use Rattle.dali_bank.specs.Layout.{fields}
use Rattle.dali_bank.specs.Order.{Contents}
use Rattle.dali_bank.specs.Shown.{part_of}
use Rattle.dali_read.specs.Findings.{told_bytes}
use Rattle.dali_text.specs.declared.bank_lines.Row.TheVariants.{Of}
use Rattle.dali_text.specs.BankLines.{IsRowText}

-- the bank that has these updates
abbrev pub updated : List (ℕ × ℕ) → List ℕ → List ℕ
updated [] bank = bank
updated (update ∷ updates) bank = updated updates (slice_set bank update.0 update.1)

-- the updates with the bytes that were read in the place of their own, as far as such were read
abbrev pub as_told : List (ℕ × ℕ) → List ℕ → List (ℕ × ℕ)
as_told updates [] = updates
as_told [] (byte ∷ bytes) = []
as_told (update ∷ updates) (byte ∷ bytes) = (update.0, byte) ∷ as_told updates bytes

-- the bank of a blank unit that has what the order wants
abbrev pub wanted_bank : Contents → List ℕ
wanted_bank order = updated order.updates blank_bank

-- and what was read for the order in its place
abbrev pub held_bank : Contents → List ℕ → List ℕ
held_bank order read = updated (as_told order.updates (told_bytes order.updates read)) blank_bank

-- a field has other bytes in one bank than in the other
abbrev pub differs : List ℕ → List ℕ → Field → Bool
differs held wanted field = not (bytes_eq (part_of field held) (part_of field wanted))

-- a field, and how two banks show it
pub record Difference : Type 0 where
  pub field : Field
  pub has : List ℕ
  pub wants : List ℕ

abbrev pub IsDifference : List ℕ → List ℕ → Difference → Type 0
IsDifference held wanted one =
    IsRowText held (Of one.field) one.has × IsRowText wanted (Of one.field) one.wants

-- all fields that differ, by rising location, and how both banks show them
pub record AreDifferences (held wanted : List ℕ) (found : List Difference) : Type 0 where
  pub all : map (λ one. one.field) found ≡ filter (differs held wanted) fields
  pub each : AllByRecursion (IsDifference held wanted) found

abbrev pub difference_data : Difference → Data
difference_data one = object (
    member (codes "field") (string (key_of one.field))
    (member (codes "has") (string one.has)
    (member (codes "wants") (string one.wants) no_members)))

abbrev pub differences_data : List Difference → Data
differences_data found = array (items_of (map difference_data found))
