-- Fields that differ, and how their bytes are shown.
use Rattle.std.proofs.Common.{◌≡◌, ◌<◌, ◌≤◌, ◌+◌, ◌∙◌, refl, sym, ap, ℕ, zero, suc, true, false, List, [], ◌∷◌, ◌++◌}
use Rattle.std.proofs.Common.{length, take, map, get_or, slice_get, slice_set, unwrap_or, arith, append-nil, add-one}
use Rattle.std.proofs.lemmas.List.{map-append}
use Rattle.std.proofs.lemmas.List.Elements.{filter_more}
use Rattle.std.proofs.lemmas.Option.{slice_get_past}
use Rattle.std.specs.List.{AllByRecursion, filter}
use Rattle.serde_json.specs.Written.{items_have_float}
use Rattle.serde_json.specs.View.{view, items_of, items_view}
use Rattle.serde_json.specs.declared.value.Value.{Value}
use Rattle.dali_bank.specs.declared.field.Field.{Field}
use Rattle.dali_bank.specs.declared.field.Field.TheVariants.{Colour, Luminaire}
use Rattle.dali_bank.specs.Layout.{fields, row_of, length_of}
use Rattle.dali_bank.specs.declared.shown.Shown.TheVariants.{Text}
use Rattle.dali_bank.specs.Shown.{IsFormShown}
use Rattle.dali_bank.specs.Spelling.{IsTextByte}
use Rattle.dali_bank.proofs.ListLemmas.{all_one_more}
use Rattle.dali_report.specs.Differences.{AreDifferences, Difference, IsDifference, as_told, differs, difference_data}
use Rattle.dali_report.specs.Differences.{updated}

-- ---- the banks

pub none_told : (told : List ℕ) → as_told [] told ≡ []
none_told [] = refl
none_told (byte ∷ told) = refl

-- one more update in its place
pub laid_more : (updates : List (ℕ × ℕ)) (told bank : List ℕ) (i : ℕ) (d : ℕ × ℕ) → i < length updates
    → updated (as_told (take (suc i) updates) told) bank
    ≡ slice_set (updated (as_told (take i updates) told) bank) (get_or updates i d).0
    (unwrap_or (slice_get told i) (get_or updates i d).1)
laid_more [] told bank i d within = absurd (omega arith)
laid_more (update ∷ updates) [] bank zero d within = refl
laid_more (update ∷ updates) (byte ∷ told) bank zero d within = rw (none_told told) refl
laid_more (update ∷ updates) [] bank (suc i) d within =
    laid_more updates [] (slice_set bank update.0 update.1) i d (omega arith)
laid_more (update ∷ updates) (byte ∷ told) bank (suc i) d within =
    laid_more updates told (slice_set bank update.0 byte) i d (omega arith)

-- the same, by the place and the byte
pub laid_next : (updates : List (ℕ × ℕ)) (told bank now : List ℕ) (i place byte : ℕ) (d : ℕ × ℕ) → i < length updates
    → now ≡ updated (as_told (take i updates) told) bank → place ≡ (get_or updates i d).0
    → byte ≡ unwrap_or (slice_get told i) (get_or updates i d).1
    → slice_set now place byte ≡ updated (as_told (take (i + 1) updates) told) bank
laid_next updates told bank now i place byte d within is there here =
    rw (add-one, is, there, here) (sym (laid_more updates told bank i d within))

-- the byte that was read at a place, and the update's own if none was
pub told_at : (told : List ℕ) (i own byte : ℕ) → i < length told → byte ≡ get_or told i byte
    → byte ≡ unwrap_or (slice_get told i) own
told_at [] i own byte within is = absurd (omega arith)
told_at (first ∷ told) zero own byte within is = is
told_at (first ∷ told) (suc i) own byte within is = told_at told i own byte (omega arith) is

pub untold_at : (told : List ℕ) (i own : ℕ) → length told ≤ i → own ≡ unwrap_or (slice_get told i) own
untold_at told i own past = rw (slice_get_past told i past) refl

-- ---- which fields

-- of these fields those that differ, and their values
pub record AreSoFar (held wanted : List ℕ) (some : List Field) (values : List Value) : Type 0 where
  pub found : List Difference
  pub all : map (λ one. one.field) found ≡ filter (differs held wanted) some
  pub each : AllByRecursion (IsDifference held wanted) found
  pub values_are : map view values ≡ map difference_data found

-- the value of one field
pub record IsValue (held wanted : List ℕ) (field : Field) (value : Value) : Type 0 where
  pub one : Difference
  pub field_is : one.field ≡ field
  pub is : IsDifference held wanted one
  pub value_is : view value ≡ difference_data one

-- one more that differs
pub more_differ : (held wanted : List ℕ) (some : List Field) (i : ℕ) (d : Field) (values : List Value) (value : Value)
    → i < length some → AreSoFar held wanted (take i some) values
    → differs held wanted (get_or some i d) ≡ true → IsValue held wanted (get_or some i d) value
    → AreSoFar held wanted (take (i + 1) some) (values ++ value ∷ [])
more_differ held wanted some i d values value within so other v = record {
  found = so.found ++ v.one ∷ [];
  all =
      map-append (λ (one : Difference). one.field) so.found (v.one ∷ [])
      ∙ rw (so.all, v.field_is, filter_more (differs held wanted) some i d within, other) refl;
  each = all_one_more (IsDifference held wanted) so.found v.one so.each v.is;
  values_are =
      map-append view values (value ∷ [])
      ∙ rw (so.values_are, v.value_is) (sym (map-append difference_data so.found (v.one ∷ [])));
}

-- one more that doesn't
pub more_same : (held wanted : List ℕ) (some : List Field) (i : ℕ) (d : Field) (values : List Value)
    → i < length some → AreSoFar held wanted (take i some) values
    → differs held wanted (get_or some i d) ≡ false
    → AreSoFar held wanted (take (i + 1) some) values
more_same held wanted some i d values within so same = record {
  found = so.found;
  all = so.all ∙ rw (filter_more (differs held wanted) some i d within, same) (sym (append-nil _));
  each = so.each;
  values_are = so.values_are;
}

-- all of them
pub all_differ : (held wanted : List ℕ) (some : List Field) (values : List Value) → some ≡ fields
    → AreSoFar held wanted some values
    → (found : List Difference) × AreDifferences held wanted found
    × (items_view values ≡ items_of (map difference_data found))
all_differ held wanted some values whole so = (
  so.found,
  record { all = so.all ∙ ap (λ (l : List Field). filter (differs held wanted) l) whole; each = so.each },
  ap items_of so.values_are,
)

-- of the same banks
pub same_banks : (held wanted held2 wanted2 : List ℕ) (found : List Difference) → held ≡ held2 → wanted ≡ wanted2
    → AreDifferences held wanted found → AreDifferences held2 wanted2 found
same_banks held wanted held2 wanted2 found one two are = rw (← one, ← two) are

-- no value of them is a float
pub no_floats : (found : List Difference) → items_have_float (items_of (map difference_data found)) ≡ false
no_floats [] = refl
no_floats (one ∷ found) = no_floats found

-- ---- how bytes are shown

-- a text that is shown has plain characters
pub plain_shown : (field : Field) (count : ℕ) (bytes : List ℕ)
    → IsFormShown (row_of field).form (length_of field) bytes (Text count)
    → (count ≤ length bytes) × AllByRecursion IsTextByte (take count bytes)
plain_shown Colour count bytes (not_all, shows) = (shows.0, shows.1.0.characters)
plain_shown Luminaire count bytes (not_all, shows) = (shows.0, shows.1.0.characters)
plain_shown _ count bytes (not_all, never) = absurd never
