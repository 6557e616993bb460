-- Lemmas on how the bytes of a value are shown.
use Rattle.std.proofs.Common.{◌≡◌, ◌≢◌, ◌⊎◌, inl, inr, ℕ, zero, suc, ◌+◌, ◌-◌, ◌<◌, ◌≤◌, ◌^◌, List, [], ◌∷◌, length}
use Rattle.std.proofs.Common.{take, drop, get_or, replicate, refl, sym, ◌∙◌, ap, arith, length-take, length-drop}
use Rattle.std.proofs.lemmas.Bool.{cases_eq}
use Rattle.std.specs.Str.Parse.{digits_value}
use Rattle.dali_bank.specs.declared.field.Field.{Field}
use Rattle.dali_bank.specs.declared.field.Form.{Form}
use Rattle.dali_bank.specs.declared.field.Form.TheVariants as form
use Rattle.dali_bank.specs.declared.shown.Shown.{Shown}
use Rattle.dali_bank.specs.declared.shown.Shown.TheVariants.{Absent, Unknown, Number, Hex, Text, Raw}
use Rattle.dali_bank.specs.Layout.{SuitsForm, row_of, first_of, length_of}
use Rattle.dali_bank.specs.Spelling.{Plain, unknown, number, digits, hex, text, AreFormBytes}
use Rattle.dali_bank.specs.Shown.{ShowsValue, IsFormShown, IsShown, part_of}
use Rattle.dali_bank.specs.Law.{ShowsPlain, SetValuesAreShown, IsShownOnce}
use Rattle.dali_bank.proofs.GtinLemmas.{gtin_number, gtin_number_small}
use Rattle.dali_bank.proofs.NumberLemmas.{not_unknown}
use Rattle.dali_bank.proofs.TextLemmas.{text_shown, text_not_unknown, text_once}
use Rattle.dali_bank.proofs.SpellingLemmas.{form_bytes_sized}
use Rattle.dali_bank.proofs.LayoutLemmas.{field_room}

-- ---- set values are shown

one_byte_or_not : (bytes : List ℕ) (byte : ℕ)
    → (bytes ≢ replicate (length bytes) byte) ⊎ (bytes ≡ replicate (length bytes) byte)
one_byte_or_not [] byte = inr refl
one_byte_or_not (b ∷ bytes) byte = elim (cases_eq b byte) [
  | inl same ↦ elim (one_byte_or_not bytes byte) [
    | inl differ ↦ inl (λ all. differ (ap (drop 1) all))
    | inr all ↦ inr (rw same (ap (λ bs. byte ∷ bs) all))
  ]
  | inr differ ↦ inl (λ all. differ (ap (λ (bs : List ℕ). get_or bs 0 0) all))
]

-- the bytes of a value are shown as that value
form_shown : (f : Form) (size : ℕ) (value : Plain) (bytes : List ℕ) → SuitsForm f size → AreFormBytes f size value bytes
    → (answer : Shown) × IsFormShown f size bytes answer × ShowsPlain value bytes answer
form_shown form.Gtin size (digits s) bytes room are =
    let known = gtin_number s are.0 in
    let small : digits_value 10 s + 1 < 256 ^ size =
    rw room (omega (arith, gtin_number_small (digits_value 10 s) known)) in
    (Number (digits_value 10 s), (not_unknown size (digits_value 10 s) bytes small are.1, (known, are.1)), refl)
form_shown form.Identification size (hex s) bytes room are =
    let sized = form_bytes_sized form.Identification size (hex s) bytes are in
    elim (one_byte_or_not bytes 0xFF) [
      | inl differ ↦ (Hex, (rw (← sized) differ, tt), inl (differ, refl))
      | inr all ↦ (Unknown, rw (← sized) all, inr (all, refl))
    ]
form_shown (form.Number least most) size (number n) bytes room are =
    let small : n + 1 < 256 ^ size = omega (arith, room.1, are.1) in
    (Number n, (not_unknown size n bytes small are.2, are), refl)
form_shown form.Text size (text s) bytes room are =
    (Text (length s), (text_not_unknown s size bytes are.0 are.1, text_shown s size bytes are.0 are.1), refl)
form_shown f size unknown bytes room are = (Unknown, are, refl)
form_shown f size value bytes room are = absurd are

some_bytes : (f : Form) (size : ℕ) → SuitsForm f size → 1 ≤ size
some_bytes form.Gtin size room = omega (arith, room)
some_bytes form.Identification size room = omega (arith, room)
some_bytes (form.Number least most) zero room = absurd (omega (arith, room.1))
some_bytes (form.Number least most) (suc size) room = omega arith
some_bytes form.Text size room = room.0

-- the bytes of a field that are all there
all_there : (first size : ℕ) (bank : List ℕ) → 1 ≤ size → length (take size (drop first bank)) ≡ size
    → first + size ≤ length bank
all_there first size bank some whole =
    let left = simp (length-take, length-drop) at whole in
    omega (arith, some, left)

shown_there : (bank : List ℕ) (field : Field) (answer : Shown) → first_of field + length_of field ≤ length bank
    → IsFormShown (row_of field).form (length_of field) (part_of field bank) answer → IsShown bank field answer
shown_there bank field Absent there shows = absurd shows
shown_there bank field Unknown there shows = (there, shows)
shown_there bank field (Number n) there shows = (there, shows)
shown_there bank field Hex there shows = (there, shows)
shown_there bank field (Text k) there shows = (there, shows)
shown_there bank field Raw there shows = (there, shows)

pub set_value_shown : SetValuesAreShown
set_value_shown field value bytes bank are laid =
    let f = (row_of field).form in
    let size = length_of field in
    let room = field_room field in
    let sized = form_bytes_sized f size value bytes are in
    let there = all_there (first_of field) size bank (some_bytes f size room) (ap (length {A = ℕ}) laid ∙ sized) in
    let shows = form_shown f size value bytes room are in
    (shows.0, shown_there bank field shows.0 there (rw laid shows.1), shows.2)

-- ---- a field is shown in one way

values_once : (f : Form) (size : ℕ) (bytes : List ℕ) (one other : Shown) → ShowsValue f size bytes one
    → ShowsValue f size bytes other → one ≡ other
values_once form.Gtin size bytes (Number m) (Number n) one other = ap Number (sym one.1.adds_up ∙ other.1.adds_up)
values_once form.Identification size bytes Hex Hex one other = refl
values_once (form.Number least most) size bytes (Number m) (Number n) one other =
    ap Number (sym one.2.adds_up ∙ other.2.adds_up)
values_once form.Text size bytes (Text k) (Text l) one other =
    ap Text (text_once bytes k l (size - length (take k bytes)) (size - length (take l bytes)) one.0 other.0
    one.1.0.characters other.1.0.characters one.1.1 other.1.1)
values_once f size bytes one other shows others = grind (arith, shows, others)

form_once : (f : Form) (size : ℕ) (bytes : List ℕ) (one other : Shown) → IsFormShown f size bytes one
    → IsFormShown f size bytes other → one ≡ other
form_once f size bytes Unknown Unknown shows others = refl
form_once f size bytes Raw Raw shows others = refl
form_once f size bytes Absent other shows others = absurd shows
form_once f size bytes one Absent shows others = absurd others
form_once f size bytes Unknown other shows others = absurd (others.0 shows)
form_once f size bytes one Unknown shows others = absurd (shows.0 others)
form_once f size bytes Raw other shows others = absurd (shows.1 other others.1)
form_once f size bytes one Raw shows others = absurd (others.1 one shows.1)
form_once f size bytes one other shows others = values_once f size bytes one other shows.1 others.1

pub shown_once : IsShownOnce
shown_once field bank Absent Absent shows others = refl
shown_once field bank Absent other shows others = absurd (omega (arith, shows, others.0))
shown_once field bank one Absent shows others = absurd (omega (arith, shows.0, others))
shown_once field bank one other shows others =
    form_once (row_of field).form (length_of field) (part_of field bank) one other shows.1 others.1
