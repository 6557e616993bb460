-- Lemmas on the lines of fields, and on what a field takes.
use Rattle.std.proofs.Common.{◌≡◌, ℕ, ◌^◌, ◌<◌, ◌≤◌, List, [], ◌∷◌, ◌++◌, ◌-◌, Option, ap, arith, codes, drop}
use Rattle.std.proofs.Common.{get_or, length, lit≤, refl, replicate, suc, take, zero}
use Rattle.std.specs.List.{AllByRecursion, flat_map}
use Rattle.std.proofs.lemmas.List.{length-replicate}
use Rattle.std.specs.Fmt.{digits}
use Rattle.std.proofs.Common.{take_all}
use Rattle.json.specs.Print.{escape_byte}
use Rattle.serde_json.specs.Written.{compact_text}
use Rattle.dali_bank.specs.declared.field.Field.{Field}
use Rattle.dali_bank.specs.declared.field.Field.TheVariants.{Gtin, Identification, Colour, Luminaire}
use Rattle.dali_bank.specs.Keys.{key_of}
use Rattle.dali_bank.specs.Layout.{first_of, length_of}
use Rattle.dali_bank.specs.Numbers.{SpellsNumber}
use Rattle.dali_bank.specs.Spelling.{IsText, IsTextByte}
use Rattle.dali_bank.proofs.NumberLemmas.{last_bytes}
use Rattle.dali_text.specs.Digits.{bytes_digits}
use Rattle.dali_file_commands.specs.FieldLines.{FormsAreOfLayout, field_text, form_of, form_word, help_of}
use Rattle.dali_file_commands.specs.FieldLines.{least_of, lines_text, most_of, place_text, range_text, unit_data}
use Rattle.dali_file_commands.specs.FieldLines.{words_text}
use Rattle.dali_file_commands.specs.declared.fields.Form.{Form}

-- ---- what a field takes

-- some bytes stand for a number of a range
abbrev IsSpelled : ℕ → ℕ → ℕ → ℕ → Type 0
IsSpelled size least most n = (bytes : List ℕ) × ((least ≤ n) × (n ≤ most) × SpellsNumber size n bytes)

-- a range that the bytes have room for
numbers : (size least most : ℕ) → size ≤ 8 → least ≤ most → most < 256 ^ size → most < 2 ^ 64
    → IsSpelled size least most least × IsSpelled size least most most
    × ((n : ℕ) → IsSpelled size least most n → (least ≤ n) × (n ≤ most))
numbers size least most few rises room fits = (
  (_, (omega arith, rises, last_bytes size least few (omega (arith, room, rises)) (omega (arith, rises, fits)))),
  (_, (rises, omega arith, last_bytes size most few room fits)),
  λ n has. (has.1.0, has.1.1),
)

-- some bytes stand for a text
abbrev IsLaid : ℕ → List ℕ → Type 0
IsLaid size s = (bytes : List ℕ) × (IsText size s × (bytes ≡ s ++ replicate (size - length s) 0))

letters : (count : ℕ) → AllByRecursion IsTextByte (replicate count 0x41)
letters zero = tt
letters (suc count) = ((lit≤ tt, lit≤ tt), letters count)

short_text : (size : ℕ) → 1 ≤ size → IsText size (codes "A")
short_text size some = record { some = omega arith; few = some; characters = letters 1 }

long_text : (size : ℕ) → 1 ≤ size → IsText size (replicate size 0x41)
long_text size some =
    record { some = rw length-replicate some; few = rw length-replicate (omega arith); characters = letters size }

texts : (size : ℕ) → 1 ≤ size → IsLaid size (codes "A") × IsLaid size (replicate size 0x41)
    × ((s : List ℕ) → IsLaid size s → (1 ≤ length s) × (length s ≤ size))
texts size some = (
  (_, (short_text size some, refl)),
  (_, (long_text size some, refl)),
  λ s has. (has.1.0.some, has.1.0.few),
)

-- the form of each field is that of the layout
pub form_is : FormsAreOfLayout
form_is Gtin = λ s. tt
form_is Identification = λ s. tt
form_is Colour = texts _ (lit≤ tt)
form_is Luminaire = texts _ (lit≤ tt)
form_is _ = numbers _ _ _ (lit≤ tt) (lit≤ tt) (lit≤ tt) (lit≤ tt)

-- ---- a field's line

-- the pieces of a field's line are the line
abbrev ArePieces : Field → Type 0
ArePieces field = place_text (length_of field) (first_of field)
    ++ words_text (form_word (form_of field)) (help_of field) (key_of field)
    ++ range_text (least_of (form_of field)) (most_of (form_of field)) (compact_text (unit_data field))
    ++ bytes_digits (replicate (length_of field) 0xFF) ++ codes "\"}" ≡ field_text field

pieces_are : (field : Field) → ArePieces field
unfolding escape_byte digits
pieces_are Gtin = refl
pieces_are _ = refl

-- what was written is the line, by what each piece is of
pub pieces_told : (field : Field) (bytes first : ℕ) (form : Form) (word help key unit unknown : List ℕ)
    (least most : Option ℕ)
    → bytes ≡ length_of field → first ≡ first_of field → form ≡ form_of field → word ≡ form_word form
    → help ≡ help_of field → key ≡ key_of field → least ≡ least_of form → most ≡ most_of form
    → unit ≡ compact_text (unit_data field) → unknown ≡ replicate (length_of field) 0xFF
    → place_text bytes first ++ words_text word help key ++ range_text least most unit ++ bytes_digits unknown
    ++ codes "\"}" ≡ field_text field
pieces_told field bytes first form word help key unit unknown least most b f is w h k l m u n =
    rw (b, f, w, h, k, l, m, u, n, is) (pieces_are field)

-- the lines of some fields are that of the first and those of the rest
pub first_and_rest : (those : List Field) (missing : Field) → 1 ≤ length those
    → field_text (get_or those 0 missing)
    ++ flat_map (λ field. codes ",\n" ++ field_text field) (take (length those - 1) (drop 1 those)) ≡ lines_text those
first_and_rest [] missing some = absurd (omega (arith, some))
first_and_rest (field ∷ rest) missing some =
    let all : take (length (field ∷ rest) - 1) rest ≡ rest = grind (arith, take_all) in
    ap (λ those. field_text field ++ flat_map (λ field. codes ",\n" ++ field_text field) those) all
