-- Lemmas on the text of a bank.
use Rattle.std.proofs.Common.{◌≡◌, ◌+◌, ◌*◌, ◌/◌, ◌%◌, ◌<◌, ◌≤◌, ◌++◌, ℕ, zero, suc, List, [], ◌∷◌, Some, Ok, false}
use Rattle.std.proofs.Common.{inl, inr, not, refl, sym, ap, ◌∙◌, add-one, arith, codes, drop, length, slice_index, take}
use Rattle.std.specs.List.{flat_map, range_with_len}
use Rattle.std.proofs.lemmas.Grind.{flat_map-append}
use Rattle.std.proofs.lemmas.Bool.{cases_lt}
use Rattle.std.proofs.lemmas.List.{append-nil, drop-take, get_or-drop, get_or-take, get_or_past, length-take}
use Rattle.std.proofs.lemmas.List.{take-append-drop, take-take, take_all}
use Rattle.std.proofs.lemmas.List.Elements.{filter-append}
use Rattle.hex.specs.Hex.{IsBytes, encode_upper, encode_with, hex_digit_value, upper_digits, decode_of}
use Rattle.hex.proofs.HexLemmas.{IsDigits-upper_digits, decode_of-encode_upper}
use Rattle.dali_input.specs.BankText.{byte_digits, digits_in, is_blank, row_of, row_text}
use Rattle.dali_bank.proofs.ListLemmas.{range_more}

-- ---- the digits

-- what has a digit's value is no blank
not_blank : (byte value : ℕ) → hex_digit_value byte ≡ Some value → is_blank byte ≡ false
not_blank byte value digit = grind arith

digit_stays : (value : ℕ) → value < 16 → is_blank (slice_index upper_digits value) ≡ false
digit_stays value fits = not_blank (slice_index upper_digits value) value (IsDigits-upper_digits value fits)

-- the digits of a byte have no blanks
digits_in-byte_digits : (byte : ℕ) → byte < 256 → digits_in (byte_digits byte) ≡ byte_digits byte
unfolding encode_with
digits_in-byte_digits byte fits =
    let high = digit_stays (byte / 16) (omega arith) in
    let low = digit_stays (byte % 16) (omega arith) in
    rw (high, low) refl

-- ---- a row

-- the digits of a byte after a space
abbrev pub behind_space : ℕ → List ℕ
behind_space byte = codes " " ++ byte_digits byte

digits_in-behind_space : (row : List ℕ) → IsBytes row → digits_in (flat_map behind_space row) ≡ encode_upper row
unfolding encode_with
digits_in-behind_space [] are_bytes = refl
digits_in-behind_space (byte ∷ rest) are_bytes =
    let here = digits_in-byte_digits byte (are_bytes 0) in
    let others = digits_in-behind_space rest (λ i. are_bytes (suc i)) in
    filter-append (λ b. not (is_blank b)) (behind_space byte) (flat_map behind_space rest)
    ∙ rw (here, others) refl

digits_in-row_text : (row : List ℕ) → IsBytes row → digits_in (row_text row) ≡ encode_upper row
unfolding encode_with
digits_in-row_text [] are_bytes = refl
digits_in-row_text (byte ∷ rest) are_bytes =
    let here = digits_in-byte_digits byte (are_bytes 0) in
    let others = digits_in-behind_space rest (λ i. are_bytes (suc i)) in
    filter-append (λ b. not (is_blank b)) (byte_digits byte ++ flat_map behind_space rest) (codes "\n")
    ∙ ap (λ digits. digits ++ [])
    (filter-append (λ b. not (is_blank b)) (byte_digits byte) (flat_map behind_space rest))
    ∙ rw (here, others) (append-nil (encode_upper (byte ∷ rest)))

-- ---- the rows

-- the first `count` rows
abbrev pub rows : ℕ → List ℕ → List ℕ
rows count bank = flat_map (λ number. row_text (row_of number bank)) (range_with_len 0 count)

pub rows_more : (bank : List ℕ) (n : ℕ) → rows (n + 1) bank ≡ rows n bank ++ row_text (row_of n bank)
rows_more bank n =
    rw (add-one n) (ap (flat_map (λ number. row_text (row_of number bank))) (range_more 0 n n (omega arith))
    ∙ flat_map-append (λ number. row_text (row_of number bank)) (range_with_len 0 n) (n ∷ [])
    ∙ ap (λ row. rows n bank ++ row) (append-nil (row_text (row_of n bank))))

encode_upper-append : (xs ys : List ℕ) → encode_upper (xs ++ ys) ≡ encode_upper xs ++ encode_upper ys
unfolding encode_with
encode_upper-append [] ys = refl
encode_upper-append (x ∷ xs) ys = let others = encode_upper-append xs ys in rw others refl

IsBytes-take : (bytes : List ℕ) (n : ℕ) → IsBytes bytes → IsBytes (take n bytes)
IsBytes-take bytes n are_bytes i = elim (cases_lt i n) [
  | inl below ↦ rw (get_or-take n bytes i 0 below) (are_bytes i)
  | inr beyond ↦
      let past : length (take n bytes) ≤ i = simp length-take (omega arith) in
      rw (get_or_past (take n bytes) i 0 past) (omega arith)
]

IsBytes-row_of : (bank : List ℕ) (n : ℕ) → IsBytes bank → IsBytes (row_of n bank)
IsBytes-row_of bank n are_bytes =
    IsBytes-take (drop (16 * n) bank) 16 (λ i. rw (get_or-drop (16 * n) bank i 0) (are_bytes (16 * n + i)))

take_row : (bank : List ℕ) (n : ℕ) → take (16 * (n + 1)) bank ≡ take (16 * n) bank ++ row_of n bank
take_row bank n =
    let more : 16 * (n + 1) ≡ 16 * n + 16 = omega arith in
    let within : 16 * n ≤ 16 * n + 16 = omega arith in
    let front = take-take (16 * n) (16 * n + 16) bank within in
    let row = drop-take (16 * n) 16 bank in
    ap (λ count. take count bank) more
    ∙ sym (take-append-drop (16 * n) (take (16 * n + 16) bank))
    ∙ rw (front, row) refl

digits_in-rows : (bank : List ℕ) → IsBytes bank → (n : ℕ) → digits_in (rows n bank) ≡ encode_upper (take (16 * n) bank)
unfolding encode_with
digits_in-rows bank are_bytes zero = refl
digits_in-rows bank are_bytes (suc n) =
    let next : suc n ≡ n + 1 = omega arith in
    let before = digits_in-rows bank are_bytes n in
    let here = digits_in-row_text (row_of n bank) (IsBytes-row_of bank n are_bytes) in
    ap digits_in (ap (λ count. rows count bank) next ∙ rows_more bank n)
    ∙ filter-append (λ b. not (is_blank b)) (rows n bank) (row_text (row_of n bank))
    ∙ rw (before, here) (sym (encode_upper-append (take (16 * n) bank) (row_of n bank)))
    ∙ ap encode_upper (sym (ap (λ count. take (16 * count) bank) next ∙ take_row bank n))

-- all rows spell the bank
pub rows_spell : (bank : List ℕ) (n : ℕ) → IsBytes bank → length bank ≤ 16 * n
    → decode_of (digits_in (rows n bank)) ≡ Ok bank
rows_spell bank n are_bytes all =
    let whole = take_all (16 * n) bank all in
    rw (digits_in-rows bank are_bytes n, whole) (decode_of-encode_upper bank are_bytes)
