-- Lemmas on words on one line.
use Rattle.std.proofs.Common.{◌≡◌, ℕ, zero, suc, ◌/◌, ◌%◌, List, [], ◌∷◌, ◌++◌, codes, arith, Option, Result}
use Rattle.std.proofs.Common.{OnOk, ◌==◌, false, true}
use Rattle.std.proofs.lemmas.Bool.{cond_both}
use Rattle.std.proofs.lemmas.Bool.Decides.{nat_tests}
use Rattle.std.proofs.lemmas.Result.{on_ok_weaker}
use Rattle.std.specs.Fmt.{digits, digits_onto, digit_glyph}
use Rattle.std.specs.Io.KnownBytes.{Appends}
use Rattle.std.specs.List.{flat_map}
use Rattle.dali_bank.specs.Spelling.{IsTextByte}
use Rattle.dali_text.specs.Escaped.{is_plain, shown_letter}
use Rattle.dali_link_commands.specs.Told.{IsPlain, error_line}

plain_append : (xs ys : List ℕ) → IsPlain xs → IsPlain ys → IsPlain (xs ++ ys)
plain_append [] ys first second = second
plain_append (x ∷ xs) ys first second = (first.0, plain_append xs ys first.1 second)

-- a character by its number
plain_digits : (k n : ℕ) (acc : List ℕ) → IsPlain acc → IsPlain (digits_onto k 16 false n acc)
plain_digits zero n acc plain = plain
plain_digits (suc k) n acc plain =
    let longer : List ℕ = digit_glyph false (n % 16) ∷ acc in
    let more : IsPlain longer = (grind (arith, nat_tests), plain) in
    cond_both (n / 16 == 0) longer (digits_onto k 16 false (n / 16) longer) IsPlain (λ _. more)
    (λ _. plain_digits k (n / 16) longer more)

plain_letter : (x : ℕ) → is_plain x ≡ true → IsTextByte x
plain_letter x is = grind (arith, nat_tests)

plain_one : (x : ℕ) → IsPlain (shown_letter x)
unfolding digits
plain_one x =
    let number : List ℕ = codes "\\u{" ++ digits 16 false x in
    cond_both (is_plain x) (x ∷ []) (number ++ codes "}") IsPlain (λ is. (plain_letter x is, tt))
    (λ _. plain_append number (codes "}")
    (plain_append (codes "\\u{") (digits 16 false x) (omega arith) (plain_digits 64 x [] tt)) (omega arith))

pub plain_shown : (letters : List ℕ) → IsPlain (flat_map shown_letter letters)
plain_shown [] = tt
plain_shown (x ∷ xs) = plain_append (shown_letter x) (flat_map shown_letter xs) (plain_one x) (plain_shown xs)

-- plain words were written
pub told_plain : {A E : Type 0} → (result : Result A E) (words : List ℕ) (before after : Option (List ℕ))
    → IsPlain words → OnOk result (Appends before after (error_line words))
    → OnOk result ((words : List ℕ) × IsPlain words × Appends before after (error_line words))
told_plain result words before after plain told = on_ok_weaker result (λ it. (words, plain, it)) told
