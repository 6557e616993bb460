-- The line of a unit that answers.
use Rattle.std.proofs.Common.{◌≡◌, ◌≤◌, ◌<◌, ◌∙◌, ap, subst, ℕ, ◌-◌, min, List, [], ◌∷◌, ◌++◌, length, take, drop, replicate}
use Rattle.std.proofs.Common.{append_assoc, codes, decimal, arith}
use Rattle.std.proofs.lemmas.Fmt.{length-decimal-le}
use Rattle.std.proofs.lemmas.List.{drop-replicate, take-replicate}
use Rattle.dali_bank.specs.declared.field.Field.TheVariants.{Gtin, Identification}
use Rattle.dali_text.specs.BankLines.{IsRowText, fourteen_digits}
use Rattle.dali_text.specs.declared.bank_lines.Row.TheVariants.{Of}
use Rattle.dali_drive.specs.SurveyLines.{IsUnitLine, bank_with, last_head}

-- the digits of a byte
pub short_byte : (byte : ℕ) → byte < 256 → length (decimal byte) ≤ 3
short_byte byte below = length-decimal-le 3 byte (omega arith) (omega arith) (omega arith)

-- the zeros before this many digits
zeros_before : (digits : ℕ)
    → take {A = ℕ} (14 - min digits 14) (drop (min digits 14) (replicate 14 0x30)) ≡ replicate (14 - digits) 0x30
zeros_before digits =
    let left : 14 - min digits 14 ≡ 14 - digits = omega arith in
    ap (λ (l : List ℕ). take (14 - min digits 14) l) (drop-replicate (min digits 14) 14 0x30)
    ∙ take-replicate (14 - min digits 14) (14 - min digits 14) 0x30 (omega arith)
    ∙ ap (λ (count : ℕ). replicate count 0x30) left

-- this many digits with their zeros, at the end of a line
pub padded : (line digits one two : List ℕ) (number long few : ℕ) → long ≡ length (decimal number)
    → few ≡ min long 14 → digits ≡ decimal number → one ≡ line ++ take (14 - few) (drop few (replicate {A = ℕ} 14 0x30))
    → two ≡ one ++ digits → two ≡ line ++ fourteen_digits number
padded line digits one two number long few counted least is first second =
    let zeros = zeros_before (length (decimal number)) in
    rw (second, first, is, least, counted, zeros)
    (append_assoc line (replicate (14 - length (decimal number)) 0x30) (decimal number))

-- a line that was put together piece by piece
pieces : {A : Type 0} (head a gtin b identification end one two three four line : List A) → one ≡ head ++ a
    → two ≡ one ++ gtin → three ≡ two ++ b → four ≡ three ++ identification → line ≡ four ++ end
    → line ≡ head ++ a ++ gtin ++ b ++ identification ++ end
pieces head a gtin b identification end one two three four line first second third fourth last =
    rw (last, fourth, third, second, first) (simp append_assoc)

-- the line of a unit whose bank has these texts
pub identity_told : (unit last : ℕ) (more bank other gtin identification one two three four line : List ℕ)
    → length more ≡ 14 → bank ≡ bank_with last more → other ≡ bank_with last more → IsRowText bank (Of Gtin) gtin
    → IsRowText other (Of Identification) identification
    → one ≡ last_head unit last ++ codes " gtin " → two ≡ one ++ gtin → three ≡ two ++ codes " identification "
    → four ≡ three ++ identification → line ≡ four ++ codes "\n"
    → IsUnitLine unit (last ∷ more) line
identity_told unit last [] bank other gtin identification one two three four line long is so known named a b c d e =
    absurd (omega arith)
identity_told unit last (byte ∷ more) bank other gtin identification one two three four line long is so known named
    a b c d e = (
      omega arith,
      gtin,
      identification,
      subst (λ (l : List ℕ). IsRowText l (Of Gtin) gtin) is known,
      subst (λ (l : List ℕ). IsRowText l (Of Identification) identification) so named,
      pieces (last_head unit last) (codes " gtin ") gtin (codes " identification ") identification (codes "\n") one two
          three four line a b c d e,
    )
