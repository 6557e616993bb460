-- Lemmas on the lines of a memory bank.
use Rattle.std.proofs.Common.{◌≡◌, ◌<◌, ◌-◌, ◌+◌, ◌^◌, ◌∙◌, ℕ, List, [], ◌∷◌, ◌++◌, Option, false, length, decimal}
use Rattle.std.proofs.Common.{replicate, take, get_or, append-nil, ap, sym, subst, arith}
use Rattle.std.specs.Fmt.{padded_integral, format_spec, char_count}
use Rattle.std.specs.Io.KnownBytes.{Appends}
use Rattle.std.proofs.lemmas.List.{take_more, map-append, flat_map_more}
use Rattle.dali_text.specs.declared.bank_lines.Row.{Row}
use Rattle.dali_text.specs.BankLines.{AreLines, IsRowText, Line, fourteen_digits, line_text}
use Rattle.dali_text.proofs.StreamLemmas.{appends_both}
use Rattle.dali_bank.proofs.ListLemmas.{all_one_more}

-- what `{:014}` writes
pub fourteen_padded : (n : ℕ)
    → padded_integral (format_spec 32 0 4 14 (2 ^ 64 - 1)) false [] (decimal n) ≡ fourteen_digits n
unfolding padded_integral char_count
fourteen_padded n =
    let padding : 14 - length (decimal n) - 0 - 0 ≡ 14 - length (decimal n) = omega arith in
    ap (λ k. replicate k 48 ++ (decimal n ++ [])) padding
    ∙ ap (λ t. replicate (14 - length (decimal n)) 48 ++ t) (append-nil (decimal n))

-- the lines of these rows were written
pub record Written (bank : List ℕ) (wanted : List Row) (before now : Option (List ℕ)) : Type 0 where
  pub text : List ℕ
  pub lines : AreLines bank wanted text
  pub appended : Appends before now text

line_more : (bank : List ℕ) (wanted : List Row) (text : List ℕ) (line : Line) → AreLines bank wanted text
    → IsRowText bank line.row line.text
    → AreLines bank (wanted ++ line.row ∷ []) (text ++ line_text line)
line_more bank wanted text line s says = record {
  lines = s.lines ++ line ∷ [];
  rows_are = map-append (λ l. l.row) s.lines (line ∷ []) ∙ ap (λ rs. rs ++ line.row ∷ []) s.rows_are;
  each = all_one_more (λ l. IsRowText bank l.row l.text) s.lines line s.each says;
  text_is = ap (λ t. t ++ line_text line) s.text_is ∙ flat_map_more line_text [] s.lines line;
}

-- the step of the loop: one more row's line
pub row_more : (bank : List ℕ) (rows : List Row) (i : ℕ) (d : Row) (before mid now : Option (List ℕ)) (text : List ℕ)
    → i < length rows → Written bank (take i rows) before mid
    → IsRowText bank (get_or rows i d) text
    → Appends mid now (line_text (record { row = get_or rows i d; text = text }))
    → Written bank (take (i + 1) rows) before now
row_more bank rows i d before mid now text within s says appended =
    let line : Line = record { row = get_or rows i d; text = text } in
    record {
      text = s.text ++ line_text line;
      lines =
          subst (λ rs. AreLines bank rs (s.text ++ line_text line)) (sym (take_more rows i d within))
          (line_more bank (take i rows) s.text line s.lines says);
      appended = appends_both before mid now s.text (line_text line) s.appended appended;
    }
