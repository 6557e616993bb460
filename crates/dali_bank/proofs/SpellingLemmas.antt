-- Lemmas on the bytes that a field has for a value.
use Rattle.std.proofs.Common.{◌≡◌, ℕ, List, length, ◌∙◌, ap, arith, length-append}
use Rattle.std.proofs.lemmas.List.{length-replicate}
use Rattle.dali_bank.specs.declared.field.Form.{Form}
use Rattle.dali_bank.specs.declared.field.Form.TheVariants as form
use Rattle.dali_bank.specs.Spelling.{Plain, unknown, number, digits, hex, text, AreFormBytes}

-- the bytes for a value are as many as the field has
pub form_bytes_sized : (f : Form) (size : ℕ) (value : Plain) (bytes : List ℕ) → AreFormBytes f size value bytes
    → length bytes ≡ size
form_bytes_sized form.Gtin size (digits s) bytes are = are.1.sized
form_bytes_sized form.Identification size (hex s) bytes are = are.2.sized
form_bytes_sized (form.Number least most) size (number n) bytes are = are.2.sized
form_bytes_sized form.Text size (text s) bytes are =
    ap (length {A = ℕ}) are.1 ∙ simp (length-append, length-replicate) (omega (arith, are.0.few))
form_bytes_sized f size unknown bytes are = ap (length {A = ℕ}) are ∙ length-replicate size 0xFF
form_bytes_sized f size value bytes are = absurd are
