use Rattle.std.proofs.Common.{◌∙◌, ap, length, List, ℕ}
use Rattle.dali_drive.proofs.UnitLineLemmas.{padded}
use Rattle.dali_drive.proofs.unit_lines.push_fourteen.Goals as goal

pub returns-clause-items : goal.returns-clause-items
returns-clause-items c =
    padded c.args.line.now.items c.as_str.result.now _ _ c.args.number c.len.result c.min.result
    (c.len.ensures.value ∙ ap (λ (l : List ℕ). length l) c.decimal_of-digits.ensures.digits) c.min.ensures
    (c.as_str.ensures.value ∙ c.decimal_of-digits.ensures.digits) c.push_slice.ensures.items c.push_text.ensures.items
