use Rattle.std.proofs.Common.{◌∙◌, ◌++◌, ap, codes, List, ℕ}
use Rattle.dali_drive.proofs.UnitLineLemmas.{identity_told}
use Rattle.dali_drive.proofs.unit_lines.identity_line.Goals as goal

pub returns : goal.returns
returns c =
    let gtin = c.push_gtin.ensures.text in
    let identification = c.push_identification.ensures.text in
    identity_told c.args.unit c.args.last c.args.more.now c.deref.result.now c.deref-2.result.now gtin.0
    identification.0 _ _ _ _ _ c.requires (c.deref.ensures.0 ∙ c.known_bank-bank.ensures)
    (c.deref-2.ensures.0 ∙ c.known_bank-bank.ensures) gtin.1 identification.1
    (c.push_text.ensures.items ∙ ap (λ (l : List ℕ). l ++ codes " gtin ") c.begin_last-line.ensures.items) gtin.2
    c.push_text-2.ensures.items identification.2 c.push_text-3.ensures.items
