use Rattle.std.proofs.Common.{not, rules}
use Rattle.std.proofs.lemmas.List.Elements.{filter_from_retain}
use Rattle.dali_input.specs.BankText.{is_blank}
use Rattle.dali_input.proofs.bank_text.without_blanks.Goals as goal

pub returns : goal.returns
returns c =
    filter_from_retain _ (λ byte. not (is_blank byte)) (λ p x b q called. search rules) _ _ _ c.retain.ensures.filtered
