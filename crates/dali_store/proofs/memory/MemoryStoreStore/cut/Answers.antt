use Rattle.std.proofs.Common.{rules, inl, inr, ⊎_elim, ◌∙◌}
use Rattle.dali_store.proofs.Betweens.{is_behind}
use Rattle.dali_store.proofs.memory.MemoryStoreStore.cut.Goals as goal

pub returns-clause-stop : goal.returns-clause-stop
returns-clause-stop c = λ d left.
    ⊎_elim (λ was. inl was)
    (λ is. inr (is_behind c.args.len c.args.self.now.bytes.items d c.requires (is ∙ search rules)))
    (c.put.ensures.stop d left)
