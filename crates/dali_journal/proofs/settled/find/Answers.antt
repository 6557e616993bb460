use Rattle.std.proofs.Common.{rules}
use Rattle.std.proofs.lemmas.List.Sorted.{answers_always}
use Rattle.dali_journal.proofs.SettledLemmas.{none_found, one_found}
use Rattle.dali_journal.proofs.settled.find.Goals as goal

pub returns-in-Ok-clause-some : goal.returns-in-Ok-clause-some
returns-in-Ok-clause-some c =
    one_found c.args.settled.now c.args.id c.in-Ok.place _ c.in-Ok.ensures.bound
    (c.in-Ok.ensures.position (λ one. one.id) (answers_always _ _ _ (λ f a r g called. search rules)))

pub returns-in-Err-clause-none : goal.returns-in-Err-clause-none
returns-in-Err-clause-none c = λ _.
    none_found c.args.settled.now c.args.id c.in-Err.field-0 c.requires c.in-Err.ensures.bound
    (c.in-Err.ensures.position (λ one. one.id) (answers_always _ _ _ (λ f a r g called. search rules)))
