use Rattle.std.proofs.Common.{◌++◌, ◌∙◌, List, map, filter_map, ap, subst, IsPermutation}
use Rattle.dali_journal.specs.declared.settled.Settled.{Settled}
use Rattle.dali_journal.specs.Settled.{moved, settled_at}
use Rattle.dali_journal.proofs.SettledLemmas.{both_permuted}
use Rattle.dali_journal.proofs.settled.settled_both.Goals as goal

pub returns-clause-both : goal.returns-clause-both
returns-clause-both c =
    let older = c.args.older.items in
    let ended : List Settled = filter_map (settled_at c.args.front) c.args.index.now.entries in
    let own : List Settled = map (moved c.args.len) c.args.own.now in
    let all = c.in_ok-settled.settled.items in
    let pushed = c.in_ok-push_moved.ensures
    ∙ ap (λ those. those ++ own) (c.in_ok-push_ended.ensures.more
    ∙ ap (λ those. those ++ ended) c.new-newer.ensures.items) in
    both_permuted older ended own c.sort.new.settled.items all
    (subst (λ (those : List Settled). IsPermutation those c.sort.new.settled.items) pushed c.in_ok-sort.ensures.same)
    (subst (λ (those : List Settled). IsPermutation (older ++ those) all) c.deref.ensures.value
    c.in_ok-settled.ensures.both)
