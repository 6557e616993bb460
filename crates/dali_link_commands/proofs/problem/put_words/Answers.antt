use Rattle.std.proofs.Common.{refl, ◌++◌, codes}
use Rattle.dali_link_commands.proofs.ProblemLemmas.{puts_front, puts_more}
use Rattle.dali_text.proofs.StreamLemmas.{appends_both}
use Rattle.dali_link_commands.proofs.problem.put_words.Goals as goal

pub returns-then-not-put_all-clause-cut : goal.returns-then-not-put_all-clause-cut
returns-then-not-put_all-clause-cut g c = λ cut.
    puts_front _ _ (codes "error: " ++ c.args.words.now) (codes "\n")
    (puts_front _ _ (codes "error: ") c.args.words.now (c.if-not-put_all.ensures.cut refl))

pub returns-then-not-put_all-2-clause-cut : goal.returns-then-not-put_all-2-clause-cut
returns-then-not-put_all-2-clause-cut g c = λ cut.
    puts_front _ _ (codes "error: " ++ c.args.words.now) (codes "\n")
    (puts_more _ _ _ (codes "error: ") c.args.words.now (c.if-not-put_all.ensures.whole refl)
    (rw c.as_bytes.ensures.value at (c.if-not-put_all-2.ensures.cut refl)))

pub returns-clause-cut : goal.returns-clause-cut
returns-clause-cut g c = λ cut.
    puts_more _ _ _ (codes "error: " ++ c.args.words.now) (codes "\n")
    (appends_both _ _ _ (codes "error: ") c.args.words.now (c.if-not-put_all.ensures.whole refl)
    (rw c.as_bytes.ensures.value at (c.if-not-put_all-2.ensures.whole refl))) (c.put_all-3.ensures.cut cut)
