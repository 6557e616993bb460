use Rattle.std.proofs.Common.{refl}
use Rattle.dali_link_commands.proofs.ProblemLemmas.{words_cut, worded_told}
use Rattle.dali_link_commands.proofs.problem.Problem.tell.Goals as goal

pub returns-in-Some-clause-told : goal.returns-in-Some-clause-told
returns-in-Some-clause-told g c =
    worded_told c.args.self.now.fault c.in-Some.words.now c.tell_line-in-Some.result _ _ _ c.args.self.now.reported
    c.in-Some.ensures.0 c.in-Some.ensures.1 (c.if-put_words.ensures.whole refl) c.tell_line-in-Some.ensures.told

pub returns-in-Some-2-clause-told : goal.returns-in-Some-2-clause-told
returns-in-Some-2-clause-told g c =
    words_cut c.args.self.now.fault c.in-Some.words.now _ _ c.args.self.now.reported c.in-Some.ensures.0
    c.in-Some.ensures.1 (c.if-put_words.ensures.cut refl)
