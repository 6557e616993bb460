use Rattle.dali_laws.proofs.RepeatLemmas.{repeat_answered, repeat_quiet}
use Rattle.dali_laws.proofs.laws.repeats_are_answered_by_what_is_kept.Goals as goal

pub returns-clause-answered : goal.returns-clause-answered
returns-clause-answered c = repeat_answered

pub returns-clause-quiet : goal.returns-clause-quiet
returns-clause-quiet c = repeat_quiet
