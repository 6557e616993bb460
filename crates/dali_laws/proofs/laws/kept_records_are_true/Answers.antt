use Rattle.dali_laws.proofs.MomentLemmas.{each_kept}
use Rattle.dali_laws.proofs.laws.kept_records_are_true.Goals as goal

pub returns : goal.returns
returns c = λ start first past last states legal chain. (each_kept start first past last states legal chain).1
