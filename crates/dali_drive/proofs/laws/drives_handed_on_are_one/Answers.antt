use Rattle.dali_drive.proofs.HandedLemmas.{one_drive}
use Rattle.dali_drive.proofs.laws.drives_handed_on_are_one.Goals as goal

pub returns : goal.returns
returns g = one_drive
