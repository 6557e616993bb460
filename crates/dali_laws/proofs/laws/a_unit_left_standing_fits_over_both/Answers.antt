use Rattle.dali_laws.proofs.CameLemmas.{came_beside}
use Rattle.dali_laws.proofs.UnitLemmas.{fits_each, fits_both}
use Rattle.dali_laws.proofs.laws.a_unit_left_standing_fits_over_both.Goals as goal

pub returns-clause-each : goal.returns-clause-each
returns-clause-each c = fits_each

pub returns-clause-both : goal.returns-clause-both
returns-clause-both c = fits_both

pub returns-clause-came : goal.returns-clause-came
returns-clause-came c = came_beside
