use Rattle.dali_trace.specs.Moments.{FitsAt, OnlyNamedAt, IsRight}
use Rattle.dali_laws.proofs.MomentLemmas.{every_moment, part_of}
use Rattle.dali_laws.proofs.laws.every_moment_fits.Goals as goal

pub returns-clause-fits : goal.returns-clause-fits
returns-clause-fits c = λ zero first last lost start past states legal along.
    part_of (IsRight zero lost start) (FitsAt zero lost start) (λ moment now right. right.0) past last states
    (every_moment zero lost start first past last states legal along)

pub returns-clause-enabled : goal.returns-clause-enabled
returns-clause-enabled c = λ zero first last lost start past states legal along.
    part_of (IsRight zero lost start) (OnlyNamedAt zero lost start) (λ moment now right. right.1) past last states
    (every_moment zero lost start first past last states legal along)
