use Rattle.dali_trace.specs.Moments.{AppliedAt, IsRight}
use Rattle.dali_laws.proofs.MomentLemmas.{every_moment, part_of}
use Rattle.dali_laws.proofs.laws.done_orders_are_applied_once.Goals as goal

pub returns : goal.returns
returns c = λ zero first last lost start past states legal along.
    part_of (IsRight zero lost start) (AppliedAt zero lost start) (λ moment now right. right.2) past last states
    (every_moment zero lost start first past last states legal along)
