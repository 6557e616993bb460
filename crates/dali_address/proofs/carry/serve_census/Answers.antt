use Rattle.std.proofs.Common.{refl}
use Rattle.dali_address.proofs.TakingLemmas.{none_taken, one_taken, has_taken, shorts_kept}
use Rattle.dali_address.proofs.carry.serve_census.Goals as goal

pub loop-call-init : goal.loop-call-init
loop-call-init g c = record {
  taking =
      none_taken c.args.care _ c.new-census.result c.new-census.ensures.care c.new-census.ensures.told;
}

pub loop-call-preserved : goal.loop-call-preserved
loop-call-preserved g c = record {
  taking =
      one_taken c.args.care _ _ _ c.loop-call.census c.heard.new.self c.in-Send.call c.carry-answer.result
      c.loop-call.invariant.taking c.carry-answer.ensures (c.in-Send.ensures.gives c.in-Send.call refl)
      c.heard.ensures.care c.heard.ensures.told;
}

pub returns-in-Ended-clause-taken : goal.returns-in-Ended-clause-taken
returns-in-Ended-clause-taken g c =
    has_taken c.args.care c.in-Ended.end _ _ c.loop-call.census c.loop-call.invariant.taking
    (c.in-Ended.ensures.ends c.in-Ended.end refl)

pub returns-in-Ended-clause-stay : goal.returns-in-Ended-clause-stay
returns-in-Ended-clause-stay g c short number was =
    shorts_kept c.args.care _ _ c.loop-call.census c.loop-call.invariant.taking short number was
