use Rattle.std.proofs.Common.{refl}
use Rattle.dali_link_commands.proofs.CountLemmas.{counted, none_asked, one_asked}
use Rattle.dali_link_commands.proofs.address.counting.count_units.Goals as goal

pub loop-call-init : goal.loop-call-init
loop-call-init g c = record {
  counting = none_asked c.args.care c.new-census.result _ c.new-census.ensures.care c.new-census.ensures.told;
  link_out = c.requires.unfailed.1;
  link_in = c.requires.unfailed.2;
}

pub loop-call-preserved : goal.loop-call-preserved
loop-call-preserved g c = record {
  counting =
      one_asked c.args.care c.loop-call.census c.heard.new.self _ _ _ c.in-Send.call c.word_of_call.result _
      c.loop-call.invariant.counting c.word_of_call.ensures.word (c.in-Send.ensures.gives c.in-Send.call refl)
      c.heard.ensures.care c.heard.ensures.told c.in_ok-answer-in-Send.ensures.told;
  link_out = c.in_ok-answer-in-Send.ensures.ok.1;
  link_in = c.in_ok-answer-in-Send.ensures.ok.0;
}

pub returns-in-Ended-clause-counted : goal.returns-in-Ended-clause-counted
returns-in-Ended-clause-counted g c =
    counted c.args.care c.in-Ended.end c.loop-call.census _ _ c.loop-call.invariant.counting
    (c.in-Ended.ensures.ends c.in-Ended.end refl)
