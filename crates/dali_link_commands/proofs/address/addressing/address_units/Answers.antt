use Rattle.std.proofs.Common.{refl, sym, ◌∙◌}
use Rattle.dali_drive.proofs.DriveLemmas.{part_of_it}
use Rattle.dali_link_commands.proofs.MoveLemmas.{nothing_yet, carried, said, line_broke}
use Rattle.dali_link_commands.proofs.address.addressing.address_units.Goals as goal

pub loop-call-init : goal.loop-call-init
loop-call-init g c = record {
  going = nothing_yet c.args.task c.new-run.result _ c.new-run.ensures.task c.new-run.ensures.told;
  link_out = c.requires.unfailed.1;
  link_in = c.requires.unfailed.2;
  out = c.requires.unfailed.3;
}

pub loop-call-preserved-in-Send : goal.loop-call-preserved-in-Send
loop-call-preserved-in-Send g c = record {
  going =
      carried c.args.task c.loop-call.run c.heard.new.self _ _ _ c.in-Send.call c.word_of_call.result _
      c.loop-call.invariant.going c.word_of_call.ensures.word (sym c.in-Send.ensures.same) c.in-Send.ensures.right
      c.heard.ensures.task c.heard.ensures.told c.in_ok-exchange-in-Send.ensures.told refl;
  link_out = c.in_ok-exchange-in-Send.ensures.ok.1;
  link_in = c.in_ok-exchange-in-Send.ensures.ok.0;
  out = c.loop-call.invariant.out;
}

pub returns-then-not-put_all-clause-broken : goal.returns-then-not-put_all-clause-broken
returns-then-not-put_all-clause-broken g c =
    line_broke c.args.task c.loop-call.run c.in-Tell.line c.deref.result.now _ _ _ c.loop-call.invariant.going
    (c.deref.ensures.0 ∙ c.address_line.ensures) c.in-Tell.ensures.right
    (part_of_it _ _ _ (c.if-not-put_all.ensures.cut refl)) refl

pub loop-call-preserved : goal.loop-call-preserved
loop-call-preserved g c = record {
  going =
      said c.args.task c.loop-call.run c.said.new.self _ _ _ c.in-Tell.line c.deref.result.now
      c.loop-call.invariant.going (c.deref.ensures.0 ∙ c.address_line.ensures) (sym c.in-Tell.ensures.same)
      c.in-Tell.ensures.right c.said.ensures.task c.said.ensures.told (c.if-not-put_all.ensures.whole refl) refl;
  link_out = c.loop-call.invariant.link_out;
  link_in = c.loop-call.invariant.link_in;
  out = rw c.loop-call.invariant.out at c.if-not-put_all.ensures.failed;
}
