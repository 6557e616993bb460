use Rattle.std.proofs.Common.{◌∙◌, arith, length-take, length-drop}
use Rattle.std.proofs.lemmas.Grind.{common_steps}
use Rattle.dali_store.proofs.Betweens.{put_more}
use Rattle.dali_drive.proofs.streams.put_all.Goals as goal

pub loop-done-preserved : goal.loop-done-preserved
loop-done-preserved g c = record {
  within =
      let most = c.in-Some.ensures.bytes.0 in
      let room = c.loop-done.invariant.within in grind (arith, length-take, length-drop);
  bytes = put_more _ _ _ _ _ _ c.loop-done.invariant.bytes c.in-Some.ensures.bytes.1;
  unflushed = c.in-Some.ensures.unflushed ∙ c.loop-done.invariant.unflushed;
  failed =
      let h = c.in-Some.ensures.failed in
      let i = c.loop-done.invariant.failed in let n = c.if-count-gt0.true in grind (arith, common_steps);
}
