use Rattle.std.proofs.Common.{◌+◌, refl, arith, length-take, length-drop}
use Rattle.std.proofs.lemmas.Grind.{common_steps}
use Rattle.std.proofs.KnownBytes.{Appends-nil}
use Rattle.dali_store.proofs.Moments.{started}
use Rattle.dali_store.proofs.Betweens.{settled_between, left_more, grown, put_more}
use Rattle.dali_store.proofs.store.append_all.Goals as goal

pub loop-done-init : goal.loop-done-init
loop-done-init g c =
    let old = c.args.store.now in
    let stop = settled_between (g.S.Store.seen old) (g.S.Store.may_leave old) in
    record {
      within = omega arith;
      bytes = Appends-nil (g.S.Store.seen c.args.store.now);
      stop = stop;
      moments = λ settled. started g.S.Store.moment g.S.Store.left_since c.args.store.now _
          (λ d left. stop settled d (g.met.S.Store.only_now c.args.store.now d left));
      failed = refl;
    }

pub loop-done-preserved : goal.loop-done-preserved
loop-done-preserved g c =
    let i = c.loop-done.invariant in
    let put = c.in-Some.ensures.bytes.1 in record {
      within =
          let most = c.in-Some.ensures.bytes.0 in
          let room = i.within in grind (arith, length-take, length-drop);
      bytes = put_more _ _ _ _ _ _ i.bytes put;
      stop = λ settled. left_more _ _ _ _ _ _ _ i.bytes put (i.stop settled) c.in-Some.ensures.stop;
      moments = λ settled. grown g.S.Store.moment g.S.Store.left_since _ _ _ _ _ _ _ _ _ _ i.bytes put
          (i.stop settled) c.in-Some.ensures.stop (i.moments settled) c.in-Some.ensures.time;
      failed =
          let h = c.in-Some.ensures.failed in
          let f = i.failed in let n = c.if-count-gt0.true in grind (arith, common_steps);
    }

pub returns-in_default-clause-stop : goal.returns-in_default-clause-stop
returns-in_default-clause-stop g c =
    let i = c.loop-done.invariant in
    λ settled. left_more _ _ _ _ _ _ _ i.bytes c.in-Some.ensures.bytes.1 (i.stop settled) c.in-Some.ensures.stop

pub returns-in_default-clause-any_moment : goal.returns-in_default-clause-any_moment
returns-in_default-clause-any_moment g c =
    let i = c.loop-done.invariant in
    λ settled. grown g.S.Store.moment g.S.Store.left_since _ _ _ _ _ _ _ _ _ _ i.bytes c.in-Some.ensures.bytes.1
    (i.stop settled) c.in-Some.ensures.stop (i.moments settled) c.in-Some.ensures.time

pub returns-in_default-2-clause-cut : goal.returns-in_default-2-clause-cut
returns-in_default-2-clause-cut g c = λ no.
    let i = c.loop-done.invariant in
    let put = c.in_default.ensures.bytes in (
      c.loop-done.done + put.0,
      (let most = put.1 in let room = i.within in grind (arith, length-take, length-drop)),
      put_more _ _ _ _ _ _ i.bytes put.2,
    )

pub returns-in_default-2-clause-stop : goal.returns-in_default-2-clause-stop
returns-in_default-2-clause-stop g c =
    let i = c.loop-done.invariant in
    λ settled. left_more _ _ _ _ _ _ _ i.bytes c.in_default.ensures.bytes.2 (i.stop settled) c.in_default.ensures.stop

pub returns-in_default-2-clause-any_moment : goal.returns-in_default-2-clause-any_moment
returns-in_default-2-clause-any_moment g c =
    let i = c.loop-done.invariant in
    λ settled. grown g.S.Store.moment g.S.Store.left_since _ _ _ _ _ _ _ _ _ _ i.bytes c.in_default.ensures.bytes.2
    (i.stop settled) c.in_default.ensures.stop (i.moments settled) c.in_default.ensures.time
