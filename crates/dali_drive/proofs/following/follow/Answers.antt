use Rattle.std.proofs.Common.{[], ◌∷◌, refl, inl, inr, arith}
use Rattle.std.proofs.lemmas.Result.{err_from_is_err_and}
use Rattle.dali_drive.proofs.FollowLemmas.{begins, begins_broken}
use Rattle.dali_drive.proofs.DeskLemmas.{grows_on}
use Rattle.dali_drive.proofs.following.follow.Goals as goal

pub loop-init : goal.loop-init
loop-init g c =
    let begun = begins _ _ _ _ _ c.in_ok-begin.ensures.worked.came_of_it c.in_ok-begin.ensures.done.1 in
    record {
      given = [];
      gave = g.met.G.Orders.gave_none c.args.orders.now;
      count = refl;
      follow = begun.0;
      told = begun.1;
      rests = c.in_ok-begin.ensures.done.0;
      ahead = c.in_ok-begin.ensures.worked.ends;
      grown = c.in_ok-begin.ensures.worked.grown;
    }

pub returns-in_err-begin-clause-broken : goal.returns-in_err-begin-clause-broken
returns-in_err-begin-clause-broken g c =
    let broken = begins_broken _ _ _ _ _ _ _ c.in_err-begin.ensures.worked.came_of_it in
    let p = err_from_is_err_and c.from_residual.result c.from_residual.ensures.1 in
    rw (p.1, p.2) (record {
      given = [];
      gave_all = g.met.G.Orders.gave_none c.args.orders.now;
      breaks = broken;
    })

pub returns-in_default-clause-followed : goal.returns-in_default-clause-followed
returns-in_default-clause-followed g c = record {
  given = c.loop.invariant.given;
  gave_all = c.in_default.ensures.given c.args.orders.now c.loop.invariant.given c.loop.invariant.gave;
  ends = inl c.in_default.ensures.over;
  follow = c.loop.invariant.follow;
  told_all = c.loop.invariant.told;
}

pub returns-in_err-take-clause-broken : goal.returns-in_err-take-clause-broken
returns-in_err-take-clause-broken g c =
    let i = c.loop.invariant in
    let broken = c.in_err-take.ensures.worked.came_of_it _ _ _ _ i.follow i.told in
    let p = err_from_is_err_and c.from_residual-in_err-take.result c.from_residual-in_err-take.ensures.1 in
    rw (p.1, p.2) (record {
      given = c.in-Some.given ∷ i.given;
      gave_all = c.in-Some.ensures.given c.args.orders.now i.given i.gave;
      breaks = broken;
    })

pub returns-in_err-take-clause-grown : goal.returns-in_err-take-clause-grown
returns-in_err-take-clause-grown g c =
    grows_on g.D.Desk.look g.D.Desk.moment g.D.Desk.left_since g.D.Desk.same g.met.D.Desk.same_on _ _ _
    c.loop.invariant.grown c.in_err-take.ensures.worked.grown

pub loop-preserved : goal.loop-preserved
loop-preserved g c =
    let i = c.loop.invariant in
    let next = c.in_ok-take.ensures.worked.came_of_it _ _ _ _ i.follow i.told in
    record {
      given = c.in-Some.given ∷ i.given;
      gave = c.in-Some.ensures.given c.args.orders.now i.given i.gave;
      count = let so_far = i.count in omega arith;
      follow = next.0;
      told = next.1;
      rests = c.in_ok-take.ensures.rests;
      ahead = c.in_ok-take.ensures.worked.ends;
      grown = grows_on g.D.Desk.look g.D.Desk.moment g.D.Desk.left_since g.D.Desk.same g.met.D.Desk.same_on _ _ _
          i.grown c.in_ok-take.ensures.worked.grown;
    }

pub returns-clause-followed : goal.returns-clause-followed
returns-clause-followed g c = record {
  given = c.loop.invariant.given;
  gave_all = c.loop.invariant.gave;
  ends =
      inr (
      let all = c.loop.invariant.count in
      let most = c.loop.auto.counter-end in
      let least = c.loop-test.false in
      omega arith
      );
  follow = c.loop.invariant.follow;
  told_all = c.loop.invariant.told;
}
