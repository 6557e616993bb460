use Rattle.std.proofs.Common.{rules, [], ◌++◌, refl}
use Rattle.std.proofs.lemmas.Result.{err_from_is_err_and}
use Rattle.std.proofs.KnownBytes.{Appends-nil}
use Rattle.dali_drive.proofs.WorkLemmas.{works_on, breaks_on}
use Rattle.dali_drive.proofs.DeskLemmas.{still, grows_on}
use Rattle.dali_drive.proofs.driving.work.Goals as goal

pub loop-preserved : goal.loop-preserved
loop-preserved g c = record {
  worked = λ start past first since d told.
      let before = c.loop.invariant.worked start past first since d told in
      works_on start past [] [] first _ _ _ _ before _ _ _
      (c.in_ok-advance.ensures.worked.came_of_it start (before.more ++ past) first since before.driven_at
      before.told_all);
  ahead = c.in_ok-advance.ensures.worked.ends;
  grown = grows_on g.D.Desk.look g.D.Desk.moment g.D.Desk.left_since g.D.Desk.same g.met.D.Desk.same_on _ _ _
      c.loop.invariant.grown c.in_ok-advance.ensures.worked.grown;
}

pub returns-clause-worked : goal.returns-clause-worked
returns-clause-worked g c = record {
  came_of_it = λ start past first since d told.
      let before = c.loop.invariant.worked start past first since d told in
      works_on start past [] [] first _ _ _ _ before _ _ _
      (c.in_ok-advance.ensures.worked.came_of_it start (before.more ++ past) first since before.driven_at
      before.told_all);
  ends = search rules;
  grown =
      grows_on g.D.Desk.look g.D.Desk.moment g.D.Desk.left_since g.D.Desk.same g.met.D.Desk.same_on _ _ _
      c.loop.invariant.grown c.in_ok-advance.ensures.worked.grown;
}

pub returns-in_err-advance-clause-worked : goal.returns-in_err-advance-clause-worked
returns-in_err-advance-clause-worked g c = record {
  came_of_it = λ start past first since d told.
      let before = c.loop.invariant.worked start past first since d told in
      let next =
      c.in_err-advance.ensures.worked.came_of_it start (before.more ++ past) first since before.driven_at
      before.told_all in
      let p = err_from_is_err_and c.from_residual.result c.from_residual.ensures.1 in
      rw (p.1, p.2) (breaks_on start past [] [] first _ _ _ _ before _ _ _ _ _ next);
  ends = search rules;
  grown =
      grows_on g.D.Desk.look g.D.Desk.moment g.D.Desk.left_since g.D.Desk.same g.met.D.Desk.same_on _ _ _
      c.loop.invariant.grown c.in_err-advance.ensures.worked.grown;
}

pub loop-init : goal.loop-init
loop-init g c = record {
  worked = λ start past first since d told. record {
    more = [];
    driven_at = d;
    asked = refl;
    said = Appends-nil (g.D.Desk.look c.args.desk.now).streams.out;
    told_all = told;
  };
  ahead = c.requires.ahead;
  grown = still g.D.Desk.look g.D.Desk.moment g.D.Desk.left_since g.D.Desk.same c.args.desk.now
      c.requires.ahead.1 (g.met.D.Desk.only_now c.args.desk.now) (g.met.D.Desk.same_now c.args.desk.now);
}
