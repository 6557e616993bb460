use Rattle.std.proofs.Common.{rules, refl, subst}
use Rattle.std.specs.Io.KnownBytes.{Appends}
use Rattle.dali_store.proofs.Betweens.{settled_between}
use Rattle.dali_drive.proofs.DriveLemmas.{IsCut}
use Rattle.dali_drive.proofs.FollowLemmas.{order_on, tells_on, cuts_line}
use Rattle.dali_drive.proofs.following.take.Goals as goal

pub returns-in-Order-clause-worked : goal.returns-in-Order-clause-worked
returns-in-Order-clause-worked g c = record {
  came_of_it = λ start before first since follow told.
      rw c.in-Order.is (order_on start before first _ (g.D.Desk.look c.args.desk.now)
      (g.D.Desk.look c.carry_out.new.desk) follow c.in-Order.order c.in-Order.moment _ _ _ c.carry_out.result
      (c.carry_out.ensures.worked.came_of_it start _ _ since follow.at.driven_at follow.quiet told)
      c.carry_out.ensures.done);
  ends = search rules;
  grown = search rules;
}

pub returns-then-say-clause-worked : goal.returns-then-say-clause-worked
returns-then-say-clause-worked g c = record {
  came_of_it = λ start before first since follow told.
      rw (c.in-Line.is, c.if-say.ensures.only) (tells_on start before first _ _ _ _ _ _ follow c.in-Line.line
      (g.B.Observer.told start since c.args.observer.now) told
      (subst (Appends _ _) c.deref.ensures.0 (c.if-say.ensures.whole refl)));
  ends = search rules;
  grown = search rules;
}

pub returns-else-say-clause-worked : goal.returns-else-say-clause-worked
returns-else-say-clause-worked g c = record {
  came_of_it = λ start before first since follow told.
      rw (c.in-Line.is, c.if-say.ensures.only) (cuts_line start before first _ _ _ _ _ _ follow c.in-Line.line
      (g.D.Desk.look c.say.new.self).may_leave
      (g.B.Observer.told start since c.args.observer.now)
      (g.B.Observer.told_end start since c.args.observer.now) told
      (settled_between _ _ (rw c.if-say.ensures.only at c.if-say.ensures.settled))
      (subst (IsCut _ _) c.deref.ensures.0 (c.if-say.ensures.cut refl)));
  ends = search rules;
  grown = search rules;
}
