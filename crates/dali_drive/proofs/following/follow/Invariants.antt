use Rattle.std.proofs.Common.{◌≡◌, List, length}
use Rattle.dali_engine.specs.WriterState.{start_of, IsAtRest}
use Rattle.dali_drive.specs.declared.following.Given.{Given}
use Rattle.dali_drive.specs.Desks.{IsAhead, Grows}
use Rattle.dali_drive.specs.Followed.{happenings, IsFollowed}
use Rattle.dali_drive.proofs.following.follow.Given as goal

abbrev pub invariant-loop : goal.invariant-loop
invariant-loop g l = record {
  given : List Given;
  gave : g.G.Orders.gave l.fn.orders l.orders given;
  count : length given ≡ l.counter;
  follow : IsFollowed (start_of l.fn.writer) given (g.D.Desk.look l.fn.desk).streams l.writer
      (g.D.Desk.look l.desk).streams;
  told : g.B.Observer.told (start_of l.fn.writer) l.fn.observer l.observer (happenings follow.steps);
  rests : IsAtRest l.writer;
  ahead : IsAhead (g.D.Desk.look l.desk);
  grown : Grows g.D.Desk.look g.D.Desk.moment g.D.Desk.left_since g.D.Desk.same l.fn.desk l.desk;
}
