use Rattle.std.proofs.Common.{◌≡◌, ◌↔◌, List, false, true, reverse, take}
use Rattle.std.specs.List.{AllByRecursion}
use Rattle.std.specs.Prelude.{None}
use Rattle.dali_bank.specs.Order.{Contents}
use Rattle.dali_drive.specs.Transcript.{shown}
use Rattle.dali_drive.specs.Surveys.{Report, Surveyed, IsOrderReport, IsSame, IsAllTold, items_in}
use Rattle.dali_drive.proofs.survey.verify_orders.Given as goal

abbrev pub invariant-loop-order : goal.invariant-loop-order
invariant-loop-order g l = record {
  reports : List (Report Contents);
  surveyed : Surveyed IsOrderReport reports
      (shown None (g.L.Sink.held l.fn.link_out) (g.I.Source.left l.fn.link_in) (g.O.Sink.held l.fn.out))
      (shown None (g.L.Sink.held l.link_out) (g.I.Source.left l.link_in) (g.O.Sink.held l.out));
  items : items_in reports ≡ reverse (take l.order-index l.orders);
  told : IsAllTold g.B.FindingObserver.told_found reports l.fn.observer l.observer;
  same : (l.all_same ≡ true) ↔ AllByRecursion IsSame reports;
  link_out : g.L.Sink.failed l.link_out ≡ false;
  link_in : g.I.Source.failed l.link_in ≡ false;
  out : g.O.Sink.failed l.out ≡ false;
}
