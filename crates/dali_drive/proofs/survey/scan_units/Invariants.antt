use Rattle.std.proofs.Common.{◌≡◌, ◌≤◌, ℕ, List, false, reverse, take}
use Rattle.std.specs.Prelude.{None}
use Rattle.dali_drive.specs.Transcript.{shown}
use Rattle.dali_drive.specs.Surveys.{Report, Surveyed, IsScanReport, items_in, answered}
use Rattle.dali_drive.proofs.survey.scan_units.Given as goal

abbrev pub invariant-loop-unit : goal.invariant-loop-unit
invariant-loop-unit g l = record {
  reports : List (Report ℕ);
  surveyed : Surveyed (IsScanReport l.sought) reports
      (shown None (g.L.Sink.held l.fn.link_out) (g.I.Source.left l.fn.link_in) (g.O.Sink.held l.fn.out))
      (shown None (g.L.Sink.held l.link_out) (g.I.Source.left l.link_in) (g.O.Sink.held l.out));
  items : items_in reports ≡ reverse (take l.unit-index l.addresses);
  units_are : l.units ≡ answered reports;
  few : l.units ≤ l.unit-index;
  link_out : g.L.Sink.failed l.link_out ≡ false;
  link_in : g.I.Source.failed l.link_in ≡ false;
  out : g.O.Sink.failed l.out ≡ false;
}
