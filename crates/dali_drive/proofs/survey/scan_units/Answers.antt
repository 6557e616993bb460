use Rattle.std.proofs.Common.{◌∷◌, ◌∙◌, ◌+◌, ◌≤◌, ◌≡◌, refl, ap, subst, ℕ, suc, [], List, reverse, take, drop, get_or, append-nil, arith}
use Rattle.std.proofs.lemmas.List.{take_all, reverse-reverse}
use Rattle.std.proofs.lemmas.Result.{err_from_is_err_and}
use Rattle.dali_drive.specs.Driven.{AppendsPart}
use Rattle.dali_drive.specs.SurveyLines.{units_line}
use Rattle.dali_drive.specs.Surveys.{answered, items_in}
use Rattle.dali_drive.proofs.SurveyLemmas.{surveyed_more, items_more, items_left, counts_one, counts_none}
use Rattle.dali_drive.proofs.ReadingLemmas.{told_nothing}
use Rattle.dali_drive.proofs.DriveLemmas.{part_of_it}
use Rattle.dali_drive.proofs.survey.scan_units.Goals as goal
use Rattle.dali_drive.proofs.survey.scan_units.Goals.{then-branch, else-branch}

pub loop-unit-preserved : goal.loop-unit-preserved
loop-unit-preserved g c =
    let i = c.loop-unit.invariant in
    let r = c.in_ok-scan_unit.ensures.told in
    let both : (c.if-branch.units ≡ answered (r.report ∷ i.reports))
    × (c.if-branch.units ≤ c.loop-unit.unit-index + 1) =
    elim c.if-branch.branch [
      | then-branch w ↦
          let more = counts_one r.report i.reports c.in_ok-scan_unit.field-0 r.so w.if-branch.true in
          let so = i.units_are in
          let few = i.few in
          let is = w.units-is in (omega arith, omega arith)
      | else-branch w ↦
          let more = counts_none r.report i.reports c.in_ok-scan_unit.field-0 r.so w.if-branch.false in
          let so = i.units_are in
          let few = i.few in
          let is = w.units-is in (omega arith, omega arith)
    ] in
    record {
      reports = r.report ∷ i.reports;
      surveyed = surveyed_more _ i.reports _ _ _ _ _ i.surveyed r;
      items =
          ap (λ (n : ℕ). n ∷ items_in i.reports) r.item_is
          ∙ items_more c.args.addresses.now c.loop-unit.unit-index 0 _ (items_in i.reports) c.loop-unit-test.true refl
          i.items;
      units_are = both.0;
      few = both.1;
      link_out = c.in_ok-scan_unit.ensures.ends.1;
      link_in = c.in_ok-scan_unit.ensures.ends.2;
      out = c.in_ok-scan_unit.ensures.ends.3;
    }

pub returns-in_err-scan_unit-clause-broken : goal.returns-in_err-scan_unit-clause-broken
returns-in_err-scan_unit-clause-broken g c =
    let p = err_from_is_err_and c.from_residual.result c.from_residual.ensures.1 in
    let i = c.loop-unit.invariant in
    rw (p.1, p.2) (record {
      reports = i.reports;
      rest =
          get_or c.args.addresses.now c.loop-unit.unit-index 0
          ∷ drop (suc c.loop-unit.unit-index) c.args.addresses.now;
      asked =
          items_left c.args.addresses.now c.loop-unit.unit-index 0 _ (items_in i.reports) c.loop-unit-test.true refl
          i.items;
      middle = _;
      surveyed = i.surveyed;
      broke = c.in_err-scan_unit.ensures.broken;
    })

pub returns-else-put_all-clause-broken : goal.returns-else-put_all-clause-broken
returns-else-put_all-clause-broken g c =
    let i = c.loop-unit.invariant in
    let line : c.deref.result.now ≡ units_line (answered i.reports) =
    c.deref.ensures.0 ∙ c.units_line.ensures ∙ ap units_line i.units_are in
    record {
      reports = i.reports;
      rest = [];
      asked =
          append-nil (reverse (items_in i.reports)) ∙ ap (λ (l : List ℕ). reverse l) i.items
          ∙ reverse-reverse (take c.loop-unit.unit-index c.args.addresses.now)
          ∙ take_all c.loop-unit.unit-index c.args.addresses.now c.loop-unit-test.false;
      middle = _;
      surveyed = i.surveyed;
      broke = (
        refl,
        told_nothing _,
        subst
            (λ (l : List ℕ). AppendsPart (g.O.Sink.held c.loop-unit.out) (g.O.Sink.held c.put_all.new.sink) l) line
            (part_of_it _ _ _ (c.if-put_all.ensures.cut refl)),
      );
    }
