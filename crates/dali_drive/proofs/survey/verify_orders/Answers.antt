use Rattle.std.proofs.Common.{◌∷◌, ◌∙◌, refl, ap, suc, drop, take, reverse, [], List}
use Rattle.std.proofs.lemmas.List.{take_all, reverse-reverse}
use Rattle.std.proofs.KnownBytes.{Appends-nil, Consumes-nil}
use Rattle.std.proofs.lemmas.Result.{err_from_is_err_and}
use Rattle.std.specs.Prelude.{None}
use Rattle.dali_bank.specs.Order.{Contents}
use Rattle.dali_drive.specs.Surveys.{items_in}
use Rattle.dali_drive.proofs.SurveyLemmas.{surveyed_more, items_more, items_left, both_same, same_by, same_told, told_more}
use Rattle.dali_drive.proofs.survey.verify_orders.Goals as goal

pub returns-in_err-found-clause-broken : goal.returns-in_err-found-clause-broken
returns-in_err-found-clause-broken g c =
    let p = err_from_is_err_and c.from_residual.result c.from_residual.ensures.1 in
    let i = c.loop-order.invariant in
    rw (p.1, p.2) (record {
      broke = record {
        reports = i.reports;
        next = c.order-item.result;
        rest = drop (suc c.loop-order.order-index) c.args.orders.now;
        asked =
            items_left c.args.orders.now c.loop-order.order-index _ _ (items_in i.reports) c.loop-order-test.true
            c.order-item.is i.items;
        middle = _;
        surveyed = i.surveyed;
        broke = c.in_err-found.ensures.broken;
      };
      told_all = i.told;
    })

pub loop-order-init : goal.loop-order-init
loop-order-init g c = record {
  reports = [];
  surveyed = record {
    each = tt;
    link = record {
      heard = [];
      lines = refl;
      journal = Appends-nil None;
      link = Appends-nil _;
      answers = Consumes-nil _;
      out = Appends-nil None;
    };
    out = Appends-nil _;
  };
  items = refl;
  told = record {
    found = [];
    are_found = refl;
    told_all = g.met.B.FindingObserver.told_none c.args.observer.now;
  };
  same = (λ t. tt, λ t. refl);
  link_out = c.requires.unfailed.1;
  link_in = c.requires.unfailed.2;
  out = c.requires.unfailed.3;
}

pub returns-clause-verified : goal.returns-clause-verified
returns-clause-verified g c =
    let i = c.loop-order.invariant in
    record {
      verified = record {
        reports = i.reports;
        surveyed = i.surveyed;
        all =
            ap (λ (l : List Contents). reverse l) i.items
            ∙ reverse-reverse (take c.loop-order.order-index c.args.orders.now)
            ∙ take_all c.loop-order.order-index c.args.orders.now c.loop-order-test.false;
        same = i.same;
      };
      told_all = i.told;
    }

pub loop-order-preserved : goal.loop-order-preserved
loop-order-preserved g c =
    let i = c.loop-order.invariant in
    let r = c.in_ok-found.ensures.told in
    record {
      reports = r.report ∷ i.reports;
      surveyed = surveyed_more _ i.reports _ _ _ _ _ i.surveyed r;
      items =
          ap (λ (o : Contents). o ∷ items_in i.reports) r.item_is
          ∙ items_more c.args.orders.now c.loop-order.order-index _ _ (items_in i.reports) c.loop-order-test.true
          c.order-item.is i.items;
      told =
          told_more g.B.FindingObserver.told_found i.reports c.args.observer.now _ _ c.order-item.result
          c.in_ok-found.found.finding c.in_ok-found.found.bytes.items r.report r.item_is r.so i.told
          (rw (← c.as_slice.ensures.value) (c.find.ensures c.args.observer.now i.told.found i.told.told_all));
      same = both_same _ _ _ _ i.same (same_by c.is_same-all_same.ensures
          (same_told r.report r.report.outcome c.in_ok-found.found.finding c.in_ok-found.found.bytes.items refl
          r.so));
      link_out = c.in_ok-found.ensures.ends.1;
      link_in = c.in_ok-found.ensures.ends.2;
      out = c.in_ok-found.ensures.ends.3;
    }
