use Rattle.std.proofs.Common.{◌≡◌, ◌+◌, ◌-◌, [], ◌∙◌, arith, refl}
use Rattle.serde_json.specs.Data.{no_items}
use Rattle.dali_file_commands.proofs.NoteLemmas.{tells_one_more}
use Rattle.dali_file_commands.proofs.ReportLemmas.{accepted_more, all_judged, none_yet, refused_more}
use Rattle.dali_file_commands.proofs.check.write_items.Goals as goal
use Rattle.std.proofs.KnownBytes.{Appends-nil}

pub items-init : goal.items-init
items-init g c = record {
  counted = omega arith;
  so_far = λ all are. (all, are, none_yet _ all _ _ (λ unfailed. (unfailed, ([], refl, Appends-nil _))));
  failed = refl;
}

pub items-preserved-then-branch : goal.items-preserved-then-branch
items-preserved-then-branch g c = record {
  counted = omega (arith, c.items.invariant.counted, c.in-Some.ensures.fewer);
  so_far = λ all are.
      let (left, are_left, so_far) = c.items.invariant.so_far all are in
      let (source, others, next, is, after) = c.in-Some.ensures.next left are_left in
      let (outcome, judged, good, text, lines, written, noted) = c.in_ok-write_item.ensures.lines in
      let at : c.left-count.result - c.left.result ≡ c.items.accepted + c.items.refused + 1 =
      omega (arith, c.items.invariant.counted, c.in-Some.ensures.fewer, c.left.ensures) in (
        others,
        after,
        accepted_more _ all left others source next _ _ _ _ _ outcome text _ _ so_far (judged source is) _ at lines
            written
            (λ xs. tells_one_more g.N.Write.contents c.args.notes.now c.items.notes c.write_item.new.notes outcome _ xs
            noted) (good ∙ c.if-branch.true),
      );
  failed = c.in_ok-write_item.ensures.failed ∙ c.items.invariant.failed;
}

pub items-preserved : goal.items-preserved
items-preserved g c = record {
  counted = omega (arith, c.items.invariant.counted, c.in-Some.ensures.fewer);
  so_far = λ all are.
      let (left, are_left, so_far) = c.items.invariant.so_far all are in
      let (source, others, next, is, after) = c.in-Some.ensures.next left are_left in
      let (outcome, judged, good, text, lines, written, noted) = c.in_ok-write_item.ensures.lines in
      let at : c.left-count.result - c.left.result ≡ c.items.accepted + c.items.refused + 1 =
      omega (arith, c.items.invariant.counted, c.in-Some.ensures.fewer, c.left.ensures) in (
        others,
        after,
        refused_more _ all left others source next _ _ _ _ _ outcome text _ _ so_far (judged source is) _ at lines
            written
            (λ xs. tells_one_more g.N.Write.contents c.args.notes.now c.items.notes c.write_item.new.notes outcome _ xs
            noted) (good ∙ c.if-branch.false),
      );
  failed = c.in_ok-write_item.ensures.failed ∙ c.items.invariant.failed;
}

pub returns-clause-lines : goal.returns-clause-lines
returns-clause-lines g c = λ all are.
    let (left, are_left, so_far) = c.items.invariant.so_far all are in
    let none : left ≡ no_items = c.in_default.ensures.next left are_left in (
      so_far.outcomes,
      all_judged _ all left _ _ _ _ _ so_far none,
      so_far.good,
      so_far.bad,
      so_far.text,
      so_far.lines,
      so_far.written,
      so_far.noted,
    )
