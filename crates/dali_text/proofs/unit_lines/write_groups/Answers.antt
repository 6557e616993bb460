use Rattle.std.proofs.Common.{◌∙◌, ◌≡◌, arith, subst}
use Rattle.dali_text.specs.Output.{Takes}
use Rattle.dali_text.specs.UnitLines.{bank_lines}
use Rattle.dali_text.proofs.RunTextLemmas.{groups, groups_more}
use Rattle.dali_text.proofs.StreamLemmas.{appends_both}
use Rattle.dali_text.proofs.unit_lines.write_groups.Goals as goal

pub loop-number-preserved : goal.loop-number-preserved
loop-number-preserved g c = record {
  text = subst (λ text. Takes g.W.Write.contents c.args.output.now c.write_group.new.output text)
      (groups_more c.args.address c.args.bytes.now c.loop-number.number)
      (appends_both _ _ _ _ _ c.loop-number.invariant.text c.in_ok-write_group.ensures.text);
  failed = c.in_ok-write_group.ensures.failed ∙ c.loop-number.invariant.failed;
}

pub returns-clause-text : goal.returns-clause-text
unfolding bank_lines
returns-clause-text g c =
    let all : c.loop-number.number ≡ 16 = omega arith in
    subst (λ count.
    Takes g.W.Write.contents c.args.output.now c.loop-number.output (groups c.args.address c.args.bytes.now count))
    all c.loop-number.invariant.text
