use Rattle.std.proofs.Common.{◌∙◌, ◌++◌, List, ap, arith, false, get_or, sym, ℕ}
use Rattle.dali_link_commands.proofs.ShareLemmas.{marked, next_line}
use Rattle.dali_link_commands.proofs.address.lines.shared_text.Goals as goal

pub loop-short-preserved : goal.loop-short-preserved
loop-short-preserved c = record {
  told =
      let is_shared = get_or c.args.addresses.now c.loop-short.short false in
      c.push_shared.ensures.items
      ∙ ap (λ (lines : List ℕ). lines ++ marked is_shared c.loop-short.short) c.loop-short.invariant.told
      ∙ sym (next_line c.args.addresses.now c.loop-short.short false
      (omega (arith, c.type_inv.addresses, c.loop-short-test.true)));
  within = omega (arith, c.push_shared.ensures.len, c.loop-short.invariant.within);
}
