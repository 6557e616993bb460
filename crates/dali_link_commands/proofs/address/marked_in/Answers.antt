use Rattle.std.proofs.Common.{◌∙◌, ◌+◌, ap, arith, false, get_or, sym, ℕ}
use Rattle.std.specs.Prelude.{if◌then◌else◌}
use Rattle.dali_link_commands.proofs.AddressLemmas.{one_marked}
use Rattle.dali_link_commands.proofs.address.marked_in.Goals as goal

pub loop-is_marked-preserved : goal.loop-is_marked-preserved
loop-is_marked-preserved c = record {
  counts =
      let index = c.loop-is_marked.is_marked-index in
      let addresses = c.args.addresses.now in
      let one : ℕ = if get_or addresses index false then 1 else 0 in
      c.with_one-count.ensures.sum ∙ ap (λ (count : ℕ). count + one) c.loop-is_marked.invariant.counts
      ∙ sym (one_marked addresses index false (omega (arith, c.type_inv.addresses, c.loop-is_marked-test.true)));
  within = omega (arith, c.with_one-count.ensures.most, c.loop-is_marked.invariant.within);
}
