use Rattle.std.proofs.Common.{◌≡◌, ◌+◌}
use Rattle.serde_json.specs.Data.{Items}
use Rattle.dali_input.specs.ItemsLeft.{AreLeft, left_of}
use Rattle.dali_input.proofs.OrderLemmas.{SoFar}
use Rattle.dali_input.proofs.orders.read_orders.Given as goal

abbrev pub invariant-items : goal.invariant-items
invariant-items l = record {
  counted : l.number + left_of l.items ≡ left_of l.initial.items;
  so_far : (all : Items) → AreLeft l.initial.items all
      → (left : Items) × AreLeft l.items left × SoFar all left l.orders.items l.refused.items l.number;
}

abbrev pub decreases-items : goal.decreases-items
decreases-items l = left_of l.items
