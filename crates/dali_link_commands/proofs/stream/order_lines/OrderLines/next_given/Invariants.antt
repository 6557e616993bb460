use Rattle.std.proofs.Common.{◌≡◌, ◌+◌, ◌-◌, ◌^◌, List, true, if◌then◌else◌}
use Rattle.dali_drive.specs.declared.following.Given.{Given}
use Rattle.dali_link_commands.specs.declared.stream.order_lines.OrderLines.{OrderLines}
use Rattle.dali_link_commands.specs.LinesGave.{Gave}
use Rattle.dali_link_commands.proofs.stream.order_lines.OrderLines.next_given.Given as goal

abbrev pub invariant-loop-self : goal.invariant-loop-self
invariant-loop-self g l = (l.self.is_begun ≡ true) × ((first : OrderLines g.row.R.Denot) → (given : List Given)
    → Gave g.R.Source.left g.R.Source.failed first l.fn.self given
    → Gave g.R.Source.left g.R.Source.failed first l.self given)

abbrev pub decreases-loop-self : goal.decreases-loop-self
decreases-loop-self g l = (2 ^ 64 - 1 - l.self.count) + (if l.self.is_over then 0 else 1)
