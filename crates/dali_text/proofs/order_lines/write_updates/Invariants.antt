use Rattle.std.proofs.Common.{◌≡◌, take, length}
use Rattle.std.specs.List.{flat_map}
use Rattle.dali_text.specs.OrderLines.{update_line}
use Rattle.dali_text.proofs.order_lines.write_updates.Given as goal

abbrev pub invariant-loop-location : goal.invariant-loop-location
invariant-loop-location g l =
    (flat_map (λ line. line) l.lines.items ≡ flat_map update_line (take l.location-index l.updates))
    × (length l.lines.items ≡ l.location-index)
