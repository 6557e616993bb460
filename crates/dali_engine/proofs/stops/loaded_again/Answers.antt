use Rattle.std.proofs.Common.{◌∙◌, ap, ◌++◌}
use Rattle.dali_engine.proofs.StopLemmas.{left_same}
use Rattle.dali_engine.proofs.stops.loaded_again.Goals as goal

pub returns-in-Ok : goal.returns-in-Ok
returns-in-Ok c =
    left_same c.args.journal.now c.in-Ok.again c.requires.0 c.args.cut.now c.extend_from_slice.new.self.items
    c.limit.result
    c.in-Ok.field-0-1 c.in-Ok.field-0-2 c.limit.ensures.journal c.requires.1 c.limit.ensures.value
    (c.in_ok-extend_from_slice.ensures.items
    ∙ ap (λ bytes. bytes ++ c.args.cut.now) c.in_ok-left.ensures)
    c.in-Ok.ensures.ok
