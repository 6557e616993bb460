use Rattle.dali_address.specs.Told.{left_of}
use Rattle.dali_address.specs.Runs.{IsRunning}
use Rattle.dali_address.proofs.serve.serve_addressing.Given as goal

abbrev pub invariant-loop-call : goal.invariant-loop-call
invariant-loop-call g l =
    record { running : IsRunning l.fn.task (g.B.AddressBus.units l.fn.bus) (g.B.AddressBus.units l.bus) l.run }

abbrev pub decreases-loop-call : goal.decreases-loop-call
decreases-loop-call g l = left_of l.run
