-- Runs over a bus.
use Rattle.std.specs.Prelude.{◌≡◌, ℕ, List, Result, Ok, Err, ⊤}
use Rattle.std.specs.List.{AllByRecursion}
use Rattle.dali_bus.specs.Chain.{IsChain}
use Rattle.dali_address.specs.Places.{three_of_random}
use Rattle.dali_address.specs.Rights.{AreRight, IsRightWant}
use Rattle.dali_address.specs.Said.{IsTrueOf}
use Rattle.dali_address.specs.Steps.{Exchange, Step}
use Rattle.dali_address.specs.Tasks.{MaySend}
use Rattle.dali_address.specs.Told.{Told, task_of}
use Rattle.dali_address.specs.Units.{Units}
use Rattle.dali_address.specs.declared.addressing.Addressing.{Addressing}
use Rattle.dali_address.specs.declared.task.Line.{Line}
use Rattle.dali_address.specs.declared.task.Line.TheVariants.{Unit, Shared}
use Rattle.dali_address.specs.declared.task.Summary.{Summary}
use Rattle.dali_address.specs.declared.task.Task.{Task}
use Rattle.dali_address.specs.declared.task.Want.{Want}
use Rattle.dali_address.specs.declared.task.Want.TheVariants.{Ended, Taken}

-- the line is so of these units
abbrev pub IsTrueLine : Line → Units → Type 0
IsTrueLine (Unit short random) units = IsTrueOf short (three_of_random random) units
IsTrueLine (Shared short) units = ⊤

-- the end of a run, as it was wanted
abbrev pub end_of : Result Summary ℕ → Want
end_of (Ok summary) = Ended summary
end_of (Err short) = Taken short

-- frames that a run of this kind may send, each right when it was sent, led from the first units to the last, and the
-- end is right after them
pub record HasRun (task : Task) (first : Units) (end : Result Summary ℕ) (last : Units) : Type 0 where
  pub past : List Exchange
  pub states : List Units
  pub chain : IsChain Step first past last states
  pub sent : AllByRecursion (λ exchange. MaySend task exchange.call) past
  pub right : AreRight past
  pub ended : IsRightWant task past (end_of end)

-- so far: the run has seen them
pub record IsRunning (task : Task) (first last : Units) (run : Addressing) : Type 0 where
  pub past : List Exchange
  pub states : List Units
  pub chain : IsChain Step first past last states
  pub own : task_of run ≡ task
  pub told : Told past run
