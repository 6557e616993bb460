-- The change that a round makes.
use Rattle.std.specs.Prelude.{ℕ, ◌<◌}
use Rattle.dali_address.specs.Tasks.{Gives, Takes, Draws}
use Rattle.dali_address.specs.declared.call.Call.{Call}
use Rattle.dali_address.specs.declared.call.Call.TheVariants.{Program, Remove}
use Rattle.dali_address.specs.declared.change.Change.{Change}
use Rattle.dali_address.specs.declared.change.Change.TheVariants.{Give, Take}
use Rattle.dali_address.specs.declared.task.Task.{Task}

-- the short address that is given or taken away
abbrev pub short_of : Change → ℕ
short_of (Give short) = short
short_of (Take short) = short

-- the frame that does it
abbrev pub call_of : Change → Call
call_of (Give short) = Program short
call_of (Take short) = Remove

-- a run of this kind may do it
abbrev pub FitsChange : Task → Change → Type 0
FitsChange task (Give short) = (short < 64) × Gives task × Draws task
FitsChange task (Take short) = (short < 64) × Takes task × Draws task
