-- The runs that a phase fits.
use Rattle.std.specs.Prelude.{◌<◌, ⊤}
use Rattle.dali_address.specs.Changes.{FitsChange}
use Rattle.dali_address.specs.Rounds.{change_of}
use Rattle.dali_address.specs.declared.change.Change.TheVariants.{Give as Gives, Take as Takes}
use Rattle.dali_address.specs.declared.phase.Phase.{Phase}
use Rattle.dali_address.specs.declared.phase.Phase.TheVariants.{Check, Close, Clear, Take, Miss, Choose, Give}
use Rattle.dali_address.specs.declared.phase.Phase.TheVariants.{Look, Read}
use Rattle.dali_address.specs.declared.phase.Phase.TheVariants.{Over}
use Rattle.dali_address.specs.declared.task.Task.{Task}

-- a run of this kind may be in the phase: its short address is 0 to 63, and what its round changes fits the run
abbrev pub IsFit : Task → Phase → Type 0
IsFit task (Check asks short) = short < 64
IsFit task (Close then times number) = ⊤
IsFit task (Clear asks short) = FitsChange task (Takes short)
IsFit task (Take round short) = FitsChange task (change_of round) × FitsChange task (Takes short)
IsFit task (Miss asks) = ⊤
IsFit task (Choose asks short) = FitsChange task (Gives short)
IsFit task (Give round short) = FitsChange task (change_of round) × FitsChange task (Gives short)
IsFit task (Look asks short) = short < 64
IsFit task (Read misses short) = short < 64
IsFit task Over = ⊤
