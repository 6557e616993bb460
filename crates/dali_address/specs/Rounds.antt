-- The change that a round makes, and how it ended.
use Rattle.std.specs.Prelude.{◌≡◌}
use Rattle.dali_address.specs.declared.change.Change.{Change}
use Rattle.dali_address.specs.declared.round.Outcome.{Outcome}
use Rattle.dali_address.specs.declared.round.Round.{Round}
use Rattle.dali_address.specs.declared.round.Stage.TheVariants.{Over}

abbrev pub change_of : Round → Change
change_of round = round.change

abbrev pub HasEnded : Outcome → Round → Type 0
HasEnded outcome round = round.stage ≡ Over outcome
