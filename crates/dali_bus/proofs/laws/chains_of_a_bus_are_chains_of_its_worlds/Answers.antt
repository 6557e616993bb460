use Rattle.dali_bus.proofs.ChainLemmas.{shown_chain}
use Rattle.dali_bus.proofs.laws.chains_of_a_bus_are_chains_of_its_worlds.Goals as goal

pub returns : goal.returns
returns g c = shown_chain _ _ _ g.met.B.Bus.allowed
