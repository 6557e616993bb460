use Rattle.std.proofs.Common.{rules}
use Rattle.dali_store.proofs.MemoryLemmas.{settle_elapses}
use Rattle.dali_store.proofs.memory.MemoryStore.settle.Goals as goal

pub returns-in-Ok-clause-time : goal.returns-in-Ok-clause-time
returns-in-Ok-clause-time c =
    settle_elapses _ c.args.self.now.unsynced _ _ _ (search rules) (search rules)
