use Rattle.std.proofs.Common.{rules, ap, refl}
use Rattle.dali_store.proofs.MemoryLemmas.{put_still, put_stop, put_elapses}
use Rattle.dali_store.proofs.memory.MemoryStore.put.Goals as goal

pub returns-in-Ok-clause-stop : goal.returns-in-Ok-clause-stop
returns-in-Ok-clause-stop c =
    put_stop _ _ c.args.self.now.bytes _ _ (search rules)
    (ap (λ (v : _). v.items) c.replace.ensures.after)

pub returns-in-Ok-clause-time : goal.returns-in-Ok-clause-time
returns-in-Ok-clause-time c =
    put_elapses _ _ _ _ c.args.self.now.bytes _ (search rules) refl

pub returns-in-Ok-clause-still : goal.returns-in-Ok-clause-still
returns-in-Ok-clause-still c = λ d left. put_still _ _ c.args.self.now.bytes _ d (search rules) left
