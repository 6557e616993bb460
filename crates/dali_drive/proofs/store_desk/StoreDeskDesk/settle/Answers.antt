use Rattle.std.proofs.KnownBytes.{Keeps-refl}
use Rattle.dali_drive.proofs.store_desk.StoreDeskDesk.settle.Goals as goal

pub returns-clause-kept : goal.returns-clause-kept
returns-clause-kept g c = rw c.sync.ensures.same (Keeps-refl (g.S.Store.seen c.args.self.now.journal))
