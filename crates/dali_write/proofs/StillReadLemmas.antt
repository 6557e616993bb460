-- A checked read goes on to tell the truth until a frame enables a unit or writes.
use Rattle.std.proofs.Common.{inl, inr, sym, subst, ℕ, List, [], ◌∷◌}
use Rattle.dali_bus.specs.World.{World}
use Rattle.dali_write.specs.Exchanges.{Exchange}
use Rattle.dali_write.specs.Reads.{StillRead}
use Rattle.dali_write.specs.Worlds.{Shows}
use Rattle.dali_write.proofs.GearLemmas.{carry_stays}
use Rattle.dali_write.proofs.AskedLemmas.{passive_quiet}
use Rattle.dali_write.proofs.PowerLemmas.{shows_kept, stays_keeps, drifts_keep}
use Rattle.dali_write.proofs.TruthLemmas.{split}
use Rattle.dali_write.proofs.BlockLemmas.{block_true}
use Rattle.dali_write.proofs.RunLemmas.{Leads}
use Rattle.dali_bus.specs.Carry.{WorldStep}

pub stands_true : {loses : ℕ → Type 0} (told : List Exchange) (first last : World) (unit location byte : ℕ)
    → Leads WorldStep loses told first last → StillRead told unit location byte
    → Shows loses last unit location byte
stands_true [] first last unit location byte run stands = absurd stands
stands_true {loses} (x ∷ told) first last unit location byte run (inl ends) =
    let parts =
    split _ ends.0 ends.1 first last (subst (λ (t : List Exchange). Leads WorldStep loses t first last) ends.2 run) in
    let t = ends.3 in
    subst (λ (l : ℕ). Shows loses last unit l byte) (sym t.place)
    (block_true ends.0 parts.0 last unit t.block t.bytes parts.2 t.read t.index byte t.there)
stands_true (x ∷ told) first last unit location byte run (inr (passive, stands)) =
    let before = stands_true told first run.0 unit location byte run.2 stands in
    let quiet = carry_stays run.0 x.frame x.answer run.1 unit (passive_quiet x.frame passive unit) run.3 in
    shows_kept run.1 last unit location byte
    (shows_kept run.0 run.1 unit location byte before (stays_keeps run.0 run.1 unit quiet))
    (drifts_keep run.1 last run.4 unit)
