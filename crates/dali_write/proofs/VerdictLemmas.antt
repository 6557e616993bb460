-- The bytes that reads show, and the end of a walk.
use Rattle.std.proofs.Common.{◌≡◌, ℕ, List, [], ◌∷◌, ◌++◌, Option, refl}
use Rattle.dali_bus.specs.World.{World}
use Rattle.dali_write.specs.Exchanges.{Exchange}
use Rattle.dali_write.specs.declared.ask.Verdict.{Verdict}
use Rattle.dali_write.specs.Requests.{block, read_requests}
use Rattle.dali_write.specs.Plans.{Plan, Finish}
use Rattle.dali_write.specs.Reads.{IsPassive}
use Rattle.dali_write.specs.Worlds.{IsCheckedRead, Shows, KeepsAt}
use Rattle.dali_write.proofs.AskedLemmas.{Sent, trying_sent, block_calm, calm_passive, sent_quiet, IsCalm}
use Rattle.dali_write.proofs.TruthLemmas.{run_keeps}
use Rattle.dali_write.proofs.BlockLemmas.{block_true}
use Rattle.dali_write.specs.Walks.{Walk}
use Rattle.dali_write.proofs.RunLemmas.{Leads}
use Rattle.dali_bus.specs.Carry.{WorldStep}

-- frames that write nothing and enable no unit change no memory
pub passive_keeps : {loses : ℕ → Type 0} (told : List Exchange) (first last : World) → Sent IsPassive told
    → Leads WorldStep loses told first last → (address : ℕ) → KeepsAt loses first last address
passive_keeps told first last sent run address =
    run_keeps told first last address (sent_quiet address told sent) run

pub read_quiet : {loses : ℕ → Type 0} (tried : List Exchange) (first last : World) (unit location byte : ℕ)
    → Leads WorldStep loses tried first last
    → IsCheckedRead unit location byte tried
    → (address : ℕ) → KeepsAt loses first last address
read_quiet tried first last unit location byte run reads =
    let requests = read_requests unit location in
    passive_keeps tried first last
    (calm_passive unit tried (trying_sent (IsCalm unit) requests tried [] (block_calm unit (block location 1)) reads.0))
    run

-- what a checked read told is there, and its unit isn't enabled
pub read_true : {loses : ℕ → Type 0} (tried : List Exchange) (first last : World) (unit location byte : ℕ)
    → Leads WorldStep loses tried first last → IsCheckedRead unit location byte tried
    → Shows loses last unit location byte
read_true tried first last unit location byte run reads =
    block_true tried first last unit (block location 1) (byte ∷ []) run reads 0 byte refl

-- an ended plan has no more accesses
pub finish_walk : (unit : ℕ) (verdict : Verdict) (outcomes : List (Option (List ℕ))) (told : List Exchange) (end : Plan)
    → Walk unit (Finish verdict) outcomes told end
    → (told ≡ []) × (Finish verdict ≡ end)
finish_walk unit verdict [] told end walk = walk
finish_walk unit verdict (o ∷ outcomes) told end walk = absurd walk.3

pub only_older : (told newer older : List Exchange) → told ≡ newer ++ older → newer ≡ [] → told ≡ older
only_older told newer older parts none = rw none at parts
