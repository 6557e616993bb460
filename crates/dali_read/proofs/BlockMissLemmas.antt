-- How many frames block reads take.
use Rattle.std.proofs.Common.{◌≡◌, ◌⊎◌, ap, ℕ, ◌+◌, ◌*◌, ◌≤◌, ◌<◌, List, [], length, length-append, Option, Some, arith}
use Rattle.std.proofs.lemmas.Nat.{mul-le}
use Rattle.dali_frame.specs.declared.forward.Frame.{Frame}
use Rattle.dali_write.specs.Exchanges.{Exchange}
use Rattle.dali_write.specs.declared.block.Block.{Block}
use Rattle.dali_write.specs.Blocks.{most_locations, Fits, IsAmid}
use Rattle.dali_write.specs.Requests.{block_requests, each_try}
use Rattle.dali_write.specs.Tries.{most_tries, Succeeds, Fails}
use Rattle.dali_write.proofs.BlockSessionLemmas.{amid_wants}
use Rattle.dali_write.proofs.BlockShapeLemmas.{block_frames_are}
use Rattle.dali_write.proofs.CountLemmas.{block_length, misses_length}
use Rattle.dali_write.proofs.NextLemmas.{block_fewer}
use Rattle.dali_write.proofs.ShapeLemmas.{trying_length}
use Rattle.dali_read.specs.Counts.{block_frames}

-- one that came to its end took the frames of one try, and for each miss at most those of one more
pub success_frames : (unit : ℕ) (block : Block) (bytes : List ℕ) (told : List Exchange) → Fits block
    → (done : Succeeds (each_try (block_requests unit block)) (Some bytes) told)
    → (more : ℕ) × (length told ≡ block_frames block.count + more) × (more ≤ block_frames most_locations * done.2)
success_frames unit block bytes told fits done =
    let requests = block_requests unit block in
    let frames = block_frames_are unit block in
    let whole = trying_length requests done.0 [] done.4 in
    let older = misses_length (each_try requests) done.2 done.1 (λ misses. omega arith) done.7 in
    let few = fits.few in
    let most : done.2 * length requests ≤ done.2 * block_frames most_locations =
    mul-le done.2 (length requests) done.2 (block_frames most_locations) (omega arith) (omega arith) in
    let both = ap (λ (t : List Exchange). length t) done.3 in
    let joined = length-append done.0 done.1 in
    (length done.1, omega arith, omega arith)

-- each takes no more than the most tries, and fewer amid its way
pub block_limit : (unit : ℕ) (block : Block) (outcome : Option (List ℕ)) (told : List Exchange)
    → Succeeds (each_try (block_requests unit block)) outcome told
    ⊎ Fails (each_try (block_requests unit block)) outcome told
    → length told ≤ most_tries * block_frames block.count
block_limit = block_length

pub amid_frames : (unit : ℕ) (block : Block) (told : List Exchange) (frame : Frame)
    → IsAmid unit block told frame → length told < most_tries * block_frames block.count
amid_frames unit block told frame amid = block_fewer unit block told frame (amid_wants unit block told frame amid)
