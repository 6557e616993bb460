-- A checked read is the read of a block of one location.
use Rattle.std.proofs.Common.{◌≡◌, ◌⊎◌, inl, inr, refl, ℕ, List, [], ◌∷◌, length, get_or, Some, arith}
use Rattle.dali_write.specs.Exchanges.{Exchange}
use Rattle.dali_write.specs.Requests.{block, read_requests}
use Rattle.dali_write.specs.Tries.{Succeeds, Fails, bytes_of}
use Rattle.dali_write.proofs.BlockBytesLemmas.{block_count}
use Rattle.dali_write.specs.Requests.{each_try}
use Rattle.dali_write.specs.declared.block.Block.{Block}
use Rattle.dali_write.specs.Requests.{block_requests}

-- it tells one byte
pub one_byte : (bytes : List ℕ) → length bytes ≡ 1 → bytes ≡ get_or bytes 0 0 ∷ []
one_byte [] one = absurd (omega arith)
one_byte (byte ∷ []) one = refl
one_byte (byte ∷ next ∷ more) one = absurd (omega arith)

-- an access that didn't fail has told as many bytes as its block has locations
pub access_count : (unit : ℕ) (block : Block) (bytes : List ℕ) (told : List Exchange)
    → Succeeds (each_try (block_requests unit block)) (Some bytes) told
    ⊎ Fails (each_try (block_requests unit block)) (Some bytes) told
    → length bytes ≡ block.count
access_count unit block bytes told (inl done) =
    let same : bytes_of done.0 ≡ bytes = let is = done.5 in cc in
    rw (← same) (block_count unit block (bytes_of done.0) done.0 (done.4, refl))
access_count unit block bytes told (inr failed) = let never = failed.0 in cc

pub access_tells_one : (unit location : ℕ) (bytes : List ℕ) (told : List Exchange)
    → Succeeds (each_try (read_requests unit location)) (Some bytes) told
    ⊎ Fails (each_try (read_requests unit location)) (Some bytes) told
    → bytes ≡ get_or bytes 0 0 ∷ []
access_tells_one unit location bytes told ends = one_byte bytes (access_count unit (block location 1) bytes told ends)
