-- The bytes of a reading session: all that location 00h names, and each that of its place.
use Rattle.std.proofs.Common.{◌≡◌, refl, inl, inr, ap, ◌∙◌, ℕ, suc, ◌<◌, min, List, [], ◌∷◌, length, slice_get, Some, None}
use Rattle.dali_bus.specs.World.{World, byte_at}
use Rattle.dali_bus.specs.Power.{MayRelock}
use Rattle.dali_write.specs.declared.ask.Verdict.TheVariants.{Silent, Read}
use Rattle.dali_write.specs.Found.{found}
use Rattle.dali_write.specs.Plans.{Finish, plan_after, read_all, read_on}
use Rattle.dali_write.specs.Reads.{ReadsBank}
use Rattle.dali_write.specs.Verdicts.{ShowsBank}
use Rattle.dali_write.proofs.ReadLemmas.{not_lock}

-- 00h names 02h: three bytes are read, the first one first
pub three_are_read : plan_after read_all (Some (0x33 ∷ []) ∷ Some (0x22 ∷ []) ∷ Some (0x02 ∷ []) ∷ []) ≡ Finish Read
three_are_read = refl

pub two_are_too_few : plan_after read_all (Some (0x22 ∷ []) ∷ Some (0x02 ∷ []) ∷ []) ≡ read_on 2 1
two_are_too_few = refl

pub the_first_comes_first : found
    (Some (0x33 ∷ []) ∷ Some (0x22 ∷ []) ∷ Some (0x02 ∷ []) ∷ []) ≡ 0x02 ∷ 0x22 ∷ 0x33 ∷ []
the_first_comes_first = refl

-- 00h names 00h: it is all that is read
pub one_is_read : plan_after read_all (Some (0x00 ∷ []) ∷ []) ≡ Finish Read
one_is_read = refl

pub silent_amid : plan_after read_all (None ∷ Some (0x02 ∷ []) ∷ []) ≡ Finish Silent
silent_amid = refl

-- FFh is never read
pub no_more_than_up_to_feh : plan_after read_all (Some (0xFF ∷ []) ∷ []) ≡ read_on 1 0xFE
no_more_than_up_to_feh = refl

pub bank_is_whole : {loses : ℕ → Type 0} (world : World) (unit last : ℕ) (bytes : List ℕ)
    → ShowsBank loses world unit bytes → byte_at world unit 1 0 ≡ Some last → length bytes ≡ suc (min last 0xFE)
bank_is_whole world unit last bytes shows names =
    let same : shows.last ≡ last = cc in shows.count ∙ ap (λ (n : ℕ). suc (min n 0xFE)) same

pub bytes_stand : {loses : ℕ → Type 0} (world : World) (unit location : ℕ) (bytes : List ℕ)
    → ShowsBank loses world unit bytes → location < length bytes → (loses unit → ⊥)
    → byte_at world unit 1 location ≡ slice_get bytes location
bytes_stand {loses} world unit location bytes shows below kept = by (shows.bytes_are location below) where
  by : MayRelock (loses unit) 1 location (slice_get bytes location) (byte_at world unit 1 location)
      → byte_at world unit 1 location ≡ slice_get bytes location
  by (inl same) = same
  by (inr relocks) = absurd (kept relocks.0)

pub bytes_but_the_lock_byte_stand : {loses : ℕ → Type 0} (world : World) (unit location : ℕ) (bytes : List ℕ)
    → ShowsBank loses world unit bytes → location < length bytes → (location ≡ 2 → ⊥)
    → byte_at world unit 1 location ≡ slice_get bytes location
bytes_but_the_lock_byte_stand {loses} world unit location bytes shows below other =
    not_lock {lost = loses unit} location _ _ other (shows.bytes_are location below)

pub nothing_told_reads_no_bank : (unit : ℕ) (bytes : List ℕ) → ReadsBank [] unit bytes → ⊥
nothing_told_reads_no_bank unit bytes reads = reads.names
