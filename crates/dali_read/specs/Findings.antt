-- The finding that the bytes read for an order show.
use Rattle.std.specs.Prelude.{◌≡◌, ◌≢◌, ◌⊎◌, ◌≤◌, ◌<◌, ℕ, List, ◌∷◌, ◌++◌, drop, map, nat_lt, if◌then◌else◌}
use Rattle.dali_write.specs.Plans.{greatest}
use Rattle.dali_read.specs.declared.finding.Finding.{Finding}
use Rattle.dali_read.specs.declared.finding.Finding.TheVariants.{Same, Other, Short, Format}

-- the bytes that the updates write
abbrev pub own_bytes : List (ℕ × ℕ) → List ℕ
own_bytes updates = map (λ update. update.1) updates

-- the first of the bytes are those of the updates; or the first other one is this
abbrev pub IsFirstOther : List (ℕ × ℕ) → List ℕ → Finding → Type 0
IsFirstOther updates bytes Same = (more : List ℕ) × (bytes ≡ own_bytes updates ++ more)
IsFirstOther updates bytes (Other location byte) =
    (before : List (ℕ × ℕ)) × (own : ℕ) × (behind : List (ℕ × ℕ)) × (more : List ℕ)
    × (updates ≡ before ++ (location, own) ∷ behind) × (bytes ≡ own_bytes before ++ byte ∷ more) × (byte ≢ own)
IsFirstOther updates bytes Short = ⊥
IsFirstOther updates bytes Format = ⊥

-- The first byte is that of 00h. If an update is at 13h or above the next two are the content format, and else what
-- follows is that of the updates.
abbrev pub IsFound : List (ℕ × ℕ) → List ℕ → Finding → Type 0
IsFound updates bytes Short = (last : ℕ) × (more : List ℕ) × (bytes ≡ last ∷ more) × (last < greatest updates)
IsFound updates bytes Format =
    (last : ℕ) × (high : ℕ) × (low : ℕ) × (more : List ℕ) × (bytes ≡ last ∷ high ∷ low ∷ more)
    × (greatest updates ≤ last) × (0x13 ≤ greatest updates) × ((high ≡ 0x00) × (low ≡ 0x03) → ⊥)
IsFound updates bytes found = (last : ℕ) × (greatest updates ≤ last) × IsBehind updates bytes last found where
  IsBehind : List (ℕ × ℕ) → List ℕ → ℕ → Finding → Type 0
  IsBehind updates bytes last found =
      ((more : List ℕ) × (bytes ≡ last ∷ more) × (greatest updates < 0x13) × IsFirstOther updates more found)
      ⊎ ((more : List ℕ) × (bytes ≡ last ∷ 0x00 ∷ 0x03 ∷ more) × (0x13 ≤ greatest updates)
      × IsFirstOther updates more found)

-- The bytes that were read of the updates' own locations, one after the other: those after the last location, or, if an
-- update is at 13h or above, after the content format.
abbrev pub told_bytes : List (ℕ × ℕ) → List ℕ → List ℕ
told_bytes updates bytes = drop (if nat_lt (greatest updates) 0x13 then 1 else 3) bytes
