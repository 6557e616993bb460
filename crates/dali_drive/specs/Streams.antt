-- The effect of the calls of a source and of a sink on the bytes that they show. Nothing is said if those are not
-- known.
use Rattle.std.specs.Prelude.{◌≡◌, ◌≤◌, ◌==◌, ℕ, Bool, true, false, List, [], ◌∷◌, ◌++◌, Option, Some, None, length}
use Rattle.std.specs.Prelude.{take, ⊤}
use Rattle.std.specs.Io.KnownBytes.{Appends, Consumes, Keeps, IsAtEnd}
use Rattle.dali_drive.specs.declared.streams.Got.{Got}
use Rattle.dali_drive.specs.declared.streams.Got.TheVariants.{Byte, End, Failed}

-- what taking a byte does to the bytes that a source has still to give
abbrev pub TakesOneByte : Option (List ℕ) → Option (List ℕ) → Got → Type 0
TakesOneByte old new (Byte b) = Consumes old new (b ∷ [])
TakesOneByte old new End = Keeps old new × IsAtEnd new
TakesOneByte old new Failed = Keeps old new

abbrev pub is_failure : Got → Bool
is_failure (Byte b) = false
is_failure End = false
is_failure Failed = true

-- what putting bytes does to the bytes that a sink holds
abbrev pub Puts : Option (List ℕ) → Option (List ℕ) → Option ℕ → List ℕ → Type 0
Puts old new (Some k) bytes = (k ≤ length bytes) × Appends old new (take k bytes)
Puts old new None bytes = Keeps old new

-- only a first part of the bytes is held
abbrev pub PutsFirst : Option (List ℕ) → Option (List ℕ) → List ℕ → Type 0
PutsFirst old new bytes = (k : ℕ) × (k ≤ length bytes) × Appends old new (take k bytes)

-- none of the bytes was held
abbrev pub is_refusal : Option ℕ → Bool
is_refusal (Some k) = k == 0
is_refusal None = true

-- the known bytes begin with those that were flushed
abbrev pub IsPart : Option (List ℕ) → Option (List ℕ) → Type 0
IsPart None held = ⊤
IsPart (Some flushed) None = ⊥
IsPart (Some flushed) (Some held) = (rest : List ℕ) × (held ≡ flushed ++ rest)

-- the bytes that are flushed after a flush: all that is held, unless that is never shown; if it failed, no more than
-- before
abbrev pub Flushes : Bool → Option (List ℕ) → Option (List ℕ) → Option (List ℕ) → Type 0
Flushes true held None new = new ≡ None
Flushes true held (Some old) new = new ≡ held
Flushes false held old new = new ≡ old
