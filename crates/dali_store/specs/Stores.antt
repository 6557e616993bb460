-- The effect of the calls of a store on its bytes, and the bytes that a stop may leave of them. Nothing is said if
-- those are not known.
use Rattle.std.specs.Prelude.{◌≡◌, ◌⊎◌, ◌<◌, ◌≤◌, ◌==◌, ℕ, Bool, true, false, List, ◌++◌, Option, Some, None, length}
use Rattle.std.specs.Prelude.{take, ⊤, Result, Err}
use Rattle.std.specs.Io.KnownBytes.{Appends, Keeps}
use Rattle.dali_store.specs.declared.store.StoreFault.{StoreFault}
use Rattle.dali_store.specs.declared.store.StoreFault.TheVariants.{Failed}

-- The bytes that a stop leaves

-- the known bytes are these
abbrev pub Shows : Option (List ℕ) → List ℕ → Type 0
Shows None bytes = ⊤
Shows (Some known) bytes = known ≡ bytes

-- a stop leaves the known bytes and nothing else
abbrev pub IsDurable : Option (List ℕ) → (List ℕ → Type 0) → Type 0
IsDurable None outcomes = ⊤
IsDurable (Some bytes) outcomes = (c : List ℕ) → outcomes c → c ≡ bytes

-- these bytes begin with the first ones, and the second ones with them
abbrev pub IsBetween : Option (List ℕ) → Option (List ℕ) → List ℕ → Type 0
IsBetween (Some short) (Some long) c = (more : List ℕ) × (rest : List ℕ) × (c ≡ short ++ more) × (long ≡ c ++ rest)
IsBetween short long c = ⊤

-- these bytes are a first part of the known ones, and `len` or more
abbrev pub IsBehind : ℕ → Option (List ℕ) → List ℕ → Type 0
IsBehind len None c = ⊤
IsBehind len (Some bytes) c = (len ≤ length c) × (rest : List ℕ) × (bytes ≡ c ++ rest)

-- what may be left now might have been left before, or it has this
abbrev pub MayAlso : (List ℕ → Type 0) → (List ℕ → Type 0) → (List ℕ → Type 0) → Type 0
MayAlso P old new = (c : List ℕ) → new c → old c ⊎ P c

-- Time goes on: a stop since t might have left what it might have left before, or what it may leave now.
pub record Elapses (before now : ℕ) (past since : ℕ → List ℕ → Type 0) (may_leave : List ℕ → Type 0) : Type 0 where
  pub later : before ≤ now
  pub nothing_else : (t : ℕ) (c : List ℕ) → t ≤ before → since t c → past t c ⊎ may_leave c
  pub keeps : (t : ℕ) (c : List ℕ) → t ≤ before → past t c → since t c

-- a stop at any moment since the old one leaves bytes that have P
pub record LeavesOnly {S : Type 0} (moment : S → ℕ) (left_since : S → ℕ → List ℕ → Type 0) (old new : S)
    (P : List ℕ → Type 0) : Type 0 where
  pub later : moment old ≤ moment new
  pub each : (c : List ℕ) → left_since new (moment old) c → P c
  -- for a run that began earlier
  pub before : (t : ℕ) (c : List ℕ) → t ≤ moment old → left_since new t c → left_since old t c ⊎ P c

-- The effect of the calls

-- what putting bytes does; if it fails a first part may have been put
abbrev pub Takes : Option (List ℕ) → Option (List ℕ) → Option ℕ → List ℕ → Type 0
Takes old new (Some k) bytes = (k ≤ length bytes) × Appends old new (take k bytes)
Takes old new None bytes = (k : ℕ) × (k ≤ length bytes) × Appends old new (take k bytes)

-- none of the bytes was put, so far as is known
abbrev pub is_refusal : Option ℕ → Bool
is_refusal (Some k) = k == 0
is_refusal None = true

-- there are that many bytes
abbrev pub IsWithin : ℕ → Option (List ℕ) → Type 0
IsWithin len None = ⊤
IsWithin len (Some bytes) = len ≤ length bytes

abbrev pub IsLonger : ℕ → Option (List ℕ) → Type 0
IsLonger limit None = ⊤
IsLonger limit (Some bytes) = limit < length bytes

-- the known bytes are the first `len`
abbrev pub AreFirst : ℕ → Option (List ℕ) → Option (List ℕ) → Type 0
AreFirst len None new = ⊤
AreFirst len (Some bytes) None = ⊥
AreFirst len (Some bytes) (Some now) = now ≡ take len bytes

-- what a cut does
abbrev pub CutsTo : ℕ → Option (List ℕ) → Option (List ℕ) → Bool → Type 0
CutsTo len old new true = AreFirst len old new
CutsTo len old new false = Keeps old new

-- the known bytes are now these
abbrev pub Becomes : Option (List ℕ) → Option (List ℕ) → List ℕ → Type 0
Becomes None new bytes = ⊤
Becomes (Some old) None bytes = ⊥
Becomes (Some old) (Some now) bytes = now ≡ bytes

-- they stay, or they are now these
abbrev pub KeepsOrBecomes : Option (List ℕ) → Option (List ℕ) → List ℕ → Type 0
KeepsOrBecomes old new bytes = Keeps old new ⊎ Becomes old new bytes

abbrev pub is_failure : {A : Type 0} → Result A StoreFault → Bool
is_failure (Err Failed) = true
is_failure other = false
