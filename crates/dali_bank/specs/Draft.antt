-- The content of a draft, and the order that it makes.
use Rattle.std.specs.Prelude.{◌≡◌, ℕ, ◌≢◌, ◌+◌, ◌<◌, Option, Some, None, IfSome, IsSomeAnd, List, [], ◌∷◌, length}
use Rattle.std.specs.Prelude.{replicate, slice_index_or, slice_set, unwrap_or}
use Rattle.std.specs.List.{AllByRecursion, flat_map}
use Rattle.dali_bank.specs.declared.field.Field.{Field}
use Rattle.dali_bank.specs.Layout.{fields, rank_of, first_of, length_of}
use Rattle.dali_bank.specs.declared.field.Field.TheVariants.{MinVoltage, MaxVoltage}
use Rattle.dali_bank.specs.Numbers.{big_endian}
use Rattle.dali_bank.specs.Order.{Contents}

-- a draft's number, the short address of its unit, and for each field its bytes, if it is set
pub record Drafted : Type 0 where
  pub id : ℕ
  pub unit : ℕ
  pub found : List (Option (List ℕ))

-- no field is set
abbrev pub empty_draft : ℕ → ℕ → Drafted
empty_draft id unit = record { id = id; unit = unit; found = replicate (length fields) None }

-- the bytes of a field, if it is set
abbrev pub found_of : Field → Drafted → Option (List ℕ)
found_of field draft = slice_index_or draft.found (rank_of field) None

-- the draft with the field set to the bytes, and all else as it was
abbrev pub with_field : Field → List ℕ → Drafted → Drafted
with_field field bytes draft = record draft { found = slice_set draft.found (rank_of field) (Some bytes) }

-- the bytes, at the locations from the first on
abbrev pub placed_at : ℕ → List ℕ → List (ℕ × ℕ)
placed_at first [] = []
placed_at first (byte ∷ bytes) = (first, byte) ∷ placed_at (first + 1) bytes

-- the bytes of a field, none if it isn't set
abbrev pub bytes_of : Field → Drafted → List ℕ
bytes_of field draft = unwrap_or (found_of field draft) []

-- the field is set to a number: to bytes that aren't all FFh, and that add up to it
abbrev pub GivesNumber : Field → Drafted → ℕ → Type 0
GivesNumber field draft n =
    IsSomeAnd (found_of field draft) (λ bytes. (bytes ≢ replicate (length_of field) 0xFF) × (big_endian bytes ≡ n))

-- both voltages are set to numbers, and the minimum is over the maximum
abbrev pub VoltagesCross : Drafted → Type 0
VoltagesCross draft =
    (least : ℕ) × (most : ℕ) × GivesNumber MinVoltage draft least × GivesNumber MaxVoltage draft most × (most < least)

-- the updates of all fields, by rising location: their bytes at their locations
abbrev pub updates_of : Drafted → List (ℕ × ℕ)
updates_of draft = flat_map (λ field. placed_at (first_of field) (bytes_of field draft)) fields

-- the order that the draft makes
abbrev pub order_of : Drafted → Contents
order_of draft = record { id = draft.id; unit = draft.unit; updates = updates_of draft }

-- each field that is set has as many bytes as the layout says
abbrev pub AreFound : List (Option (List ℕ)) → Type 0
AreFound found =
    AllByRecursion
    (λ field. IfSome (slice_index_or found (rank_of field) None) (λ bytes. length bytes ≡ length_of field)) fields
