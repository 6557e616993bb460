-- Which bytes the units may hold, by what a journal says of each order. The newest order comes first.
use Rattle.std.specs.Prelude.{◌≡◌, ◌⊎◌, ◌==◌, ◌&&◌, ℕ, List, [], ◌∷◌, Option, Some, None, if◌then◌else◌, ⊤}
use Rattle.dali_bank.specs.Order.{Contents, update_at}
use Rattle.dali_journal.specs.declared.record.Code.TheVariants.{Done, Doubt, DoubtOpen}
use Rattle.dali_journal.specs.declared.kept.Progress.{Progress}
use Rattle.dali_journal.specs.declared.kept.Progress.TheVariants as reached

-- what is known of an order's bytes: all of them are written, none is, or each of them may be
pub data Mark : Type 0 where
  Applied : Mark
  Untouched : Mark
  InDoubt : Mark

-- the progress of an order shows what is known of its bytes
abbrev pub mark_of : Progress → Mark
mark_of reached.Open = InDoubt
mark_of (reached.Ended Done) = Applied
mark_of (reached.Ended Doubt) = InDoubt
mark_of (reached.Ended DoubtOpen) = InDoubt
mark_of other = Untouched

-- the byte that an order has for a place, if it has one: in bank 1 of its unit
abbrev pub byte_for : Contents → ℕ → ℕ → ℕ → Option ℕ
byte_for order address bank location =
    if (order.unit == address) && (bank == 1) then update_at order.updates location else None

-- which bytes a place may hold after an order that has this byte for it, given those that it may hold before
abbrev pub MayHold : Mark → Option ℕ → (ℕ → Type 0) → ℕ → Type 0
MayHold Applied (Some update) before byte = byte ≡ update
MayHold InDoubt (Some update) before byte = before byte ⊎ (byte ≡ update)
MayHold Untouched (Some update) before byte = before byte
MayHold mark None before byte = before byte

-- the byte is possible at a place that held the first one, after these orders
abbrev pub IsPossible : ℕ → ℕ → ℕ → ℕ → List (Contents × Progress) → ℕ → Type 0
IsPossible first address bank location [] byte = byte ≡ first
IsPossible first address bank location (newest ∷ older) byte =
    MayHold (mark_of newest.1) (byte_for newest.0 address bank location)
    (IsPossible first address bank location older) byte

-- the byte after an order of this mark, which has this byte for the place: its own one if it is done
abbrev pub applied_to : Mark → Option ℕ → ℕ → ℕ
applied_to Applied (Some update) before = update
applied_to mark other before = before

-- the first byte of a place, with the done orders applied once each in their order
abbrev pub applied : ℕ → ℕ → ℕ → ℕ → List (Contents × Progress) → ℕ
applied first address bank location [] = first
applied first address bank location (newest ∷ older) =
    applied_to (mark_of newest.1) (byte_for newest.0 address bank location) (applied first address bank location older)

-- whether one byte alone is possible after an order of this mark, which has this byte for the place, given whether
-- one was before
abbrev pub IsCertainAfter : Mark → Option ℕ → Type 0 → Type 0
IsCertainAfter Applied (Some update) before = ⊤
IsCertainAfter InDoubt (Some update) before = ⊥
IsCertainAfter mark other before = before

-- no order in doubt has a byte for the place, but before one that is done and has one
abbrev pub IsCertain : ℕ → ℕ → ℕ → List (Contents × Progress) → Type 0
IsCertain address bank location [] = ⊤
IsCertain address bank location (newest ∷ older) =
    IsCertainAfter (mark_of newest.1) (byte_for newest.0 address bank location) (IsCertain address bank location older)
