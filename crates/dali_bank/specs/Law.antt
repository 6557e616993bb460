-- The laws of fields, banks and updates.
use Rattle.std.specs.Prelude.{◌≡◌, ◌≢◌, ◌⊎◌, ◌↔◌, ℕ, List, Some, length, replicate}
use Rattle.std.specs.List.{Contains}
use Rattle.std.specs.Str.Parse.{digits_value}
use Rattle.dali_bank.specs.declared.field.Field.{Field}
use Rattle.dali_bank.specs.declared.shown.Shown.{Shown}
use Rattle.dali_bank.specs.declared.shown.Shown.TheVariants as shown
use Rattle.dali_bank.specs.Spelling.{Plain, unknown, number, digits, hex, text, AreFieldBytes}
use Rattle.dali_bank.specs.Shown.{IsShown, part_of}
use Rattle.dali_bank.specs.Order.{RisesAbove, update_at}

-- a value and its bytes, shown as that value: but digits as their number, and an identification of all FFh as unknown
abbrev pub ShowsPlain : Plain → List ℕ → Shown → Type 0
ShowsPlain unknown bytes answer = answer ≡ shown.Unknown
ShowsPlain (number n) bytes answer = answer ≡ shown.Number n
ShowsPlain (digits s) bytes answer = answer ≡ shown.Number (digits_value 10 s)
ShowsPlain (hex s) bytes answer =
    ((bytes ≢ replicate (length bytes) 0xFF) × (answer ≡ shown.Hex))
    ⊎ ((bytes ≡ replicate (length bytes) 0xFF) × (answer ≡ shown.Unknown))
ShowsPlain (text s) bytes answer = answer ≡ shown.Text (length s)

-- the bytes of a value, laid in a bank at the field's place, are shown as that value
abbrev pub SetValuesAreShown : Type 0
SetValuesAreShown =
    (field : Field) (value : Plain) (bytes bank : List ℕ) → AreFieldBytes field value bytes → part_of field bank ≡ bytes
    → (answer : Shown) × IsShown bank field answer × ShowsPlain value bytes answer

-- a field of a bank is shown in one way
abbrev pub IsShownOnce : Type 0
IsShownOnce =
    (field : Field) (bank : List ℕ) (one other : Shown) → IsShown bank field one → IsShown bank field other
    → one ≡ other

-- the byte that rising updates have for a location is the one that is among them with it
abbrev pub UpdatesAreFound : Type 0
UpdatesAreFound =
    (updates : List (ℕ × ℕ)) (location byte : ℕ) → RisesAbove 0 updates
    → (update_at updates location ≡ Some byte) ↔ Contains updates (location, byte)
