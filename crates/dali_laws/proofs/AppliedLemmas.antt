-- A place that no order leaves in doubt holds one byte alone.
use Rattle.std.proofs.Common.{◌≡◌, refl, ap, ◌∙◌, ℕ, true, List, [], ◌∷◌, Option, Some, None, is_some}
use Rattle.dali_bank.specs.Order.{Contents}
use Rattle.dali_bus.specs.World.{World, byte_at}
use Rattle.dali_journal.specs.declared.record.Record.{Record}
use Rattle.dali_journal.specs.declared.kept.Progress.{Progress}
use Rattle.dali_journal.specs.Orders.{orders_of}
use Rattle.dali_trace.specs.Possible.{Mark, Applied, Untouched, InDoubt, mark_of, byte_for, MayHold, IsPossible}
use Rattle.dali_trace.specs.Possible.{IsCertainAfter, IsCertain, applied_to, applied}
use Rattle.dali_trace.specs.Fits.{Fits, IsApplied}

-- after one order more one byte alone is possible
settled : (mark : Mark) (found : Option ℕ) (before : ℕ → Type 0) (sole : Type 0) (byte one : ℕ)
    → IsCertainAfter mark found sole → (sole → before byte → byte ≡ one)
    → MayHold mark found before byte → byte ≡ applied_to mark found one
settled Applied (Some update) before sole byte one is only may = may
settled Applied None before sole byte one is only may = only is may
settled Untouched (Some update) before sole byte one is only may = only is may
settled Untouched None before sole byte one is only may = only is may
settled InDoubt (Some update) before sole byte one is only may = absurd is
settled InDoubt None before sole byte one is only may = only is may

is_applied : (first address bank location byte : ℕ) (orders : List (Contents × Progress))
    → IsCertain address bank location orders
    → IsPossible first address bank location orders byte → byte ≡ applied first address bank location orders
is_applied first address bank location byte [] is possible = possible
is_applied first address bank location byte (newest ∷ older) is possible =
    settled (mark_of newest.1) (byte_for newest.0 address bank location) (IsPossible first address bank location older)
    (IsCertain address bank location older) byte (applied first address bank location older) is
    (λ sole may. is_applied first address bank location byte older sole may) possible

-- there is a byte if there is some
byte_there : (found : Option ℕ) → is_some found ≡ true → (byte : ℕ) × (found ≡ Some byte)
byte_there None some = cc
byte_there (Some byte) some = (byte, refl)

pub fits_applied : (zero : World) (records : List Record) (lost : List ℕ) (now : World) → Fits zero records lost now
    → IsApplied zero records now
fits_applied zero records lost now fits = λ address bank location first lock was is.
    let there = byte_there (byte_at now address bank location) (fits.places address bank location ∙ ap is_some was) in
    let possible = fits.bytes address bank location first there.0 lock was there.1 in
    there.1 ∙ ap Some (is_applied first address bank location there.0 (orders_of records) is possible)
