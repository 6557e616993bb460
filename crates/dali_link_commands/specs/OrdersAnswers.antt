-- The answers of a command that has a list of orders and streams, and what it writes, whatever it does with the orders:
-- 'answers' says that of the orders that were read, and 'unreported' that nothing was reported.
use Rattle.std.specs.Prelude.{◌≡◌, ◌≢◌, ◌⊎◌, ℕ, List}
use Rattle.std.specs.Io.KnownBytes.{Appends}
use Rattle.dali_bank.specs.Order.{Contents}
use Rattle.dali_input.specs.declared.fault.InputFault.{InputFault}
use Rattle.dali_input.specs.declared.fault.InputFault.TheVariants.{Memory, File}
use Rattle.dali_input.specs.declared.item.ItemFault.{ItemFault}
use Rattle.dali_input.specs.Input.{InputState, IsReadFailure, ReadsInput}
use Rattle.dali_input.specs.Orders.{AreOrdersIn, AreRefusedIn, IsInputFault, orders_limit}
use Rattle.dali_drive.specs.Desks.{Look}
use Rattle.dali_input.specs.declared.command_fault.Fault.{Fault}
use Rattle.dali_input.specs.declared.command_fault.Fault.TheVariants.{Input}
use Rattle.dali_input.specs.declared.command_fault.Status.{Status}
use Rattle.dali_input.specs.declared.command_fault.Status.TheVariants.{Refused, Unwritten}
use Rattle.dali_link_commands.specs.Benches.{IsUndriven}
use Rattle.dali_link_commands.specs.Told.{refused_lines, IsFaultTold}

-- items are refused, and all these are printed
pub record EndsRefused (input : List ℕ) (first : Look) (status : Status) (last : Look) : Type 0 where
  pub refused : List (ℕ × ItemFault)
  pub are_refused : AreRefusedIn input refused
  pub undriven : IsUndriven first last
  pub told : status ≢ Unwritten
      → (status ≡ Refused) × Appends first.streams.out last.streams.out (refused_lines refused)

-- the fault of an input that isn't driven is reported
pub record EndsUndriven (fault : InputFault) (first : Look) (status : Status) (last : Look) : Type 0 where
  pub undriven : IsUndriven first last
  pub told : IsFaultTold (Input fault) status first.streams.out last.streams.out

-- a file isn't read, or there is no memory for it
abbrev pub IsUnread : InputFault → Type 0
IsUnread fault = (fault ≡ File) ⊎ (fault ≡ Memory)

abbrev pub IsUnopened : Fault → Type 0
IsUnopened fault = (failure : InputFault) × (fault ≡ Input failure) × IsUnread failure

module _ (answers : List Contents → Look → Status → Look → Type 0) (unreported : Type 0) (first : Look)
    (status : Status) (last : Look) where
  -- how a command ended over what was read: over the orders that it spells, with refused items, or with no orders at
  -- all
  abbrev pub IsInputAnswer : List ℕ → Type 0
  IsInputAnswer input =
      ((orders : List Contents) × AreOrdersIn input orders × answers orders first status last)
      ⊎ (EndsRefused input first status last × unreported)
      ⊎ ((fault : InputFault) × IsInputFault orders_limit input fault × EndsUndriven fault first status last
      × unreported)

  -- the same by what the reader of the orders had before and has after it
  abbrev pub IsReaderAnswer : InputState → InputState → Type 0
  IsReaderAnswer before after =
      ((input : List ℕ) × ReadsInput orders_limit before after input × IsInputAnswer input)
      ⊎ ((fault : InputFault) × IsReadFailure before after fault × EndsUndriven fault first status last × unreported)

  -- The same of a file of orders, of which nothing is known: of some bytes, or of an input that fails.
  abbrev pub IsFileAnswer : Type 0
  IsFileAnswer =
      ((input : List ℕ) × IsInputAnswer input)
      ⊎ ((fault : InputFault) × IsUnread fault × EndsUndriven fault first status last × unreported)
