-- Orders that aren't driven, by hand: refused items, and inputs that are none; and near misses.
use Rattle.std.proofs.Common.{◌≡◌, refl, subst, inl, inr, ℕ, List, [], ◌∷◌, Some, false, arith}
use Rattle.dali_input.specs.declared.fault.InputFault.{InputFault}
use Rattle.dali_input.specs.declared.fault.InputFault.TheVariants.{Memory, File, TooBig, Json}
use Rattle.dali_input.specs.declared.item.ItemFault.{ItemFault}
use Rattle.dali_input.specs.declared.item.ItemFault.TheVariants.{Shape, Key}
use Rattle.dali_input.specs.Orders.{AreRefusedIn}
use Rattle.dali_drive.specs.Desks.{Look}
use Rattle.dali_input.specs.declared.command_fault.Fault.TheVariants.{Input}
use Rattle.dali_input.specs.declared.command_fault.Status.{Status}
use Rattle.dali_input.specs.declared.command_fault.Status.TheVariants.{Good, Refused}
use Rattle.dali_input.specs.CommandFaults.{told_line}
use Rattle.dali_link_commands.specs.Benches.{with_lines}
use Rattle.dali_link_commands.specs.OrdersAnswers.{EndsRefused, EndsUndriven, IsUnread}
use Rattle.dali_link_commands.specs.Told.{refused_lines}
use Rattle.dali_link_commands.proofs.WorkedBenchLemmas.{before, heard, kept, sent, unsettled, heard_is_driven}
use Rattle.dali_link_commands.proofs.WorkedBenchLemmas.{kept_is_driven, sent_is_driven, unsettled_is_driven}

-- ---- refused items

abbrev two_refused : List (ℕ × ItemFault)
two_refused = (1, Shape) ∷ (3, Key) ∷ []

-- the lines of all of them are printed
pub both_told : (input : List ℕ) → AreRefusedIn input two_refused
    → EndsRefused input before Refused (with_lines before (Some (refused_lines two_refused)) false)
both_told input are =
    record { refused = two_refused; are_refused = are; undriven = assumption; told = λ written. (refl, refl) }

-- and those of no others
pub others_told : (input : List ℕ) (status : Status) (last : Look) (e : EndsRefused input before status last)
    → (AreRefusedIn input two_refused → ⊥) → e.refused ≡ two_refused → ⊥
others_told input status last e never is = never (subst (AreRefusedIn input) is e.are_refused)

pub none_told : (input : List ℕ) (last : Look) (e : EndsRefused input before Refused last)
    → last.streams.out ≡ Some [] → e.refused ≡ two_refused → ⊥
none_told input last e out is = let lines = rw (out, is) at ((e.told (λ same. cc)).1) in cc

pub refused_is_no_good_end : (input : List ℕ) (last : Look) → EndsRefused input before Good last → ⊥
refused_is_no_good_end input last e = cc ((e.told (λ same. cc)).0)

-- nothing was sent, read or kept, and a stop leaves no less
pub refused_and_sent : (input : List ℕ) (status : Status) → EndsRefused input before status sent → ⊥
refused_and_sent input status e = sent_is_driven e.undriven

pub refused_and_heard : (input : List ℕ) (status : Status) → EndsRefused input before status heard → ⊥
refused_and_heard input status e = heard_is_driven e.undriven

pub refused_and_kept : (input : List ℕ) (status : Status) → EndsRefused input before status kept → ⊥
refused_and_kept input status e = kept_is_driven e.undriven

pub refused_and_unsettled : (input : List ℕ) (status : Status) → EndsRefused input before status unsettled → ⊥
refused_and_unsettled input status e = unsettled_is_driven e.undriven

-- ---- an input that is none

pub too_big_told : EndsUndriven TooBig before Refused (with_lines before (Some (told_line (Input TooBig))) false)
too_big_told =
    record { undriven = assumption; told = (told_line (Input TooBig), refl, λ written. (refl, refl)) }

pub too_big_is_no_good_end : (last : Look) → EndsUndriven TooBig before Good last → ⊥
too_big_is_no_good_end last e = cc ((e.told.2 (λ same. cc)).0)

pub undriven_and_sent : (fault : InputFault) (status : Status) → EndsUndriven fault before status sent → ⊥
undriven_and_sent fault status e = sent_is_driven e.undriven

-- ---- a file that isn't read

pub unread_files : IsUnread File × IsUnread Memory
unread_files = (inl refl, inr refl)

pub too_big_was_read : IsUnread TooBig → ⊥
too_big_was_read read = grind arith

pub json_was_read : IsUnread Json → ⊥
json_was_read read = grind arith
