-- The answers with older journals, on both sides of each rule.
use Rattle.std.proofs.Common.{◌≡◌, refl, ℕ, List, [], ◌∷◌, Option, None, codes, inl, inr}
use Rattle.std.specs.Prelude.{⊤}
use Rattle.dali_journal.specs.declared.behind.JoinFault.TheVariants as joins
use Rattle.dali_journal.specs.declared.fault.JournalFault.TheVariants as journals
use Rattle.dali_journal.specs.JournalState.{JournalState}
use Rattle.dali_input.specs.declared.fault.InputFault.TheVariants.{Memory, File, TooBig}
use Rattle.dali_input.specs.declared.command_fault.Fault.TheVariants.{Input, Journal, Older}
use Rattle.dali_input.specs.declared.command_fault.Status.TheVariants.{Refused}
use Rattle.dali_link_commands.specs.declared.older.OlderFault.TheVariants.{Unloaded, AtWork, Join}
use Rattle.dali_link_commands.specs.BehindAnswers.{IsBehindNamed}
use Rattle.dali_input.specs.CommandFaults.{status_of, told_line}
use Rattle.dali_link_commands.specs.Older.{AreOne, AreReadAtRest, fault_older, fault_unjoined}

-- a file that is no journal, isn't at rest, or shares a number with another one, is reported as 15 Older
pub told_as_older :
    (fault_older AtWork ≡ Older) × (fault_older (Join (joins.Repeated 1)) ≡ Older)
    × (fault_older (Unloaded (Journal journals.Header)) ≡ Older) × (fault_older (Unloaded (Input TooBig)) ≡ Older)
    × (fault_unjoined (joins.Repeated 1) ≡ Older)
told_as_older = (refl, refl, refl, refl, refl)

-- a file that can't be read, and want of memory, as what they are
pub told_as_file : fault_older (Unloaded (Input File)) ≡ Input File
told_as_file = refl

pub told_as_memory :
    (fault_older (Unloaded (Input Memory)) ≡ Input Memory)
    × (fault_older (Unloaded (Journal journals.NoMemory)) ≡ Input Memory)
    × (fault_older (Join joins.NoMemory) ≡ Input Memory) × (fault_unjoined joins.NoMemory ≡ Input Memory)
told_as_memory = (refl, refl, refl, refl)

pub older_is_refused : (status_of Older ≡ Refused) × (told_line Older ≡ codes "fault 15 Older\n")
older_is_refused = (refl, refl)

-- without names the answer is that without older journals; with names never, and then it may be refused
pub behind_none : IsBehindNamed [] (λ older. older ≡ None) ⊥
behind_none = inl (None, record { owns = []; at_rest = tt; are_one = refl }, refl)

pub none_refused_without_names : IsBehindNamed [] (λ older. ⊥) ⊤ → ⊥
none_refused_without_names (inl (older, joined, never)) = never
none_refused_without_names (inr (some, refused)) = some refl

pub never_behind_none : (known : Option (List ℕ)) → IsBehindNamed (known ∷ []) (λ older. older ≡ None) ⊥ → ⊥
never_behind_none known (inl (older, joined, is)) = none joined.owns joined.at_rest (rw is at joined.are_one) where
  none : (owns : List JournalState) → AreReadAtRest (known ∷ []) owns → AreOne owns None → ⊥
  none [] never one = never
  none (own ∷ owns) read never = never
never_behind_none known (inr (some, never)) = never

pub refused_behind_names : (known : Option (List ℕ)) → IsBehindNamed (known ∷ []) (λ older. ⊥) ⊤
refused_behind_names known = inr (λ none. cc, tt)
