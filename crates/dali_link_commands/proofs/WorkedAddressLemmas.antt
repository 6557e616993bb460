-- How runs of `address` end and are reported, by hand, on both sides of each rule.
use Rattle.std.proofs.Common.{◌≡◌, refl, inl, inr, true, false, ℕ, List, [], ◌∷◌, Option, Some, None, arith, codes}
use Rattle.std.specs.Borrow.{Bor}
use Rattle.dali_address.specs.declared.task.Summary.{Summary}
use Rattle.dali_address.specs.declared.task.Task.{Task}
use Rattle.dali_address.specs.declared.task.Task.TheVariants.{Give}
use Rattle.dali_address.specs.declared.task.Task.TheVariants as tasks
use Rattle.dali_link_commands.specs.declared.address.addressing.End.TheVariants.{Done, Taken}
use Rattle.dali_address.specs.declared.census.CensusEnd.TheVariants.{Apart, Unclear}
use Rattle.dali_drive.specs.Desks.{Look}
use Rattle.dali_drive.specs.Transcript.{Streams}
use Rattle.dali_trace.specs.declared.fault.DriveFault.TheVariants as faults
use Rattle.dali_input.specs.declared.command_fault.Status.{Status}
use Rattle.dali_input.specs.declared.command_fault.Status.TheVariants.{Good, Refused}
use Rattle.dali_link_commands.specs.AddressAnswers.{BreaksRun, EndsRun, TellsBreak, held_named, is_apart}
use Rattle.dali_link_commands.specs.AddressAnswers.{is_left_open, status_at_end}

-- ---- the status

abbrev given_one : Summary
given_one = record { given = 1; missing = 0; shared = 0; «open» = false }

pub well : status_at_end true (Done given_one) ≡ Good
well = refl

pub not_well_with_one_missing : status_at_end true (Done (record given_one { missing = 1 })) ≡ Refused
not_well_with_one_missing = refl

pub not_well_with_one_shared : status_at_end true (Done (record given_one { shared = 1 })) ≡ Refused
not_well_with_one_shared = refl

pub not_well_left_open : status_at_end true (Done (record given_one { «open» = true })) ≡ Refused
not_well_left_open = refl

-- units that a census didn't find apart are no good end
pub not_well_where_not_apart : status_at_end false (Done given_one) ≡ Refused
not_well_where_not_apart = refl

pub apart_alone_is_good : (is_apart (Apart 3) ≡ true) × (is_apart Unclear ≡ false)
apart_alone_is_good = (refl, refl)

pub not_well_where_one_is_taken : status_at_end true (Taken 5) ≡ Refused
not_well_where_one_is_taken = refl

-- ---- a run that broke off

pub list_leaves_none_open : is_left_open tasks.List faults.End ≡ false
list_leaves_none_open = refl

pub others_may : is_left_open Give faults.End ≡ true
others_may = refl

pub nothing_is_told_where_lines_fail : is_left_open Give faults.Out ≡ false
nothing_is_told_where_lines_fail = refl

-- the fault alone isn't all
pub not_without_the_open_line : TellsBreak true faults.End Refused (Some []) (Some (codes "drive fault 4 End\n")) → ⊥
not_without_the_open_line (inl cut) = cc
not_without_the_open_line (inr (lines, opened, told)) = grind arith

-- ---- the journal

pub no_journal_where_none_is_named : (has : List ℕ → Option (List ℕ)) → held_named has None ≡ []
no_journal_where_none_is_named has = refl

pub its_journal_where_one_is_named : (has : List ℕ → Option (List ℕ)) (name : Bor (List ℕ))
    → held_named has (Some name) ≡ has name.now ∷ []
its_journal_where_one_is_named has name = refl

module _ (task : Task) (begun : Streams) (first : Look) (status : Status) (last : Look) where
  -- no store is written
  pub run_and_emptied : EndsRun task None begun first status last → first.streams.journal ≡ Some (1 ∷ [])
      → last.streams.journal ≡ Some [] → ⊥
  run_and_emptied e held put = let same = e.untouched.journal in cc

  pub broken_and_emptied : BreaksRun task None begun first status last → first.streams.journal ≡ Some (1 ∷ [])
      → last.streams.journal ≡ Some [] → ⊥
  broken_and_emptied e held put = let same = e.untouched.journal in cc

  -- a run in which one is missing is refused, or its end wasn't written
  pub missing_and_good : (e : EndsRun task None begun first status last)
      → e.end ≡ Done (record given_one { missing = 1 }) → status ≡ Good → ⊥
  missing_and_good e is good = let told = rw is at e.told in elim told [
    | inl whole ↦ let refused = whole.0 in cc
    | inr cut ↦ let unwritten = cut.0 in cc
  ]
