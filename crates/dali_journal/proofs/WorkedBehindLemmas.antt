-- A journal of one order after an older one, and near cases that are no such journal.
use Rattle.std.proofs.Common.{◌≡◌, refl, List, [], ◌∷◌, ◌++◌, Some, None, inl, true, false, arith}
use Rattle.dali_bank.specs.Order.{Contents}
use Rattle.dali_journal.specs.declared.behind.JoinFault.TheVariants.{Repeated, NoMemory}
use Rattle.dali_journal.specs.declared.kept.Kept.TheVariants as kepts
use Rattle.dali_journal.specs.declared.record.Code.TheVariants.{Done, Silent}
use Rattle.dali_journal.specs.declared.record.Record.{Record}
use Rattle.dali_journal.specs.declared.record.Record.TheVariants.{Began, Opened, Ended}
use Rattle.dali_journal.specs.declared.standing.Standing.TheVariants.{Idle}
use Rattle.dali_journal.specs.declared.version.Version.TheVariants.{Two}
use Rattle.dali_journal.specs.Behind.{IsJoinFault}
use Rattle.dali_journal.specs.JournalState.{AreKept}
use Rattle.dali_journal.specs.Orders.{kept_of, moment_of}
use Rattle.dali_journal.specs.Sentence.{standing_of, is_begun, IsSentence}
use Rattle.dali_journal.specs.Spelling.{IsRecord}
use Rattle.dali_journal.proofs.BehindLemmas.{stand_alone, older_kept}

abbrev first_order : Contents
first_order = record { id = 1; unit = 5; updates = (3, 0x03) ∷ [] }

abbrev second_order : Contents
second_order = record { id = 2; unit = 6; updates = (4, 0x11) ∷ [] }

-- an order that was opened and is at work; the same, ended: older records that are at rest
abbrev at_work : List Record
at_work = Opened 5 ∷ Began first_order 7 ∷ []

abbrev older : List Record
older = Ended Done ∷ at_work

-- the records after them
abbrev own : List Record
own = Ended Silent ∷ Began second_order 8 ∷ []

first_is_record : IsRecord Two (Began first_order 7)
first_is_record = (
  omega arith,
  omega arith,
  record {
    some = omega arith;
    few = omega arith;
    rising = (omega arith, tt);
    writable = (inl (omega arith, omega arith), tt);
  },
  (omega arith, tt),
  omega arith,
)

second_is_record : IsRecord Two (Began second_order 8)
second_is_record = (
  omega arith,
  omega arith,
  record {
    some = omega arith;
    few = omega arith;
    rising = (omega arith, tt);
    writable = (inl (omega arith, omega arith), tt);
  },
  (omega arith, tt),
  omega arith,
)

-- ---- all of them are a journal's

pub both_are_kept : AreKept Two 2 (own ++ older)
both_are_kept = record {
  in_range = (tt, (second_is_record, (tt, (omega arith, (first_is_record, tt)))));
  whole = ((((((tt, tt, refl), refl, tt), tt, tt), tt, refl), tt, tt), omega arith);
}

pub no_more_than_the_limit : AreKept Two 1 (own ++ older) → ⊥
no_more_than_the_limit kept = let few = kept.whole.1 in omega (arith, few)

-- after one order that is at rest the others have one less, and those alone are within that
pub own_are_kept_alone : AreKept Two 1 own
own_are_kept_alone = (stand_alone Two 1 own older refl both_are_kept).0

pub own_are_within_no_less : AreKept Two 0 own → ⊥
own_are_within_no_less kept = let few = kept.whole.1 in omega (arith, few)

-- ---- what is kept of each number

pub older_one_is_kept :
    (kept_of 1 (own ++ older) ≡ kepts.Ended first_order Done) × (moment_of 1 (own ++ older) ≡ Some 7)
older_one_is_kept = (refl, refl)

pub own_one_is_kept :
    (kept_of 2 (own ++ older) ≡ kepts.Ended second_order Silent) × (moment_of 2 (own ++ older) ≡ Some 8)
own_one_is_kept = (refl, refl)

pub no_other_is_kept : (kept_of 3 (own ++ older) ≡ kepts.Absent) × (moment_of 3 (own ++ older) ≡ None)
no_other_is_kept = (refl, refl)

-- none is begun again
pub older_one_is_no_own_one : is_begun 1 own ≡ false
older_one_is_no_own_one = ((older_kept Two 2 own older 1 refl both_are_kept).0 refl).0

pub older_number_begun_again : AreKept Two 9 (Began first_order 9 ∷ older) → ⊥
older_number_begun_again kept = let new : true ≡ false = kept.whole.0.2 in cc

-- ---- older ones that aren't at rest

-- the records after them are no journal by themselves, and an empty list doesn't have their standing
pub ended_behind_one_at_work : IsSentence (Ended Done ∷ at_work) × (IsSentence (Ended Done ∷ []) → ⊥)
ended_behind_one_at_work = ((((tt, tt, refl), refl, tt), tt, tt), λ alone. alone.1)

pub nothing_behind_one_at_work : standing_of ([] ++ at_work) ≡ standing_of [] → ⊥
nothing_behind_one_at_work same = cc

pub nothing_behind_one_at_rest : standing_of ([] ++ older) ≡ Idle
nothing_behind_one_at_rest = refl

-- ---- why two are none together

pub begun_in_both : IsJoinFault (Repeated 1) (Began first_order 9 ∷ own) older
begun_in_both = (refl, refl)

pub begun_in_the_older_alone : IsJoinFault (Repeated 1) own older → ⊥
begun_in_the_older_alone fault = let begun : false ≡ true = fault.0 in cc

pub begun_in_the_newer_alone : IsJoinFault (Repeated 2) own older → ⊥
begun_in_the_newer_alone fault = let begun : false ≡ true = fault.1 in cc

pub begun_in_none : IsJoinFault (Repeated 3) own older → ⊥
begun_in_none fault = let begun : false ≡ true = fault.0 in cc

pub memory_may_be_wanted : IsJoinFault NoMemory own older
memory_may_be_wanted = tt
