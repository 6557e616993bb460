-- Two journals that are one, in the order in which they are named, and near misses.
use Rattle.std.proofs.Common.{◌≡◌, ◌+◌, refl, ℕ, Bool, length, Option, List, [], ◌∷◌, ◌++◌, Some, None, inl, inr, true, false}
use Rattle.std.proofs.Common.{arith}
use Rattle.std.specs.Borrow.{Bor}
use Rattle.dali_bank.specs.Order.{Contents}
use Rattle.dali_journal.specs.declared.behind.JoinFault.TheVariants.{Repeated, NoMemory}
use Rattle.dali_journal.specs.declared.fault.JournalFault.TheVariants as journals
use Rattle.dali_journal.specs.declared.record.Code.TheVariants.{Done, Silent}
use Rattle.dali_journal.specs.declared.record.Record.{Record}
use Rattle.dali_journal.specs.declared.record.Record.TheVariants.{Began, Ended}
use Rattle.dali_journal.specs.declared.version.Version.{Version}
use Rattle.dali_journal.specs.JournalState.{JournalState}
use Rattle.dali_input.specs.declared.fault.InputFault.TheVariants.{File, Json, Memory, TooBig}
use Rattle.dali_input.specs.declared.command_fault.Fault.TheVariants.{Input, Older}
use Rattle.dali_input.specs.declared.command_fault.Fault.TheVariants as faults
use Rattle.dali_input.specs.JournalInput.{IsJournalIn}
use Rattle.dali_link_commands.specs.declared.older.OlderFault.{OlderFault}
use Rattle.dali_link_commands.specs.declared.older.OlderFault.TheVariants.{Unloaded, Cut, Join}
use Rattle.dali_link_commands.specs.BehindAnswers.{IsOneUnusable, MayBeUnusable}
use Rattle.dali_link_commands.specs.Older.{AreJoined, AreOne, AreReadAtRest, HasJournal, IsReadAtRest}
use Rattle.dali_link_commands.specs.Older.{IsOlderFault, IsUnusable, IsUnusedFor, fault_older, fault_unjoined, held_under}

-- orders 1 and 2, and the journals of each, which are at rest; one of order 1 that is at work
abbrev order : ℕ → Contents
order id = record { id = id; unit = 5; updates = (3, 0x03) ∷ [] }

abbrev journal_of : List Record → JournalState
journal_of records = record { records = records; limit = 10; room = 0; numbers = []; index_room = 0 }

abbrev first : JournalState
first = journal_of (Ended Done ∷ Began (order 1) 7 ∷ [])

abbrev second : JournalState
second = journal_of (Ended Silent ∷ Began (order 2) 8 ∷ [])

abbrev at_work : JournalState
at_work = journal_of (Began (order 1) 7 ∷ [])

-- the later one's records are in front, and none of either is missing
pub one_in_order : AreOne (first ∷ second ∷ []) (Some (journal_of (second.records ++ first.records)))
one_in_order = (refl, refl)

pub not_turned_round : AreOne (first ∷ second ∷ []) (Some (journal_of (first.records ++ second.records))) → ⊥
not_turned_round one = let same = one.0 in cc

pub not_the_last_alone : AreOne (first ∷ second ∷ []) (Some second) → ⊥
not_the_last_alone one = let same = one.0 in cc

pub not_the_first_alone : AreOne (first ∷ second ∷ []) (Some first) → ⊥
not_the_first_alone one = let same = one.0 in cc

-- none if and only if there are none
pub none_of_no_journals : AreOne [] None
none_of_no_journals = refl

pub no_journal_of_none : AreOne [] (Some first) → ⊥
no_journal_of_none is = cc

pub not_none_of_one : AreOne (first ∷ []) None → ⊥
not_none_of_one never = never

-- each is at rest, and each file has its own
pub not_at_work : (known : Option (List ℕ)) → IsReadAtRest known at_work → ⊥
not_at_work known read = let rests = read.rests in cc

pub no_file_without_a_journal : (known : Option (List ℕ)) → AreReadAtRest (known ∷ []) [] → ⊥
no_file_without_a_journal known never = never

pub no_journal_without_a_file : (own : JournalState) → AreReadAtRest [] (own ∷ []) → ⊥
no_journal_without_a_file own never = never

-- The known contents of two files are those of their journals, in the order of their names: the first named is the
-- oldest.
module _ (one other : List ℕ) (version : Version) (loaded : IsJournalIn one first (length one) version)
    (other_loaded : IsJournalIn other second (length other) version) where
  of_first : IsReadAtRest (Some one) first
  of_first = record { bytes = one; version = version; shown = refl; loaded = loaded; rests = refl }

  of_second : IsReadAtRest (Some other) second
  of_second = record { bytes = other; version = version; shown = refl; loaded = other_loaded; rests = refl }

  pub both_named : AreJoined (Some one ∷ Some other ∷ []) (Some (journal_of (second.records ++ first.records)))
  both_named = record { owns = first ∷ second ∷ []; at_rest = (of_first, (of_second, tt)); are_one = (refl, refl) }

-- and of others it says nothing: neither bytes of none nor bytes of another are those of a journal that is known
pub other_bytes_arent_read : (own : JournalState) (read : IsReadAtRest (Some (0x44 ∷ [])) own) → read.bytes ≡ [] → ⊥
other_bytes_arent_read own read none = let shown = read.shown in cc

-- If each of two files has at most the journal of these bytes, it is no one else's: the last alone, the first twice and
-- the first alone are no journal of both.
module _ (one other : List ℕ)
    (is_first : (own : JournalState) → IsReadAtRest (Some one) own → own.records ≡ first.records)
    (is_second : (own : JournalState) → IsReadAtRest (Some other) own → own.records ≡ second.records) where
  records_of_both : (whole : JournalState) → AreJoined (Some one ∷ Some other ∷ []) (Some whole)
      → whole.records ≡ second.records ++ first.records
  records_of_both whole joined = are joined.owns joined.at_rest joined.are_one where
    are : (owns : List JournalState) → AreReadAtRest (Some one ∷ Some other ∷ []) owns → AreOne owns (Some whole)
        → whole.records ≡ second.records ++ first.records
    are [] never is = absurd never
    are (a ∷ []) never is = absurd never.1
    are (a ∷ b ∷ []) at_rest is = cc (is.0, is_first a at_rest.0, is_second b at_rest.1.0)
    are (a ∷ b ∷ c ∷ owns) never is = absurd never.1.1

  pub last_alone_isnt_both : AreJoined (Some one ∷ Some other ∷ []) (Some second) → ⊥
  last_alone_isnt_both joined = let same = records_of_both second joined in cc

  pub first_alone_isnt_both : AreJoined (Some one ∷ Some other ∷ []) (Some first) → ⊥
  first_alone_isnt_both joined = let same = records_of_both first joined in cc

  pub first_twice_isnt_both : AreJoined (Some one ∷ Some other ∷ [])
      (Some (journal_of (first.records ++ first.records))) → ⊥
  first_twice_isnt_both joined = let same = records_of_both (journal_of (first.records ++ first.records)) joined in cc

  pub turned_round_isnt_both : AreJoined (Some one ∷ Some other ∷ [])
      (Some (journal_of (first.records ++ second.records))) → ⊥
  turned_round_isnt_both joined = let same = records_of_both (journal_of (first.records ++ second.records)) joined in cc

-- what is known follows the order of the names
pub known_by_name : (one other : Bor (List ℕ)) → held_under Some (one ∷ other ∷ []) ≡ Some one.now ∷ Some other.now ∷ []
known_by_name one other = refl

-- If the second journal has the number of the first, it can't be used, whatever follows it; that isn't read.
pub number_of_the_first : (one other later : List ℕ) (counted : ℕ) (version : Version)
    → IsReadAtRest (Some one) first → IsJournalIn other first counted version
    → IsOneUnusable (Some one ∷ Some other ∷ Some later ∷ []) Older
number_of_the_first one other later counted version read loaded =
    let joined : AreJoined (Some one ∷ []) (Some first) =
    record { owns = first ∷ []; at_rest = (read, tt); are_one = (refl, refl) } in
    let has : HasJournal other = record { own = first; counted = counted; version = version; loaded = loaded } in
    record {
      earlier = Some one ∷ [];
      known = Some other;
      later = Some later ∷ [];
      are = refl;
      older = Some first;
      joined = joined;
      failed = false;
      failed_now = false;
      unusable = (Join (Repeated 1), refl, inr (other, refl, (has, (refl, refl))));
    }

pub no_number_that_the_first_lacks : (known : Option (List ℕ)) (failed failed_now : Bool)
    → IsUnusedFor (Some first) known failed failed_now (Join (Repeated 2)) → ⊥
no_number_that_the_first_lacks known failed failed_now unusable = grind arith

-- a call that has failed is reported as that, if the store knows that it has
pub failed_to_read : (known : Option (List ℕ)) → IsUnusable (Some first) known false true (Input File)
failed_to_read known = (Unloaded (Input File), refl, inl (File, refl, refl))

pub not_failed_to_read : (known : Option (List ℕ)) → IsUnusedFor None known false false (Unloaded (Input File)) → ⊥
not_failed_to_read known (inl (File, is, failed)) = cc
not_failed_to_read known (inl (_, is, failed)) = cc
not_failed_to_read known (inr (bytes, shown, never)) = never

-- too big is reported of a store that has more than a journal may have
pub too_big_to_read : IsUnusedFor None None false false (Unloaded (Input TooBig))
too_big_to_read = inl (TooBig, refl, (tt, refl))

pub not_too_big_to_read : IsUnusedFor None (Some []) false false (Unloaded (Input TooBig)) → ⊥
not_too_big_to_read (inl (TooBig, is, longer)) = omega (arith, longer.0)
not_too_big_to_read (inl (_, is, failed)) = cc
not_too_big_to_read (inr (bytes, shown, never)) = grind arith

-- an older journal that isn't opened, and what is no fault of one: it isn't read as JSON
pub unopened_is_unusable : (knowns : List (Option (List ℕ))) → MayBeUnusable knowns (Input File)
unopened_is_unusable knowns = inl (File, refl, inl refl)

json_is_not_told : (why : OlderFault) → Input Json ≡ fault_older why → ⊥
json_is_not_told (Unloaded (Input Memory)) is = cc
json_is_not_told (Unloaded (Input File)) is = cc
json_is_not_told (Unloaded (faults.Journal journals.NoMemory)) is = cc
json_is_not_told (Unloaded _) is = cc
json_is_not_told (Join NoMemory) is = cc
json_is_not_told (Join _) is = cc
json_is_not_told _ is = cc

pub json_is_no_older_fault : (knowns : List (Option (List ℕ))) → MayBeUnusable knowns (Input Json) → ⊥
json_is_no_older_fault knowns (inl (failure, is, inl file)) = cc
json_is_no_older_fault knowns (inl (failure, is, inr memory)) = cc
json_is_no_older_fault knowns (inr one) = json_is_not_told one.unusable.0 one.unusable.1

-- a journal whose end is cut can't be used, and a whole one isn't reported as cut
pub cut_is_unusable : (older : Option JournalState) (bytes : List ℕ) (has : HasJournal bytes)
    → has.counted + 1 ≡ length bytes → IsOlderFault older bytes Cut
cut_is_unusable older bytes has cut = (has, λ same. omega (arith, same, cut))

pub whole_is_not_cut : (older : Option JournalState) (bytes : List ℕ)
    → ((has : HasJournal bytes) → has.counted ≡ length bytes) → IsOlderFault older bytes Cut → ⊥
whole_is_not_cut older bytes whole (has, cut) = cut (whole has)

pub cut_is_told_as_older : fault_older Cut ≡ Older
cut_is_told_as_older = refl

-- how it is reported that two journals can't be joined
pub common_number_is_told_as_older : (id : ℕ) → fault_unjoined (Repeated id) ≡ Older
common_number_is_told_as_older id = refl

pub want_of_memory_is_told : fault_unjoined NoMemory ≡ Input Memory
want_of_memory_is_told = refl
