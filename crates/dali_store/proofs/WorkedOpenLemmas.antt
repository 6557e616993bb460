-- The journal that the bytes of a small journal load to and the effect of opening them, and near cases that aren't so.
use Rattle.std.proofs.Common.{◌≡◌, inl, inr, refl, arith, ap, ℕ, List, [], ◌∷◌, Some, length}
use Rattle.dali_journal.specs.declared.fault.JournalFault.TheVariants as faults
use Rattle.dali_journal.specs.declared.record.Record.{Record}
use Rattle.dali_journal.specs.declared.record.Record.TheVariants.{Opened, Began}
use Rattle.dali_journal.specs.declared.version.Version.TheVariants.{One, Two}
use Rattle.dali_journal.specs.Spelling.{IsRecord}
use Rattle.dali_journal.specs.JournalState.{AreKept}
use Rattle.dali_journal.specs.Loading.{IsTorn}
use Rattle.dali_journal.proofs.TornLemmas.{torn_no_fault}
use Rattle.dali_store.specs.declared.opening.OpenFault.TheVariants.{Store, Journal}
use Rattle.dali_store.specs.declared.store.StoreFault.TheVariants.{Failed, TooBig, NoMemory}
use Rattle.dali_store.specs.Opened.{Loads, IsOpened, LoadsAlike, StaysAlike, LeavesAlike, IsOpenFault}
use Rattle.dali_store.specs.WorkedStores.{order, begun_at, journal_of, whole, with_cut, bare, old, anew}
use Rattle.dali_store.proofs.OpenLemmas.{whole_loads, kept_two}

-- The journal that bytes load to

is_record : IsRecord Two (Began order 7)
is_record = (
  omega arith,
  omega arith,
  record {
    some = omega arith;
    few = omega arith;
    rising = (omega arith, tt);
    writable = (inl (omega arith, omega arith), tt);
  },
  (omega arith, tt),
  omega arith,
)

is_old_record : IsRecord One (Began order 0)
is_old_record = (is_record.0, is_record.1, is_record.2, is_record.3, refl)

kept : AreKept Two 1 (begun_at 7)
kept = record { in_range = (is_record, tt); whole = ((tt, tt, refl), omega arith) }

old_kept : AreKept One 1 (begun_at 0)
old_kept = record { in_range = (is_old_record, tt); whole = ((tt, tt, refl), omega arith) }

none_kept : AreKept Two 1 []
none_kept = record { in_range = tt; whole = (tt, omega arith) }

pub whole_is : Loads 1 (begun_at 7) whole
whole_is = whole_loads 1 (begun_at 7) kept

cut_torn : IsTorn Two with_cut (begun_at 7) (length whole)
cut_torn = record {
  rest = 79 ∷ [];
  spelled = refl;
  cut = (Opened 5, (omega arith, 5 ∷ [], (λ none. cc), refl));
  counts = refl;
}

pub cut_is : Loads 1 (begun_at 7) with_cut
cut_is = record { version = Two; len = length whole; kept = kept; loadable = cut_torn }

pub old_is : Loads 1 (begun_at 0) old
old_is = record {
  version = One;
  len = length old;
  kept = old_kept;
  loadable = record {
    rest = [];
    spelled = refl;
    cut = (Opened 5, (omega arith, 79 ∷ 5 ∷ [], (λ none. cc), refl));
    counts = refl;
  };
}

pub anew_is : Loads 1 (begun_at 0) anew
anew_is = whole_loads 1 (begun_at 0) (kept_two One 1 (begun_at 0) old_kept)

pub bare_is : Loads 1 [] bare
bare_is = whole_loads 1 [] none_kept

pub none_is : Loads 1 [] []
none_is = record { version = Two; len = 0; kept = none_kept; loadable = (refl, refl, refl) }

-- of no other records
pub one_load : (bytes : List ℕ) (records others : List Record) → Loads 1 records bytes → Loads 1 others bytes
    → others ≡ records
one_load bytes records others one other =
    ((torn_no_fault 1 bytes one.version records one.len one.kept one.loadable).2 other.version others other.len
    other.kept other.loadable).1

pub not_of_fewer : Loads 1 [] with_cut → ⊥
not_of_fewer loads = let same = one_load with_cut (begun_at 7) [] cut_is loads in cc

-- Bytes of the same records

pub cut_alike_whole : LoadsAlike 1 (Some with_cut) whole
cut_alike_whole = (begun_at 7, cut_is, whole_is)

pub old_alike_anew : LoadsAlike 1 (Some old) anew
old_alike_anew = (begun_at 0, old_is, anew_is)

pub none_alike_bare : LoadsAlike 1 (Some []) bare
none_alike_bare = ([], none_is, bare_is)

-- two ways to load them
not_alike : (bytes c : List ℕ) (one other : List Record) → Loads 1 one bytes → Loads 1 other c
    → LoadsAlike 1 (Some bytes) c → one ≡ other
not_alike bytes c one other is also (records, first, second) =
    let a = one_load bytes one records is first in let b = one_load c other records also second in cc

pub not_alike_fewer : LoadsAlike 1 (Some with_cut) bare → ⊥
not_alike_fewer alike = let same = not_alike with_cut bare (begun_at 7) [] cut_is bare_is alike in cc

pub not_alike_none : LoadsAlike 1 (Some with_cut) [] → ⊥
not_alike_none alike = let same = not_alike with_cut [] (begun_at 7) [] cut_is none_is alike in cc

pub not_alike_at_another_moment : LoadsAlike 1 (Some old) whole → ⊥
not_alike_at_another_moment alike = let same = not_alike old whole (begun_at 0) (begun_at 7) old_is whole_is alike in cc

pub stays_alike : StaysAlike 1 (Some with_cut) (Some whole) × (StaysAlike 1 (Some with_cut) (Some bare) → ⊥)
stays_alike = (cut_alike_whole, not_alike_fewer)

pub leaves_alike : LeavesAlike 1 (Some with_cut) (λ c. c ≡ bare) bare
    × LeavesAlike 1 (Some with_cut) (λ c. c ≡ bare) whole
leaves_alike = (inl refl, inr cut_alike_whole)

pub leaves_no_fewer : LeavesAlike 1 (Some with_cut) (λ c. c ≡ with_cut) bare → ⊥
leaves_no_fewer (inl before) = omega (arith, ap (λ (l : List ℕ). length l) before)
leaves_no_fewer (inr alike) = not_alike_fewer alike

-- The journal that is opened

pub cut_opened : IsOpened 1 100 (Some with_cut) (journal_of (begun_at 7))
cut_opened = record {
  version = Two;
  counted = length whole;
  total = length with_cut;
  found = record {
    bytes = with_cut;
    shown = refl;
    within = omega arith;
    total_is = refl;
    loaded = (refl, kept, cut_torn);
  };
}

found_shown : (f : IsOpened 1 100 (Some with_cut) (journal_of [])) → Loads 1 [] with_cut
found_shown f = rw f.found.shown record {
  version = f.version;
  len = f.counted;
  kept = f.found.loaded.1;
  loadable = f.found.loaded.2;
}

pub not_opened_as_none : IsOpened 1 100 (Some with_cut) (journal_of []) → ⊥
not_opened_as_none opened = not_of_fewer (found_shown opened)

pub not_opened_past_the_limit : IsOpened 1 25 (Some with_cut) (journal_of (begun_at 7)) → ⊥
not_opened_past_the_limit opened =
    let shown = ap (λ (l : List ℕ). length l) opened.found.shown in omega (arith, opened.found.within, shown)

-- Why none is opened

pub failed_with_the_same_records : IsOpenFault 1 100 (Some with_cut) (Some with_cut) (Store Failed)
    × IsOpenFault 1 100 (Some with_cut) (Some whole) (Store Failed)
failed_with_the_same_records = (inl refl, inr cut_alike_whole)

pub failed_with_no_fewer : IsOpenFault 1 100 (Some with_cut) (Some bare) (Store Failed) → ⊥
failed_with_no_fewer (inl keeps) = omega (arith, ap (λ (l : List ℕ). length l) keeps)
failed_with_no_fewer (inr alike) = not_alike_fewer alike

pub nothing_changed_without_memory : IsOpenFault 1 100 (Some with_cut) (Some with_cut) (Store NoMemory)
    × (IsOpenFault 1 100 (Some with_cut) (Some whole) (Store NoMemory) → ⊥)
nothing_changed_without_memory = (refl, λ keeps. omega (arith, ap (λ (l : List ℕ). length l) keeps))

pub too_big_past_the_limit : IsOpenFault 1 25 (Some with_cut) (Some with_cut) (Store TooBig)
    × (IsOpenFault 1 26 (Some with_cut) (Some with_cut) (Store TooBig) → ⊥)
too_big_past_the_limit = ((omega arith, refl), λ fault. let longer = fault.0 in omega (arith, longer))

pub broken_header_told : IsOpenFault 1 100 (Some (0x44 ∷ [])) (Some (0x44 ∷ [])) (Journal faults.Header)
broken_header_told =
    ((0x44 ∷ [], refl, omega arith, (omega arith, (([], refl), λ is. let same = is.1 in cc))), refl)

pub not_told_of_a_journal : IsOpenFault 1 100 (Some with_cut) (Some with_cut) (Journal faults.Header) → ⊥
not_told_of_a_journal ((bytes, shown, within, (limit, broken)), keeps) =
    (torn_no_fault 1 with_cut Two (begun_at 7) (length whole) kept cut_torn).1 (rw shown broken)

pub not_told_with_changed_bytes : IsOpenFault 1 100 (Some (0x44 ∷ [])) (Some []) (Journal faults.Header) → ⊥
not_told_with_changed_bytes fault = let keeps = fault.1 in cc
