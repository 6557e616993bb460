-- A store's bytes as a journal.
use Rattle.std.proofs.Common.{◌≡◌, ◌≢◌, ◌≤◌, ◌<◌, ◌^◌, inl, inr, ⊎_elim, refl, sym, ap, ◌∙◌, subst}
use Rattle.std.proofs.Common.{ℕ, List, [], ◌∷◌, ◌++◌}
use Rattle.std.proofs.Common.{Option, Some, None, length, take, arith}
use Rattle.std.proofs.lemmas.List.{append_assoc, append-nil, take_at}
use Rattle.std.specs.List.{AllByRecursion}
use Rattle.dali_journal.specs.declared.record.Record.{Record}
use Rattle.dali_journal.specs.declared.record.Record.TheVariants.{Began, Opened, Ended, Closed}
use Rattle.dali_journal.specs.declared.record.Code.TheVariants.{Done}
use Rattle.dali_journal.specs.declared.version.Version.{Version}
use Rattle.dali_journal.specs.declared.version.Version.TheVariants.{One, Two}
use Rattle.dali_journal.specs.Spelling.{spelling, journal_spelling, IsRecord}
use Rattle.dali_journal.specs.Reading.{IsCutOf}
use Rattle.dali_journal.specs.JournalState.{JournalState, AreKept}
use Rattle.dali_journal.specs.Loading.{IsTorn, IsLoadable}
use Rattle.dali_store.specs.Stores.{Shows, Becomes, AreFirst, IsBehind, MayAlso, Elapses, LeavesOnly}
use Rattle.dali_store.specs.Opened.{Loads, IsFound, LoadsAlike, StaysAlike, LeavesAlike}
use Rattle.dali_store.proofs.Moments.{started, goes_on}

-- records of version 1 may be written in version 2
two_of_one : (entry : Record) → IsRecord One entry → IsRecord Two entry
two_of_one (Began order moment) is =
    let least : moment < 2 ^ 64 = omega (arith, is.4) in (is.0, is.1, is.2, is.3, least)
two_of_one (Opened unit) is = is
two_of_one (Ended code) is = is
two_of_one (Closed unit) is = is

all_two : (records : List Record) → AllByRecursion (IsRecord One) records → AllByRecursion (IsRecord Two) records
all_two [] all = tt
all_two (entry ∷ records) all = (two_of_one entry all.0, all_two records all.1)

pub kept_two : (version : Version) (limit : ℕ) (records : List Record) → AreKept version limit records
    → AreKept Two limit records
kept_two One limit records kept = record { in_range = all_two records kept.in_range; whole = kept.whole }
kept_two Two limit records kept = kept

cut_of_none : (last : Record) × IsCutOf Two [] last
cut_of_none = (Ended Done, (tt, spelling Two (Ended Done), (λ e. cc), refl))

pub whole_loads : (limit : ℕ) (records : List Record) → AreKept Two limit records
    → Loads limit records (journal_spelling Two records)
whole_loads limit records kept = record {
  version = Two;
  len = length (journal_spelling Two records);
  kept = kept;
  loadable = record {
    rest = [];
    spelled = sym (append-nil (journal_spelling Two records));
    cut = cut_of_none;
    counts = refl;
  };
}

-- of two ways to split bytes, the shorter front begins the longer one
pub split_front : (a b c d : List ℕ) → a ++ b ≡ c ++ d → length a ≤ length c
    → (m : List ℕ) × (c ≡ a ++ m) × (b ≡ m ++ d)
split_front [] b c d same less = (c, refl, same)
split_front (x ∷ a) b [] d same less = absurd (omega (arith, less))
split_front (x ∷ a) b (y ∷ c) d same less =
    let head : y ≡ x = cc in
    let tail : a ++ b ≡ c ++ d = cc in
    let below : length a ≤ length c = omega (arith, less) in
    let r = split_front a b c d tail below in (r.0, (λ i. head i ∷ r.1 i), r.2)

not_none : (rest more : List ℕ) → more ≢ [] → rest ++ more ≢ []
not_none [] more some = some
not_none (x ∷ rest) more some = λ e. cc

-- bytes that aren't none
not_bare : (bytes : List ℕ) (records : List Record) (len : ℕ) → IsTorn Two bytes records len
    → IsLoadable Two bytes records len
not_bare [] records len torn = let same = torn.spelled in cc
not_bare (x ∷ bytes) records len torn = torn

-- a first part of a torn journal with all that counts is one of the same records
pub front_loads : (limit : ℕ) (records : List Record) (bytes c rest : List ℕ) (len : ℕ) → AreKept Two limit records
    → IsTorn Two bytes records len → len ≤ length c → bytes ≡ c ++ rest → Loads limit records c
front_loads limit records bytes c rest len kept torn long same =
    let last = torn.cut.0 in
    let cut = torn.cut.1 in
    let front : length (journal_spelling Two records) ≤ length c = subst (λ (n : ℕ). n ≤ length c) torn.counts long in
    let s = split_front (journal_spelling Two records) torn.rest c rest (sym torn.spelled ∙ same) front in
    record {
      version = Two;
      len = len;
      kept = kept;
      loadable = not_bare c records len (record {
        rest = s.0;
        spelled = s.1;
        cut = (
          last,
          (
            cut.0,
            rest ++ cut.1,
            not_none rest cut.1 cut.2,
            cut.3 ∙ ap (λ (l : List ℕ). l ++ cut.1) s.2 ∙ append_assoc s.0 rest cut.1,
          ),
        );
        counts = torn.counts;
      });
    }

-- bytes that aren't none
torn_of : (bytes : List ℕ) (records : List Record) (len : ℕ) → bytes ≢ [] → IsLoadable Two bytes records len
    → IsTorn Two bytes records len
torn_of [] records len some is = absurd (some refl)
torn_of (x ∷ bytes) records len some is = is

not_empty : (bytes : List ℕ) (total : ℕ) → total ≡ length bytes → total ≢ 0 → bytes ≢ []
not_empty bytes total is some none = some (is ∙ ap (λ (l : List ℕ). length l) none)

module _ (limit most : ℕ) (seen : Option (List ℕ)) (journal : JournalState) where
  pub found_loads : (version : Version) (counted total : ℕ) (f : IsFound limit most seen journal version counted total)
      → Loads limit journal.records f.bytes
  found_loads version counted total f =
      record { version = version; len = counted; kept = f.loaded.1; loadable = f.loaded.2 }

  pub found_kept : (version : Version) (counted total : ℕ) → IsFound limit most seen journal version counted total
      → AreKept Two limit journal.records
  found_kept version counted total f = kept_two version limit journal.records f.loaded.1

  pub found_torn : (counted total : ℕ) (f : IsFound limit most seen journal Two counted total) → total ≢ 0
      → IsTorn Two f.bytes journal.records counted
  found_torn counted total f some =
      torn_of f.bytes journal.records counted (not_empty f.bytes total f.total_is some) f.loaded.2

pub alike : (limit : ℕ) (seen : Option (List ℕ)) (records : List Record) (bytes c : List ℕ) → Shows seen bytes
    → Loads limit records bytes → Loads limit records c → LoadsAlike limit seen c
alike limit None records bytes c shown one other = tt
alike limit (Some known) records bytes c shown one other =
    (records, subst (Loads limit records) (sym shown) one, other)

pub stays : (limit : ℕ) (seen new : Option (List ℕ)) (records : List Record) (bytes c : List ℕ) → Shows seen bytes
    → Loads limit records bytes → Loads limit records c → Becomes seen new c → StaysAlike limit seen new
stays limit seen None records bytes c shown one other becomes = tt
stays limit None (Some now) records bytes c shown one other becomes = tt
stays limit (Some known) (Some now) records bytes c shown one other becomes =
    alike limit (Some known) records bytes now shown one (subst (Loads limit records) (sym becomes) other)

-- the bytes after a journal that is shown
behind_alike : (limit : ℕ) (seen : Option (List ℕ)) (records : List Record) (bytes : List ℕ) (len : ℕ)
    → Shows seen bytes → Loads limit records bytes → AreKept Two limit records → IsTorn Two bytes records len
    → (c : List ℕ) → IsBehind len seen c → LoadsAlike limit seen c
behind_alike limit None records bytes len shown one kept torn c is = tt
behind_alike limit (Some known) records bytes len shown one kept torn c (long, rest, same) =
    alike limit (Some known) records bytes c shown one
    (front_loads limit records bytes c rest len kept torn long (sym shown ∙ same))

pub also_alike : (limit : ℕ) (seen : Option (List ℕ)) (was now Q : List ℕ → Type 0)
    → ((c : List ℕ) → Q c → LoadsAlike limit seen c) → MayAlso Q was now → (c : List ℕ) → now c
    → LeavesAlike limit seen was c
also_alike limit seen was now Q so also c left = ⊎_elim (λ old. inl old) (λ new. inr (so c new)) (also c left)

-- one call from the beginning
module _ {S : Type 0} (moment : S → ℕ) (left_since : S → ℕ → List ℕ → Type 0) where
  pub one_call : (old new : S) (P now : List ℕ → Type 0) → ((c : List ℕ) → left_since old (moment old) c → P c)
      → Elapses (moment old) (moment new) (left_since old) (left_since new) now → ((c : List ℕ) → now c → P c)
      → LeavesOnly moment left_since old new P
  one_call old new P now here time then =
      goes_on moment left_since old old new P now (started moment left_since old P here) time then

  -- and one after it, after which a stop leaves no more
  pub two_calls : (old mid new : S) (P between now : List ℕ → Type 0)
      → ((c : List ℕ) → left_since old (moment old) c → P c)
      → Elapses (moment old) (moment mid) (left_since old) (left_since mid) between → ((c : List ℕ) → between c → P c)
      → Elapses (moment mid) (moment new) (left_since mid) (left_since new) now → ((c : List ℕ) → now c → between c)
      → LeavesOnly moment left_since old new P
  two_calls old mid new P between now here first so second no_more =
      goes_on moment left_since old mid new P now (one_call old mid P between here first so) second
      (λ c left. so c (no_more c left))

-- a cut to what counts

pub cut_becomes : (seen new : Option (List ℕ)) (records : List Record) (bytes : List ℕ) (len : ℕ) → Shows seen bytes
    → IsTorn Two bytes records len → AreFirst len seen new → Becomes seen new (journal_spelling Two records)
cut_becomes None new records bytes len shown torn first = tt
cut_becomes (Some known) None records bytes len shown torn first = absurd first
cut_becomes (Some known) (Some now) records bytes len shown torn first =
    first ∙ ap (λ (l : List ℕ). take len l) (shown ∙ torn.spelled)
    ∙ take_at (journal_spelling Two records) torn.rest len (sym torn.counts)

pub behind_found : (limit most : ℕ) (seen : Option (List ℕ)) (journal : JournalState) (counted total : ℕ)
    → IsFound limit most seen journal Two counted total → total ≢ 0
    → (c : List ℕ) → IsBehind counted seen c → LoadsAlike limit seen c
behind_found limit most seen journal counted total f some =
    behind_alike limit seen journal.records f.bytes counted f.shown
    (found_loads limit most seen journal Two counted total f)
    (found_kept limit most seen journal Two counted total f) (found_torn limit most seen journal counted total f some)

pub alike_found : (limit most : ℕ) (seen : Option (List ℕ)) (journal : JournalState) (version : Version)
    (counted total : ℕ) → IsFound limit most seen journal version counted total
    → (c : List ℕ) → c ≡ journal_spelling Two journal.records → LoadsAlike limit seen c
alike_found limit most seen journal version counted total f c is =
    alike limit seen journal.records f.bytes c f.shown (found_loads limit most seen journal version counted total f)
    (subst (Loads limit journal.records) (sym is)
    (whole_loads limit journal.records (found_kept limit most seen journal version counted total f)))

pub stays_found : (limit most : ℕ) (seen new : Option (List ℕ)) (journal : JournalState) (version : Version)
    (counted total : ℕ) → IsFound limit most seen journal version counted total
    → Becomes seen new (journal_spelling Two journal.records) → StaysAlike limit seen new
stays_found limit most seen new journal version counted total f becomes =
    stays limit seen new journal.records f.bytes (journal_spelling Two journal.records) f.shown
    (found_loads limit most seen journal version counted total f)
    (whole_loads limit journal.records (found_kept limit most seen journal version counted total f)) becomes

pub cut_found : (limit most : ℕ) (seen new last : Option (List ℕ)) (journal : JournalState)
    (counted total : ℕ) (f : IsFound limit most seen journal Two counted total) → total ≢ 0
    → AreFirst counted seen new → last ≡ new → Becomes seen last (journal_spelling Two journal.records)
cut_found limit most seen new last journal counted total f some first same =
    subst (λ (l : Option (List ℕ)). Becomes seen l (journal_spelling Two journal.records)) (sym same)
    (cut_becomes seen new journal.records f.bytes counted f.shown
    (found_torn limit most seen journal counted total f some) first)

pub not_zero : (counted total : ℕ) → counted < total → total ≢ 0
not_zero counted total less none = omega (arith, less, none)
