-- For each number the answer is still what is kept of it, after one more record.
use Rattle.std.proofs.Common.{◌≡◌, ℕ, true, false, cond, Bool, nat_eq, List, ◌∷◌, ◌++◌, length, drop, sym}
use Rattle.std.proofs.Common.{ap, ◌∙◌, subst, arith, refl, ◌==◌, length-append, true≢false, Contains}
use Rattle.std.specs.Map.{lookup}
use Rattle.std.proofs.lemmas.Bool.{eqb-true}
use Rattle.std.proofs.lemmas.List.Elements.{All-weaker, All-contains}
use Rattle.dali_journal.specs.declared.record.Code.{Code}
use Rattle.dali_journal.specs.declared.record.Record.{Record}
use Rattle.dali_journal.specs.declared.record.Record.TheVariants.{Began, Opened, Ended, Closed}
use Rattle.dali_journal.specs.declared.standing.Standing.{Standing}
use Rattle.dali_journal.specs.declared.index.IndexEntry.{IndexEntry}
use Rattle.dali_journal.specs.declared.index.IndexEntry.TheVariants as index_entries
use Rattle.dali_journal.specs.declared.settled.Settled.{Settled}
use Rattle.dali_journal.specs.declared.version.Version.TheVariants.{Two}
use Rattle.dali_journal.specs.Sentence.{Allows, standing_of, is_begun, IsNew, IsSentence}
use Rattle.dali_journal.specs.Orders.{kept_of, moment_of}
use Rattle.dali_journal.specs.Spelling.{spelling, IsRecord}
use Rattle.dali_journal.specs.Index.{index_entry, index_entry_after, ended_index_entry, works_on, Agrees, IsSettled}
use Rattle.dali_journal.specs.Index.{IsIndexed}
use Rattle.dali_journal.proofs.BegunLemmas.{begun_told}
use Rattle.dali_journal.proofs.IndexLemmas.{index_entry_next, drop_append}

-- a settled order was begun
pub settled_begun : (bytes : List ℕ) (records : List Record) (index : List (ℕ × IndexEntry)) (one : Settled)
    → IsSettled bytes records index one → is_begun one.id records ≡ true
settled_begun bytes records index one is =
    sym (begun_told one.id bytes (index_entries.Ended one.at one.code) records is.kept)

-- a record changes no answer about an order that was begun, unless it ends one
told_stays : (standing : Standing) (entry : Record) (records : List Record) (at id : ℕ) (known : IndexEntry)
    → IsNew entry records → is_begun id records ≡ true
    → ((code : Code) → ended_index_entry code known ≡ known)
    → index_entry_after standing entry at id known ≡ known
told_stays standing (Began order moment) records at id known new begun stays = by (order.id == id) refl
  where
    by : (test : Bool) → (order.id == id) ≡ test → cond test (index_entries.Begun at) known ≡ known
    by true t = absurd (true≢false (sym begun ∙ ap (λ n. is_begun n records) (sym (eqb-true order.id id t)) ∙ new))
    by false t = refl
told_stays standing (Ended code) records at id known new begun stays = by (works_on standing id)
  where
    by : (test : Bool) → cond test (ended_index_entry code known) known ≡ known
    by true = stays code
    by false = refl
told_stays standing (Opened unit) records at id known new begun stays = refl
told_stays standing (Closed unit) records at id known new begun stays = refl

settled_more : (bytes : List ℕ) (records : List Record) (at : ℕ) (index new_index : List (ℕ × IndexEntry))
    (entry : Record) (one : Settled) → IsSentence records → Allows (standing_of records) entry → IsRecord Two entry
    → IsNew entry records
    → ((id : ℕ)
    → index_entry (lookup (nat_eq id) new_index)
    ≡ index_entry_after (standing_of records) entry at id (index_entry (lookup (nat_eq id) index)))
    → IsSettled bytes records index one → IsSettled (bytes ++ spelling Two entry) (entry ∷ records) new_index one
settled_more bytes records at index new_index entry one s a is new wrote settled =
    let begun = settled_begun bytes records index one settled in
    let ended = index_entries.Ended one.at one.code in
    record {
      kept =
          subst (λ (known : IndexEntry).
          Agrees (bytes ++ spelling Two entry) known (kept_of one.id (entry ∷ records))
          (moment_of one.id (entry ∷ records)))
          (told_stays (standing_of records) entry records (length bytes) one.id ended new begun (λ code. refl))
          (index_entry_next bytes records entry one.id ended is s a settled.kept);
      apart =
          wrote one.id ∙ ap (index_entry_after (standing_of records) entry at one.id) settled.apart
          ∙ told_stays (standing_of records) entry records at one.id index_entries.NotBegun new begun (λ code. refl);
    }

pub indexed_more : (bytes : List ℕ) (records : List Record) (front at : ℕ) (settled : List Settled)
    (index new_index : List (ℕ × IndexEntry)) (entry : Record) → IsIndexed bytes records front settled index
    → IsSentence records → Allows (standing_of records) entry → IsRecord Two entry → IsNew entry records
    → at ≡ length (drop front bytes)
    → ((id : ℕ)
    → index_entry (lookup (nat_eq id) new_index)
    ≡ index_entry_after (standing_of records) entry at id (index_entry (lookup (nat_eq id) index)))
    → IsIndexed (bytes ++ spelling Two entry) (entry ∷ records) front settled new_index
indexed_more bytes records front at settled index new_index entry indexed s a is new there wrote =
    let within = indexed.within in
    record {
      within = (let n = length-append bytes (spelling Two entry) in omega arith);
      past =
          All-weaker (IsSettled bytes records index)
          (IsSettled (bytes ++ spelling Two entry) (entry ∷ records) new_index)
          (λ one. settled_more bytes records at index new_index entry one s a is new wrote) settled indexed.past;
      sorted = indexed.sorted;
      known = λ id none.
          let told = index_entry (lookup (nat_eq id) index) in
          subst (λ (bs : List ℕ).
          Agrees bs (index_entry (lookup (nat_eq id) new_index)) (kept_of id (entry ∷ records))
          (moment_of id (entry ∷ records)))
          (sym (drop_append front bytes (spelling Two entry) within))
          (subst (λ (known : IndexEntry).
          Agrees (drop front bytes ++ spelling Two entry) known (kept_of id (entry ∷ records))
          (moment_of id (entry ∷ records)))
          (ap (λ n. index_entry_after (standing_of records) entry n id told) (sym there) ∙ sym (wrote id))
          (index_entry_next (drop front bytes) records entry id told is s a (indexed.known id none)));
    }

-- another index that tells the same
pub indexed_same : (bytes : List ℕ) (records : List Record) (front : ℕ) (settled : List Settled)
    (index new_index : List (ℕ × IndexEntry)) → IsIndexed bytes records front settled index
    → ((id : ℕ) → index_entry (lookup (nat_eq id) new_index) ≡ index_entry (lookup (nat_eq id) index))
    → IsIndexed bytes records front settled new_index
indexed_same bytes records front settled index new_index indexed same = record {
  within = indexed.within;
  past =
      All-weaker (IsSettled bytes records index) (IsSettled bytes records new_index)
      (λ one is. record { kept = is.kept; apart = same one.id ∙ is.apart }) settled indexed.past;
  sorted = indexed.sorted;
  known = λ id none.
      subst (λ (known : IndexEntry). Agrees (drop front bytes) known (kept_of id records) (moment_of id records))
      (sym (same id)) (indexed.known id none);
}

-- the answer about an order that was found among the settled ones
pub told_settled : (bytes : List ℕ) (records : List Record) (front : ℕ) (settled : List Settled)
    (index : List (ℕ × IndexEntry)) (one : Settled) (id : ℕ) → IsIndexed bytes records front settled index
    → Contains settled one → one.id ≡ id
    → Agrees bytes (index_entries.Ended one.at one.code) (kept_of id records) (moment_of id records)
told_settled bytes records front settled index one id indexed there same =
    subst (λ n. Agrees bytes (index_entries.Ended one.at one.code) (kept_of n records) (moment_of n records)) same
    (All-contains (IsSettled bytes records index) settled one indexed.past there).kept
