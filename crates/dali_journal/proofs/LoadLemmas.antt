-- One step of a load.
use Rattle.std.proofs.Common.{refl, ◌≡◌, ℕ, List, ◌++◌, length, drop, subst}
use Rattle.std.proofs.Common.{◌+◌, ◌≤◌, ◌∷◌, sym, ap, ◌∙◌, arith, append_assoc, length-append, length-drop}
use Rattle.std.proofs.Math.Seq.{drop-append_seam}
use Rattle.std.proofs.lemmas.List.{drop-drop}
use Rattle.dali_journal.specs.declared.record.Record.{Record}
use Rattle.dali_journal.specs.declared.fault.JournalFault.{JournalFault}
use Rattle.dali_journal.specs.declared.fault.JournalFault.TheVariants as faults
use Rattle.dali_journal.specs.Spelling.{spelling, records_spelling, header, journal_spelling, IsRecord}
use Rattle.dali_journal.specs.declared.version.Version.{Version}
use Rattle.dali_journal.specs.declared.version.Version.TheVariants.{Two}
use Rattle.dali_journal.specs.Sentence.{IsSentenceWithin}
use Rattle.dali_journal.specs.Reading.{BeginsWith}
use Rattle.dali_journal.specs.JournalState.{JournalState, HoldsOrders, IsJournal, AreKept}
use Rattle.dali_journal.specs.Loading.{HasVersion, MayNotFollow, IsRecordRefused, IsFault, HasFault, IsLoadFault}
use Rattle.dali_journal.specs.Loading.{JournalsLoadAgain}
use Rattle.dali_journal.proofs.DecodeLemmas.{AreRecords}

-- a fault after records that are kept
behind_records : (version : Version) (limit : ℕ) (bytes : List ℕ) (records : List Record) (rest : List ℕ)
    (fault : JournalFault)
    → HasVersion version bytes → bytes ≡ journal_spelling version records ++ rest → AreKept version limit records
    → IsFault version fault limit (length (journal_spelling version records)) records rest → HasFault limit bytes fault
behind_records version limit bytes records rest fault v s k f =
    record { version = version; of_version = v; records = records; rest = rest; spelled = s; kept = k; behind = f }

-- a record that may not follow is a fault of the bytes
pub fault_of : (version : Version) (fault : JournalFault) (limit : ℕ) (bytes : List ℕ) (records : List Record)
    (rest : List ℕ) (at : ℕ) (entry : Record)
    → HoldsOrders limit → HasVersion version bytes → bytes ≡ journal_spelling version records ++ rest
    → at ≡ length (journal_spelling version records) → AreKept version limit records
    → BeginsWith version rest entry → IsRecordRefused fault limit at records entry
    → IsLoadFault HoldsOrders limit bytes fault
fault_of version faults.Limit limit bytes records rest at entry i v s p k b f = absurd f
fault_of version faults.NoMemory limit bytes records rest at entry i v s p k b f = i
fault_of version faults.Header limit bytes records rest at entry i v s p k b f = absurd f
fault_of version (faults.Record place) limit bytes records rest at entry i v s p k b f = absurd f
fault_of version (faults.Sequence place) limit bytes records rest at entry i v s p k b f = (
  i,
  behind_records version limit bytes records rest (faults.Sequence place) v s k
      (entry, b, subst (λ n. MayNotFollow (faults.Sequence place) limit n records entry) p f),
)
fault_of version (faults.Repeated place) limit bytes records rest at entry i v s p k b f = (
  i,
  behind_records version limit bytes records rest (faults.Repeated place) v s k
      (entry, b, subst (λ n. MayNotFollow (faults.Repeated place) limit n records entry) p f),
)
fault_of version (faults.Full place) limit bytes records rest at entry i v s p k b f = (
  i,
  behind_records version limit bytes records rest (faults.Full place) v s k
      (entry, b, subst (λ n. MayNotFollow (faults.Full place) limit n records entry) p f),
)

-- one more record is taken from the bytes after a journal's
pub one_taken : (version : Version) (records new : List Record) (whole rest : List ℕ) (front at len : ℕ)
    (entry : Record)
    → whole ≡ journal_spelling version records ++ drop at rest
    → front + at ≡ length (journal_spelling version records)
    → at ≤ length rest → BeginsWith version (drop at rest) entry → len ≡ length (spelling version entry)
    → new ≡ entry ∷ records
    → (whole ≡ journal_spelling version new ++ drop (at + len) rest)
    × (front + (at + len) ≡ length (journal_spelling version new)) × (at + len ≤ length rest)
one_taken version records new whole rest front at len entry s place within begins long more =
    let older : List ℕ = journal_spelling version records in
    let behind : drop (at + len) rest ≡ begins.1 =
    sym (drop-drop len at rest) ∙ (λ j. drop (long j) (begins.2 j))
    ∙ drop-append_seam (spelling version entry) begins.1 in
    let all : journal_spelling version new ≡ older ++ spelling version entry =
    ap (journal_spelling version) more
    ∙ sym (append_assoc (header version) (records_spelling version records) (spelling version entry)) in (
      s ∙ ap (λ bs. older ++ bs) begins.2 ∙ sym (append_assoc older (spelling version entry) begins.1)
          ∙ (λ j. sym all j ++ sym behind j),
      (let n = ap length all ∙ length-append older (spelling version entry) in omega arith),
      (let n = ap length begins.2 ∙ length-append (spelling version entry) begins.1 in
          let left = length-drop at rest in omega arith),
    )

-- one record more is kept
pub kept_more : (version : Version) (limit : ℕ) (journal : JournalState) (records : List Record) (entry : Record)
    → IsJournal journal → journal.limit ≡ limit → journal.records ≡ entry ∷ records → IsRecord version entry
    → AreKept version limit records → AreKept version limit journal.records
kept_more version limit journal records entry is same more in_range kept = record {
  in_range = subst (λ (rs : List Record). AreRecords version rs) (sym more) (in_range, kept.in_range);
  whole = subst (λ (most : ℕ). IsSentenceWithin most journal.records) same is.kept.whole;
}

-- a journal's records are those of a journal with its limit
pub journal_kept : (journal : JournalState) (limit : ℕ) → IsJournal journal → journal.limit ≡ limit
    → AreKept Two limit journal.records
journal_kept journal limit is same = subst (λ (most : ℕ). AreKept Two most journal.records) same is.kept

-- the bytes of a journal, with a cut record after them, load again
pub loads_again : JournalsLoadAgain
loads_again journal last cut is torn = (
  is.limited,
  journal_kept journal journal.limit is refl,
  record { rest = cut; spelled = refl; cut = (last, torn); counts = refl },
)
