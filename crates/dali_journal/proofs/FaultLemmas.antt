-- Bytes have one fault at most.
use Rattle.std.proofs.Common.{◌≡◌, ℕ, ◌+◌, ◌-◌, true≢false, List, [], ◌∷◌, ◌++◌, length, drop, refl, sym, ap}
use Rattle.std.proofs.Common.{◌∙◌, subst, arith, length-append, inl, inr}
use Rattle.std.proofs.lemmas.List.{append-nil}
use Rattle.std.specs.Prelude.{◌⊎◌}
use Rattle.dali_journal.specs.declared.record.Record.{Record}
use Rattle.dali_journal.specs.declared.record.Record.TheVariants.{Began}
use Rattle.dali_journal.specs.declared.version.Version.{Version}
use Rattle.dali_journal.specs.declared.fault.JournalFault.{JournalFault}
use Rattle.dali_journal.specs.declared.fault.JournalFault.TheVariants as faults
use Rattle.dali_journal.specs.Sentence.{IsSentence}
use Rattle.dali_journal.specs.Orders.{orders_of}
use Rattle.dali_journal.specs.Spelling.{records_spelling, header, journal_spelling}
use Rattle.dali_journal.specs.Reading.{BeginsWith, IsCutOf}
use Rattle.dali_journal.specs.Decoding.{records_from, records_in}
use Rattle.dali_journal.specs.JournalState.{AreKept}
use Rattle.dali_journal.specs.Loading.{MayNotFollow, IsFault, BytesHaveOneFault}
use Rattle.dali_journal.proofs.PairLemmas.{AreBytes}
use Rattle.dali_journal.proofs.DecodeLemmas.{AreRecords, read_all, enough_bytes}
use Rattle.dali_journal.proofs.PieceLemmas.{bytes-drop}
use Rattle.dali_journal.proofs.TornLemmas.{bytes_back, record_stands, bad_read, stands, older_sentence, older_orders}
use Rattle.dali_journal.proofs.TornLemmas.{behind_header, header_behind, one_version, not_broken}

abbrev IsBad : Version → List ℕ → Type 0
IsBad version rest = (entry : Record) → (¬ BeginsWith version rest entry) × (¬ IsCutOf version rest entry)

-- a fault is of one of two kinds
abbrev Kind : Version → JournalFault → ℕ → ℕ → List Record → List ℕ → Type 0
Kind version fault limit place records rest =
    ((fault ≡ faults.Record place) × IsBad version rest)
    ⊎ ((entry : Record) × BeginsWith version rest entry × MayNotFollow fault limit place records entry)

kind_of : (version : Version) (fault : JournalFault) (limit place : ℕ) (records : List Record) (rest : List ℕ)
    → IsFault version fault limit place records rest
    → Kind version fault limit place records rest
kind_of version (faults.Record at) limit place records rest f = inl (ap faults.Record f.0, f.1)
kind_of version faults.Limit limit place records rest f = inr f
kind_of version faults.Header limit place records rest f = inr f
kind_of version faults.NoMemory limit place records rest f = inr f
kind_of version (faults.Sequence at) limit place records rest f = inr f
kind_of version (faults.Repeated at) limit place records rest f = inr f
kind_of version (faults.Full at) limit place records rest f = inr f

-- bytes in front of what is neither are read as the records in front
bad_records : (version : Version) (bytes : List ℕ) (records : List Record) (rest : List ℕ) → AreBytes bytes
    → AreRecords version records
    → bytes ≡ records_spelling version records ++ rest
    → IsBad version rest → records_in version bytes ≡ records
bad_records version bytes records rest are in_range spelled bad =
    let enough = enough_bytes version records in
    let all = ap length spelled ∙ length-append (records_spelling version records) rest in
    let most : ℕ = length bytes - length records in
    let count : length bytes ≡ length records + most = omega arith in
    let rest_are = bytes_back (records_spelling version records) rest (subst AreBytes spelled are) in
    ap (λ n. records_from version n [] bytes) count ∙ ap (records_from version (length records + most) []) spelled
    ∙ read_all version records most [] rest in_range rest_are
    ∙ ap (λ those. records_from version most those rest) (append-nil records)
    ∙ bad_read version most records rest rest_are bad

-- a record of a journal is none that may not follow
stands_in : (version : Version) (limit place : ℕ) (whole more records : List Record) (entry : Record)
    (fault : JournalFault)
    → AreKept version limit whole → whole ≡ more ++ entry ∷ records
    → MayNotFollow fault limit place records entry → ⊥
stands_in version limit place whole more records entry fault kept same not =
    let few = kept.whole.1 in
    let fewer = ap (λ those. length (orders_of those)) same in
    stands fault limit place records entry (older_sentence more (entry ∷ records) (subst IsSentence same kept.whole.0))
    (let older = older_orders more (entry ∷ records) in omega arith) not

-- two places in one list are the same, or one is before the other
abbrev Places : Record → List Record → Record → List Record → Type 0
Places a ones b twos =
    ((a ≡ b) × (ones ≡ twos))
    ⊎ (((more : List Record) × (twos ≡ more ++ a ∷ ones)) ⊎ ((more : List Record) × (ones ≡ more ++ b ∷ twos)))

places : (ms ns : List Record) (a b : Record) (ones twos : List Record) → ms ++ a ∷ ones ≡ ns ++ b ∷ twos
    → Places a ones b twos
places [] [] a b ones twos e = inl (cc, ap (drop 1) e)
places [] (n ∷ ns) a b ones twos e = inr (inr (ns, ap (drop 1) e))
places (m ∷ ms) [] a b ones twos e = inr (inl (ms, sym (ap (drop 1) e)))
places (m ∷ ms) (n ∷ ns) a b ones twos e = places ms ns a b ones twos (ap (drop 1) e)

-- a record that may not follow, at one place, is one fault
same_fault : (f g : JournalFault) (limit place : ℕ) (records : List Record) (entry : Record)
    → MayNotFollow f limit place records entry
    → MayNotFollow g limit place records entry → f ≡ g
same_fault (faults.Sequence at) (faults.Sequence other) limit place records entry a b =
    ap faults.Sequence (a.0 ∙ sym b.0)
same_fault (faults.Sequence at) (faults.Repeated other) limit place records (Began order moment) a b = absurd (a.1 b.1)
same_fault (faults.Sequence at) (faults.Full other) limit place records (Began order moment) a b = absurd (a.1 b.1)
same_fault (faults.Repeated at) (faults.Sequence other) limit place records (Began order moment) a b = absurd (b.1 a.1)
same_fault (faults.Repeated at) (faults.Repeated other) limit place records (Began order moment) a b =
    ap faults.Repeated (a.0 ∙ sym b.0)
same_fault (faults.Repeated at) (faults.Full other) limit place records (Began order moment) a b =
    absurd (true≢false (sym a.2 ∙ b.2))
same_fault (faults.Full at) (faults.Sequence other) limit place records (Began order moment) a b = absurd (b.1 a.1)
same_fault (faults.Full at) (faults.Repeated other) limit place records (Began order moment) a b =
    absurd (true≢false (sym b.2 ∙ a.2))
same_fault (faults.Full at) (faults.Full other) limit place records (Began order moment) a b =
    ap faults.Full (a.0 ∙ sym b.0)
same_fault faults.Limit g limit place records entry a b = absurd a
same_fault f faults.Limit limit place records entry a b = absurd b
same_fault faults.Header g limit place records entry a b = absurd a
same_fault f faults.Header limit place records entry a b = absurd b
same_fault faults.NoMemory g limit place records entry a b = absurd a
same_fault f faults.NoMemory limit place records entry a b = absurd b
same_fault (faults.Record at) g limit place records entry a b = absurd a
same_fault f (faults.Record at) limit place records entry a b = absurd b
same_fault (faults.Sequence at) _ _ _ _ _ a b = absurd b
same_fault _ _ _ _ _ _ a b = absurd a

abbrev place_behind : Version → List Record → ℕ
place_behind version records = length (journal_spelling version records)

one_of : (version : Version) (limit : ℕ) (bytes : List ℕ) (f g : JournalFault) (ones twos : List Record)
    (rest more : List ℕ)
    → AreBytes bytes
    → AreKept version limit ones → AreKept version limit twos → bytes ≡ records_spelling version ones ++ rest
    → bytes ≡ records_spelling version twos ++ more
    → Kind version f limit (place_behind version ones) ones rest
    → Kind version g limit (place_behind version twos) twos more → f ≡ g
one_of version limit bytes f g ones twos rest more are kept also spelled again (inl a) (inl b) =
    let same : ones ≡ twos =
    sym (bad_records version bytes ones rest are kept.in_range spelled a.1)
    ∙ bad_records version bytes twos more are also.in_range again b.1 in
    a.0 ∙ ap (λ those. faults.Record (place_behind version those)) same ∙ sym b.0
one_of version limit bytes f g ones twos rest more are kept also spelled again (inl a) (inr b) =
    let found = record_stands version limit bytes
    (records_in version bytes) twos more b.0 refl are also.in_range again b.1 in
    absurd (stands_in version limit (place_behind version twos) ones found.0 twos b.0 g kept
    (sym (bad_records version bytes ones rest are kept.in_range spelled a.1) ∙ found.1) b.2)
one_of version limit bytes f g ones twos rest more are kept also spelled again (inr a) (inl b) =
    let found = record_stands version limit bytes
    (records_in version bytes) ones rest a.0 refl are kept.in_range spelled a.1 in
    absurd (stands_in version limit (place_behind version ones) twos found.0 ones a.0 f also
    (sym (bad_records version bytes twos more are also.in_range again b.1) ∙ found.1) a.2)
one_of version limit bytes f g ones twos rest more are kept also spelled again (inr a) (inr b) =
    let first = record_stands version limit bytes
    (records_in version bytes) ones rest a.0 refl are kept.in_range spelled a.1 in
    let second = record_stands version limit bytes
    (records_in version bytes) twos more b.0 refl are also.in_range again b.1 in
    by (places first.0 second.0 a.0 b.0 ones twos (sym first.1 ∙ second.1))
  where
    by : Places a.0 ones b.0 twos → f ≡ g
    by (inl same) =
        same_fault f g limit (place_behind version twos) twos b.0
        (subst (λ those. MayNotFollow f limit (place_behind version those) those b.0) same.1
        (subst (MayNotFollow f limit (place_behind version ones) ones) same.0 a.2))
        b.2
    by (inr (inl before)) = absurd (stands_in version limit
        (place_behind version ones) twos before.0 ones a.0 f also before.1 a.2)
    by (inr (inr behind)) = absurd (stands_in version limit
        (place_behind version twos) ones behind.0 twos b.0 g kept behind.1 b.2)

faults_same : (a b : Version) (limit : ℕ) (bytes : List ℕ) (f g : JournalFault) (ones twos : List Record)
    (rest more : List ℕ)
    → a ≡ b → AreBytes bytes → AreKept a limit ones → AreKept b limit twos
    → bytes ≡ journal_spelling a ones ++ rest → bytes ≡ journal_spelling b twos ++ more
    → IsFault a f limit (place_behind a ones) ones rest → IsFault b g limit (place_behind b twos) twos more → f ≡ g
faults_same a b limit bytes f g ones twos rest more same are kept also spelled again left right =
    let first : bytes ≡ journal_spelling b ones ++ rest =
    subst (λ (v : Version). bytes ≡ journal_spelling v ones ++ rest) same spelled in
    let fault = subst (λ (v : Version). IsFault v f limit (place_behind v ones) ones rest) same left in
    one_of b limit (behind_header b bytes) f g ones twos rest more (bytes-drop (length (header b)) bytes are)
    (subst (λ (v : Version). AreKept v limit ones) same kept) also
    (header_behind b bytes ones rest first) (header_behind b bytes twos more again)
    (kind_of b f limit (place_behind b ones) ones rest fault) (kind_of b g limit (place_behind b twos) twos more right)

pub one_fault : BytesHaveOneFault
one_fault limit bytes f are a = (
  λ g b. faults_same a.version b.version limit bytes f g a.records b.records a.rest b.rest
      (one_version a.version b.version bytes a.of_version b.of_version) are a.kept b.kept a.spelled b.spelled a.behind
      b.behind,
  not_broken a.version bytes a.of_version,
)
