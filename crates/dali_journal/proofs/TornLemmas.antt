-- Bytes are the torn journal of one list of records, and then they have no fault.
use Rattle.std.proofs.Common.{◌≡◌, ℕ, zero, suc, ◌+◌, ◌-◌, ◌≤◌, List, [], ◌∷◌, ◌++◌, length, drop, refl, sym}
use Rattle.std.proofs.Common.{ap, ◌∙◌, ◌≢◌, subst, arith, get_or, append_assoc, length-append, true≢false}
use Rattle.std.proofs.lemmas.List.{append-nil, append_cancel_left}
use Rattle.std.proofs.Math.Seq.{drop-append_seam}
use Rattle.dali_journal.specs.declared.record.Record.{Record}
use Rattle.dali_journal.specs.declared.record.Record.TheVariants.{Began, Opened, Ended, Closed}
use Rattle.dali_journal.specs.declared.version.Version.{Version}
use Rattle.dali_journal.specs.declared.version.Version.TheVariants.{One, Two}
use Rattle.dali_journal.specs.declared.read.Piece.{Piece}
use Rattle.dali_journal.specs.declared.read.Piece.TheVariants.{Whole, Cut, Bad}
use Rattle.dali_journal.specs.declared.fault.JournalFault.{JournalFault}
use Rattle.dali_journal.specs.declared.fault.JournalFault.TheVariants as faults
use Rattle.dali_journal.specs.Sentence.{IsSentence}
use Rattle.dali_journal.specs.Orders.{orders_of}
use Rattle.dali_journal.specs.Spelling.{spelling, records_spelling, header, journal_spelling}
use Rattle.dali_journal.specs.Reading.{IsRead, BeginsWith, IsCutOf}
use Rattle.dali_journal.specs.Decoding.{piece_of, read_further, records_from, records_in}
use Rattle.dali_journal.specs.JournalState.{AreKept}
use Rattle.dali_journal.specs.Loading.{HasVersion, HasBrokenHeader, HasFault, IsLoadFault, IsLoadableWithin, IsTorn}
use Rattle.dali_journal.specs.Loading.{MayNotFollow, IsFault, TornHasNoFault}
use Rattle.dali_journal.proofs.PairLemmas.{AreBytes}
use Rattle.dali_journal.proofs.PieceLemmas.{reads-piece_of, bytes-append}
use Rattle.dali_journal.proofs.SpellingLemmas.{records_same, letter_of, letter_at}
use Rattle.dali_journal.proofs.DecodeLemmas.{AreRecords, spelling_bytes, records_bytes, none, read_one, read_all}
use Rattle.dali_journal.proofs.DecodeLemmas.{enough_bytes, some_bytes}
use Rattle.dali_journal.proofs.JournalLemmas.{orders_more}

-- the front of bytes are bytes
pub bytes_front : (bytes more : List ℕ) → AreBytes (bytes ++ more) → AreBytes bytes
bytes_front [] more are = tt
bytes_front (byte ∷ bytes) more are = (are.0, bytes_front bytes more are.1)

-- and so is the back
pub bytes_back : (bytes more : List ℕ) → AreBytes (bytes ++ more) → AreBytes more
bytes_back [] more are = are
bytes_back (byte ∷ bytes) more are = bytes_back bytes more are.1

-- a cut record is read as cut
cut_bytes : (version : Version) (bytes : List ℕ) (last : Record) → IsCutOf version bytes last → AreBytes bytes
cut_bytes version bytes last cut = bytes_front bytes cut.1 (subst AreBytes cut.3 (spelling_bytes version last cut.0))

-- bytes that are cut off a record begin with none
cut_whole : (version : Version) (bytes : List ℕ) (last entry : Record) → IsCutOf version bytes last
    → BeginsWith version bytes entry → ⊥
cut_whole version bytes last entry cut begins =
    let whole = cut.3 ∙ ap (λ bs. bs ++ cut.1) begins.2 ∙ append_assoc (spelling version entry) begins.1 cut.1 in
    let same : last ≡ entry =
    records_same version last entry [] (begins.1 ++ cut.1) cut.0 begins.0
    (append-nil (spelling version last) ∙ whole) in
    let long = ap length (sym (ap (spelling version) same) ∙ whole)
    ∙ length-append (spelling version entry) (begins.1 ++ cut.1) in
    cut.2 (none cut.1 (let l = length-append begins.1 cut.1 in omega arith))

cut_read : (version : Version) (most : ℕ) (older : List Record) (bytes : List ℕ) (last : Record)
    → IsCutOf version bytes last
    → records_from version most older bytes ≡ older
cut_read version zero older bytes last cut = refl
cut_read version (suc most) older bytes last cut =
    by (piece_of version bytes) (reads-piece_of version bytes (cut_bytes version bytes last cut))
  where
    by : (piece : Piece) → IsRead version bytes piece
        → read_further piece older (λ entry len. records_from version most (entry ∷ older) (drop len bytes)) ≡ older
    by (Whole entry len) reads = absurd (cut_whole version bytes last entry cut reads.0)
    by Cut reads = refl
    by Bad reads = refl

-- bytes after a header: those of the records, and after them a proper front of some record's
pub record Torn (version : Version) (bytes : List ℕ) (records : List Record) : Type 0 where
  pub rest : List ℕ
  pub spelled : bytes ≡ records_spelling version records ++ rest
  pub cut : (last : Record) × IsCutOf version rest last

-- the records of a torn journal are those that its bytes begin with
pub torn_read : (version : Version) (bytes : List ℕ) (records : List Record) → AreRecords version records
    → Torn version bytes records
    → records_in version bytes ≡ records
torn_read version bytes records are torn =
    let enough = enough_bytes version records in
    let all = ap length torn.spelled ∙ length-append (records_spelling version records) torn.rest in
    let most : ℕ = length bytes - length records in
    let count : length bytes ≡ length records + most = omega arith in
    ap (λ n. records_from version n [] bytes) count
    ∙ ap (records_from version (length records + most) []) torn.spelled
    ∙ read_all version records most [] torn.rest are (cut_bytes version torn.rest torn.cut.0 torn.cut.1)
    ∙ ap (λ those. records_from version most those torn.rest) (append-nil records)
    ∙ cut_read version most records torn.rest torn.cut.0 torn.cut.1

-- what is read goes in front of what was there
read_more : (version : Version) (most : ℕ) (older : List Record) (bytes : List ℕ)
    → (more : List Record) × (records_from version most older bytes ≡ more ++ older)
read_more version zero older bytes = ([], refl)
read_more version (suc most) older bytes =
    by (piece_of version bytes) (λ entry len. read_more version most (entry ∷ older) (drop len bytes))
  where
    by : (piece : Piece)
        → ((entry : Record) (len : ℕ)
        → (more : List Record) × (records_from version most (entry ∷ older) (drop len bytes) ≡ more ++ entry ∷ older))
        → (more : List Record)
        × (read_further piece older (λ entry len. records_from version most (entry ∷ older) (drop len bytes)) ≡ more
        ++ older)
    by (Whole entry len) next =
        let n = next entry len in (n.0 ++ entry ∷ [], n.1 ∙ sym (append_assoc n.0 (entry ∷ []) older))
    by Cut next = ([], refl)
    by Bad next = ([], refl)

-- the older records of a sentence are a sentence, and there are no more orders in them
pub older_sentence : (more records : List Record) → IsSentence (more ++ records) → IsSentence records
older_sentence [] records s = s
older_sentence (entry ∷ more) records s = older_sentence more records s.0

pub older_orders : (more records : List Record) → length (orders_of records) ≤ length (orders_of (more ++ records))
older_orders [] records = omega arith
older_orders (entry ∷ more) records = omega (arith, older_orders more records, orders_more (more ++ records) entry)

-- a record of a sentence may follow the ones before it
pub stands : (fault : JournalFault) (limit place : ℕ) (records : List Record) (entry : Record)
    → IsSentence (entry ∷ records)
    → length (orders_of (entry ∷ records)) ≤ limit → MayNotFollow fault limit place records entry → ⊥
stands (faults.Sequence at) limit place records entry s few not = not.1 s.1
stands (faults.Repeated at) limit place records (Began order moment) s few not = true≢false (sym not.2 ∙ s.2)
stands (faults.Full at) limit place records (Began order moment) s few not =
    let full = not.3 in let more = orders_more records (Began order moment) in omega arith
stands _ limit place records entry s few not = absurd not

-- if a record comes after records, a torn journal of these bytes has it
pub record_stands : (version : Version) (limit : ℕ) (bytes : List ℕ) (records others : List Record) (rest : List ℕ)
    (entry : Record)
    → records_in version bytes ≡ records → AreBytes bytes
    → AreRecords version others → bytes ≡ records_spelling version others ++ rest → BeginsWith version rest entry
    → (more : List Record) × (records ≡ more ++ entry ∷ others)
record_stands version limit bytes records others rest entry read are in_range spelled begins =
    let enough = enough_bytes version others in
    let some = some_bytes version entry in
    let all = ap length spelled ∙ length-append (records_spelling version others) rest in
    let long = ap length begins.2 ∙ length-append (spelling version entry) begins.1 in
    let most : ℕ = length bytes - length others - 1 in
    let count : length bytes ≡ length others + suc most = omega arith in
    let rest_are = bytes_back (records_spelling version others) rest (subst AreBytes spelled are) in
    let behind_are = bytes_back (spelling version entry) begins.1 (subst AreBytes begins.2 rest_are) in
    let found = read_more version most (entry ∷ others) begins.1 in (
      found.0,
      sym read ∙ ap (λ n. records_from version n [] bytes) count
          ∙ ap (records_from version (length others + suc most) []) spelled
          ∙ read_all version others (suc most) [] rest in_range rest_are
          ∙ ap (λ those. records_from version (suc most) those rest) (append-nil others)
          ∙ ap (records_from version (suc most) others) begins.2
          ∙ read_one version most others entry begins.1 begins.0 behind_are
          ∙ found.1,
    )

torn_bytes : (version : Version) (bytes : List ℕ) (records : List Record) → AreRecords version records
    → Torn version bytes records
    → AreBytes bytes
torn_bytes version bytes records are torn =
    subst AreBytes (sym torn.spelled)
    (bytes-append (records_spelling version records) torn.rest (records_bytes version records are)
    (cut_bytes version torn.rest torn.cut.0 torn.cut.1))

pub bad_read : (version : Version) (most : ℕ) (older : List Record) (bytes : List ℕ) → AreBytes bytes
    → ((entry : Record) → (¬ BeginsWith version bytes entry) × (¬ IsCutOf version bytes entry))
    → records_from version most older bytes ≡ older
bad_read version zero older bytes are bad = refl
bad_read version (suc most) older bytes are bad = by (piece_of version bytes) (reads-piece_of version bytes are)
  where
    by : (piece : Piece) → IsRead version bytes piece
        → read_further piece older (λ entry len. records_from version most (entry ∷ older) (drop len bytes)) ≡ older
    by (Whole entry len) reads = absurd ((bad entry).0 reads.0)
    by Cut reads = refl
    by Bad reads = refl

-- if the rest is neither a record nor a cut one, the bytes are no torn journal
bad_not_torn : (version : Version) (bytes : List ℕ) (records others : List Record) (rest : List ℕ)
    → AreRecords version records
    → Torn version bytes records → AreRecords version others
    → bytes ≡ records_spelling version others ++ rest
    → ((entry : Record) → (¬ BeginsWith version rest entry) × (¬ IsCutOf version rest entry))
    → ⊥
bad_not_torn version bytes records others rest are torn in_range spelled bad =
    let enough = enough_bytes version others in
    let all = ap length spelled ∙ length-append (records_spelling version others) rest in
    let most : ℕ = length bytes - length others in
    let count : length bytes ≡ length others + most = omega arith in
    let rest_are =
    bytes_back (records_spelling version others) rest
    (subst AreBytes spelled (torn_bytes version bytes records are torn)) in
    let read =
    ap (λ n. records_from version n [] bytes) count ∙ ap (records_from version (length others + most) []) spelled
    ∙ read_all version others most [] rest in_range rest_are
    ∙ ap (λ those. records_from version most those rest) (append-nil others)
    ∙ bad_read version most others rest rest_are bad in
    let same : records ≡ others = sym (torn_read version bytes records are torn) ∙ read in
    let rests : torn.rest ≡ rest =
    append_cancel_left (records_spelling version others) torn.rest rest
    (ap (λ those. records_spelling version those ++ torn.rest) (sym same) ∙ sym torn.spelled ∙ spelled) in
    (bad torn.cut.0).1 (subst (λ bs. IsCutOf version bs torn.cut.0) rests torn.cut.1)

no_record : (version : Version) (limit : ℕ) (bytes : List ℕ) (records : List Record) → AreKept version limit records
    → Torn version bytes records
    → (fault : JournalFault) (others : List Record) (rest : List ℕ) (place : ℕ) → AreKept version limit others
    → bytes ≡ records_spelling version others ++ rest
    → (entry : Record) → BeginsWith version rest entry → MayNotFollow fault limit place others entry → ⊥
no_record version limit bytes records kept torn fault others rest place before spelled entry begins not =
    let found = record_stands version limit bytes records others rest entry
    (torn_read version bytes records kept.in_range torn)
    (torn_bytes version bytes records kept.in_range torn) before.in_range spelled begins in
    let few = kept.whole.1 in
    let fewer = ap (λ those. length (orders_of those)) found.1 in
    stands fault limit place others entry
    (older_sentence found.0 (entry ∷ others) (subst IsSentence found.1 kept.whole.0))
    (let older = older_orders found.0 (entry ∷ others) in omega arith) not

no_fault : (version : Version) (limit : ℕ) (bytes : List ℕ) (records : List Record) → AreKept version limit records
    → Torn version bytes records
    → (fault : JournalFault) (others : List Record) (rest : List ℕ) (place : ℕ) → AreKept version limit others
    → bytes ≡ records_spelling version others ++ rest
    → IsFault version fault limit place others rest → ⊥
no_fault version limit bytes records kept torn (faults.Record at) others rest place before spelled behind =
    bad_not_torn version bytes records others rest kept.in_range torn before.in_range spelled behind.1
no_fault version limit bytes records kept torn faults.Limit others rest place before spelled behind = absurd behind.2
no_fault version limit bytes records kept torn faults.Header others rest place before spelled behind = absurd behind.2
no_fault version limit bytes records kept torn faults.NoMemory others rest place before spelled behind = absurd behind.2
no_fault version limit bytes records kept torn (faults.Sequence at) others rest place before spelled behind =
    no_record version limit bytes records kept torn (faults.Sequence at) others rest place before spelled behind.0
    behind.1 behind.2
no_fault version limit bytes records kept torn (faults.Repeated at) others rest place before spelled behind =
    no_record version limit bytes records kept torn (faults.Repeated at) others rest place before spelled behind.0
    behind.1 behind.2
no_fault version limit bytes records kept torn (faults.Full at) others rest place before spelled behind =
    no_record version limit bytes records kept torn (faults.Full at) others rest place before spelled behind.0
    behind.1 behind.2

-- The header

-- the bytes after the header
abbrev pub behind_header : Version → List ℕ → List ℕ
behind_header version bytes = drop (length (header version)) bytes

pub header_behind : (version : Version) (bytes : List ℕ) (records : List Record) (rest : List ℕ)
    → bytes ≡ journal_spelling version records ++ rest
    → behind_header version bytes ≡ records_spelling version records ++ rest
header_behind version bytes records rest spelled =
    ap (behind_header version) (spelled ∙ append_assoc (header version) (records_spelling version records) rest)
    ∙ drop-append_seam (header version) (records_spelling version records ++ rest)

pub torn_behind : (version : Version) (bytes : List ℕ) (records : List Record) (len : ℕ)
    → IsTorn version bytes records len
    → Torn version (behind_header version bytes) records
torn_behind version bytes records len torn = record {
  rest = torn.rest;
  spelled = header_behind version bytes records torn.rest torn.spelled;
  cut = torn.cut;
}

-- bytes have one version
pub one_version : (a b : Version) (bytes : List ℕ) → HasVersion a bytes → HasVersion b bytes → a ≡ b
one_version One One bytes one other = refl
one_version Two Two bytes one other = refl
one_version One Two bytes one other = absurd (one.3 (ap (λ bs. get_or bs 0 0) (sym one.2 ∙ other.1)))
one_version Two One bytes one other = absurd (other.3 (ap (λ bs. get_or bs 0 0) (sym other.2 ∙ one.1)))

pub not_broken : (version : Version) (bytes : List ℕ) → HasVersion version bytes → ¬ HasBrokenHeader bytes
not_broken One bytes one broken = one.3 (ap (λ bs. get_or bs 0 0) (sym one.2 ∙ broken.0.1))
not_broken Two bytes two broken = broken.1 two

-- no letter of a record is that of the header
letter_apart : (entry : Record) → letter_of entry ≢ 0x44
letter_apart (Began order moment) e = omega arith
letter_apart (Opened unit) e = omega arith
letter_apart (Ended code) e = omega arith
letter_apart (Closed unit) e = omega arith

-- if there are bytes, they don't begin as the header does
abbrev IsOld : List ℕ → Type 0
IsOld bytes = (first : ℕ) (behind : List ℕ) → bytes ≡ first ∷ behind → first ≢ 0x44

record_old : (entry : Record) (rest : List ℕ) → IsOld (spelling One entry ++ rest)
record_old entry rest first behind same is =
    letter_apart entry (sym (letter_at One entry rest) ∙ ap (λ bs. get_or bs 0 0) same ∙ is)

cut_old : (rest : List ℕ) (last : Record) → IsCutOf One rest last → IsOld rest
cut_old rest last cut first behind same is =
    letter_apart last
    (sym (letter_at One last []) ∙ ap (λ bs. get_or bs 0 0)
    (append-nil (spelling One last) ∙ cut.3 ∙ ap (λ bs. bs ++ cut.1) same) ∙ is)

records_old : (records : List Record) (rest : List ℕ) → IsOld rest → IsOld (records_spelling One records ++ rest)
records_old [] rest old = old
records_old (newest ∷ older) rest old =
    subst IsOld (sym (append_assoc (records_spelling One older) (spelling One newest) rest))
    (records_old older (spelling One newest ++ rest) (record_old newest rest))

-- the version of bytes that a journal is loaded from
pub torn_version : (version : Version) (first : ℕ) (bytes : List ℕ) (records : List Record) (len : ℕ)
    → IsTorn version (first ∷ bytes) records len → HasVersion version (first ∷ bytes)
torn_version One first bytes records len torn = (
  first,
  bytes,
  refl,
  records_old records torn.rest (cut_old torn.rest torn.cut.0 torn.cut.1) first bytes
      (sym torn.spelled),
)
torn_version Two first bytes records len torn = (
  records_spelling Two records ++ torn.rest,
  torn.spelled ∙ append_assoc (header Two) (records_spelling Two records) torn.rest,
)

torn_faultless : (limit : ℕ) (version : Version) (first : ℕ) (bytes : List ℕ) (records : List Record) (len : ℕ)
    → AreKept version limit records → IsTorn version (first ∷ bytes) records len → (fault : JournalFault)
    → (other : Version) → version ≡ other → (others : List Record) (rest : List ℕ)
    → first ∷ bytes ≡ journal_spelling other others ++ rest → AreKept other limit others
    → IsFault other fault limit (length (journal_spelling other others)) others rest → ⊥
torn_faultless limit version first bytes records len kept torn fault other same others rest spelled before behind =
    let there = subst (λ (v : Version). Torn v (behind_header v (first ∷ bytes)) records) same
    (torn_behind version (first ∷ bytes) records len torn) in
    no_fault other limit (behind_header other (first ∷ bytes)) records
    (subst (λ (v : Version). AreKept v limit records) same kept) there fault others rest
    (length (journal_spelling other others)) before (header_behind other (first ∷ bytes) others rest spelled) behind

torn_same : (limit : ℕ) (version : Version) (first : ℕ) (bytes : List ℕ) (records : List Record) (len : ℕ)
    → AreKept version limit records → IsTorn version (first ∷ bytes) records len
    → (other : Version) → version ≡ other → (others : List Record) (count : ℕ)
    → AreKept other limit others → IsTorn other (first ∷ bytes) others count
    → (other ≡ version) × (others ≡ records) × (count ≡ len)
torn_same limit version first bytes records len kept torn other same others count before again =
    let all : List ℕ = first ∷ bytes in
    let there = torn_behind other all others count again in
    let here = subst (λ (v : Version). Torn v (behind_header v all) records) same
    (torn_behind version all records len torn) in
    let kept_too = subst (λ (v : Version). AreKept v limit records) same kept in
    let records_is : others ≡ records =
    sym (torn_read other (behind_header other all) others before.in_range there)
    ∙ torn_read other (behind_header other all) records kept_too.in_range here in (
      sym same,
      records_is,
      again.counts ∙ (λ j. length (journal_spelling (sym same j) (records_is j))) ∙ sym torn.counts,
    )

empty_faultless : (limit : ℕ) (fault : JournalFault) → ¬ HasFault limit [] fault
empty_faultless limit fault has = by has.version has.of_version
  where
    by : (version : Version) → HasVersion version [] → ⊥
    by One one = let e = one.2 in cc
    by Two two = let e = two.1 in cc

pub torn_no_fault : TornHasNoFault
torn_no_fault limit [] version records len kept loadable = (
  empty_faultless limit,
  λ broken. let e = broken.0.1 in cc,
  λ other others count before again.
      (again.0 ∙ sym loadable.0, again.1 ∙ sym loadable.1, again.2 ∙ sym loadable.2),
)
torn_no_fault limit (first ∷ bytes) version records len kept torn =
    let is = torn_version version first bytes records len torn in (
      λ fault has. torn_faultless limit version first bytes records len kept torn fault has.version
          (one_version version has.version (first ∷ bytes) is has.of_version) has.records has.rest has.spelled has.kept
          has.behind,
      not_broken version (first ∷ bytes) is,
      λ other others count before again. torn_same limit version first bytes records len kept torn other
          (one_version version other (first ∷ bytes) is (torn_version other first bytes others count again)) others
          count before again,
    )

-- so bytes that a journal may be loaded from are refused for want of memory alone
pub torn_memory : (MayBe : ℕ → Type 0) (limit : ℕ) (bytes : List ℕ) (fault : JournalFault)
    → IsLoadFault MayBe limit bytes fault → IsLoadableWithin MayBe limit bytes → fault ≡ faults.NoMemory
torn_memory MayBe limit bytes faults.Limit f t = absurd (f t.0)
torn_memory MayBe limit bytes faults.NoMemory f t = refl
torn_memory MayBe limit bytes faults.Header f t = absurd ((torn_no_fault limit bytes t.1 t.2 t.3 t.4 t.5).1 f.1)
torn_memory MayBe limit bytes (faults.Record at) f t =
    absurd ((torn_no_fault limit bytes t.1 t.2 t.3 t.4 t.5).0 (faults.Record at) f.1)
torn_memory MayBe limit bytes (faults.Sequence at) f t =
    absurd ((torn_no_fault limit bytes t.1 t.2 t.3 t.4 t.5).0 (faults.Sequence at) f.1)
torn_memory MayBe limit bytes (faults.Repeated at) f t =
    absurd ((torn_no_fault limit bytes t.1 t.2 t.3 t.4 t.5).0 (faults.Repeated at) f.1)
torn_memory MayBe limit bytes (faults.Full at) f t =
    absurd ((torn_no_fault limit bytes t.1 t.2 t.3 t.4 t.5).0 (faults.Full at) f.1)
