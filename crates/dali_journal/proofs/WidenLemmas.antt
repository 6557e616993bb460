-- Groups of version 1, in version 2.
use Rattle.std.proofs.Common.{◌≡◌, ℕ, ◌+◌, ◌≤◌, List, [], ◌∷◌, ◌++◌, length, take, drop, refl, sym, ap, ◌∙◌, arith}
use Rattle.std.proofs.Common.{length-append, length-drop, drop-drop, append_assoc, append-nil}
use Rattle.std.proofs.Math.Seq.{drop-append_seam, take-append_seam}
use Rattle.std.specs.Int.{w64, to_be_bytes}
use Rattle.dali_bank.specs.Order.{Contents}
use Rattle.dali_journal.specs.declared.record.Code.{Code}
use Rattle.dali_journal.specs.declared.record.Record.{Record}
use Rattle.dali_journal.specs.declared.record.Record.TheVariants.{Began, Opened, Ended, Closed}
use Rattle.dali_journal.specs.declared.version.Version.TheVariants.{One, Two}
use Rattle.dali_journal.specs.Spelling.{spelling, records_spelling}
use Rattle.dali_journal.specs.GroupAhead.{HasGroup, AreWidened, end_records}
use Rattle.dali_journal.proofs.AheadLemmas.{spelled_append, same_ends}
use Rattle.dali_journal.specs.Decoding.{records_in}
use Rattle.dali_journal.proofs.DecodeLemmas.{AreRecords, spelling_read}
use Rattle.dali_journal.proofs.FrontLemmas.{group_of, group_records}

-- with eight zeros after the number a group of version 1 is that of version 2
group_widened : (order : Contents) (moment : ℕ) (code : Code) → moment ≡ 0
    → take 9 (records_spelling One (group_of order moment code))
    ++ (to_be_bytes w64 0 ++ drop 9 (records_spelling One (group_of order moment code)))
    ≡ records_spelling Two (group_of order moment code)
group_widened order moment code none =
    let ends = end_records order.unit code in
    let one = spelled_append One ends (Began order moment ∷ []) in
    let two = spelled_append Two ends (Began order moment ∷ []) in
    ap (λ bs. take 9 bs ++ (to_be_bytes w64 0 ++ drop 9 bs)) one
    ∙ ap (λ n. spelling Two (Began order n) ++ records_spelling One ends) (sym none)
    ∙ ap (λ bs. spelling Two (Began order moment) ++ bs) (sym (same_ends One order.unit code))
    ∙ sym two

-- a group has at least the bytes in front of its moment
pub group_long : (id : ℕ) (code : Code) (len : ℕ) (bytes : List ℕ) → HasGroup One id code len bytes
    → (9 ≤ len) × (len ≤ length bytes)
group_long id code len bytes has =
    let ends = end_records has.order.unit code in
    let group = records_spelling One (group_of has.order has.moment code) in
    let whole = ap length (spelled_append One ends (Began has.order has.moment ∷ []))
    ∙ length-append (spelling One (Began has.order has.moment)) (records_spelling One ends) in
    let all = ap length has.spelled ∙ length-append group has.rest in
    let n = has.counted in
    (omega arith, omega arith)

-- one group more
pub widened_more : (bytes wide : List ℕ) (at len id : ℕ) (code : Code) → AreWidened bytes at wide
    → HasGroup One id code len (drop at bytes)
    → AreWidened bytes (at + len)
    (wide ++ (take 9 (take len (drop at bytes)) ++ (to_be_bytes w64 0 ++ drop 9 (take len (drop at bytes)))))
widened_more bytes wide at len id code are has =
    let records : List Record = group_of has.order has.moment code in
    let group : List ℕ = records_spelling One records in
    let taken : take len (drop at bytes) ≡ group =
    (λ j. take (has.counted j) (has.spelled j)) ∙ take-append_seam group has.rest in
    let rest : has.rest ≡ drop (at + len) bytes =
    sym (drop-append_seam group has.rest) ∙ (λ j. drop (sym has.counted j) (sym has.spelled j))
    ∙ drop-drop len at bytes in
    let one = spelled_append One records are.records in
    let two = spelled_append Two records are.records in
    record {
      records = records ++ are.records;
      in_range = group_records One has.order has.moment code are.records has.begins.0 are.in_range;
      spelled =
          are.spelled
          ∙ ap (λ bs. records_spelling One are.records ++ bs) (has.spelled ∙ ap (λ bs. group ++ bs) rest)
          ∙ sym (append_assoc (records_spelling One are.records) group (drop (at + len) bytes))
          ∙ ap (λ bs. bs ++ drop (at + len) bytes) (sym one);
      within =
          (let l = ap length are.spelled ∙ length-append (records_spelling One are.records) (drop at bytes) in
          let r = group_long id code len (drop at bytes) has in
          let d = length-drop at bytes in let w = are.within in omega arith);
      wide_is =
          (λ j. are.wide_is j ++ (take 9 (taken j) ++ (to_be_bytes w64 0 ++ drop 9 (taken j))))
          ∙ ap (λ bs. records_spelling Two are.records ++ bs)
          (group_widened has.order has.moment code has.begins.0.4)
          ∙ sym two;
    }

-- records of version 1 are records of version 2
old_in_range : (records : List Record) → AreRecords One records → AreRecords Two records
old_in_range [] are = tt
old_in_range (Began order moment ∷ older) are =
    let none = are.0.4 in
    ((are.0.0, are.0.1, are.0.2, are.0.3, omega arith), old_in_range older are.1)
old_in_range (Opened unit ∷ older) are = (are.0, old_in_range older are.1)
old_in_range (Ended code ∷ older) are = (tt, old_in_range older are.1)
old_in_range (Closed unit ∷ older) are = (are.0, old_in_range older are.1)

-- what the bytes in version 2 are loaded as are the records of the bytes in version 1
pub same_widened : (bytes wide rest : List ℕ) (len : ℕ) (records : List Record) → (are : AreWidened bytes len wide)
    → AreRecords Two records → wide ≡ records_spelling Two records ++ rest → rest ≡ [] → are.records ≡ records
same_widened bytes wide rest len records are in_range spelled none =
    let same : records_spelling Two are.records ≡ records_spelling Two records =
    sym are.wide_is ∙ spelled ∙ ap (λ bs. records_spelling Two records ++ bs) none
    ∙ append-nil (records_spelling Two records) in
    sym (spelling_read Two are.records (old_in_range are.records are.in_range)) ∙ ap (records_in Two) same
    ∙ spelling_read Two records in_range

pub nothing_left : (rest : List ℕ) → length rest ≡ 0 → rest ≡ []
nothing_left [] none = refl
nothing_left (first ∷ rest) none = absurd (omega arith)
