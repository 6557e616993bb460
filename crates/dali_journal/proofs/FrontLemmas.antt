-- One whole group more in front of bytes.
use Rattle.std.proofs.Common.{◌≡◌, ℕ, ◌+◌, ◌<◌, Bool, true, false, cond, List, [], ◌∷◌, ◌++◌, length, take}
use Rattle.std.proofs.Common.{drop, Option, Some, None, nat_eq, ◌==◌, refl, sym, ap, ◌∙◌, subst, arith}
use Rattle.std.proofs.Common.{length-append}
use Rattle.std.proofs.Math.Seq.{take-append-add, take-append_seam, drop-append_seam}
use Rattle.std.proofs.lemmas.List.{length-take-le, take-append-drop}
use Rattle.std.proofs.lemmas.List.Elements.{All-nil}
use Rattle.std.proofs.lemmas.List.Sorted.{IsNonDecreasingBy-short}
use Rattle.std.specs.Map.{lookup}
use Rattle.dali_bank.specs.Order.{Contents}
use Rattle.dali_journal.specs.declared.record.Code.{Code}
use Rattle.dali_journal.specs.declared.record.Code.TheVariants.{Done, Short, Format, Silent, Doubt, DoubtOpen}
use Rattle.dali_journal.specs.declared.record.Record.{Record}
use Rattle.dali_journal.specs.declared.record.Record.TheVariants.{Began, Opened, Ended, Closed}
use Rattle.dali_journal.specs.declared.standing.Standing.{Standing}
use Rattle.dali_journal.specs.declared.standing.Standing.TheVariants as standings
use Rattle.dali_journal.specs.declared.kept.Progress.TheVariants as reached
use Rattle.dali_journal.specs.declared.kept.Kept.{Kept}
use Rattle.dali_journal.specs.declared.kept.Kept.TheVariants as kepts
use Rattle.dali_journal.specs.declared.index.IndexEntry.{IndexEntry}
use Rattle.dali_journal.specs.declared.index.IndexEntry.TheVariants as index_entries
use Rattle.dali_journal.specs.declared.fault.JournalFault.TheVariants as faults
use Rattle.dali_journal.specs.declared.version.Version.{Version}
use Rattle.dali_journal.specs.declared.version.Version.TheVariants.{Two}
use Rattle.dali_journal.specs.Sentence.{Allows, next_standing, standing_of, is_begun, IsSentence}
use Rattle.dali_journal.specs.Orders.{orders_of, kept_among, kept_of, moment_of}
use Rattle.dali_journal.specs.Spelling.{spelling, records_spelling, header, IsRecord}
use Rattle.dali_journal.specs.Decoding.{records_in}
use Rattle.dali_journal.specs.JournalState.{bytes_due, HoldsOrders}
use Rattle.dali_journal.specs.Loading.{IsLoadFault}
use Rattle.dali_journal.specs.Index.{index_entry, is_begun_at, Agrees, IsSettled, IsSound}
use Rattle.dali_journal.specs.GroupAhead.{HasGroup, IsFront, end_records}
use Rattle.dali_journal.proofs.DecodeLemmas.{AreRecords, spelling_read}
use Rattle.dali_journal.proofs.IndexLemmas.{agrees_more}
use Rattle.dali_journal.proofs.BegunLemmas.{begun_told}
use Rattle.dali_journal.proofs.AheadLemmas.{spelling_append}

-- the records of an order's group
abbrev pub group_of : Contents → ℕ → Code → List Record
group_of order moment code = end_records order.unit code ++ Began order moment ∷ []

-- after a group nothing is left to be done
group_idle : (order : Contents) (moment : ℕ) (code : Code) (records : List Record)
    → standing_of records ≡ standings.Idle
    → standing_of (group_of order moment code ++ records) ≡ standings.Idle
group_idle order moment Short records idle =
    ap (λ (st : Standing). next_standing (next_standing st (Began order moment)) (Ended Short)) idle
group_idle order moment Format records idle =
    ap (λ (st : Standing). next_standing (next_standing st (Began order moment)) (Ended Format)) idle
group_idle order moment Silent records idle =
    ap (λ (st : Standing). next_standing (next_standing st (Began order moment)) (Ended Silent)) idle
group_idle order moment Done records idle =
    ap (λ (st : Standing).
    next_standing (next_standing (next_standing st (Began order moment)) (Opened order.unit)) (Ended Done)) idle
group_idle order moment Doubt records idle =
    ap (λ (st : Standing).
    next_standing (next_standing (next_standing st (Began order moment)) (Opened order.unit)) (Ended Doubt)) idle
group_idle order moment DoubtOpen records idle =
    ap (λ (st : Standing).
    next_standing (next_standing (next_standing (next_standing st (Began order moment)) (Opened order.unit))
    (Ended DoubtOpen))
    (Closed order.unit)) idle

-- each record of a group may come
group_sentence : (order : Contents) (moment : ℕ) (code : Code) (records : List Record) → IsSentence records
    → standing_of records ≡ standings.Idle → is_begun order.id records ≡ false
    → IsSentence (group_of order moment code ++ records)
group_sentence order moment code records s idle fresh = by code
  where
    began : IsSentence (Began order moment ∷ records)
    began = (s, subst (λ (st : Standing). Allows st (Began order moment)) (sym idle) tt, fresh)

    opened : IsSentence (Opened order.unit ∷ Began order moment ∷ records)
    opened = (
      began,
      subst (λ (st : Standing). Allows (next_standing st (Began order moment)) (Opened order.unit)) (sym idle) refl,
      tt,
    )

    ended : (code : Code)
        → Allows (next_standing standings.Idle (Began order moment)) (Ended code)
        → IsSentence (Ended code ∷ Began order moment ∷ records)
    ended code a = (
      began,
      subst (λ (st : Standing). Allows (next_standing st (Began order moment)) (Ended code)) (sym idle) a,
      tt,
    )

    done : (code : Code)
        → Allows (next_standing (next_standing standings.Idle (Began order moment)) (Opened order.unit)) (Ended code)
        → IsSentence (Ended code ∷ Opened order.unit ∷ Began order moment ∷ records)
    done code a = (
      opened,
      subst (λ (st : Standing).
          Allows (next_standing (next_standing st (Began order moment)) (Opened order.unit)) (Ended code)) (sym idle) a,
      tt,
    )

    by : (code : Code) → IsSentence (group_of order moment code ++ records)
    by Short = ended Short tt
    by Format = ended Format tt
    by Silent = ended Silent tt
    by Done = done Done tt
    by Doubt = done Doubt tt
    by DoubtOpen = (
      done DoubtOpen tt,
      subst (λ (st : Standing).
          Allows (next_standing (next_standing (next_standing st (Began order moment)) (Opened order.unit))
          (Ended DoubtOpen))
          (Closed order.unit)) (sym idle) refl,
      tt,
    )

group_orders : (order : Contents) (moment : ℕ) (code : Code) (records : List Record)
    → orders_of (group_of order moment code ++ records) ≡ (order, reached.Ended code) ∷ orders_of records
group_orders order moment Short records = refl
group_orders order moment Format records = refl
group_orders order moment Silent records = refl
group_orders order moment Done records = refl
group_orders order moment Doubt records = refl
group_orders order moment DoubtOpen records = refl

group_moment : (order : Contents) (moment : ℕ) (code : Code) (records : List Record) (id : ℕ)
    → moment_of id (group_of order moment code ++ records) ≡ cond (order.id == id) (Some moment) (moment_of id records)
group_moment order moment Short records id = refl
group_moment order moment Format records id = refl
group_moment order moment Silent records id = refl
group_moment order moment Done records id = refl
group_moment order moment Doubt records id = refl
group_moment order moment DoubtOpen records id = refl

pub group_records : (version : Version) (order : Contents) (moment : ℕ) (code : Code) (records : List Record)
    → IsRecord version (Began order moment) → AreRecords version records
    → AreRecords version (group_of order moment code ++ records)
group_records version order moment Short records is are = (tt, (is, are))
group_records version order moment Format records is are = (tt, (is, are))
group_records version order moment Silent records is are = (tt, (is, are))
group_records version order moment Done records is are = (tt, (is.1, (is, are)))
group_records version order moment Doubt records is are = (tt, (is.1, (is, are)))
group_records version order moment DoubtOpen records is are = (is.1, (tt, (is.1, (is, are))))

-- what the index tells of the order of a group, and of others
group_known : (bytes : List ℕ) (order : Contents) (moment : ℕ) (code : Code) (records : List Record) (id at : ℕ)
    (found new_found : Option IndexEntry) (test : Bool)
    → IsRecord Two (Began order moment) → at ≡ length bytes → (order.id == id) ≡ test
    → new_found ≡ cond test (Some (index_entries.Ended at code)) found
    → Agrees bytes (index_entry found) (kept_of id records) (moment_of id records)
    → Agrees (bytes ++ records_spelling Two (group_of order moment code)) (index_entry new_found)
    (kept_of id (group_of order moment code ++ records)) (moment_of id (group_of order moment code ++ records))
group_known bytes order moment code records id at found new_found true is there t new a =
    let ends : List ℕ = records_spelling Two (end_records order.unit code) in
    let whole : List ℕ = records_spelling Two (group_of order moment code) in
    let kept = ap (kept_among id) (group_orders order moment code records)
    ∙ ap (λ b. cond b (kepts.Ended order code) (kept_of id records)) t in
    let since = group_moment order moment code records id ∙ ap (λ b. cond b (Some moment) (moment_of id records)) t in
    let behind : drop at (bytes ++ whole) ≡ spelling Two (Began order moment) ++ ends =
    ap (λ n. drop n (bytes ++ whole)) there ∙ drop-append_seam bytes whole
    ∙ spelling_append (end_records order.unit code) (Began order moment ∷ []) in
    subst (λ (p : IndexEntry). Agrees (bytes ++ whole) p (kept_of id (group_of order moment code ++ records))
    (moment_of id (group_of order moment code ++ records)))
    (sym (ap index_entry new))
    (order, moment, kept, since, (let n = length-append bytes whole in omega arith, (is, ends, behind)))
group_known bytes order moment code records id at found new_found false is there t new a =
    let whole : List ℕ = records_spelling Two (group_of order moment code) in
    let kept = ap (kept_among id) (group_orders order moment code records)
    ∙ ap (λ b. cond b (kepts.Ended order code) (kept_of id records)) t in
    let since = group_moment order moment code records id ∙ ap (λ b. cond b (Some moment) (moment_of id records)) t in
    subst (λ (p : IndexEntry). Agrees (bytes ++ whole) p (kept_of id (group_of order moment code ++ records))
    (moment_of id (group_of order moment code ++ records)))
    (sym (ap index_entry new))
    (subst (λ (k : Kept). Agrees (bytes ++ whole) (index_entry found) k
    (moment_of id (group_of order moment code ++ records))) (sym kept)
    (subst (λ (m : Option ℕ). Agrees (bytes ++ whole) (index_entry found) (kept_of id records) m) (sym since)
    (agrees_more bytes whole (index_entry found) (kept_of id records) (moment_of id records) a)))

group_sound : (bytes : List ℕ) (records : List Record) (orders limit at : ℕ) (index new_index : List (ℕ × IndexEntry))
    (order : Contents) (moment : ℕ) (code : Code)
    → IsSound bytes records standings.Idle orders limit 0 0 0 [] index → orders < limit
    → IsRecord Two (Began order moment)
    → at ≡ length bytes → is_begun order.id records ≡ false
    → ((id : ℕ)
    → lookup (nat_eq id) new_index ≡ cond (order.id == id) (Some (index_entries.Ended at code))
    (lookup (nat_eq id) index))
    → IsSound (bytes ++ records_spelling Two (group_of order moment code)) (group_of order moment code ++ records)
    standings.Idle
    (orders + 1) limit 0 0 0 [] new_index
group_sound bytes records orders limit at index new_index order moment code sound more is there fresh found =
    let kept = sound.journal.kept in
    let idle = group_idle order moment code records (sym sound.standing_is) in
    let count = ap length (group_orders order moment code records) in
    let known = sound.count in
    record {
      spelled =
          ap (λ front. front ++ records_spelling Two (group_of order moment code)) sound.spelled
          ∙ sym (spelling_append (group_of order moment code) records);
      standing_is = sym idle;
      short = tt;
      count = omega arith;
      journal = record {
        kept = record {
          in_range = group_records Two order moment code records is kept.in_range;
          whole = (group_sentence order moment code records kept.whole.0 (sym sound.standing_is) fresh, omega arith);
        };
        limited = sound.journal.limited;
        due = (let none = ap bytes_due idle in omega arith);
      };
      indexed = record {
        within = omega arith;
        past =
            All-nil (IsSettled (bytes ++ records_spelling Two (group_of order moment code))
            (group_of order moment code ++ records) new_index);
        sorted = IsNonDecreasingBy-short (λ one. one.id) [] (omega arith);
        known = λ id none.
            group_known bytes order moment code records id at (lookup (nat_eq id) index) (lookup (nat_eq id) new_index)
            (order.id == id) is there refl (found id) (sound.indexed.known id none);
      };
    }

-- bytes up to the end of a group
take_group : (bytes front group rest : List ℕ) (at len : ℕ) → at ≡ length front → len ≡ length group
    → bytes ≡ front ++ drop at bytes → drop at bytes ≡ group ++ rest → take (at + len) bytes ≡ front ++ group
take_group bytes front group rest at len a n whole behind =
    (λ j. take (a j + n j) ((whole ∙ ap (λ bs. front ++ bs) behind) j))
    ∙ take-append-add front (group ++ rest) (length group)
    ∙ ap (λ bs. front ++ bs) (take-append_seam group rest)

-- whether an order was begun, by the index
front_begun : (limit : ℕ) (bytes : List ℕ) (at orders id : ℕ) (index : List (ℕ × IndexEntry))
    (found : Option IndexEntry)
    → IsFront limit bytes at orders index → lookup (nat_eq id) index ≡ found
    → is_begun id (records_in Two (take at bytes)) ≡ is_begun_at (index_entry found)
front_begun limit bytes at orders id index found front same =
    sym (begun_told id (take at bytes) (index_entry (lookup (nat_eq id) index)) (records_in Two (take at bytes))
    (front.sound.indexed.known id (All-nil _)))
    ∙ ap (λ f. is_begun_at (index_entry f)) same

begun_more : (index new_index : List (ℕ × IndexEntry)) (at id : ℕ) (code : Code)
    → ((other : ℕ) (known : IndexEntry) → lookup (nat_eq other) index ≡ Some known → is_begun_at known ≡ true)
    → ((other : ℕ)
    → lookup (nat_eq other) new_index ≡ cond (id == other) (Some (index_entries.Ended at code))
    (lookup (nat_eq other) index))
    → (other : ℕ) (known : IndexEntry) → lookup (nat_eq other) new_index ≡ Some known → is_begun_at known ≡ true
begun_more index new_index at id code begun found other known e = by (id == other) (sym (found other) ∙ e)
  where
    by : (test : Bool) → cond test (Some (index_entries.Ended at code)) (lookup (nat_eq other) index) ≡ Some known
        → is_begun_at known ≡ true
    by true same = let ended : index_entries.Ended at code ≡ known = cc in ap is_begun_at (sym ended)
    by false same = begun other known same

-- one group more
pub front_more : (limit : ℕ) (bytes : List ℕ) (at len orders id : ℕ) (code : Code)
    (index new_index : List (ℕ × IndexEntry))
    → IsFront limit bytes at orders index → orders < limit → HasGroup Two id code len (drop at bytes)
    → lookup (nat_eq id) index ≡ None
    → ((other : ℕ)
    → lookup (nat_eq other) new_index ≡ cond (id == other) (Some (index_entries.Ended at code))
    (lookup (nat_eq other) index))
    → IsFront limit bytes (at + len) (orders + 1) new_index
front_more limit bytes at len orders id code index new_index front more has none found =
    let order = has.order in
    let moment = has.moment in
    let records : List Record = records_in Two (take at bytes) in
    let group : List ℕ = records_spelling Two (group_of order moment code) in
    let there : at ≡ length (take at bytes) = sym (length-take-le at bytes front.within) in
    let whole : bytes ≡ take at bytes ++ drop at bytes = sym (take-append-drop at bytes) in
    let fresh = ap (λ n. is_begun n records) has.named ∙ front_begun limit bytes at orders id index None front none in
    let sound = group_sound (take at bytes) records orders limit at index new_index order moment code front.sound more
    has.begins.0 there fresh
    (λ other. found other
    ∙ ap (λ n. cond (n == other) (Some (index_entries.Ended at code)) (lookup (nat_eq other) index)) (sym has.named)) in
    let taken : take (at + len) bytes ≡ take at bytes ++ group =
    take_group bytes (take at bytes) group has.rest at len there has.counted whole has.spelled in
    let read : records_in Two (take at bytes ++ group) ≡ group_of order moment code ++ records =
    ap (records_in Two) sound.spelled ∙ spelling_read Two (group_of order moment code ++ records)
    sound.journal.kept.in_range in
    record {
      within =
          (let all = ap length (whole ∙ ap (λ bs. take at bytes ++ bs) has.spelled) in
          let parts = length-append (take at bytes) (group ++ has.rest) in
          let rest = length-append group has.rest in
          let n = has.counted in omega arith);
      sound =
          subst (λ (bs : List ℕ). IsSound bs (records_in Two bs) standings.Idle (orders + 1) limit 0 0 0 [] new_index)
          (sym taken)
          (subst (λ (rs : List Record).
          IsSound (take at bytes ++ group) rs standings.Idle (orders + 1) limit 0 0 0 [] new_index) (sym read) sound);
      begun = begun_more index new_index at id code front.begun found;
    }

-- a number that is in the index is repeated
pub front_repeated : (limit : ℕ) (bytes : List ℕ) (at len orders id : ℕ) (code : Code) (index : List (ℕ × IndexEntry))
    (known : IndexEntry)
    → HoldsOrders limit → IsFront limit bytes at orders index → HasGroup Two id code len (drop at bytes)
    → lookup (nat_eq id) index ≡ Some known
    → IsLoadFault HoldsOrders limit (header Two ++ bytes) (faults.Repeated (4 + at))
front_repeated limit bytes at len orders id code index known is front has found =
    let records : List Record = records_in Two (take at bytes) in
    let sound = front.sound in
    let there = sym (length-take-le at bytes front.within) ∙ ap length sound.spelled in (
      is,
      record {
        version = Two;
        of_version = (bytes, refl);
        records = records;
        rest = drop at bytes;
        spelled =
            ap (λ bs. header Two ++ bs)
            (sym (take-append-drop at bytes) ∙ ap (λ bs. bs ++ drop at bytes) sound.spelled);
        kept = sound.journal.kept;
        behind = (
          Began has.order has.moment,
          has.begins,
          (
            (let e = there in let n = length-append (header Two) (records_spelling Two records) in omega arith),
            subst (λ (st : Standing). Allows st (Began has.order has.moment)) sound.standing_is tt,
            ap (λ n. is_begun n records) has.named ∙ front_begun limit bytes at orders id index (Some known) front found
                ∙ front.begun id known found,
          ),
        );
      },
    )
