-- The parts of a journal and of an older one that is at rest, which has no number of it, are those of one journal.
use Rattle.std.proofs.Common.{◌≡◌, ℕ, ◌+◌, ◌≤◌, ◌≢◌, ◌⊎◌, inl, inr, true, false, cond, Bool, ◌||◌, nat_eq, ◌==◌, Option}
use Rattle.std.proofs.Common.{Some, None, All, Contains, List, [], ◌∷◌, ◌++◌, length, drop, take, map, filter_map, refl, sym, ap, ◌∙◌}
use Rattle.std.proofs.Common.{subst, arith, length-append, length-drop, drop-drop, true≢false, IsPermutation, eq-eqb, slice_get, option_map, is_some}
use Rattle.std.proofs.Math.Seq.{drop-append_seam, drop-append-add, take-append_seam}
use Rattle.std.specs.List.Sorted.{IsNonDecreasingBy}
use Rattle.std.specs.Map.{lookup, keys_of}
use Rattle.std.proofs.lemmas.Map.Made.{is_some-lookup}
use Rattle.std.proofs.lemmas.Option.{slice_get-map}
use Rattle.indexmap.proofs.CallerLemmas.{Contains-list_any}
use Rattle.std.proofs.lemmas.Bool.{eqb-true}
use Rattle.std.proofs.lemmas.List.Elements.{All-nil, All-cons, All-head, All-tail, All-append, All-map, All-weaker}
use Rattle.std.proofs.lemmas.List.Elements.{All-same, All-take, All-drop}
use Rattle.std.proofs.lemmas.List.Elements.{All-contains, Contains-append_right, Contains-append_left}
use Rattle.std.proofs.lemmas.List.Sorted.{All-permutation, IsPermutation-sym}
use Rattle.dali_bank.specs.Order.{Contents}
use Rattle.dali_journal.specs.declared.record.Code.{Code}
use Rattle.dali_journal.specs.declared.record.Record.{Record}
use Rattle.dali_journal.specs.declared.record.Record.TheVariants.{Began, Opened, Ended, Closed}
use Rattle.dali_journal.specs.declared.standing.Standing.{Standing}
use Rattle.dali_journal.specs.declared.standing.Standing.TheVariants as standings
use Rattle.dali_journal.specs.declared.kept.Kept.{Kept}
use Rattle.dali_journal.specs.declared.kept.Kept.TheVariants as kepts
use Rattle.dali_journal.specs.declared.index.IndexEntry.{IndexEntry}
use Rattle.dali_journal.specs.declared.index.IndexEntry.TheVariants as index_entries
use Rattle.dali_journal.specs.declared.settled.Settled.{Settled}
use Rattle.dali_journal.specs.declared.version.Version.TheVariants.{Two}
use Rattle.dali_journal.specs.Sentence.{Allows, standing_of, is_begun, IsNew, IsSentence}
use Rattle.dali_journal.specs.Orders.{orders_of, kept_of, moment_of}
use Rattle.dali_journal.specs.Spelling.{records_spelling}
use Rattle.dali_journal.specs.Decoding.{records_in}
use Rattle.dali_journal.specs.JournalState.{bytes_due}
use Rattle.dali_journal.specs.Settled.{IsUnsettled, moved, settled_at, settled_both}
use Rattle.dali_journal.specs.Behind.{IsApart, AreApart}
use Rattle.dali_journal.specs.Index.{index_entry, is_begun_at, Agrees, IsSettled, IsIndexed, IsSound}
use Rattle.dali_journal.proofs.AheadLemmas.{spelling_append}
use Rattle.dali_journal.proofs.BegunLemmas.{begun_told}
use Rattle.dali_journal.proofs.BehindLemmas.{begun_joined, standing_joined, orders_joined, records_both, kept_joined_own}
use Rattle.dali_journal.proofs.BehindLemmas.{kept_joined_older}
use Rattle.dali_journal.proofs.DecodeLemmas.{AreRecords, spelling_read}
use Rattle.dali_journal.proofs.IndexLemmas.{agrees_more}
use Rattle.dali_journal.proofs.IndexedLemmas.{settled_begun}
use Rattle.dali_journal.proofs.KeptLemmas.{unended, unended_stands}

-- ---- the answer about a number

-- a number is one of those that are settled or not
pub settled_or_not : (settled : List Settled) (id : ℕ)
    → ((one : Settled) × Contains settled one × (one.id ≡ id)) ⊎ IsUnsettled id settled
settled_or_not [] id = inr (All-nil (λ one. one.id ≢ id))
settled_or_not (one ∷ rest) id = by (one.id == id) refl (settled_or_not rest id)
  where
    Told : Type 0
    Told = ((other : Settled) × Contains (one ∷ rest) other × (other.id ≡ id)) ⊎ IsUnsettled id (one ∷ rest)

    others : one.id ≢ id → ((other : Settled) × Contains rest other × (other.id ≡ id)) ⊎ IsUnsettled id rest → Told
    others apart (inl (other, there, same)) = inl (other, Contains-append_right (one ∷ []) rest other there, same)
    others apart (inr none) = inr (All-cons (λ other. other.id ≢ id) one rest apart none)

    by : (test : Bool) → (one.id == id) ≡ test
        → ((other : Settled) × Contains rest other × (other.id ≡ id)) ⊎ IsUnsettled id rest → Told
    by true t told =
        inl (one, Contains-append_left (one ∷ []) rest one (0, omega arith, refl), eqb-true one.id id t)
    by false t told = others (λ same. true≢false (sym (eq-eqb one.id id same) ∙ t)) told

not_begun_at : (known : IndexEntry) → is_begun_at known ≡ false → known ≡ index_entries.NotBegun
not_begun_at index_entries.NotBegun e = refl
not_begun_at (index_entries.Begun at) e = absurd (true≢false e)
not_begun_at (index_entries.Ended at code) e = absurd (true≢false e)

-- of a number that isn't begun the index tells nothing
nothing_told : (bytes : List ℕ) (records : List Record) (front : ℕ) (settled : List Settled)
    (index : List (ℕ × IndexEntry)) (id : ℕ) → IsIndexed bytes records front settled index
    → is_begun id records ≡ false → index_entry (lookup (nat_eq id) index) ≡ index_entries.NotBegun
nothing_told bytes records front settled index id indexed none = by (settled_or_not settled id)
  where
    by : ((one : Settled) × Contains settled one × (one.id ≡ id)) ⊎ IsUnsettled id settled
        → index_entry (lookup (nat_eq id) index) ≡ index_entries.NotBegun
    by (inl (one, there, same)) =
        ap (λ n. index_entry (lookup (nat_eq n) index)) (sym same)
        ∙ (All-contains (IsSettled bytes records index) settled one indexed.past there).apart
    by (inr unsettled) =
        not_begun_at (index_entry (lookup (nat_eq id) index))
        (begun_told id (drop front bytes) (index_entry (lookup (nat_eq id) index)) records (indexed.known id unsettled)
        ∙ none)

-- a place after a front, counted from the start
place_shifted : (bytes : List ℕ) (front at : ℕ) (code : Code) (kept : Kept) (since : Option ℕ) → front ≤ length bytes
    → Agrees (drop front bytes) (index_entries.Ended at code) kept since
    → Agrees bytes (index_entries.Ended (front + at) code) kept since
place_shifted bytes front at code kept since within a =
    let there = a.4 in
    let below = there.0 in
    let n = length-drop front bytes in (
      a.0,
      a.1,
      a.2,
      a.3,
      (
        omega arith,
        (there.1.0, there.1.1, sym (drop-drop at front bytes) ∙ there.1.2),
      ),
    )

-- an entry that tells otherwise isn't the one that is found
other_entry : (test : Bool) (known : IndexEntry) (at : ℕ) (code : Code) (rest : Option IndexEntry)
    → (known ≡ index_entries.Ended at code → ⊥)
    → cond test (Some known) rest ≡ Some (index_entries.Ended at code) → rest ≡ Some (index_entries.Ended at code)
other_entry true known at code rest apart same =
    let is : known ≡ index_entries.Ended at code = cc in absurd (apart is)
other_entry false known at code rest apart same = same

-- what an index tells as ended is among the settled orders that are made of it
ended_among : (front : ℕ) (index : List (ℕ × IndexEntry)) (id at : ℕ) (code : Code)
    → lookup (nat_eq id) index ≡ Some (index_entries.Ended at code)
    → IsUnsettled id (filter_map (settled_at front) index) → ⊥
ended_among front [] id at code found none = cc
ended_among front ((key, index_entries.NotBegun) ∷ index) id at code found none =
    ended_among front index id at code
    (other_entry (nat_eq id key) index_entries.NotBegun at code (lookup (nat_eq id) index) (λ is. cc) found) none
ended_among front ((key, index_entries.Begun place) ∷ index) id at code found none =
    ended_among front index id at code
    (other_entry (nat_eq id key) (index_entries.Begun place) at code (lookup (nat_eq id) index) (λ is. cc) found) none
ended_among front ((key, index_entries.Ended place end) ∷ index) id at code found none =
    by (nat_eq id key) refl found
    (λ rest.
    ended_among front index id at code rest
    (All-tail (λ one. one.id ≢ id) (record { id = key; at = front + place; code = end })
    (filter_map (settled_at front) index) none))
  where
    by : (test : Bool) → nat_eq id key ≡ test
        → cond test (Some (index_entries.Ended place end)) (lookup (nat_eq id) index)
        ≡ Some (index_entries.Ended at code)
        → (lookup (nat_eq id) index ≡ Some (index_entries.Ended at code) → ⊥) → ⊥
    by true t same behind =
        All-head (λ one. one.id ≢ id) (record { id = key; at = front + place; code = end })
        (filter_map (settled_at front) index) none (sym (eqb-true id key t))
    by false t rest behind = behind rest

-- if that is so of each entry, it is so of the settled orders that are made of them
ended_all : (P : Settled → Type 0) (Q : ℕ × IndexEntry → Type 0) (front : ℕ) (index : List (ℕ × IndexEntry))
    → ((id at : ℕ) (code : Code) → Q (id, index_entries.Ended at code)
    → P (record { id = id; at = front + at; code = code }))
    → All Q index → All P (filter_map (settled_at front) index)
ended_all P Q front [] gives all = All-nil P
ended_all P Q front ((id, index_entries.NotBegun) ∷ index) gives all =
    ended_all P Q front index gives (All-tail Q (id, index_entries.NotBegun) index all)
ended_all P Q front ((id, index_entries.Begun at) ∷ index) gives all =
    ended_all P Q front index gives (All-tail Q (id, index_entries.Begun at) index all)
ended_all P Q front ((id, index_entries.Ended at code) ∷ index) gives all =
    All-cons P (record { id = id; at = front + at; code = code }) (filter_map (settled_at front) index)
    (gives id at code (All-head Q (id, index_entries.Ended at code) index all))
    (ended_all P Q front index gives (All-tail Q (id, index_entries.Ended at code) index all))

-- ---- the records of both

-- records that are at rest leave no order unfinished
none_unfinished : (records : List Record) (id : ℕ) (order : Contents) → IsSentence records
    → standing_of records ≡ standings.Idle → kept_of id records ≡ kepts.Unfinished order → ⊥
none_unfinished records id order s idle k = by (unended_stands order records (unended records id order s k).1)
  where
    by : (standing_of records ≡ standings.Began order) ⊎ (standing_of records ≡ standings.Opened order) → ⊥
    by (inl began) = let e = sym idle ∙ began in cc
    by (inr opened) = let e = sym idle ∙ opened in cc

begun_more : (id : ℕ) (entry : Record) (records : List Record) → is_begun id records ≡ true
    → is_begun id (entry ∷ records) ≡ true
begun_more id (Began order moment) records begun = by (order.id == id)
  where
    by : (test : Bool) → (test || is_begun id records) ≡ true
    by true = refl
    by false = begun
begun_more id (Opened unit) records begun = begun
begun_more id (Ended code) records begun = begun
begun_more id (Closed unit) records begun = begun

new_joined : (entry : Record) (own older : List Record) → IsNew entry own → AreApart (entry ∷ own) older
    → IsNew entry (own ++ older)
new_joined (Began order moment) own older new apart =
    begun_joined order.id own older
    ∙ ap (λ b. b || is_begun order.id older) new
    ∙ apart order.id (ap (λ b. b || is_begun order.id own) (eq-eqb order.id order.id refl))
new_joined (Opened unit) own older new apart = tt
new_joined (Ended code) own older new apart = tt
new_joined (Closed unit) own older new apart = tt

sentence_joined : (own older : List Record) → IsSentence own → IsSentence older → standing_of older ≡ standings.Idle
    → AreApart own older → IsSentence (own ++ older)
sentence_joined [] older s o idle apart = o
sentence_joined (entry ∷ own) older s o idle apart = (
  sentence_joined own older s.0 o idle (λ id begun. apart id (begun_more id entry own begun)),
  subst (λ (st : Standing). Allows st entry) (sym (standing_joined own older idle)) s.1,
  new_joined entry own older s.2 apart,
)

-- ---- the answers of both

all_front : {X : Type 0} (P : X → Type 0) (xs ys : List X) → All P (xs ++ ys) → All P xs
all_front P xs ys all =
    All-same P xs (take (length xs) (xs ++ ys)) (sym (take-append_seam xs ys)) (All-take P (length xs) (xs ++ ys) all)

all_back : {X : Type 0} (P : X → Type 0) (xs ys : List X) → All P (xs ++ ys) → All P ys
all_back P xs ys all =
    All-same P ys (drop (length xs) (xs ++ ys)) (sym (drop-append_seam xs ys)) (All-drop P (length xs) (xs ++ ys) all)

-- a move changes no number
unsettled_moved : (len id : ℕ) (settled : List Settled) → IsUnsettled id (map (moved len) settled)
    → IsUnsettled id settled
unsettled_moved len id [] none = All-nil (λ one. one.id ≢ id)
unsettled_moved len id (one ∷ rest) none =
    All-cons (λ one. one.id ≢ id) one rest
    (All-head (λ one. one.id ≢ id) (moved len one) (map (moved len) rest) none)
    (unsettled_moved len id rest (All-tail (λ one. one.id ≢ id) (moved len one) (map (moved len) rest) none))

module _ (bytes more : List ℕ) (older own : List Record) (front own_front : ℕ) (settled own_settled : List Settled)
    (index own_index : List (ℕ × IndexEntry)) (was : IsIndexed bytes older front settled index)
    (is : IsIndexed more own own_front own_settled own_index) (s : IsSentence own) (o : IsSentence older)
    (idle : standing_of older ≡ standings.Idle) (apart : AreApart own older) where
  abbrev Joined : Settled → Type 0
  Joined = IsSettled (bytes ++ more) (own ++ older) own_index

  -- of a number that the older ones have the own index tells nothing
  none_own : (id : ℕ) → is_begun id older ≡ true → is_begun id own ≡ false
  none_own id begun = by (is_begun id own) refl
    where
      by : (test : Bool) → is_begun id own ≡ test → is_begun id own ≡ false
      by true own_begun = absurd (true≢false (sym begun ∙ apart id own_begun))
      by false none = none

  older_settled : (told : List (ℕ × IndexEntry)) (one : Settled) → IsSettled bytes older told one → Joined one
  older_settled told one past =
      let begun = settled_begun bytes older told one past in
      let none = none_own one.id begun in
      let same = kept_joined_older one.id own older s none in
      let known = index_entries.Ended one.at one.code in
      record {
        kept =
            subst (λ (k : Kept). Agrees (bytes ++ more) known k (moment_of one.id (own ++ older))) (sym same.0)
            (subst (λ (m : Option ℕ). Agrees (bytes ++ more) known (kept_of one.id older) m) (sym same.1)
            (agrees_more bytes more known (kept_of one.id older) (moment_of one.id older) past.kept));
        apart = nothing_told more own own_front own_settled own_index one.id is none;
      }

  -- an order that the older index tells as ended
  ended_settled : (id at : ℕ) (code : Code) → lookup (nat_eq id) index ≡ Some (index_entries.Ended at code)
      → IsSettled bytes older [] (record { id = id; at = front + at; code = code })
  ended_settled id at code found = by (settled_or_not settled id)
    where
      told : index_entry (lookup (nat_eq id) index) ≡ index_entries.Ended at code
      told = ap index_entry found

      by : ((one : Settled) × Contains settled one × (one.id ≡ id)) ⊎ IsUnsettled id settled
          → IsSettled bytes older [] (record { id = id; at = front + at; code = code })
      by (inl (one, there, same)) =
          let none = ap (λ n. index_entry (lookup (nat_eq n) index)) (sym same)
          ∙ (All-contains (IsSettled bytes older index) settled one was.past there).apart in
          let e : index_entries.NotBegun ≡ index_entries.Ended at code = sym none ∙ told in cc
      by (inr none) = record {
        kept =
            place_shifted bytes front at code (kept_of id older) (moment_of id older) was.within
            (subst (λ (known : IndexEntry). Agrees (drop front bytes) known (kept_of id older) (moment_of id older))
            told (was.known id none));
        apart = refl;
      }

  own_settled_moved : (one : Settled) → IsSettled more own own_index one → Joined (moved (length bytes) one)
  own_settled_moved one past =
      let begun = settled_begun more own own_index one past in
      let same = kept_joined_own one.id own older s (apart one.id begun) in
      let known = index_entries.Ended (length bytes + one.at) one.code in
      let n = length-append bytes more in
      record {
        kept =
            subst (λ (k : Kept). Agrees (bytes ++ more) known k (moment_of one.id (own ++ older))) (sym same.0)
            (subst (λ (m : Option ℕ). Agrees (bytes ++ more) known (kept_of one.id own) m) (sym same.1)
            (place_shifted (bytes ++ more) (length bytes) one.at one.code (kept_of one.id own) (moment_of one.id own)
            (omega arith)
            (subst (λ (bs : List ℕ).
            Agrees bs (index_entries.Ended one.at one.code) (kept_of one.id own) (moment_of one.id own))
            (sym (drop-append_seam bytes more)) past.kept)));
        apart = past.apart;
      }

  -- of what neither the settled orders nor the ended ones of the index have, the older ones have nothing
  none_older : (id : ℕ) → IsUnsettled id settled → IsUnsettled id (filter_map (settled_at front) index)
      → is_begun id older ≡ false
  none_older id none unended = by (lookup (nat_eq id) index) refl
    where
      Told : IndexEntry → Type 0
      Told known = Agrees (drop front bytes) known (kept_of id older) (moment_of id older)

      by : (found : Option IndexEntry) → lookup (nat_eq id) index ≡ found → is_begun id older ≡ false
      by None e =
          sym (begun_told id (drop front bytes) index_entries.NotBegun older
          (subst Told (ap index_entry e) (was.known id none)))
      by (Some index_entries.NotBegun) e =
          sym (begun_told id (drop front bytes) index_entries.NotBegun older
          (subst Told (ap index_entry e) (was.known id none)))
      by (Some (index_entries.Begun at)) e =
          let a = subst Told (ap index_entry e) (was.known id none) in
          absurd (none_unfinished older id a.0 o idle a.2)
      by (Some (index_entries.Ended at code)) e = absurd (ended_among front index id at code e unended)

  pub indexed_joined : (new : List Settled)
      → All (λ entry. lookup (nat_eq entry.0) index ≡ Some entry.1) index
      → IsPermutation (settled_both front settled index (length bytes) own_settled) new
      → IsNonDecreasingBy (λ one. one.id) new
      → IsIndexed (bytes ++ more) (own ++ older) (length bytes + own_front) new own_index
  indexed_joined new told moves sorted =
      let ended : List Settled = filter_map (settled_at front) index in
      let after : List Settled = map (moved (length bytes)) own_settled in
      let both = settled_both front settled index (length bytes) own_settled in
      let n = length-append bytes more in
      let below = is.within in
      record {
        within = omega arith;
        past =
            All-permutation Joined both new moves
            (All-append Joined (settled ++ ended) after
            (All-append Joined settled ended
            (All-weaker (IsSettled bytes older index) Joined (older_settled index) settled was.past)
            (ended_all Joined (λ entry. lookup (nat_eq entry.0) index ≡ Some entry.1) front index
            (λ id at code found.
            older_settled [] (record { id = id; at = front + at; code = code }) (ended_settled id at code found)) told))
            (All-map Joined (moved (length bytes)) own_settled
            (All-weaker (IsSettled more own own_index) (λ one. Joined (moved (length bytes) one)) own_settled_moved
            own_settled is.past)));
        sorted = sorted;
        known = λ id none.
            let before = All-permutation (λ one. one.id ≢ id) new both (IsPermutation-sym both new moves) none in
            let first = all_front (λ one. one.id ≢ id) (settled ++ ended) after before in
            let second = all_back (λ one. one.id ≢ id) (settled ++ ended) after before in
            let fresh = none_older id (all_front (λ one. one.id ≢ id) settled ended first)
            (all_back (λ one. one.id ≢ id) settled ended first) in
            let same = kept_joined_own id own older s fresh in
            let known = index_entry (lookup (nat_eq id) own_index) in
            subst (λ (bs : List ℕ). Agrees bs known (kept_of id (own ++ older)) (moment_of id (own ++ older)))
            (sym (drop-append-add bytes more own_front))
            (subst (λ (k : Kept). Agrees (drop own_front more) known k (moment_of id (own ++ older))) (sym same.0)
            (subst (λ (m : Option ℕ). Agrees (drop own_front more) known (kept_of id own) m) (sym same.1)
            (is.known id (unsettled_moved (length bytes) id own_settled second))));
      }

-- the parts of a journal and of an older one, put together
pub sound_joined : (bytes more : List ℕ) (older own : List Record) (was_standing standing : Standing)
    (was_orders was_limit was_room was_index_room orders limit room index_room : ℕ)
    (front own_front : ℕ) (settled own_settled new : List Settled) (index own_index : List (ℕ × IndexEntry))
    (new_limit new_room new_index_room : ℕ)
    → IsSound bytes older was_standing was_orders was_limit was_room was_index_room front settled index
    → IsSound more own standing orders limit room index_room own_front own_settled own_index
    → standing_of older ≡ standings.Idle → AreApart own older
    → All (λ entry. lookup (nat_eq entry.0) index ≡ Some entry.1) index
    → IsPermutation (settled_both front settled index (length bytes) own_settled) new
    → IsNonDecreasingBy (λ one. one.id) new
    → new_limit ≡ was_orders + limit → bytes_due standing ≤ new_room
    → IsSound (bytes ++ more) (own ++ older) standing (was_orders + orders) new_limit new_room new_index_room
    (length bytes + own_front) new own_index
sound_joined bytes more older own was_standing standing was_orders was_limit was_room was_index_room orders limit room
    index_room front own_front settled own_settled new index own_index new_limit new_room new_index_room was is idle
    apart told moves sorted limit_is due =
    let s = is.journal.kept.whole.0 in
    let o = was.journal.kept.whole.0 in
    let count = ap length (orders_joined own older s) ∙ length-append (orders_of own) (orders_of older) in
    let stands = is.standing_is ∙ sym (standing_joined own older idle) in
    record {
      spelled =
          ap (λ bs. bs ++ more) was.spelled ∙ ap (λ bs. records_spelling Two older ++ bs) is.spelled
          ∙ sym (spelling_append own older);
      standing_is = stands;
      short = is.short;
      count = omega (arith, was.count, is.count);
      journal = record {
        kept = record {
          in_range = records_both Two own older is.journal.kept.in_range was.journal.kept.in_range;
          whole = (
            sentence_joined own older s o idle apart,
            omega (arith, was.count, is.count, is.journal.kept.whole.1),
          );
        };
        limited = omega (arith, is.journal.limited);
        due = (let d = ap bytes_due stands in omega arith);
      };
      indexed =
          indexed_joined bytes more older own front own_front settled own_settled index own_index was.indexed
          is.indexed s o idle apart new told moves sorted;
    }

-- the bytes of both are read as the records of both
pub read_joined : (bytes more : List ℕ) (older own : List Record) → bytes ≡ records_spelling Two older
    → more ≡ records_spelling Two own → AreRecords Two older → AreRecords Two own
    → records_in Two (bytes ++ more) ≡ own ++ older
read_joined bytes more older own b m o s =
    ap (records_in Two)
    (ap (λ bs. bs ++ more) b ∙ ap (λ bs. records_spelling Two older ++ bs) m ∙ sym (spelling_append own older))
    ∙ spelling_read Two (own ++ older) (records_both Two own older s o)

-- ---- whether a number was begun in both

-- the key of an entry of an index
pub key_there : (index : List (ℕ × IndexEntry)) (place : ℕ) (entry : ℕ × IndexEntry)
    → slice_get index place ≡ Some entry → slice_get (keys_of index) place ≡ Some entry.0
key_there index place entry there = slice_get-map (λ e. e.0) index place ∙ ap (option_map (λ e. e.0)) there

-- what is so of the numbers that are settled and of those in the index, is so of all that were begun
pub apart_told : (bytes : List ℕ) (own older : List Record) (front : ℕ) (settled : List Settled)
    (index : List (ℕ × IndexEntry)) → IsIndexed bytes own front settled index
    → All (λ one. IsApart own older one.id) settled → All (IsApart own older) (keys_of index) → AreApart own older
apart_told bytes own older front settled index indexed past now id begun = by (settled_or_not settled id)
  where
    is_in : (known : Option IndexEntry) → lookup (nat_eq id) index ≡ known → is_begun_at (index_entry known) ≡ true
        → is_some (lookup (nat_eq id) index) ≡ true
    is_in None e there = absurd (true≢false (sym there))
    is_in (Some known) e there = ap is_some e

    by : ((one : Settled) × Contains settled one × (one.id ≡ id)) ⊎ IsUnsettled id settled → is_begun id older ≡ false
    by (inl (one, there, same)) =
        subst (IsApart own older) same (All-contains (λ o. IsApart own older o.id) settled one past there) begun
    by (inr none) =
        let told = begun_told id (drop front bytes) (index_entry (lookup (nat_eq id) index)) own (indexed.known id none)
        ∙ begun in
        All-contains (IsApart own older) (keys_of index) id now
        (Contains-list_any nat_eq (λ x y t. eqb-true x y t) (keys_of index) id
        (sym (is_some-lookup (nat_eq id) index) ∙ is_in (lookup (nat_eq id) index) refl told)) begun
