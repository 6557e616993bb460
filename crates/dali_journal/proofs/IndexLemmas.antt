-- The index goes on telling what the journal has kept, with one record more.
use Rattle.std.proofs.Common.{◌≡◌, ℕ, zero, suc, ◌-◌, ◌≤◌, Bool, true, false, cond, List, [], ◌∷◌, ◌++◌}
use Rattle.std.proofs.Common.{length, take, drop, Option, Some, None, refl, sym, ap, ◌∙◌, subst, arith, length-append}
use Rattle.std.proofs.Common.{length-drop, ◌==◌, append_assoc}
use Rattle.std.proofs.Math.Seq.{drop-append_seam, take-length}
use Rattle.std.proofs.lemmas.List.{append-nil}
use Rattle.std.specs.Prelude.{⊤}
use Rattle.dali_bank.specs.Order.{Contents}
use Rattle.dali_journal.specs.declared.record.Code.{Code}
use Rattle.dali_journal.specs.declared.record.Code.TheVariants.{Done, Short, Format, Silent, Doubt, DoubtOpen}
use Rattle.dali_journal.specs.declared.record.Record.{Record}
use Rattle.dali_journal.specs.declared.record.Record.TheVariants.{Began, Opened, Ended, Closed}
use Rattle.dali_journal.specs.declared.standing.Standing.{Standing}
use Rattle.dali_journal.specs.declared.standing.Standing.TheVariants as standings
use Rattle.dali_journal.specs.declared.kept.Progress.{Progress}
use Rattle.dali_journal.specs.declared.kept.Progress.TheVariants as reached
use Rattle.dali_journal.specs.declared.kept.Kept.{Kept}
use Rattle.dali_journal.specs.declared.kept.Kept.TheVariants as kepts
use Rattle.dali_journal.specs.declared.index.IndexEntry.{IndexEntry}
use Rattle.dali_journal.specs.declared.index.IndexEntry.TheVariants as index_entries
use Rattle.dali_journal.specs.declared.read.Piece.{Piece}
use Rattle.dali_journal.specs.declared.read.Piece.TheVariants.{Whole}
use Rattle.dali_journal.specs.declared.version.Version.TheVariants.{Two}
use Rattle.dali_journal.specs.Sentence.{Allows, next_standing, standing_of, IsSentence}
use Rattle.dali_journal.specs.Orders.{come_to, orders_of, kept_at, kept_among, kept_of, moment_of}
use Rattle.dali_journal.specs.Spelling.{spelling, IsRecord}
use Rattle.dali_journal.specs.Reading.{IsRead}
use Rattle.dali_journal.specs.Index.{IsRecordAt, Agrees, ended_index_entry, index_entry_after}
use Rattle.dali_journal.proofs.DecodeLemmas.{read_is}

-- the order that is at work is the newest, and hasn't ended
abbrev pub IsNewest : Standing → List (Contents × Progress) → Type 0
IsNewest (standings.Began order) orders =
    (older : List (Contents × Progress)) × (orders ≡ (order, reached.Begun) ∷ older)
IsNewest (standings.Opened order) orders =
    (older : List (Contents × Progress)) × (orders ≡ (order, reached.Open) ∷ older)
IsNewest other orders = ⊤

newest_next : (standing : Standing) (entry : Record) (older : List Record) → Allows standing entry
    → IsNewest standing (orders_of older)
    → IsNewest (next_standing standing entry) (orders_of (entry ∷ older))
newest_next standings.Idle (Began order moment) older a n = (orders_of older, refl)
newest_next (standings.Began order) (Opened unit) older a n = (n.0, ap (come_to reached.Open) n.1)
newest_next (standings.Began order) (Ended Short) older a n = tt
newest_next (standings.Began order) (Ended Format) older a n = tt
newest_next (standings.Began order) (Ended Silent) older a n = tt
newest_next (standings.Opened order) (Ended Done) older a n = tt
newest_next (standings.Opened order) (Ended Doubt) older a n = tt
newest_next (standings.Opened order) (Ended DoubtOpen) older a n = tt
newest_next (standings.Left unit) (Closed closed) older a n = tt
newest_next _ _ older a n = absurd a

pub newest : (records : List Record) → IsSentence records → IsNewest (standing_of records) (orders_of records)
newest [] s = tt
newest (entry ∷ older) s = newest_next (standing_of older) entry older s.1 (newest older s.0)

pub drop_append : (n : ℕ) (xs ys : List ℕ) → n ≤ length xs → drop n (xs ++ ys) ≡ drop n xs ++ ys
drop_append zero xs ys h = refl
drop_append (suc n) [] ys h = absurd (omega arith)
drop_append (suc n) (x ∷ xs) ys h = drop_append n xs ys (omega arith)

-- a record that is in bytes is in longer ones
stands_more : (bytes more : List ℕ) (at : ℕ) (entry : Record) → IsRecordAt bytes at entry
    → IsRecordAt (bytes ++ more) at entry
stands_more bytes more at entry stands = (
  let n = length-append bytes more in let h = stands.0 in omega arith,
  (
    stands.1.0,
    stands.1.1 ++ more,
    drop_append at bytes more stands.0 ∙ ap (λ bs. bs ++ more) stands.1.2
        ∙ append_assoc (spelling Two entry) stands.1.1 more,
  ),
)

pub agrees_more : (bytes more : List ℕ) (known : IndexEntry) (kept : Kept) (since : Option ℕ)
    → Agrees bytes known kept since
    → Agrees (bytes ++ more) known kept since
agrees_more bytes more index_entries.NotBegun kept since a = a
agrees_more bytes more (index_entries.Begun at) kept since a =
    (a.0, a.1, a.2, a.3, stands_more bytes more at (Began a.0 a.1) a.4)
agrees_more bytes more (index_entries.Ended at code) kept since a =
    (a.0, a.1, a.2, a.3, stands_more bytes more at (Began a.0 a.1) a.4)

-- an end is noted if the order was begun
ended_agrees : (bytes : List ℕ) (known : IndexEntry) (code : Code) (order : Contents) (since : Option ℕ)
    → Agrees bytes known (kepts.Unfinished order) since
    → Agrees bytes (ended_index_entry code known) (kepts.Ended order code) since
ended_agrees bytes index_entries.NotBegun code order since a = let e = a.0 in cc
ended_agrees bytes (index_entries.Begun at) code order since a =
    let same : order ≡ a.0 = let e = a.2 in cc in
    (a.0, a.1, ap (λ (o : Contents). kepts.Ended o code) same, a.3, a.4)
ended_agrees bytes (index_entries.Ended at other) code order since a = let e = a.2 in cc

-- an end changes what is kept of the order at work, which is the newest, and of no other
end_agrees : (bytes : List ℕ) (known : IndexEntry) (code : Code) (order : Contents) (progress : Progress)
    (orders older : List (Contents × Progress)) (id : ℕ) (since : Option ℕ) (test : Bool)
    → (order.id == id) ≡ test → kept_at order progress ≡ kepts.Unfinished order → orders ≡ (order, progress) ∷ older
    → Agrees bytes known (kept_among id orders) since
    → Agrees bytes (cond test (ended_index_entry code known) known)
    (kept_among id (come_to (reached.Ended code) orders)) since
end_agrees bytes known code order progress orders older id since true t begun is a =
    let before : kept_among id orders ≡ kepts.Unfinished order =
    ap (kept_among id) is ∙ ap (λ b. cond b (kept_at order progress) (kept_among id older)) t ∙ begun in
    let after : kept_among id (come_to (reached.Ended code) orders) ≡ kepts.Ended order code =
    ap (λ os. kept_among id (come_to (reached.Ended code) os)) is
    ∙ ap (λ b. cond b (kepts.Ended order code) (kept_among id older)) t in
    subst (λ (k : Kept). Agrees bytes (ended_index_entry code known) k since) (sym after)
    (ended_agrees bytes known code order since (subst (λ (k : Kept). Agrees bytes known k since) before a))
end_agrees bytes known code order progress orders older id since false t begun is a =
    let before : kept_among id orders ≡ kept_among id older =
    ap (kept_among id) is ∙ ap (λ b. cond b (kept_at order progress) (kept_among id older)) t in
    let after : kept_among id (come_to (reached.Ended code) orders) ≡ kept_among id older =
    ap (λ os. kept_among id (come_to (reached.Ended code) os)) is
    ∙ ap (λ b. cond b (kepts.Ended order code) (kept_among id older)) t in
    subst (λ (k : Kept). Agrees bytes known k since) (before ∙ sym after) a

ended_by : (bytes : List ℕ) (standing : Standing) (code : Code) (older : List Record) (id : ℕ) (known : IndexEntry)
    → Allows standing (Ended code) → IsNewest standing (orders_of older)
    → Agrees bytes known (kept_of id older) (moment_of id older)
    → Agrees bytes (index_entry_after standing (Ended code) (length bytes) id known) (kept_of id (Ended code ∷ older))
    (moment_of id older)
ended_by bytes (standings.Began order) code older id known a n k =
    end_agrees bytes known code order reached.Begun (orders_of older) n.0 id (moment_of id older) (order.id == id) refl
    refl n.1 k
ended_by bytes (standings.Opened order) code older id known a n k =
    end_agrees bytes known code order reached.Open (orders_of older) n.0 id (moment_of id older) (order.id == id) refl
    refl n.1 k
ended_by bytes _ code older id known a n k = absurd a

-- an order that is opened stays unfinished
pub opened_same : (standing : Standing) (unit : ℕ) (older : List Record) (id : ℕ) → Allows standing (Opened unit)
    → IsNewest standing (orders_of older)
    → kept_of id older ≡ kept_of id (Opened unit ∷ older)
opened_same (standings.Began order) unit older id a n =
    ap (kept_among id) n.1 ∙ sym (ap (λ os. kept_among id (come_to reached.Open os)) n.1)
opened_same _ unit older id a n = absurd a

-- the new record is at the place where the bytes ended
stands_new : (bytes : List ℕ) (entry : Record) → IsRecord Two entry
    → IsRecordAt (bytes ++ spelling Two entry) (length bytes) entry
stands_new bytes entry is = (
  let n = length-append bytes (spelling Two entry) in omega arith,
  (is, [], drop-append_seam bytes (spelling Two entry) ∙ sym (append-nil (spelling Two entry))),
)

began_agrees : (bytes : List ℕ) (order : Contents) (moment : ℕ) (older : List Record) (id : ℕ) (known : IndexEntry)
    (test : Bool) → IsRecord Two (Began order moment)
    → (order.id == id) ≡ test → Agrees bytes known (kept_of id older) (moment_of id older)
    → Agrees (bytes ++ spelling Two (Began order moment)) (cond test (index_entries.Begun (length bytes)) known)
    (kept_of id (Began order moment ∷ older)) (moment_of id (Began order moment ∷ older))
began_agrees bytes order moment older id known true is t a = (
  order,
  moment,
  ap (λ b. cond b (kepts.Unfinished order) (kept_of id older)) t,
  ap (λ b. cond b (Some moment) (moment_of id older)) t,
  stands_new bytes (Began order moment) is,
)
began_agrees bytes order moment older id known false is t a =
    subst (λ (b : Bool). Agrees (bytes ++ spelling Two (Began order moment)) known
    (cond b (kepts.Unfinished order) (kept_of id older)) (cond b (Some moment) (moment_of id older))) (sym t)
    (agrees_more bytes (spelling Two (Began order moment)) known (kept_of id older) (moment_of id older) a)

-- what the index tells with one record more is what is then kept
pub index_entry_next : (bytes : List ℕ) (older : List Record) (entry : Record) (id : ℕ) (known : IndexEntry)
    → IsRecord Two entry → IsSentence older
    → Allows (standing_of older) entry → Agrees bytes known (kept_of id older) (moment_of id older)
    → Agrees (bytes ++ spelling Two entry) (index_entry_after (standing_of older) entry (length bytes) id known)
    (kept_of id (entry ∷ older)) (moment_of id (entry ∷ older))
index_entry_next bytes older (Began order moment) id known is s a k =
    began_agrees bytes order moment older id known (order.id == id) is refl k
index_entry_next bytes older (Opened unit) id known is s a k =
    subst (λ (kept : Kept). Agrees (bytes ++ spelling Two (Opened unit)) known kept (moment_of id older))
    (opened_same (standing_of older) unit older id a (newest older s))
    (agrees_more bytes (spelling Two (Opened unit)) known (kept_of id older) (moment_of id older) k)
index_entry_next bytes older (Ended code) id known is s a k =
    agrees_more bytes (spelling Two (Ended code))
    (index_entry_after (standing_of older) (Ended code) (length bytes) id known)
    (kept_of id (Ended code ∷ older)) (moment_of id older)
    (ended_by bytes (standing_of older) code older id known a (newest older s) k)
index_entry_next bytes older (Closed unit) id known is s a k =
    agrees_more bytes (spelling Two (Closed unit)) known (kept_of id older) (moment_of id older) k

-- a slice from a place to the end is what is left there
pub slice_rest : (at : ℕ) (bytes : List ℕ) → take (length bytes - at) (drop at bytes) ≡ drop at bytes
slice_rest at bytes = ap (λ k. take k (drop at bytes)) (sym (length-drop at bytes)) ∙ take-length (drop at bytes)

pub order_there : (bytes : List ℕ) (at : ℕ) (order : Contents) (moment : ℕ) (piece : Piece)
    → IsRead Two (take (length bytes - at) (drop at bytes)) piece
    → IsRecordAt bytes at (Began order moment)
    → piece ≡ Whole (Began order moment) (length (spelling Two (Began order moment)))
order_there bytes at order moment piece reads stands =
    read_is Two (drop at bytes) (Began order moment) piece
    (subst (λ (bs : List ℕ). IsRead Two bs piece) (slice_rest at bytes) reads) stands.1

-- the order that was found at a place is the one that is there
abbrev pub Finds : List ℕ → ℕ → Option (Contents × ℕ) → Type 0
Finds bytes at found = (o : Contents) (m : ℕ) → IsRecordAt bytes at (Began o m) → found ≡ Some (o, m)

found_same : (bytes : List ℕ) (at : ℕ) (order o : Contents) (moment m : ℕ)
    → Finds bytes at (Some (order, moment)) → IsRecordAt bytes at (Began o m) → (order ≡ o) × (moment ≡ m)
found_same bytes at order o moment m finds there =
    let same = finds o m there in
    let both : (order, moment) ≡ (o, m) = cc in
    (ap (λ (pair : Contents × ℕ). pair.0) both, ap (λ (pair : Contents × ℕ). pair.1) both)

nothing_there : (bytes : List ℕ) (at : ℕ) (o : Contents) (m : ℕ) → Finds bytes at None
    → IsRecordAt bytes at (Began o m) → ⊥
nothing_there bytes at o m finds there = let e = finds o m there in cc

-- the answer about an order whose entry in the index agrees with its kept state
pub told_unfinished : (bytes : List ℕ) (known : IndexEntry) (at : ℕ) (kept : Kept) (since : Option ℕ) (order : Contents)
    (moment : ℕ) → known ≡ index_entries.Begun at
    → Finds bytes at (Some (order, moment))
    → Agrees bytes known kept since → (kepts.Unfinished order ≡ kept) × (Some moment ≡ since)
told_unfinished bytes known at kept since order moment is found agrees =
    let a = subst (λ (p : IndexEntry). Agrees bytes p kept since) is agrees in
    let same = found_same bytes at order a.0 moment a.1 found a.4 in
    (ap kepts.Unfinished same.0 ∙ sym a.2, ap Some same.1 ∙ sym a.3)

pub told_ended : (bytes : List ℕ) (known : IndexEntry) (at : ℕ) (code : Code) (kept : Kept) (since : Option ℕ)
    (order : Contents) (moment : ℕ) → known ≡ index_entries.Ended at code
    → Finds bytes at (Some (order, moment))
    → Agrees bytes known kept since → (kepts.Ended order code ≡ kept) × (Some moment ≡ since)
told_ended bytes known at code kept since order moment is found agrees =
    let a = subst (λ (p : IndexEntry). Agrees bytes p kept since) is agrees in
    let same = found_same bytes at order a.0 moment a.1 found a.4 in
    (ap (λ (o : Contents). kepts.Ended o code) same.0 ∙ sym a.2, ap Some same.1 ∙ sym a.3)

pub found_unfinished : (bytes : List ℕ) (known : IndexEntry) (at : ℕ) (kept : Kept) (since : Option ℕ)
    → known ≡ index_entries.Begun at
    → Finds bytes at None
    → Agrees bytes known kept since → ⊥
found_unfinished bytes known at kept since is found agrees =
    let a = subst (λ (p : IndexEntry). Agrees bytes p kept since) is agrees in
    nothing_there bytes at a.0 a.1 found a.4

pub found_ended : (bytes : List ℕ) (known : IndexEntry) (at : ℕ) (code : Code) (kept : Kept) (since : Option ℕ)
    → known ≡ index_entries.Ended at code
    → Finds bytes at None
    → Agrees bytes known kept since → ⊥
found_ended bytes known at code kept since is found agrees =
    let a = subst (λ (p : IndexEntry). Agrees bytes p kept since) is agrees in
    nothing_there bytes at a.0 a.1 found a.4
