-- The journal keeps of a number what the groups say.
use Rattle.std.proofs.Common.{◌≡◌, ◌↔◌, ◌⊎◌, inl, inr, ℕ, Bool, true, false, cond, List, [], ◌∷◌, ◌++◌, refl, sym, ap}
use Rattle.std.proofs.Common.{◌∙◌, subst, ◌==◌}
use Rattle.std.specs.Prelude.{⊤}
use Rattle.std.proofs.lemmas.Bool.{eqb-true, eqb-false, eq-eqb}
use Rattle.dali_bank.specs.Order.{Contents}
use Rattle.dali_journal.specs.declared.record.Code.{Code}
use Rattle.dali_journal.specs.declared.record.Code.TheVariants.{Done, Short, Format, Silent, Doubt, DoubtOpen}
use Rattle.dali_journal.specs.declared.record.Record.{Record}
use Rattle.dali_journal.specs.declared.record.Record.TheVariants.{Began, Opened, Ended, Closed}
use Rattle.dali_journal.specs.declared.standing.Standing.{Standing}
use Rattle.dali_journal.specs.declared.standing.Standing.TheVariants as standings
use Rattle.dali_journal.specs.declared.kept.Progress.{Progress}
use Rattle.dali_journal.specs.declared.kept.Progress.TheVariants as reached
use Rattle.dali_journal.specs.declared.kept.Kept.TheVariants as kepts
use Rattle.dali_journal.specs.Sentence.{Allows, next_standing, standing_of, is_begun, IsSentence}
use Rattle.dali_journal.specs.Orders.{come_to, orders_of, kept_at, kept_among, kept_of}
use Rattle.dali_journal.specs.Law.{IsUnended, HasEnded}
use Rattle.dali_journal.proofs.BegunLemmas.{is_kept, kept_where_begun, nothing_kept}
use Rattle.dali_journal.proofs.IndexLemmas.{IsNewest, newest, opened_same}

-- the records at the end of a sentence, by its standing
abbrev Shape : Standing → List Record → Type 0
Shape (standings.Began order) records =
    (older : List Record) × (moment : ℕ) × (records ≡ Began order moment ∷ older)
Shape (standings.Opened order) records =
    (older : List Record) × (moment : ℕ) × (records ≡ Opened order.unit ∷ Began order moment ∷ older)
Shape other records = ⊤

shape_next : (standing : Standing) (entry : Record) (older : List Record) → Allows standing entry → Shape standing older
    → Shape (next_standing standing entry) (entry ∷ older)
shape_next standings.Idle (Began order moment) older a s = (older, moment, refl)
shape_next (standings.Began order) (Opened unit) older a s = (s.0, s.1, let is = s.2 in cc)
shape_next (standings.Began order) (Ended Short) older a s = tt
shape_next (standings.Began order) (Ended Format) older a s = tt
shape_next (standings.Began order) (Ended Silent) older a s = tt
shape_next (standings.Opened order) (Ended Done) older a s = tt
shape_next (standings.Opened order) (Ended Doubt) older a s = tt
shape_next (standings.Opened order) (Ended DoubtOpen) older a s = tt
shape_next (standings.Left unit) (Closed closed) older a s = tt
shape_next _ _ older a s = absurd a

shape : (records : List Record) → IsSentence records → Shape (standing_of records) records
shape [] s = tt
shape (entry ∷ older) s = shape_next (standing_of older) entry older s.1 (shape older s.0)

-- an end ends the newest order, which wasn't ended
record EndsOne (older : List Record) : Type 0 where
  pub order : Contents
  pub moment : ℕ
  pub progress : Progress
  pub before : List Record
  pub rest : List (Contents × Progress)
  pub unfinished : kept_at order progress ≡ kepts.Unfinished order
  pub orders : orders_of older ≡ (order, progress) ∷ rest
  pub stands : ((standing_of older ≡ standings.Began order) × (older ≡ Began order moment ∷ before))
      ⊎ ((standing_of older ≡ standings.Opened order) × (older ≡ Opened order.unit ∷ Began order moment ∷ before))

ends_one : (standing : Standing) (code : Code) (older : List Record) → standing_of older ≡ standing
    → Allows standing (Ended code)
    → IsNewest standing (orders_of older) → Shape standing older → EndsOne older
ends_one (standings.Began order) code older e a n s =
    record {
      order = order;
      moment = s.1;
      progress = reached.Begun;
      before = s.0;
      rest = n.0;
      unfinished = refl;
      orders = n.1;
      stands = inl (e, s.2);
    }
ends_one (standings.Opened order) code older e a n s =
    record {
      order = order;
      moment = s.1;
      progress = reached.Open;
      before = s.0;
      rest = n.0;
      unfinished = refl;
      orders = n.1;
      stands = inr (e, s.2);
    }
ends_one _ code older e a n s = absurd a

ended_one : (code : Code) (older : List Record) → IsSentence (Ended code ∷ older) → EndsOne older
ended_one code older s = ends_one (standing_of older) code older refl s.1 (newest older s.0) (shape older s.0)

-- what is kept before the end, and with it
kept_before : (older : List Record) (one : EndsOne older) (id : ℕ) (test : Bool) → (one.order.id == id) ≡ test
    → kept_of id older ≡ cond test (kepts.Unfinished one.order) (kept_among id one.rest)
kept_before older one id test t =
    ap (kept_among id) one.orders ∙ ap (λ b. cond b (kept_at one.order one.progress) (kept_among id one.rest)) t
    ∙ ap (λ k. cond test k (kept_among id one.rest)) one.unfinished

kept_after : (code : Code) (older : List Record) (one : EndsOne older) (id : ℕ) (test : Bool)
    → (one.order.id == id) ≡ test
    → kept_of id (Ended code ∷ older) ≡ cond test (kepts.Ended one.order code) (kept_among id one.rest)
kept_after code older one id test t =
    ap (λ os. kept_among id (come_to (reached.Ended code) os)) one.orders
    ∙ ap (λ b. cond b (kepts.Ended one.order code) (kept_among id one.rest)) t

-- no two of these are one
absent_or_ended : (order : Contents) (code : Code) → kepts.Absent ≡ kepts.Ended order code → ⊥
absent_or_ended order code e = cc

absent_or_unfinished : (order : Contents) → kepts.Absent ≡ kepts.Unfinished order → ⊥
absent_or_unfinished order e = cc

unfinished_or_ended : (one order : Contents) (code : Code) → kepts.Unfinished one ≡ kepts.Ended order code → ⊥
unfinished_or_ended one order code e = cc

-- An order that ended: what is kept is in the groups

abbrev Found : List Record → ℕ → Contents → Code → Type 0
Found records id order code = (order.id ≡ id) × HasEnded order code records

found_more : (entry : Record) (older : List Record) (id : ℕ) (order : Contents) (code : Code)
    → Found older id order code
    → Found (entry ∷ older) id order code
found_more entry older id order code (e, (moment, newer, before, inl is)) =
    (e, (moment, entry ∷ newer, before, inl (ap (λ rs. entry ∷ rs) is)))
found_more entry older id order code (e, (moment, newer, before, inr is)) =
    (e, (moment, entry ∷ newer, before, inr (ap (λ rs. entry ∷ rs) is)))

found_here : (last : Code) (older : List Record) (id : ℕ) (order : Contents) (code : Code) (one : EndsOne older)
    → (one.order.id == id) ≡ true
    → kepts.Ended one.order last ≡ kepts.Ended order code → Found (Ended last ∷ older) id order code
found_here last older id order code one t k =
    let same : one.order ≡ order = cc in
    let so : last ≡ code = cc in
    let number : one.order.id ≡ id = eqb-true one.order.id id t in
    (ap (λ (o : Contents). o.id) (sym same) ∙ number, by same so one.stands)
  where
    by : one.order ≡ order → last ≡ code
        → ((standing_of older ≡ standings.Began one.order) × (older ≡ Began one.order one.moment ∷ one.before))
        ⊎ ((standing_of older ≡ standings.Opened one.order)
        × (older ≡ Opened one.order.unit ∷ Began one.order one.moment ∷ one.before))
        → HasEnded order code (Ended last ∷ older)
    by same so (inl is) = let at = is.1 in (one.moment, [], one.before, inl cc)
    by same so (inr is) =
        let at : older ≡ Opened order.unit ∷ Began order one.moment ∷ one.before = rw same at is.1 in
        (one.moment, [], one.before, inr cc)

found_end : (last : Code) (older : List Record) (id : ℕ) (order : Contents) (code : Code) (one : EndsOne older)
    → kept_of id (Ended last ∷ older) ≡ kepts.Ended order code
    → (kept_of id older ≡ kepts.Ended order code → Found older id order code)
    → Found (Ended last ∷ older) id order code
found_end last older id order code one k below = by (one.order.id == id) refl where
  by : (test : Bool) → (one.order.id == id) ≡ test → Found (Ended last ∷ older) id order code
  by true t = found_here last older id order code one t (sym (kept_after last older one id true t) ∙ k)
  by false t =
      found_more (Ended last) older id order code
      (below (kept_before older one id false t ∙ sym (kept_after last older one id false t) ∙ k))

found : (records : List Record) (id : ℕ) (order : Contents) (code : Code) → IsSentence records
    → kept_of id records ≡ kepts.Ended order code
    → Found records id order code
found [] id order code s k = absurd (absent_or_ended order code k)
found (Began first moment ∷ older) id order code s k =
    found_more (Began first moment) older id order code (found older id order code s.0 (by (first.id == id) k))
  where
    by : (test : Bool) → cond test (kepts.Unfinished first) (kept_of id older) ≡ kepts.Ended order code
        → kept_of id older ≡ kepts.Ended order code
    by true k = absurd (unfinished_or_ended first order code k)
    by false k = k
found (Opened unit ∷ older) id order code s k =
    found_more (Opened unit) older id order code
    (found older id order code s.0 (opened_same (standing_of older) unit older id s.1 (newest older s.0) ∙ k))
found (Ended last ∷ older) id order code s k =
    found_end last older id order code (ended_one last older s) k (λ before. found older id order code s.0 before)
found (Closed unit ∷ older) id order code s k =
    found_more (Closed unit) older id order code (found older id order code s.0 k)

-- and what is in the groups is kept

still_kept : (entry : Record) (older : List Record) (id : ℕ) (order : Contents) (code : Code)
    → IsSentence (entry ∷ older)
    → kept_of id older ≡ kepts.Ended order code → kept_of id (entry ∷ older) ≡ kepts.Ended order code
still_kept (Began first moment) older id order code s k = by (first.id == id) refl where
  by : (test : Bool) → (first.id == id) ≡ test
      → cond test (kepts.Unfinished first) (kept_of id older) ≡ kepts.Ended order code
  by true t =
      let number : first.id ≡ id = eqb-true first.id id t in
      let begun : is_begun id older ≡ true = kept_where_begun id older ∙ ap is_kept k in
      let new : is_begun id older ≡ false = ap (λ n. is_begun n older) (sym number) ∙ s.2 in
      absurd (let no : true ≡ false = sym begun ∙ new in cc)
  by false t = k
still_kept (Opened unit) older id order code s k =
    sym (opened_same (standing_of older) unit older id s.1 (newest older s.0)) ∙ k
still_kept (Ended last) older id order code s k = by (one.order.id == id) refl where
  one : EndsOne older
  one = ended_one last older s

  by : (test : Bool) → (one.order.id == id) ≡ test → kept_of id (Ended last ∷ older) ≡ kepts.Ended order code
  by true t = absurd (unfinished_or_ended one.order order code (sym (kept_before older one id true t) ∙ k))
  by false t = kept_after last older one id false t ∙ sym (kept_before older one id false t) ∙ k
still_kept (Closed unit) older id order code s k = k

kept_there : (moment : ℕ) (newer older records : List Record) (order : Contents) (code : Code) → IsSentence records
    → (records ≡ newer ++ Ended code ∷ Began order moment ∷ older)
    ⊎ (records ≡ newer ++ Ended code ∷ Opened order.unit ∷ Began order moment ∷ older)
    → kept_of order.id records ≡ kepts.Ended order code
kept_there moment [] older records order code s (inl is) =
    ap (kept_of order.id) is
    ∙ ap (λ b. cond b (kepts.Ended order code) (kept_of order.id older)) (eq-eqb order.id order.id refl)
kept_there moment [] older records order code s (inr is) =
    ap (kept_of order.id) is
    ∙ ap (λ b. cond b (kepts.Ended order code) (kept_of order.id older)) (eq-eqb order.id order.id refl)
kept_there moment (entry ∷ more) older records order code s (inl is) =
    let sentence : IsSentence (entry ∷ (more ++ Ended code ∷ Began order moment ∷ older)) = subst IsSentence is s in
    ap (kept_of order.id) is
    ∙ still_kept entry (more ++ Ended code ∷ Began order moment ∷ older) order.id order code sentence
    (kept_there moment more older (more ++ Ended code ∷ Began order moment ∷ older) order code sentence.0 (inl refl))
kept_there moment (entry ∷ more) older records order code s (inr is) =
    let sentence : IsSentence (entry ∷ (more ++ Ended code ∷ Opened order.unit ∷ Began order moment ∷ older)) =
    subst IsSentence is s in
    ap (kept_of order.id) is
    ∙ still_kept entry (more ++ Ended code ∷ Opened order.unit ∷ Began order moment ∷ older) order.id order code
    sentence
    (kept_there moment more older (more ++ Ended code ∷ Opened order.unit ∷ Began order moment ∷ older) order code
    sentence.0
    (inr refl))

-- An order that hasn't ended

pub unended_stands : (order : Contents) (records : List Record) → IsUnended order records
    → (standing_of records ≡ standings.Began order) ⊎ (standing_of records ≡ standings.Opened order)
unended_stands order records (moment, older, inl is) = inl (ap standing_of is)
unended_stands order records (moment, older, inr is) = inr (ap standing_of is)

-- the order is at work, and the number is its own
abbrev pub Unended : List Record → ℕ → Contents → Type 0
Unended records id order = (order.id ≡ id) × IsUnended order records

-- after such records only what the table allows may come
unended_began : (first : Contents) (moment : ℕ) (older : List Record) (id : ℕ) (order : Contents)
    → Allows (standing_of older) (Began first moment)
    → kept_of id (Began first moment ∷ older) ≡ kepts.Unfinished order
    → (kept_of id older ≡ kepts.Unfinished order → Unended older id order)
    → Unended (Began first moment ∷ older) id order
unended_began first moment older id order a k below = by (first.id == id) refl k where
  none : (standing_of older ≡ standings.Began order) ⊎ (standing_of older ≡ standings.Opened order) → ⊥
  none (inl stands) = rw stands at a
  none (inr stands) = rw stands at a

  by : (test : Bool) → (first.id == id) ≡ test
      → cond test (kepts.Unfinished first) (kept_of id older) ≡ kepts.Unfinished order
      → Unended (Began first moment ∷ older) id order
  by true t k =
      let same : first ≡ order = cc in (
        ap (λ (o : Contents). o.id) (sym same) ∙ eqb-true first.id id t,
        (moment, older, inl (ap (λ o. Began o moment ∷ older) same)),
      )
  by false t k = absurd (none (unended_stands order older (below k).1))

unended_opened : (unit : ℕ) (older : List Record) (order : Contents) → Allows (standing_of older) (Opened unit)
    → IsUnended order older
    → IsUnended order (Opened unit ∷ older)
unended_opened unit older order a (moment, rest, inl is) =
    let stands : standing_of older ≡ standings.Began order = ap standing_of is in
    let same : unit ≡ order.unit = rw stands at a in
    (moment, rest, inr cc)
unended_opened unit older order a (moment, rest, inr is) =
    let stands : standing_of older ≡ standings.Opened order = ap standing_of is in
    absurd (rw stands at a)

not_ended : (last : Code) (older : List Record) (id : ℕ) (order : Contents) (one : EndsOne older)
    → kept_of id (Ended last ∷ older) ≡ kepts.Unfinished order
    → (kept_of id older ≡ kepts.Unfinished order → Unended older id order) → ⊥
not_ended last older id order one k below = by (one.order.id == id) refl where
  same : (standing_of older ≡ standings.Began order) ⊎ (standing_of older ≡ standings.Opened order)
      → ((standing_of older ≡ standings.Began one.order) × (older ≡ Began one.order one.moment ∷ one.before))
      ⊎ ((standing_of older ≡ standings.Opened one.order)
      × (older ≡ Opened one.order.unit ∷ Began one.order one.moment ∷ one.before))
      → one.order ≡ order
  same (inl stands) (inl is) = let e = is.0 in cc
  same (inl stands) (inr is) = let e = is.0 in cc
  same (inr stands) (inl is) = let e = is.0 in cc
  same (inr stands) (inr is) = let e = is.0 in cc

  by : (test : Bool) → (one.order.id == id) ≡ test → ⊥
  by true t = unfinished_or_ended order one.order last (sym k ∙ kept_after last older one id true t)
  by false t =
      let is = below (kept_before older one id false t ∙ sym (kept_after last older one id false t) ∙ k) in
      eqb-false one.order.id id t
      (ap (λ (o : Contents). o.id) (same (unended_stands order older is.1) one.stands) ∙ is.0)

not_closed : (unit : ℕ) (older : List Record) (order : Contents) → Allows (standing_of older) (Closed unit)
    → (standing_of older ≡ standings.Began order) ⊎ (standing_of older ≡ standings.Opened order) → ⊥
not_closed unit older order a (inl stands) = rw stands at a
not_closed unit older order a (inr stands) = rw stands at a

pub unended : (records : List Record) (id : ℕ) (order : Contents) → IsSentence records
    → kept_of id records ≡ kepts.Unfinished order
    → Unended records id order
unended [] id order s k = absurd (absent_or_unfinished order k)
unended (Began first moment ∷ older) id order s k =
    unended_began first moment older id order s.1 k (λ before. unended older id order s.0 before)
unended (Opened unit ∷ older) id order s k =
    let before =
    unended older id order s.0 (opened_same (standing_of older) unit older id s.1 (newest older s.0) ∙ k) in
    (before.0, unended_opened unit older order s.1 before.1)
unended (Ended last ∷ older) id order s k =
    absurd (not_ended last older id order (ended_one last older s) k (λ before. unended older id order s.0 before))
unended (Closed unit ∷ older) id order s k =
    absurd (not_closed unit older order s.1 (unended_stands order older (unended older id order s.0 k).1))

unended_kept : (records : List Record) (order : Contents) → IsUnended order records
    → kept_of order.id records ≡ kepts.Unfinished order
unended_kept records order (moment, older, inl is) =
    ap (kept_of order.id) is
    ∙ ap (λ b. cond b (kepts.Unfinished order) (kept_of order.id older)) (eq-eqb order.id order.id refl)
unended_kept records order (moment, older, inr is) =
    ap (kept_of order.id) is
    ∙ ap (λ b. cond b (kepts.Unfinished order) (kept_of order.id older)) (eq-eqb order.id order.id refl)

-- No order

pub in_the_groups : (records : List Record) (id : ℕ) → IsSentence records
    → ((kept_of id records ≡ kepts.Absent) ↔ (is_begun id records ≡ false))
    × ((order : Contents) → (kept_of id records ≡ kepts.Unfinished order) ↔ ((order.id ≡ id) × IsUnended order records))
    × ((order : Contents) (code : Code)
    → (kept_of id records ≡ kepts.Ended order code) ↔ ((order.id ≡ id) × HasEnded order code records))
in_the_groups records id s = (
  (
    λ k. kept_where_begun id records ∙ ap is_kept k,
    λ none. nothing_kept (kept_of id records) (sym (kept_where_begun id records) ∙ none),
  ),
  (λ order. (unended records id order s, λ is. rw (sym is.0) (unended_kept records order is.1))),
  (λ order code. (
    found records id order code s,
    λ is. rw (sym is.0) (kept_there is.1.0 is.1.1 is.1.2 records order code s is.1.3),
  )),
)
