-- Lemmas on what a journal says of an order.
use Rattle.std.proofs.Common.{◌≡◌, ◌≢◌, ◌⊎◌, inl, inr, ◌∙◌, ◌==◌, ◌||◌, ◌<◌, ◌≤◌, ◌+◌, ℕ, Bool, true, false, not, cond}
use Rattle.std.proofs.Common.{List, [], ◌∷◌, ◌++◌, Option, Some, None, IfSome, refl, sym, ap, subst, arith, reverse, drop}
use Rattle.std.proofs.Common.{length, length-append, append_assoc, append-nil}
use Rattle.std.specs.List.{AllByRecursion, flat_map}
use Rattle.std.proofs.lemmas.Bool.{eqb-true, eq-eqb}
use Rattle.std.proofs.lemmas.List.{reverse-append}
use Rattle.std.proofs.Math.Seq.{drop-append_seam}
use Rattle.dali_bank.specs.Order.{Contents}
use Rattle.dali_journal.specs.declared.kept.Kept.{Kept}
use Rattle.dali_journal.specs.declared.kept.Kept.TheVariants as kepts
use Rattle.dali_journal.specs.declared.kept.Progress.{Progress}
use Rattle.dali_journal.specs.declared.kept.Progress.TheVariants as reached
use Rattle.dali_journal.specs.declared.read.Piece.{Piece}
use Rattle.dali_journal.specs.declared.read.Piece.TheVariants.{Whole}
use Rattle.dali_journal.specs.declared.record.Code.{Code}
use Rattle.dali_journal.specs.declared.record.Code.TheVariants.{Done, Short, Format, Silent, Doubt, DoubtOpen}
use Rattle.dali_journal.specs.declared.record.Record.{Record}
use Rattle.dali_journal.specs.declared.record.Record.TheVariants.{Began, Opened, Ended, Closed}
use Rattle.dali_journal.specs.declared.standing.Standing.{Standing}
use Rattle.dali_journal.specs.declared.standing.Standing.TheVariants as standings
use Rattle.dali_journal.specs.declared.version.Version.TheVariants.{Two}
use Rattle.dali_journal.specs.Orders.{come_to, orders_of, kept_among, kept_of}
use Rattle.dali_journal.specs.Reading.{IsRead}
use Rattle.dali_journal.specs.Sentence.{Allows, IsNew, IsSentence, is_begun, next_standing, standing_of}
use Rattle.dali_journal.specs.Spelling.{IsRecord, spelling}
use Rattle.dali_journal.proofs.BegunLemmas.{is_kept, kept_where_begun}
use Rattle.dali_journal.proofs.DecodeLemmas.{read_is, some_bytes}
use Rattle.dali_journal.proofs.IndexLemmas.{IsNewest, newest, opened_same}
use Rattle.dali_file_commands.specs.declared.known.Survey.{Survey}
use Rattle.dali_file_commands.specs.Known.{IsAbove, IsFirstAbove, is_closed_since}
use Rattle.dali_file_commands.specs.Survey.{IsSurvey, above, is_left_by, newest_of}

-- ---- closed since

later_false : (a b : Bool) → (a || b) ≡ false → b ≡ false
later_false true b e = cc
later_false false b e = e

unbegun_unclosed : (id : ℕ) (records : List Record) → is_begun id records ≡ false → is_closed_since id records ≡ false
unbegun_unclosed id [] none = refl
unbegun_unclosed id (Began order moment ∷ older) none =
    unbegun_unclosed id older (later_false (order.id == id) (is_begun id older) none)
unbegun_unclosed id (Opened unit ∷ older) none = unbegun_unclosed id older none
unbegun_unclosed id (Ended code ∷ older) none = unbegun_unclosed id older none
unbegun_unclosed id (Closed unit ∷ older) none = rw none (unbegun_unclosed id older none)

-- the order of this number is at work
abbrev IsOnto : ℕ → Standing → Type 0
IsOnto id (standings.Began order) = order.id ≡ id
IsOnto id (standings.Opened order) = order.id ≡ id
IsOnto id standings.Idle = ⊥
IsOnto id (standings.Left unit) = ⊥

onto_next : (id : ℕ) (standing : Standing) (entry : Record) (older : List Record) → Allows standing entry
    → IsNew entry older → (IsOnto id standing → is_closed_since id older ≡ false)
    → IsOnto id (next_standing standing entry) → is_closed_since id (entry ∷ older) ≡ false
onto_next id standings.Idle (Began order moment) older a new before is =
    unbegun_unclosed id older (subst (λ n. is_begun n older ≡ false) is new)
onto_next id (standings.Began order) (Opened unit) older a new before is = before is
onto_next id (standings.Began order) (Ended Short) older a new before is = absurd is
onto_next id (standings.Began order) (Ended Format) older a new before is = absurd is
onto_next id (standings.Began order) (Ended Silent) older a new before is = absurd is
onto_next id (standings.Opened order) (Ended Done) older a new before is = absurd is
onto_next id (standings.Opened order) (Ended Doubt) older a new before is = absurd is
onto_next id (standings.Opened order) (Ended DoubtOpen) older a new before is = absurd is
onto_next id (standings.Left unit) (Closed closed) older a new before is = absurd is
onto_next _ _ _ older a new before is = absurd a

-- no unit was closed since an order that is at work began
onto_unclosed : (id : ℕ) (records : List Record) → IsSentence records → IsOnto id (standing_of records)
    → is_closed_since id records ≡ false
onto_unclosed id [] s is = absurd is
onto_unclosed id (entry ∷ older) s is =
    onto_next id (standing_of older) entry older s.1 s.2 (onto_unclosed id older s.0) is

-- the order that ended is another than the one that began
other_kept : (first order : Contents) (code : Code) (test : Bool) (kept : Kept)
    → cond test (kepts.Unfinished first) kept ≡ kepts.Ended order code → kept ≡ kepts.Ended order code
other_kept first order code true kept e = cc
other_kept first order code false kept e = e

-- the newest order is the one that ended, or it is another
ended_or_other : (order newest : Contents) (ended code : Code) (test : Bool) (kept : Kept)
    → newest.id == order.id ≡ test
    → cond test (kepts.Ended newest ended) kept ≡ kepts.Ended order code
    → ((newest ≡ order) × (ended ≡ code)) ⊎ ((newest.id == order.id ≡ false) × (kept ≡ kepts.Ended order code))
ended_or_other order newest ended code true kept is e = inl (cc, cc)
ended_or_other order newest ended code false kept is e = inr (is, e)

ended_kept : (order newest : Contents) (progress : Progress) (ended code : Code)
    (orders older : List (Contents × Progress))
    → orders ≡ (newest, progress) ∷ older
    → kept_among order.id (come_to (reached.Ended ended) orders) ≡ kepts.Ended order code
    → ((newest ≡ order) × (ended ≡ code))
    ⊎ ((newest.id == order.id ≡ false) × (kept_among order.id orders ≡ kepts.Ended order code))
ended_kept order newest progress ended code orders older are e =
    told (ended_or_other order newest ended code (newest.id == order.id) (kept_among order.id older) refl
    (subst (λ those. kept_among order.id (come_to (reached.Ended ended) those) ≡ kepts.Ended order code) are e))
  where
    told : ((newest ≡ order) × (ended ≡ code))
        ⊎ ((newest.id == order.id ≡ false) × (kept_among order.id older ≡ kepts.Ended order code))
        → ((newest ≡ order) × (ended ≡ code))
        ⊎ ((newest.id == order.id ≡ false) × (kept_among order.id orders ≡ kepts.Ended order code))
    told (inl same) = inl same
    told (inr (other, is)) = inr (other, rw (are, other) is)

newest_come : (progress : Progress) (orders : List (Contents × Progress))
    → newest_of (come_to progress orders) ≡ newest_of orders
newest_come progress [] = refl
newest_come progress (newest ∷ older) = refl

same_id : (order : Contents) (newest : Contents) → newest ≡ order → newest.id == order.id ≡ true
same_id order newest is = eq-eqb newest.id order.id (ap (λ (o : Contents). o.id) is)

-- what the rest of the records says of the order that ended, and what one more does
abbrev IsToldBy : Contents → Standing → List Record → List (Contents × Progress) → Type 0
IsToldBy order standing records orders =
    is_closed_since order.id records ≡ not (is_left_by standing (newest_of orders) order.id)

module _ (order : Contents) where
  -- an end that leaves no unit open is another order's
  not_left : (first : Contents) (progress : Progress) (code : Code) (older : List Record)
      (rest : List (Contents × Progress))
      → code ≢ DoubtOpen → orders_of older ≡ (first, progress) ∷ rest
      → (kept_of order.id older ≡ kepts.Ended order DoubtOpen → is_closed_since order.id older ≡ true)
      → kept_of order.id (Ended code ∷ older) ≡ kepts.Ended order DoubtOpen → is_closed_since order.id older ≡ true
  not_left first progress code older rest other are earlier kept = by
      (ended_kept order first progress code DoubtOpen (orders_of older) rest are kept)
    where
      by : ((first ≡ order) × (code ≡ DoubtOpen))
          ⊎ ((first.id == order.id ≡ false) × (kept_of order.id older ≡ kepts.Ended order DoubtOpen))
          → is_closed_since order.id older ≡ true
      by (inl (same, is)) = absurd (other is)
      by (inr (elsewhere, is)) = earlier is

  told_next : (standing : Standing) (entry : Record) (older : List Record) → Allows standing entry
      → IsNewest standing (orders_of older) → (IsOnto order.id standing → is_closed_since order.id older ≡ false)
      → (kept_of order.id older ≡ kepts.Ended order DoubtOpen → IsToldBy order standing older (orders_of older))
      → kept_of order.id (entry ∷ older) ≡ kepts.Ended order DoubtOpen
      → IsToldBy order (next_standing standing entry) (entry ∷ older) (orders_of (entry ∷ older))
  told_next standings.Idle (Began first moment) older a n onto earlier kept =
      earlier (other_kept first order DoubtOpen (first.id == order.id) (kept_of order.id older) kept)
  told_next (standings.Began first) (Opened unit) older a n onto earlier kept =
      earlier (opened_same (standings.Began first) unit older order.id a n ∙ kept)
  told_next (standings.Began first) (Ended Short) older a n onto earlier kept =
      not_left first reached.Begun Short older n.0 (λ clash. cc) n.1 earlier kept
  told_next (standings.Began first) (Ended Format) older a n onto earlier kept =
      not_left first reached.Begun Format older n.0 (λ clash. cc) n.1 earlier kept
  told_next (standings.Began first) (Ended Silent) older a n onto earlier kept =
      not_left first reached.Begun Silent older n.0 (λ clash. cc) n.1 earlier kept
  told_next (standings.Opened first) (Ended Done) older a n onto earlier kept =
      not_left first reached.Open Done older n.0 (λ clash. cc) n.1 earlier kept
  told_next (standings.Opened first) (Ended Doubt) older a n onto earlier kept =
      not_left first reached.Open Doubt older n.0 (λ clash. cc) n.1 earlier kept
  told_next (standings.Opened first) (Ended DoubtOpen) older a n onto earlier kept = by
      (ended_kept order first reached.Open DoubtOpen DoubtOpen (orders_of older) n.0 n.1 kept)
    where
      id_now : newest_of (come_to (reached.Ended DoubtOpen) (orders_of older)) ≡ Some first.id
      id_now = newest_come (reached.Ended DoubtOpen) (orders_of older) ∙ ap newest_of n.1

      by : ((first ≡ order) × (DoubtOpen ≡ DoubtOpen))
          ⊎ ((first.id == order.id ≡ false) × (kept_of order.id older ≡ kepts.Ended order DoubtOpen))
          → is_closed_since order.id older ≡ not (is_left_by (standings.Left first.unit)
          (newest_of (come_to (reached.Ended DoubtOpen) (orders_of older))) order.id)
      by (inl (same, is)) =
          onto (ap (λ (o : Contents). o.id) same) ∙ sym (rw (id_now, same_id order first same) refl)
      by (inr (other, is)) = earlier is ∙ sym (rw (id_now, other) refl)
  told_next (standings.Left unit) (Closed closed) older a n onto earlier kept =
      rw (kept_where_begun order.id older ∙ ap is_kept kept) refl
  told_next _ _ older a n onto earlier kept = absurd a

  -- a unit that an order left open is closed since, except if the newest order is this one and has left it
  pub closed_told : (records : List Record) → IsSentence records
      → kept_of order.id records ≡ kepts.Ended order DoubtOpen
      → IsToldBy order (standing_of records) records (orders_of records)
  closed_told [] s kept = cc
  closed_told (entry ∷ older) s kept =
      told_next (standing_of older) entry older s.1 (newest older s.0) (onto_unclosed order.id older s.0)
      (closed_told older s.0) kept

-- ---- the greatest number

above_began : (order : Contents) (moment : ℕ) (older : List Record) (was is : ℕ)
    → IsFirstAbove older was → was ≤ is → order.id + 1 ≤ is → (is ≡ was) ⊎ (is ≡ order.id + 1)
    → IsFirstAbove (Began order moment ∷ older) is
above_began order moment older was is first least new one = (
  λ id begun. by id (order.id == id) refl begun,
  λ other are. from other are one,
)
  where
    by : (id : ℕ) (test : Bool) → order.id == id ≡ test → (test || is_begun id older) ≡ true → id < is
    by id true e begun = let same : order.id ≡ id = eqb-true order.id id e in omega (arith, new, same)
    by id false e begun = let below = first.0 id begun in omega (arith, below, least)

    from : (other : ℕ) → IsAbove (Began order moment ∷ older) other → (is ≡ was) ⊎ (is ≡ order.id + 1) → is ≤ other
    from other are (inl same) =
        let most = first.1 other (λ id begun. are id (rw begun (or_true (order.id == id)))) in omega (arith, most, same)
      where
        or_true : (test : Bool) → (test || true) ≡ true
        or_true true = refl
        or_true false = refl
    from other are (inr same) =
        let below = are order.id (rw (eq-eqb order.id order.id refl) refl) in omega (arith, below, same)

pub began_surveyed : (order : Contents) (moment : ℕ) (older : List Record) (survey : Survey) (greatest : ℕ)
    → IsSurvey older survey → order.id ≤ greatest → IfSome survey.greatest (λ other. other ≤ greatest)
    → (greatest ≡ order.id) ⊎ (survey.greatest ≡ Some greatest)
    → IsSurvey (Began order moment ∷ older) (record { greatest = Some greatest; newest = Some order.id })
began_surveyed order moment older survey greatest is least others one = record {
  first_above = above_began order moment older (above survey.greatest) (greatest + 1) is.first_above
      (below survey.greatest others) (omega (arith, least)) (which one);
  newest_is = refl;
}
  where
    below : (was : Option ℕ) → IfSome was (λ other. other ≤ greatest) → above was ≤ greatest + 1
    below None most = omega arith
    below (Some other) most = omega (arith, most)

    which : (greatest ≡ order.id) ⊎ (survey.greatest ≡ Some greatest)
        → (greatest + 1 ≡ above survey.greatest) ⊎ (greatest + 1 ≡ order.id + 1)
    which (inl same) = inr (ap (λ n. n + 1) same)
    which (inr same) = inl (sym (ap above same))

-- a record that begins no order
pub later_surveyed : (entry : Record) (older : List Record) (survey : Survey)
    → ((id : ℕ) → is_begun id (entry ∷ older) ≡ is_begun id older)
    → newest_of (orders_of (entry ∷ older)) ≡ newest_of (orders_of older)
    → IsSurvey older survey → IsSurvey (entry ∷ older) survey
later_surveyed entry older survey begun newest is = record {
  first_above = (
    λ id is_one. is.first_above.0 id (sym (begun id) ∙ is_one),
    λ other are. is.first_above.1 other (λ id is_one. are id (begun id ∙ is_one)),
  );
  newest_is = is.newest_is ∙ sym newest;
}

pub opened_surveyed : (unit : ℕ) (older : List Record) (survey : Survey) → IsSurvey older survey
    → IsSurvey (Opened unit ∷ older) survey
opened_surveyed unit older survey is =
    later_surveyed (Opened unit) older survey (λ id. refl) (newest_come reached.Open (orders_of older)) is

pub ended_surveyed : (code : Code) (older : List Record) (survey : Survey) → IsSurvey older survey
    → IsSurvey (Ended code ∷ older) survey
ended_surveyed code older survey is =
    later_surveyed (Ended code) older survey (λ id. refl) (newest_come (reached.Ended code) (orders_of older)) is

pub closed_surveyed : (unit : ℕ) (older : List Record) (survey : Survey) → IsSurvey older survey
    → IsSurvey (Closed unit ∷ older) survey
closed_surveyed unit older survey is = later_surveyed (Closed unit) older survey (λ id. refl) refl is

-- before the first record
pub none_surveyed : IsSurvey [] (record { greatest = None; newest = None })
none_surveyed = record { first_above = (λ id begun. cc, λ other are. omega arith); newest_is = refl }

-- ---- one record after the other

-- some of the records, the oldest first, are looked at, and the rest of the bytes are those of the others
pub record SurveyedSoFar (records : List Record) (rest : List ℕ) (survey : Survey) : Type 0 where
  pub done : List Record
  pub left : List Record
  pub split : records ≡ done ++ left
  pub in_range : AllByRecursion (IsRecord Two) left
  pub bytes : rest ≡ flat_map (spelling Two) left
  pub surveyed : IsSurvey (reverse done) survey

pub none_so_far : (records : List Record) (bytes : List ℕ) → AllByRecursion (IsRecord Two) records
    → bytes ≡ flat_map (spelling Two) records
    → SurveyedSoFar records bytes (record { greatest = None; newest = None })
none_so_far records bytes all are = record {
  done = [];
  left = records;
  split = refl;
  in_range = all;
  bytes = are;
  surveyed = none_surveyed;
}

read_off : (records done left : List Record) (rest : List ℕ) (entry : Record) (len : ℕ) (survey now : Survey)
    → IsRead Two rest (Whole entry len) → records ≡ done ++ left → AllByRecursion (IsRecord Two) left
    → rest ≡ flat_map (spelling Two) left → IsSurvey (reverse done) survey
    → ((those : List Record) → IsSurvey those survey → IsSurvey (entry ∷ those) now)
    → SurveyedSoFar records (drop len rest) now
read_off records done [] rest entry len survey now reads split all bytes is more =
    let long = ap length (sym bytes ∙ reads.0.2) ∙ length-append (spelling Two entry) reads.0.1 in
    absurd (omega (arith, long, some_bytes Two entry))
read_off records done (first ∷ others) rest entry len survey now reads split all bytes is more =
    let same : Whole entry len ≡ Whole first (length (spelling Two first)) =
    read_is Two rest first (Whole entry len) reads (all.0, flat_map (spelling Two) others, bytes) in
    let is_first : entry ≡ first = cc in
    let long : len ≡ length (spelling Two first) = cc in
    record {
      done = done ++ first ∷ [];
      left = others;
      split = split ∙ sym (append_assoc done (first ∷ []) others);
      in_range = all.1;
      bytes =
          ap (λ n. drop n rest) long ∙ ap (drop (length (spelling Two first))) bytes
          ∙ drop-append_seam (spelling Two first) (flat_map (spelling Two) others);
      surveyed =
          subst (λ those. IsSurvey those now) (sym (reverse-append done (first ∷ [])))
          (subst (λ e. IsSurvey (e ∷ reverse done) now) is_first (more (reverse done) is));
    }

pub one_more : (records : List Record) (rest : List ℕ) (entry : Record) (len : ℕ) (survey now : Survey)
    → IsRead Two rest (Whole entry len) → SurveyedSoFar records rest survey
    → ((those : List Record) → IsSurvey those survey → IsSurvey (entry ∷ those) now)
    → SurveyedSoFar records (drop len rest) now
one_more records rest entry len survey now reads far more =
    read_off records far.done far.left rest entry len survey now reads far.split far.in_range far.bytes far.surveyed
    more

-- if the rest begins with no record, all are looked at
none_left : (records done left : List Record) (rest : List ℕ) (piece : Piece) (survey : Survey)
    → IsRead Two rest piece → ((entry : Record) (len : ℕ) → ¬ (piece ≡ Whole entry len))
    → records ≡ done ++ left → AllByRecursion (IsRecord Two) left → rest ≡ flat_map (spelling Two) left
    → IsSurvey (reverse done) survey → IsSurvey (reverse records) survey
none_left records done [] rest piece survey reads other split all bytes is =
    subst (λ those. IsSurvey (reverse those) survey) (sym (split ∙ append-nil done)) is
none_left records done (first ∷ others) rest piece survey reads other split all bytes is =
    absurd
    (other first (length (spelling Two first))
    (read_is Two rest first piece reads (all.0, flat_map (spelling Two) others, bytes)))

pub all_surveyed : (records : List Record) (rest : List ℕ) (piece : Piece) (survey : Survey)
    → IsRead Two rest piece → ((entry : Record) (len : ℕ) → ¬ (piece ≡ Whole entry len))
    → SurveyedSoFar records rest survey → IsSurvey (reverse records) survey
all_surveyed records rest piece survey reads other far =
    none_left records far.done far.left rest piece survey reads other far.split far.in_range far.bytes far.surveyed
