-- Records after older ones that are at rest.
use Rattle.std.proofs.Common.{◌≡◌, ℕ, Bool, true, false, cond, ◌||◌, List, [], ◌∷◌, ◌++◌, length, refl, sym, ap, ◌∙◌}
use Rattle.std.proofs.Common.{subst, ◌==◌, arith, length-append, true≢false, None, Some}
use Rattle.std.proofs.lemmas.Bool.{eqb-true}
use Rattle.dali_bank.specs.Order.{Contents}
use Rattle.dali_journal.specs.declared.record.Code.{Code}
use Rattle.dali_journal.specs.declared.record.Record.{Record}
use Rattle.dali_journal.specs.declared.record.Record.TheVariants.{Began, Opened, Ended, Closed}
use Rattle.dali_journal.specs.declared.standing.Standing.{Standing}
use Rattle.dali_journal.specs.declared.standing.Standing.TheVariants as standings
use Rattle.dali_journal.specs.declared.kept.Progress.{Progress}
use Rattle.dali_journal.specs.declared.kept.Progress.TheVariants as reached
use Rattle.dali_journal.specs.declared.kept.Kept.TheVariants as kepts
use Rattle.dali_journal.specs.declared.version.Version.{Version}
use Rattle.dali_journal.specs.Sentence.{Allows, next_standing, standing_of, is_begun, IsNew, IsSentence}
use Rattle.dali_journal.specs.Orders.{come_to, orders_of, kept_at, kept_among, kept_of, moment_of}
use Rattle.dali_journal.specs.Behind.{OwnRecordsStandAlone, OlderOrdersAreKept}
use Rattle.dali_journal.proofs.BegunLemmas.{kept_where_begun, nothing_kept}
use Rattle.dali_journal.proofs.DecodeLemmas.{AreRecords}
use Rattle.dali_journal.proofs.IndexLemmas.{IsNewest, newest}

-- ---- the records of both are in range

pub records_both : (version : Version) (own older : List Record) → AreRecords version own → AreRecords version older
    → AreRecords version (own ++ older)
records_both version [] older o p = p
records_both version (newest ∷ own) older o p = (o.0, records_both version own older o.1 p)

-- ---- the own records are a journal alone

pub standing_joined : (own older : List Record) → standing_of older ≡ standings.Idle
    → standing_of (own ++ older) ≡ standing_of own
standing_joined [] older rests = rests
standing_joined (newest ∷ own) older rests = ap (λ st. next_standing st newest) (standing_joined own older rests)

pub begun_joined : (id : ℕ) (own older : List Record)
    → is_begun id (own ++ older) ≡ (is_begun id own || is_begun id older)
begun_joined id [] older = refl
begun_joined id (Began order moment ∷ own) older = by (order.id == id) (begun_joined id own older)
  where
    by : (test : Bool) → is_begun id (own ++ older) ≡ (is_begun id own || is_begun id older)
        → (test || is_begun id (own ++ older)) ≡ ((test || is_begun id own) || is_begun id older)
    by true e = refl
    by false e = e
begun_joined id (Opened unit ∷ own) older = begun_joined id own older
begun_joined id (Ended code ∷ own) older = begun_joined id own older
begun_joined id (Closed unit ∷ own) older = begun_joined id own older

left_false : (a b : Bool) → (a || b) ≡ false → a ≡ false
left_false true b e = e
left_false false b e = refl

right_false : (a b : Bool) → (a || b) ≡ false → b ≡ false
right_false true b e = absurd (true≢false e)
right_false false b e = e

new_own : (entry : Record) (own older : List Record) → IsNew entry (own ++ older) → IsNew entry own
new_own (Began order moment) own older new =
    left_false (is_begun order.id own) (is_begun order.id older) (sym (begun_joined order.id own older) ∙ new)
new_own (Opened unit) own older new = tt
new_own (Ended code) own older new = tt
new_own (Closed unit) own older new = tt

sentence_own : (own older : List Record) → standing_of older ≡ standings.Idle → IsSentence (own ++ older)
    → IsSentence own
sentence_own [] older rests s = tt
sentence_own (newest ∷ own) older rests s = (
  sentence_own own older rests s.0,
  subst (λ (st : Standing). Allows st newest) (standing_joined own older rests) s.1,
  new_own newest own older s.2,
)

records_own : (version : Version) (own older : List Record) → AreRecords version (own ++ older) → AreRecords version own
records_own version [] older are = tt
records_own version (newest ∷ own) older are = (are.0, records_own version own older are.1)

-- an order that is at work comes further among its own
front_opened : (st : Standing) (unit : ℕ) (own older : List (Contents × Progress)) → Allows st (Opened unit)
    → IsNewest st own → come_to reached.Open (own ++ older) ≡ come_to reached.Open own ++ older
front_opened (standings.Began order) unit own older a n =
    ap (λ os. come_to reached.Open (os ++ older)) n.1 ∙ sym (ap (λ os. come_to reached.Open os ++ older) n.1)
front_opened _ unit own older a n = absurd a

front_ended : (st : Standing) (code : Code) (own older : List (Contents × Progress)) → Allows st (Ended code)
    → IsNewest st own → come_to (reached.Ended code) (own ++ older) ≡ come_to (reached.Ended code) own ++ older
front_ended (standings.Began order) code own older a n =
    ap (λ os. come_to (reached.Ended code) (os ++ older)) n.1
    ∙ sym (ap (λ os. come_to (reached.Ended code) os ++ older) n.1)
front_ended (standings.Opened order) code own older a n =
    ap (λ os. come_to (reached.Ended code) (os ++ older)) n.1
    ∙ sym (ap (λ os. come_to (reached.Ended code) os ++ older) n.1)
front_ended _ code own older a n = absurd a

pub orders_joined : (own older : List Record) → IsSentence own
    → orders_of (own ++ older) ≡ orders_of own ++ orders_of older
orders_joined [] older s = refl
orders_joined (Began order moment ∷ own) older s = ap (λ os. (order, reached.Begun) ∷ os) (orders_joined own older s.0)
orders_joined (Opened unit ∷ own) older s =
    ap (come_to reached.Open) (orders_joined own older s.0)
    ∙ front_opened (standing_of own) unit (orders_of own) (orders_of older) s.1 (newest own s.0)
orders_joined (Ended code ∷ own) older s =
    ap (come_to (reached.Ended code)) (orders_joined own older s.0)
    ∙ front_ended (standing_of own) code (orders_of own) (orders_of older) s.1 (newest own s.0)
orders_joined (Closed unit ∷ own) older s = orders_joined own older s.0

pub stand_alone : OwnRecordsStandAlone
stand_alone version limit own older rests kept =
    let s = sentence_own own older rests kept.whole.0 in
    let count = ap length (orders_joined own older s) ∙ length-append (orders_of own) (orders_of older) in
    let few = kept.whole.1 in (
      record {
        in_range = records_own version own older kept.in_range;
        whole = (s, omega arith);
      },
      standing_joined own older rests,
      omega arith,
    )

-- ---- what is kept

no_second : (id : ℕ) (own older : List Record) → IsSentence (own ++ older) → is_begun id older ≡ true
    → is_begun id own ≡ false
no_second id [] older s begun = refl
no_second id (Began order moment ∷ own) older s begun = by (order.id == id) refl (no_second id own older s.0 begun)
  where
    by : (test : Bool) → (order.id == id) ≡ test → is_begun id own ≡ false → (test || is_begun id own) ≡ false
    by true t none =
        let same : order.id ≡ id = eqb-true order.id id t in
        absurd (true≢false (sym begun ∙ right_false (is_begun id own) (is_begun id older)
        (sym (begun_joined id own older) ∙ subst (λ n. is_begun n (own ++ older) ≡ false) same s.2)))
    by false t none = none
no_second id (Opened unit ∷ own) older s begun = no_second id own older s.0 begun
no_second id (Ended code ∷ own) older s begun = no_second id own older s.0 begun
no_second id (Closed unit ∷ own) older s begun = no_second id own older s.0 begun

pub absent : (id : ℕ) (records : List Record) → is_begun id records ≡ false → kept_of id records ≡ kepts.Absent
absent id records none = nothing_kept (kept_of id records) (sym (kept_where_begun id records) ∙ none)

kept_front : (id : ℕ) (own older : List (Contents × Progress)) → kept_among id older ≡ kepts.Absent
    → kept_among id (own ++ older) ≡ kept_among id own
kept_front id [] older none = none
kept_front id (next ∷ own) older none =
    ap (λ k. cond (next.0.id == id) (kept_at next.0 next.1) k) (kept_front id own older none)

some_kept : (order : Contents) (progress : Progress) → kept_at order progress ≡ kepts.Absent → ⊥
some_kept order (reached.Ended code) e = cc
some_kept order reached.Begun e = cc
some_kept order reached.Open e = cc

kept_back : (id : ℕ) (own older : List (Contents × Progress)) → kept_among id own ≡ kepts.Absent
    → kept_among id (own ++ older) ≡ kept_among id older
kept_back id [] older none = refl
kept_back id (next ∷ own) older none = by (next.0.id == id) (kept_back id own older) none
  where
    by : (test : Bool)
        → (kept_among id own ≡ kepts.Absent → kept_among id (own ++ older) ≡ kept_among id older)
        → cond test (kept_at next.0 next.1) (kept_among id own) ≡ kepts.Absent
        → cond test (kept_at next.0 next.1) (kept_among id (own ++ older)) ≡ kept_among id older
    by true behind there = absurd (some_kept next.0 next.1 there)
    by false behind there = behind there

moment_front : (id : ℕ) (own older : List Record) → is_begun id older ≡ false
    → moment_of id (own ++ older) ≡ moment_of id own
moment_front id [] [] none = refl
moment_front id [] (Began order moment ∷ older) none = by (order.id == id) (moment_front id [] older) none
  where
    by : (test : Bool) → (is_begun id older ≡ false → moment_of id older ≡ None) → (test || is_begun id older) ≡ false
        → cond test (Some moment) (moment_of id older) ≡ None
    by true front there = absurd (true≢false there)
    by false front there = front there
moment_front id [] (Opened unit ∷ older) none = moment_front id [] older none
moment_front id [] (Ended code ∷ older) none = moment_front id [] older none
moment_front id [] (Closed unit ∷ older) none = moment_front id [] older none
moment_front id (Began order moment ∷ own) older none =
    ap (λ m. cond (order.id == id) (Some moment) m) (moment_front id own older none)
moment_front id (Opened unit ∷ own) older none = moment_front id own older none
moment_front id (Ended code ∷ own) older none = moment_front id own older none
moment_front id (Closed unit ∷ own) older none = moment_front id own older none

moment_back : (id : ℕ) (own older : List Record) → is_begun id own ≡ false
    → moment_of id (own ++ older) ≡ moment_of id older
moment_back id [] older none = refl
moment_back id (Began order moment ∷ own) older none = by (order.id == id) (moment_back id own older) none
  where
    by : (test : Bool)
        → (is_begun id own ≡ false → moment_of id (own ++ older) ≡ moment_of id older)
        → (test || is_begun id own) ≡ false
        → cond test (Some moment) (moment_of id (own ++ older)) ≡ moment_of id older
    by true back there = absurd (true≢false there)
    by false back there = back there
moment_back id (Opened unit ∷ own) older none = moment_back id own older none
moment_back id (Ended code ∷ own) older none = moment_back id own older none
moment_back id (Closed unit ∷ own) older none = moment_back id own older none

-- what is kept of an order of the older ones, and of any other
pub kept_joined_older : (id : ℕ) (own older : List Record) → IsSentence own → is_begun id own ≡ false
    → (kept_of id (own ++ older) ≡ kept_of id older) × (moment_of id (own ++ older) ≡ moment_of id older)
kept_joined_older id own older s none = (
  ap (kept_among id) (orders_joined own older s) ∙ kept_back id (orders_of own) (orders_of older) (absent id own none),
  moment_back id own older none,
)

pub kept_joined_own : (id : ℕ) (own older : List Record) → IsSentence own → is_begun id older ≡ false
    → (kept_of id (own ++ older) ≡ kept_of id own) × (moment_of id (own ++ older) ≡ moment_of id own)
kept_joined_own id own older s none = (
  ap (kept_among id) (orders_joined own older s)
      ∙ kept_front id (orders_of own) (orders_of older) (absent id older none),
  moment_front id own older none,
)

pub older_kept : OlderOrdersAreKept
older_kept version limit own older id rests kept =
    let s = sentence_own own older rests kept.whole.0 in (
      λ begun.
          let none = no_second id own older kept.whole.0 begun in
          let is = kept_joined_older id own older s none in
          (none, is.0, is.1),
      kept_joined_own id own older s,
    )
