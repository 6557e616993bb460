-- The moment of a number is that of its one Began, and there is one exactly when something is kept.
use Rattle.std.proofs.Common.{◌≡◌, ℕ, Bool, true, false, cond, List, [], ◌∷◌, ◌++◌, refl, sym, ap, ◌∙◌, subst}
use Rattle.std.proofs.Common.{◌==◌, ◌||◌, Option, Some, None, true≢false}
use Rattle.std.proofs.lemmas.Bool.{eqb-true, eq-eqb}
use Rattle.dali_bank.specs.Order.{Contents}
use Rattle.dali_journal.specs.declared.record.Record.{Record}
use Rattle.dali_journal.specs.declared.record.Record.TheVariants.{Began, Opened, Ended, Closed}
use Rattle.dali_journal.specs.Sentence.{is_begun, IsSentence}
use Rattle.dali_journal.specs.Orders.{kept_of, moment_of}
use Rattle.dali_journal.specs.Law.{MomentsAreKept}
use Rattle.dali_journal.proofs.BegunLemmas.{is_kept, kept_where_begun, nothing_kept}

abbrev has_moment : Option ℕ → Bool
has_moment None = false
has_moment (Some moment) = true

begun_moment : (id : ℕ) (records : List Record) → has_moment (moment_of id records) ≡ is_begun id records
begun_moment id [] = refl
begun_moment id (Began order moment ∷ older) = by (order.id == id) (begun_moment id older)
  where
    by : (test : Bool) → has_moment (moment_of id older) ≡ is_begun id older
        → has_moment (cond test (Some moment) (moment_of id older)) ≡ (test || is_begun id older)
    by true rest = refl
    by false rest = rest
begun_moment id (Opened unit ∷ older) = begun_moment id older
begun_moment id (Ended code ∷ older) = begun_moment id older
begun_moment id (Closed unit ∷ older) = begun_moment id older

no_moment : (found : Option ℕ) → has_moment found ≡ false → found ≡ None
no_moment None e = refl
no_moment (Some moment) e = cc

-- the Began of a number among the records
abbrev Stands : ℕ → ℕ → List Record → Type 0
Stands id moment records =
    (newer : List Record) × (older : List Record) × (order : Contents)
    × (order.id ≡ id) × (records ≡ newer ++ Began order moment ∷ older)

stands_more : (entry : Record) (id moment : ℕ) (records : List Record) → Stands id moment records
    → Stands id moment (entry ∷ records)
stands_more entry id moment records there =
    (entry ∷ there.0, there.1, there.2, there.3, ap (λ rs. entry ∷ rs) there.4)

found : (id moment : ℕ) (records : List Record) → moment_of id records ≡ Some moment → Stands id moment records
found id moment [] e = cc
found id moment (Began order at ∷ older) e = by (order.id == id) refl e (found id moment older)
  where
    by : (test : Bool) → (order.id == id) ≡ test → cond test (Some at) (moment_of id older) ≡ Some moment
        → (moment_of id older ≡ Some moment → Stands id moment older)
        → Stands id moment (Began order at ∷ older)
    by true t e below =
        let same : at ≡ moment = cc in
        ([], older, order, eqb-true order.id id t, ap (λ m. Began order m ∷ older) same)
    by false t e below = stands_more (Began order at) id moment older (below e)
found id moment (Opened unit ∷ older) e = stands_more (Opened unit) id moment older (found id moment older e)
found id moment (Ended code ∷ older) e = stands_more (Ended code) id moment older (found id moment older e)
found id moment (Closed unit ∷ older) e = stands_more (Closed unit) id moment older (found id moment older e)

-- a Began among newer records is begun
begun_there : (newer older : List Record) (order : Contents) (moment : ℕ)
    → is_begun order.id (newer ++ Began order moment ∷ older) ≡ true
begun_there [] older order moment = ap (λ b. b || is_begun order.id older) (eq-eqb order.id order.id refl)
begun_there (Began other at ∷ newer) older order moment =
    by (other.id == order.id) (begun_there newer older order moment)
  where
    by : (test : Bool) → is_begun order.id (newer ++ Began order moment ∷ older) ≡ true
        → (test || is_begun order.id (newer ++ Began order moment ∷ older)) ≡ true
    by true rest = refl
    by false rest = rest
begun_there (Opened unit ∷ newer) older order moment = begun_there newer older order moment
begun_there (Ended code ∷ newer) older order moment = begun_there newer older order moment
begun_there (Closed unit ∷ newer) older order moment = begun_there newer older order moment

there : (newer older : List Record) (order : Contents) (moment : ℕ)
    → IsSentence (newer ++ Began order moment ∷ older)
    → moment_of order.id (newer ++ Began order moment ∷ older) ≡ Some moment
there [] older order moment s =
    ap (λ b. cond b (Some moment) (moment_of order.id older)) (eq-eqb order.id order.id refl)
there (Began other at ∷ newer) older order moment s =
    by (other.id == order.id) refl (there newer older order moment s.0)
  where
    behind : List Record
    behind = newer ++ Began order moment ∷ older

    by : (test : Bool) → (other.id == order.id) ≡ test → moment_of order.id behind ≡ Some moment
        → cond test (Some at) (moment_of order.id behind) ≡ Some moment
    by true t rest =
        let new : is_begun order.id behind ≡ false =
        ap (λ n. is_begun n behind) (sym (eqb-true other.id order.id t)) ∙ s.2 in
        absurd (true≢false (sym (begun_there newer older order moment) ∙ new))
    by false t rest = rest
there (Opened unit ∷ newer) older order moment s = there newer older order moment s.0
there (Ended code ∷ newer) older order moment s = there newer older order moment s.0
there (Closed unit ∷ newer) older order moment s = there newer older order moment s.0

pub moments_kept : MomentsAreKept
moments_kept records id = (
  (
    λ none. nothing_kept (kept_of id records)
        (sym (kept_where_begun id records) ∙ sym (begun_moment id records) ∙ ap has_moment none),
    λ absent. no_moment (moment_of id records)
        (begun_moment id records ∙ kept_where_begun id records ∙ ap is_kept absent),
  ),
  λ moment s. (
    found id moment records,
    λ is. ap (λ n. moment_of n records) (sym is.3) ∙ ap (moment_of is.2.id) is.4
        ∙ there is.0 is.1 is.2 moment (subst IsSentence is.4 s),
  ),
)
