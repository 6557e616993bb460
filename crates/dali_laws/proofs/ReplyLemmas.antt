-- One reply is due to an order, and no other.
use Rattle.std.proofs.Common.{◌≡◌, ◌⊎◌, inl, inr, refl, sym, ap, ◌∙◌, subst, Bool, true, false, ℕ, List, [], ◌∷◌}
use Rattle.std.specs.Prelude.{◌≢◌}
use Rattle.dali_bank.specs.Order.{Contents}
use Rattle.dali_journal.specs.declared.record.Code.{Code}
use Rattle.dali_journal.specs.declared.kept.Kept.{Kept}
use Rattle.dali_journal.specs.declared.kept.Kept.TheVariants as kepts
use Rattle.dali_trace.specs.declared.happening.Reply.{Reply}
use Rattle.dali_trace.specs.declared.happening.Reply.TheVariants as replies
use Rattle.dali_trace.specs.Replies.{IsReused, IsNotEnded, IsReplyBy}
use Rattle.dali_write.proofs.TruthLemmas.{same_or_not}

-- pairs and lists of pairs are the same or not
pair_is : (a b : ℕ × ℕ) → a.0 ≡ b.0 → a.1 ≡ b.1 → a ≡ b
pair_is a b first second = λ i. (first i, second i)

head_is : (a b : ℕ × ℕ) (more others : List (ℕ × ℕ)) → a ∷ more ≡ b ∷ others → a ≡ b
head_is a b more others e = cc

tail_is : (a b : ℕ × ℕ) (more others : List (ℕ × ℕ)) → a ∷ more ≡ b ∷ others → more ≡ others
tail_is a b more others e = cc

lists : (a b : List (ℕ × ℕ)) → (a ≡ b) ⊎ (a ≢ b)
lists [] [] = inl refl
lists [] (other ∷ others) = inr (λ e. cc)
lists (one ∷ more) [] = inr (λ e. cc)
lists (one ∷ more) (other ∷ others) =
    by (same_or_not one.0 other.0) (same_or_not one.1 other.1) (lists more others)
  where
    by : (one.0 ≡ other.0) ⊎ (one.0 ≢ other.0) → (one.1 ≡ other.1) ⊎ (one.1 ≢ other.1)
        → (more ≡ others) ⊎ (more ≢ others)
        → ((one ∷ more) ≡ (other ∷ others)) ⊎ ((one ∷ more) ≢ (other ∷ others))
    by (inl first) (inl second) (inl rest) = inl (λ i. pair_is one other first second i ∷ rest i)
    by (inr first) second rest = inr (λ e. first (ap (λ pair. pair.0) (head_is one other more others e)))
    by (inl first) (inr second) rest = inr (λ e. second (ap (λ pair. pair.1) (head_is one other more others e)))
    by (inl first) (inl second) (inr rest) = inr (λ e. rest (tail_is one other more others e))

-- orders are the same or not
order_is : (a b : Contents) → a.id ≡ b.id → a.unit ≡ b.unit → a.updates ≡ b.updates → a ≡ b
order_is a b id unit updates = λ i. record { id = id i; unit = unit i; updates = updates i }

orders : (a b : Contents) → (a ≡ b) ⊎ (a ≢ b)
orders a b = by (same_or_not a.id b.id) (same_or_not a.unit b.unit) (lists a.updates b.updates) where
  by : (a.id ≡ b.id) ⊎ (a.id ≢ b.id) → (a.unit ≡ b.unit) ⊎ (a.unit ≢ b.unit)
      → (a.updates ≡ b.updates) ⊎ (a.updates ≢ b.updates) → (a ≡ b) ⊎ (a ≢ b)
  by (inl id) (inl unit) (inl updates) = inl (order_is a b id unit updates)
  by (inr id) unit updates = inr (λ e. id (ap (λ (order : Contents). order.id) e))
  by (inl id) (inr unit) updates = inr (λ e. unit (ap (λ (order : Contents). order.unit) e))
  by (inl id) (inl unit) (inr updates) = inr (λ e. updates (ap (λ (order : Contents). order.updates) e))

-- some reply is due
open_due : (order : Contents) (kept : Kept) (busy full : Bool) → IsNotEnded order kept
    → (due : Reply) × IsReplyBy order kept busy full due
open_due order kept true full is = (replies.Busy, (is, refl))
open_due order kept false true is = (replies.Full, (is, refl, refl))
open_due order kept false false is = (replies.Taken, (is, refl, refl))

pub some_due : (order : Contents) (kept : Kept) (busy full : Bool) → (due : Reply) × IsReplyBy order kept busy full due
some_due order kepts.Absent busy full = open_due order kepts.Absent busy full tt
some_due order (kepts.Unfinished old) busy full =
    elim (orders old order) [
      | inl same ↦ open_due order (kepts.Unfinished old) busy full same
      | inr other ↦ (replies.IdReused, other)
    ]
some_due order (kepts.Ended old code) busy full =
    elim (orders old order) [
      | inl same ↦ (replies.Kept code, ap (λ (o : Contents). kepts.Ended o code) same)
      | inr other ↦ (replies.IdReused, other)
    ]

-- of an order that has ended, of one whose number is another's, and of any other, no two are so at once
not_reused : (order : Contents) (kept : Kept) → IsReused order kept → IsNotEnded order kept → ⊥
not_reused order kepts.Absent reused is = reused
not_reused order (kepts.Unfinished old) reused is = reused is
not_reused order (kepts.Ended old code) reused is = is

ended_not_reused : (order : Contents) (kept : Kept) (code : Code) → kept ≡ kepts.Ended order code → IsReused order kept
    → ⊥
ended_not_reused order kept code ended reused = (subst (IsReused order) ended reused) refl

ended_not_open : (order : Contents) (kept : Kept) (code : Code) → kept ≡ kepts.Ended order code → IsNotEnded order kept
    → ⊥
ended_not_open order kept code ended is = subst (IsNotEnded order) ended is

-- and no other reply
pub only_due : (order : Contents) (kept : Kept) (busy full : Bool) (due other : Reply)
    → IsReplyBy order kept busy full due → IsReplyBy order kept busy full other
    → other ≡ due
only_due order kept busy full (replies.Kept code) (replies.Kept last) one two =
    let same : kepts.Ended order code ≡ kepts.Ended order last = sym one ∙ two in
    let is : last ≡ code = cc in ap replies.Kept is
only_due order kept busy full (replies.Kept code) replies.IdReused one two =
    absurd (ended_not_reused order kept code one two)
only_due order kept busy full (replies.Kept code) replies.Busy one two =
    absurd (ended_not_open order kept code one two.0)
only_due order kept busy full (replies.Kept code) replies.Full one two =
    absurd (ended_not_open order kept code one two.0)
only_due order kept busy full (replies.Kept code) replies.Taken one two =
    absurd (ended_not_open order kept code one two.0)
only_due order kept busy full replies.IdReused (replies.Kept last) one two =
    absurd (ended_not_reused order kept last two one)
only_due order kept busy full replies.IdReused replies.IdReused one two = refl
only_due order kept busy full replies.IdReused replies.Busy one two = absurd (not_reused order kept one two.0)
only_due order kept busy full replies.IdReused replies.Full one two = absurd (not_reused order kept one two.0)
only_due order kept busy full replies.IdReused replies.Taken one two = absurd (not_reused order kept one two.0)
only_due order kept busy full replies.Busy (replies.Kept last) one two =
    absurd (ended_not_open order kept last two one.0)
only_due order kept busy full replies.Busy replies.IdReused one two = absurd (not_reused order kept two one.0)
only_due order kept busy full replies.Busy replies.Busy one two = refl
only_due order kept busy full replies.Busy replies.Full one two = let a = one.1 in let b = two.1 in cc
only_due order kept busy full replies.Busy replies.Taken one two = let a = one.1 in let b = two.1 in cc
only_due order kept busy full replies.Full (replies.Kept last) one two =
    absurd (ended_not_open order kept last two one.0)
only_due order kept busy full replies.Full replies.IdReused one two = absurd (not_reused order kept two one.0)
only_due order kept busy full replies.Full replies.Busy one two = let a = one.1 in let b = two.1 in cc
only_due order kept busy full replies.Full replies.Full one two = refl
only_due order kept busy full replies.Full replies.Taken one two = let a = one.2 in let b = two.2 in cc
only_due order kept busy full replies.Taken (replies.Kept last) one two =
    absurd (ended_not_open order kept last two one.0)
only_due order kept busy full replies.Taken replies.IdReused one two = absurd (not_reused order kept two one.0)
only_due order kept busy full replies.Taken replies.Busy one two = let a = one.1 in let b = two.1 in cc
only_due order kept busy full replies.Taken replies.Full one two = let a = one.2 in let b = two.2 in cc
only_due order kept busy full replies.Taken replies.Taken one two = refl
only_due order kept busy full (replies.Blocked unit) other one two = absurd one
only_due order kept busy full due (replies.Blocked unit) one two = absurd two
