-- Traces that aren't the parts of these events.
use Rattle.std.proofs.Common.{◌≡◌, ℕ, ◌<◌, ◌≤◌, inl, inr, refl, sym, subst, ◌∙◌, true, false, List, [], ◌∷◌, length, arith}
use Rattle.dali_journal.specs.declared.record.Record.{Record}
use Rattle.dali_journal.specs.declared.record.Record.TheVariants.{Began}
use Rattle.dali_journal.specs.declared.version.Version.TheVariants.{Two}
use Rattle.dali_journal.specs.Spelling.{spelling}
use Rattle.dali_trace.specs.declared.happening.Happening.{Happening}
use Rattle.dali_trace.specs.declared.happening.Happening.TheVariants.{Asked, Answered, Kept, Stopped, Powered}
use Rattle.dali_trace.specs.declared.happening.Reply.TheVariants as replies
use Rattle.dali_trace.specs.declared.happening.Event.TheVariants.{Submit, Step, Stop, Power}
use Rattle.dali_trace.specs.Trace.{is_busy}
use Rattle.dali_write.proofs.NextLemmas.{none_ended}
use Rattle.dali_trace.specs.Parts.{IsKeptNext, AreParts}
use Rattle.dali_trace.specs.Worked.{empty, first_order, asked, taken, begun}
use Rattle.dali_write.specs.declared.pace.Pace.TheVariants.{Checked}
use Rattle.dali_write.specs.declared.pace.Pace.{Pace}

-- a record of 31 bytes isn't kept if 30 reach the journal
kept_is : (pace : Pace) (entry : Record) (before : List Happening)
    → Stopped Checked ∷ begun ≡ Stopped pace ∷ Kept entry ∷ before
    → Began first_order 7 ≡ entry
kept_is pace entry before e = cc

stopped_is : (pace : Pace) (before : List Happening) → Stopped Checked ∷ begun ≡ Stopped pace ∷ before
    → before ≡ begun
stopped_is pace before e = cc

pub not_cut : AreParts empty (Stop 30 ∷ Submit first_order 7 ∷ []) (Stopped Checked ∷ begun) → ⊥
not_cut (before, inl (stopped, none), (first, (reply, after), start)) =
    let is : before ≡ begun = stopped_is _ before stopped in
    let never : begun ≡ Answered 1 reply ∷ Asked first_order 7 ∷ first = sym is ∙ after in cc
not_cut (before, inr (entry, next, few, stopped), rest) =
    let is : Began first_order 7 ≡ entry = kept_is _ entry before stopped in
    let long : length (spelling Two (Began first_order 7)) ≤ 30 =
    subst (λ (r : Record). length (spelling Two r) ≤ 30) (sym is) few in
    omega (arith, long)

-- if nothing is at work a step adds nothing
pub not_idle : AreParts empty (Step ∷ []) asked → ⊥
not_idle (before, inl (busy, added), none) =
    let never : false ≡ true = subst (λ (past : List Happening). is_busy empty past ≡ true) none busy in cc
not_idle (before, inr (idle, same), none) = let never : asked ≡ [] = same ∙ none in cc

-- if an order was just begun its session has not ended
pub none_begun : (entry : Record) → IsKeptNext empty begun entry → ⊥
none_begun entry (verdict, asked, ends) = none_ended 5 _ _ verdict asked

-- a step keeps the record of 31 bytes that begins the order, and so does a stop that lets 31 bytes through, whatever
-- comes; if the record is kept, a stop leaves none
pub kept_by_a_step : AreParts empty (Step ∷ Submit first_order 7 ∷ []) begun
kept_by_a_step = (taken, inl (refl, (Kept (Began first_order 7), tt, refl)), ([], (replies.Taken, refl), refl))

pub none_kept_by_a_stop : AreParts empty (Stop 30 ∷ Step ∷ Submit first_order 7 ∷ []) (Stopped Checked ∷ begun)
none_kept_by_a_stop = (begun, inl (refl, λ entry next. absurd (none_begun entry next)), kept_by_a_step)

pub kept_by_a_stop : AreParts empty (Stop 31 ∷ Submit first_order 7 ∷ []) (Stopped Checked ∷ begun)
kept_by_a_stop = (taken, inr (Began first_order 7, refl, omega arith, refl), ([], (replies.Taken, refl), refl))

-- a record of 31 bytes is kept if 31 reach the journal
pub not_lost : AreParts empty (Stop 31 ∷ Submit first_order 7 ∷ []) (Stopped Checked ∷ taken) → ⊥
not_lost (before, inl (stopped, none), rest) =
    let is : before ≡ taken = stopped_at _ before stopped in
    let next : IsKeptNext empty before (Began first_order 7) = rw is refl in
    let more : 31 < length (spelling Two (Began first_order 7)) = none (Began first_order 7) next in
    omega (arith, more)
  where
    stopped_at : (pace : Pace) (before : List Happening) → Stopped Checked ∷ taken ≡ Stopped pace ∷ before
        → before ≡ taken
    stopped_at pace before e = cc
not_lost (before, inr (entry, next, few, stopped), rest) = cc

unit_is : (one other : ℕ) (before : List Happening) → Powered one ∷ [] ≡ Powered other ∷ before → one ≡ other
unit_is one other before same = cc

-- a loss of power is of the unit that it names
pub powered_there : AreParts empty (Power 5 ∷ []) (Powered 5 ∷ [])
powered_there = ([], refl, refl)

pub not_powered_elsewhere : AreParts empty (Power 5 ∷ []) (Powered 6 ∷ []) → ⊥
not_powered_elsewhere (before, same, start) = omega (arith, unit_is 6 5 before same)
