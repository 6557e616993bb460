-- Over the simulated bus an order that is given steps enough and that little befalls is said as it is to end.
use Rattle.std.proofs.Common.{◌≡◌, refl, sym, ap, ◌∙◌, subst, ℕ, List, [], ◌∷◌, ◌++◌, length, Some, arith}
use Rattle.std.proofs.lemmas.List.{append_assoc}
use Rattle.dali_bank.specs.Order.{Contents}
use Rattle.dali_gear.specs.SimState.{SimState}
use Rattle.dali_gear.specs.UnitState.{BankState}
use Rattle.dali_trace.specs.declared.happening.Event.{Event}
use Rattle.dali_trace.specs.declared.happening.Reply.{Reply}
use Rattle.dali_trace.specs.declared.happening.Happening.{Happening}
use Rattle.dali_trace.specs.declared.happening.Happening.TheVariants.{Asked, Answered}
use Rattle.dali_trace.specs.Trace.{Start}
use Rattle.dali_trace.specs.Legal.{Legal, IsFinished}
use Rattle.dali_trace.specs.ByPlan.{ByPlan}
use Rattle.dali_trace.specs.Parts.{AreParts}
use Rattle.dali_trace.specs.Work.{order_at_hand}
use Rattle.dali_trace.specs.Steps.{IsSaid}
use Rattle.dali_bus.specs.Chain.{AtEachState}
use Rattle.dali_trace.specs.Spared.{IsSpared, LosesLittle, EndsAsDue, IsSaidAsDue, SaysAsDue}
use Rattle.dali_laws.proofs.StepsLemmas.{cut_of, parts_add, says_in_cut}

-- an earlier moment of a chain: the states along it, and what is so there
record Earlier (holds : List Happening → SimState → List SimState → Type 0) (moment : List Happening)
    (states : List SimState) : Type 0 where
  later : List SimState
  now : SimState
  older : List SimState
  states_are : states ≡ later ++ older
  as_many : length older ≡ length moment
  so : holds moment now older

long_as : (holds : List Happening → SimState → List SimState → Type 0) (past : List Happening) (last : SimState)
    (states : List SimState)
    → AtEachState holds past last states → length states ≡ length past
long_as holds [] last [] each = refl
long_as holds [] last (state ∷ states) each = absurd each
long_as holds (next ∷ past) last [] each = absurd each
long_as holds (next ∷ past) last (state ∷ states) each =
    let rest = long_as holds past state states each.1 in omega arith

here : (holds : List Happening → SimState → List SimState → Type 0) (past : List Happening) (last : SimState)
    (states : List SimState)
    → AtEachState holds past last states → holds past last states
here holds [] last [] each = each
here holds [] last (state ∷ states) each = absurd each
here holds (next ∷ past) last [] each = absurd each
here holds (next ∷ past) last (state ∷ states) each = each.0

earlier : (holds : List Happening → SimState → List SimState → Type 0) (more moment : List Happening) (last : SimState)
    (states : List SimState)
    → AtEachState holds (more ++ moment) last states → Earlier holds moment states
earlier holds [] moment last states each = record {
  later = [];
  now = last;
  older = states;
  states_are = refl;
  as_many = long_as holds moment last states each;
  so = here holds moment last states each;
}
earlier holds (next ∷ more) moment last [] each = absurd each
earlier holds (next ∷ more) moment last (state ∷ states) each =
    let rest = earlier holds more moment state states each.1 in
    record {
      later = state ∷ rest.later;
      now = rest.now;
      older = rest.older;
      states_are = ap (λ (s : List SimState). state ∷ s) rest.states_are;
      as_many = rest.as_many;
      so = rest.so;
    }

-- what is said when no reply is due
said_due : (start : Start) (id : ℕ) (reply : Reply) (past : List Happening) (last state : SimState)
    (states : List SimState)
    → IsFinished past → IsSpared start (Answered id reply ∷ past) last (state ∷ states)
    → (order : Contents) (bank : BankState) → order_at_hand start past ≡ Some order
    → LosesLittle start order bank past state states → EndsAsDue start order bank past states reply
said_due start id reply (Asked order moment ∷ past) last state states finished spared = absurd finished
said_due start id reply _ last state states finished spared = spared

as_due : (start : Start) (order : Contents) (before behind more trace : List Happening) (last : SimState)
    (states : List SimState)
    → AtEachState (IsSpared start) trace last states → trace ≡ more ++ behind → IsSaid start order before behind
    → IsSaidAsDue start order before behind states
as_due start order before behind more trace last states each added said =
    let moment : List Happening = said.since ++ before in
    let whole : trace ≡ (more ++ said.later) ++ Answered order.id said.reply ∷ moment =
    added ∙ ap (λ (t : List Happening). more ++ t) said.parts
    ∙ sym (append_assoc more said.later (Answered order.id said.reply ∷ moment)) in
    at (earlier (IsSpared start) (more ++ said.later) (Answered order.id said.reply ∷ moment) last states
    (subst (λ (t : List Happening). AtEachState (IsSpared start) t last states) whole each))
  where
    at : Earlier (IsSpared start) (Answered order.id said.reply ∷ (said.since ++ before)) states
        → IsSaidAsDue start order before behind states
    at e = by e.later e.now e.older e.states_are e.as_many e.so
      where
        by : (later : List SimState) (now : SimState) (older : List SimState) → states ≡ later ++ older
            → length older ≡ length (Answered order.id said.reply ∷ (said.since ++ before))
            → IsSpared start (Answered order.id said.reply ∷ (said.since ++ before)) now older
            → IsSaidAsDue start order before behind states
        by later now [] same long so = absurd (omega (arith, long))
        by later now (state ∷ older) same long so = record {
          said = said;
          later = later;
          state = state;
          older = older;
          states_are = same;
          as_many = omega (arith, long);
          due =
              λ bank little. said_due start order.id said.reply (said.since ++ before) now state older said.finished so
              order bank said.hand little;
        }

pub says_as_due : (start : Start) (events newer middle older : List Event) (trace : List Happening) (last : SimState)
    (states : List SimState)
    → Legal start trace → ByPlan start trace → AreParts start events trace
    → AtEachState (IsSpared start) trace last states → events ≡ newer ++ (middle ++ older)
    → SaysAsDue start newer middle older trace states
says_as_due start events newer middle older trace last states legal planned parts each same =
    let cut = cut_of start events newer middle older trace parts same in
    let added = parts_add start newer cut.behind trace cut.newer_parts in (
      cut,
      λ order enough. as_due start order cut.before cut.behind added.0 trace last states each added.1
          (says_in_cut start newer middle older trace legal planned cut order enough),
    )
