-- Events that are served one after the other, and the run that they make.
use Rattle.std.proofs.Common.{◌+◌, ◌<◌, ◌≡◌, ◌∙◌, refl, sym, ap, ℕ, arith, List, [], length, take, reverse, get_or}
use Rattle.std.specs.Prelude.{Result, Ok, Err, IfOk, IfErr, OnErr}
use Rattle.dali_bus.specs.World.{World}
use Rattle.dali_bus.specs.Carry.{BusEvent, WorldStep}
use Rattle.dali_journal.specs.declared.version.Version.TheVariants.{Two}
use Rattle.dali_journal.specs.Spelling.{journal_spelling}
use Rattle.dali_laws.proofs.TakenLemmas.{taken_from_none}
use Rattle.dali_laws.proofs.WorkLemmas.{worked}
use Rattle.dali_laws.proofs.StepsLemmas.{says_in_time}
use Rattle.dali_trace.specs.declared.happening.Event.{Event}
use Rattle.dali_trace.specs.declared.happening.Happening.{Happening}
use Rattle.dali_trace.specs.Trace.{Start}
use Rattle.dali_trace.specs.Runs.{fresh, IsRun, IsCutShort}
use Rattle.dali_engine.specs.WriterState.{WriterState}
use Rattle.dali_engine.specs.Describes.{Describes}
use Rattle.dali_engine.specs.Follows.{Follows}
use Rattle.dali_engine.specs.Served.{IsServed, AreServed}
use Rattle.dali_engine.proofs.ChainLemmas.{starts, right}
use Rattle.dali_engine.proofs.PartsLemmas.{more_parts}
use Rattle.dali_write.specs.declared.pace.Pace.{Pace}

-- what a call gave is said pace in other words, in both cases
pub if_ok : {A E : Type 0} (result : Result A E) (P Q R : A → Type 0) → ((a : A) → P a → Q a → R a) → IfOk result P
    → IfOk result Q → IfOk result R
if_ok (Ok a) P Q R f p q = f a p q
if_ok (Err e) P Q R f p q = tt

pub on_err : {A E : Type 0} (result : Result A E) (P : E → Type 0) (Q : Type 0) → ((e : E) → P e → Q)
    → IfErr result P → OnErr result Q
on_err (Ok a) P Q f p = tt
on_err (Err e) P Q f p = f e p

-- no event was served yet
pub none_served : {S : Type 0} (step : S → BusEvent → S → Type 0) (bus : S) (writer : WriterState)
    → AreServed step [] bus writer bus writer []
none_served step bus writer = record {
  described = λ start d. d;
  follows = λ start d f. f;
  parts = λ start d f. refl;
  proper = tt;
  orders = tt;
  leads = record { states = []; steps = refl };
}

-- one event more was served
pub one_more_served : {S : Type 0} (step : S → BusEvent → S → Type 0) (events : List Event) (i : ℕ) (d : Event)
    (bus mid_bus new_bus : S) (writer mid new : WriterState) (past new_past : List Happening) → i < length events
    → AreServed step (take i events) bus writer mid_bus mid past
    → IsServed step (get_or events i d) mid_bus mid past new_bus new new_past
    → AreServed step (take (i + 1) events) bus writer new_bus new new_past
one_more_served step events i d bus mid_bus new_bus writer mid new past new_past within before next = record {
  described = λ start d. next.described start (before.described start d);
  follows = λ start d f. next.follows start (before.described start d) (before.follows start d f);
  parts = λ start described f.
      more_parts start events i d past new_past within (before.parts start described f)
      (next.part start (before.described start described) (before.follows start described f));
  proper = next.proper before.proper;
  orders = next.orders before.orders;
  leads = next.leads bus before.leads;
}

module _ {S : Type 0} (world : S → World) (step : S → BusEvent → S → Type 0)
    (allowed : (old : S) (event : BusEvent) (new : S) → step old event new
    → WorldStep (world old) event (world new)) where
  -- nothing was served
  pub nothing_served : (limit : ℕ) (pace : Pace) (events : List Event) (bus : S)
      → IsCutShort world step limit pace events bus bus
  nothing_served limit pace events bus = record {
    past = [];
    served = 0;
    parts = refl;
    legal = (tt, omega arith);
    planned = tt;
    leads = right world step allowed limit pace bus bus [] (tt, omega arith) (starts world step bus);
  }

  -- the first of the events were served
  pub cut_short : (limit : ℕ) (pace : Pace) (events : List Event) (served : ℕ) (bus new_bus : S)
      (writer new : WriterState)
      (past : List Happening) → Describes (fresh limit pace) [] writer → Follows (fresh limit pace) [] writer
      → AreServed step (take served events) bus writer new_bus new past
      → IsCutShort world step limit pace events bus new_bus
  cut_short limit pace events served bus new_bus writer new past d f are =
      let described = are.described (fresh limit pace) d in
      record {
        past = past;
        served = served;
        parts = are.parts (fresh limit pace) d f;
        legal = described.legal;
        planned = (are.follows (fresh limit pace) d f).planned;
        leads = right world step allowed limit pace bus new_bus past described.legal are.leads;
      }

  -- all were served
  pub ran : (limit : ℕ) (pace : Pace) (events : List Event) (bus new_bus : S) (writer new : WriterState)
      (trace : List Happening)
      (journal : List ℕ) → Describes (fresh limit pace) [] writer → Follows (fresh limit pace) [] writer
      → AreServed step events bus writer new_bus new (reverse trace)
      → journal ≡ journal_spelling Two new.journal.records
      → IsRun world step limit pace events bus trace journal new_bus
  ran limit pace events bus new_bus writer new trace journal d f are spelled =
      let start : Start = fresh limit pace in
      let described = are.described start d in
      let planned = (are.follows start d f).planned in
      let parts = are.parts start d f in
      record {
        legal = described.legal;
        finished = described.finished;
        proper = are.proper;
        asked = are.orders;
        planned = planned;
        worked = worked start (reverse trace) described.legal planned;
        said = λ newer middle older same.
            says_in_time start (reverse events) newer middle older (reverse trace) described.legal planned parts same;
        parts = parts;
        journal_is = spelled ∙ ap (journal_spelling Two) (sym described.same);
        taken = taken_from_none start (reverse trace) refl described.legal;
        leads = right world step allowed limit pace bus new_bus (reverse trace) described.legal are.leads;
      }
