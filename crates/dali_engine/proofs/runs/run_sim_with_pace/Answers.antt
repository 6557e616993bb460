use Rattle.std.proofs.Common.{reverse, refl, ℕ, List, Result, Ok, Err}
use Rattle.std.specs.Prelude.{IfOk}
use Rattle.dali_bus.specs.Unenabled.{NoneEnabled}
use Rattle.dali_gear.specs.SimState.{SimState, SimStep, world_of}
use Rattle.dali_trace.specs.declared.happening.Event.{Event}
use Rattle.dali_trace.specs.declared.happening.Happening.{Happening}
use Rattle.dali_trace.specs.Runs.{fresh, IsRun}
use Rattle.dali_bus.specs.Chain.{AtEachState}
use Rattle.dali_trace.specs.Spared.{IsSpared, IsSimRun}
use Rattle.dali_laws.proofs.OnsetLemmas.{all_spared}
use Rattle.dali_laws.proofs.SaidAsDueLemmas.{says_as_due}
use Rattle.dali_engine.proofs.runs.run_sim_with_pace.Goals as goal
use Rattle.dali_write.specs.declared.pace.Pace.{Pace}

if_ok : {A E : Type 0} (result : Result A E) (P Q : A → Type 0) → ((a : A) → P a → Q a) → IfOk result P → IfOk result Q
if_ok (Ok a) P Q f p = f a p
if_ok (Err e) P Q f p = tt

-- what is said along a run of the simulated bus is so
spared_along : (limit : ℕ) (pace : Pace) (all : List Event) (first : SimState) (trace : List Happening)
    (journal : List ℕ)
    (last : SimState) (ran : IsRun (λ state. world_of state.units) SimStep limit pace all first trace journal last)
    → NoneEnabled (world_of first.units)
    → AtEachState (IsSpared (fresh limit pace)) (reverse trace) last ran.leads.states
spared_along limit pace all first trace journal last ran none =
    all_spared (fresh limit pace) (world_of first.units) first (reverse trace) last ran.leads.states refl ran.legal
    ran.planned ran.leads.chain ran.asked (ran.leads.right none)

pub returns-clause-ok : goal.returns-clause-ok
returns-clause-ok c =
    if_ok c.run_with_pace.result _ (λ outcome.
    IsSimRun c.args.limit c.args.pace c.args.events.now c.args.bus.now outcome.trace.items outcome.journal.items
    c.run_with_pace.new.bus)
    (λ outcome ran. record {
      run = ran;
      spared = record {
        states = ran.leads.states;
        chain = ran.leads.chain;
        spared = λ none. spared_along c.args.limit c.args.pace c.args.events.now c.args.bus.now
            outcome.trace.items
            outcome.journal.items c.run_with_pace.new.bus ran none;
        said =
            λ none newer middle older same.
            says_as_due (fresh c.args.limit c.args.pace) (reverse c.args.events.now) newer middle older
            (reverse outcome.trace.items) c.run_with_pace.new.bus ran.leads.states ran.legal ran.planned ran.parts
            (spared_along c.args.limit c.args.pace c.args.events.now c.args.bus.now outcome.trace.items
            outcome.journal.items
            c.run_with_pace.new.bus ran none) same;
      };
    })
    c.run_with_pace.ensures.ok
