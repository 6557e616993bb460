use Rattle.std.proofs.Common.{inl, inr, ap, subst, Err}
use Rattle.std.proofs.lemmas.Result.{err_from_is_err_and}
use Rattle.serde_json.specs.View.{view}
use Rattle.dali_journal.specs.JournalState.{IsLimit}
use Rattle.dali_trace.specs.Spared.{IsSimRun}
use Rattle.dali_input.specs.Scenario.{planned_of}
use Rattle.dali_input.proofs.SetupLemmas.{none_enabled}
use Rattle.dali_file_commands.proofs.RunLemmas.{not_run, not_set_up}
use Rattle.dali_file_commands.proofs.run_scenario.ran_of.Goals as goal

pub returns-in_err-json-clause-err : goal.returns-in_err-json-clause-err
returns-in_err-json-clause-err g c =
    let p = err_from_is_err_and c.from_residual-in_err-json.result c.from_residual-in_err-json.ensures.1 in
    rw (p.1, p.2) (inl (inr (
      c.in_ok-bytes.bytes.items,
      c.in_ok-bytes.ensures.ok,
      inl (rw c.as_slice.ensures.value at c.in_err-json.ensures.err),
    )))

pub returns-in_err-scenario-clause-err : goal.returns-in_err-scenario-clause-err
returns-in_err-scenario-clause-err g c =
    let p = err_from_is_err_and c.from_residual-in_err-scenario.result c.from_residual-in_err-scenario.ensures.1 in
    rw (p.1, p.2) (inl (inr (
      c.in_ok-bytes.bytes.items,
      c.in_ok-bytes.ensures.ok,
      inr (
        view c.in_ok-json.json,
        rw c.as_slice.ensures.value at c.in_ok-json.ensures.ok,
        c.in_err-scenario.ensures.err,
      ),
    )))

pub returns-in_err-bus-clause-err : goal.returns-in_err-bus-clause-err
returns-in_err-bus-clause-err g c =
    let p = err_from_is_err_and c.from_residual-in_err-bus.result c.from_residual-in_err-bus.ensures.1 in
    rw (p.1, p.2) (not_set_up _ _ _ (
      planned_of c.in_ok-scenario.scenario,
      record {
        input = c.in_ok-bytes.bytes.items;
        json = view c.in_ok-json.json;
        read = c.in_ok-bytes.ensures.ok;
        is_json = rw c.as_slice.ensures.value at c.in_ok-json.ensures.ok;
        says = c.in_ok-scenario.ensures.ok;
      },
      c.in_err-bus.ensures.err,
    ))

pub returns-in_err-outcome-clause-err : goal.returns-in_err-outcome-clause-err
returns-in_err-outcome-clause-err g c =
    let p = err_from_is_err_and c.from_residual-in_err-outcome.result c.from_residual-in_err-outcome.ensures.1 in
    rw (p.1, p.2)
    (not_run _ _ (planned_of c.in_ok-scenario.scenario) c.in_ok-bus.field-0.bus c.in_ok-bus.field-0.events.items _
    (record {
      input = c.in_ok-bytes.bytes.items;
      json = view c.in_ok-json.json;
      read = c.in_ok-bytes.ensures.ok;
      is_json = rw c.as_slice.ensures.value at c.in_ok-json.ensures.ok;
      says = c.in_ok-scenario.ensures.ok;
    })
    c.in_ok-bus.ensures.ok
    (λ limit. subst (λ l. ¬ IsLimit l) c.in-Ok.ensures.1 (c.in_err-outcome.ensures.limit.0 (ap Err limit))))

pub returns-clause-ok : goal.returns-clause-ok
returns-clause-ok g c =
    let ready = c.in_ok-bus.ensures.ok in (
      planned_of c.in_ok-scenario.scenario,
      record {
        input = c.in_ok-bytes.bytes.items;
        json = view c.in_ok-json.json;
        read = c.in_ok-bytes.ensures.ok;
        is_json = rw c.as_slice.ensures.value at c.in_ok-json.ensures.ok;
        says = c.in_ok-scenario.ensures.ok;
      },
      record {
        first = c.in_ok-bus.field-0.bus;
        all = c.in_ok-bus.field-0.events.items;
        ready = ready;
        unenabled = none_enabled _ _ ready.bus.made;
        run = subst
            (λ limit. IsSimRun limit c.in_ok-scenario.scenario.pace c.in_ok-bus.field-0.events.items
            c.in_ok-bus.field-0.bus
            c.in_ok-outcome.outcome.trace.items c.in_ok-outcome.outcome.journal.items c.run_sim_with_pace.new.bus)
            c.in-Ok.ensures.1
            (rw c.as_slice-2.ensures.value at c.in_ok-outcome.ensures.ok);
      },
    )
