use Rattle.std.proofs.Common.{◌≢◌, ℕ, None, sym, subst, ◌∙◌}
use Rattle.dali_gear.specs.SimState.{world_of}
use Rattle.dali_gear.proofs.SimLemmas.{not_free, still_free}
use Rattle.dali_gear.proofs.sim_bus.is_free.Goals as goal

pub returns-then-address : goal.returns-then-address
returns-then-address c =
    let P : ℕ → Type 0 = λ address. world_of c.args.units.now address ≢ None in
    let there =
    subst P (sym c.address.ensures.value ∙ c.if-address.true)
    (not_free c.args.units.now c.loop-unit.unit-index c.unit-item.result c.loop-unit-test.true c.unit-item.is) in
    (λ f. cc, λ free. absurd (there free))

pub loop-unit-preserved : goal.loop-unit-preserved
loop-unit-preserved c =
    still_free c.args.units.now c.loop-unit.unit-index c.args.address c.unit-item.result c.loop-unit-test.true
    c.unit-item.is
    (λ e. c.if-address.false (c.address.ensures.value ∙ e)) c.loop-unit.invariant
