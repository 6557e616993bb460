use Rattle.std.proofs.Common.{◌≡◌, ◌≤◌, ℕ, length, arith, ap, false-eqb}
use Rattle.dali_bank.specs.Draft.{Drafted, AreFound}
use Rattle.dali_bank.proofs.LayoutLemmas.{updates_valid}
use Rattle.dali_bank.proofs.draft.Draft.finish.Goals as goal

at_least_one : (n : ℕ) → (n ≡ 0 → ⊥) → 1 ≤ n
at_least_one n some = grind arith

pub new-requires-clause-updates : goal.new-requires-clause-updates
new-requires-clause-updates c =
    let some = at_least_one (length c.updates-updates.result.items) (false-eqb _ 0 c.if-is_empty.ensures) in
    let found : AreFound c.args.self.found = rw (ap (λ (d : Drafted). d.found) c.self.view_is) at c.self.invariant.1 in
    rw c.updates-updates.ensures (updates_valid c.args.self found (rw c.updates-updates.ensures at some))
