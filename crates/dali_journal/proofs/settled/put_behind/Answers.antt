use Rattle.std.proofs.Common.{◌≡◌, ◌-◌, ◌≤◌, Some, List, length, slice_get, sym, subst}
use Rattle.std.specs.List.Sorted.{IsNonDecreasingBy}
use Rattle.dali_journal.specs.declared.settled.Settled.{Settled}
use Rattle.dali_journal.proofs.SettledLemmas.{all_rise}
use Rattle.dali_journal.proofs.settled.put_behind.Goals as goal

pub returns-then-is_above-clause-sorted : goal.returns-then-is_above-clause-sorted
returns-then-is_above-clause-sorted c =
    let older = c.args.older.items in
    let newer = c.args.newer.now in
    subst (λ (those : List Settled). IsNonDecreasingBy (λ one. one.id) those)
    (sym c.in_ok-extend_from_slice.ensures.items)
    (all_rise older newer c.requires.older c.requires.newer
    (subst (λ (those : List Settled). (last first : Settled) → slice_get those (length those - 1) ≡ Some last
    → slice_get newer 0 ≡ Some first → last.id ≤ first.id) c.deref.ensures.value
    (c.is_above-is_above.ensures c.if-is_above.true)))
