use Rattle.std.proofs.Common.{subst}
use Rattle.serde_json.specs.View.{view}
use Rattle.serde_json.proofs.Views.{Entry}
use Rattle.dali_input.proofs.MemberLemmas.{WalkedSoFar, walked_more}
use Rattle.dali_input.proofs.members.members_of.Goals as goal

pub loop-key-preserved : goal.loop-key-preserved
loop-key-preserved c =
    let e : Entry = (c.in-Some-2.key.now, c.in-Some-2.json.now) in
    let left = c.next.new.self in
    let so_far =
    subst (λ es. WalkedSoFar (view c.args.item.now) es c.loop-key.members) c.in-Some-2.ensures.steps
    c.loop-key.invariant in
    let here = rw (c.as_str.ensures.value, c.of.ensures) at c.put-is_known.ensures.here in
    let others = rw c.as_str.ensures.value at c.put-is_known.ensures.others in
    let known = rw c.as_str.ensures.value at c.put-is_known.ensures.known in
    walked_more (view c.args.item.now) e left c.loop-key.members c.put-is_known.new.self so_far here others known
