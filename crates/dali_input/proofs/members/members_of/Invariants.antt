use Rattle.serde_json.specs.View.{view}
use Rattle.dali_input.proofs.MemberLemmas.{WalkedSoFar}
use Rattle.dali_input.proofs.members.members_of.Given as goal

abbrev pub invariant-loop-key : goal.invariant-loop-key
invariant-loop-key l = WalkedSoFar (view l.item) l.key-iterator l.members
