use Rattle.serde_json.specs.Data.{Data}
use Rattle.dali_input.specs.Members.{AreMembersOf}
use Rattle.dali_input.proofs.ItemLemmas.{SetSoFar, AreUnsetFrom}
use Rattle.dali_input.proofs.item.set_fields.Given as goal

abbrev pub invariant-loop-field : goal.invariant-loop-field
invariant-loop-field l =
    ((source : Data) → AreMembersOf source l.members → SetSoFar source l.field-index l.initial.draft l.draft)
    × AreUnsetFrom l.field-index l.draft
