use Rattle.std.proofs.Common.{◌≡◌, ◌≤◌, take, length}
use Rattle.std.specs.List.{flat_map, sum_by}
use Rattle.dali_bank.specs.Draft.{placed_at, bytes_of}
use Rattle.dali_bank.specs.Layout.{fields, first_of, length_of}
use Rattle.dali_bank.proofs.draft.Draft.updates.Given as goal

abbrev pub invariant-loop-field : goal.invariant-loop-field
invariant-loop-field l = record {
  pushed : l.updates.items
      ≡ flat_map (λ field. placed_at (first_of field) (bytes_of field l.self)) (take l.field-index fields);
  few : length l.updates.items ≤ sum_by length_of (take l.field-index fields);
}
