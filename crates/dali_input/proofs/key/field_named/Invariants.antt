use Rattle.std.proofs.Common.{◌≡◌, false, take}
use Rattle.std.specs.List.{list_any}
use Rattle.std.specs.Str.{bytes_eq}
use Rattle.dali_bank.specs.Keys.{key_of}
use Rattle.dali_bank.specs.Layout.{fields}
use Rattle.dali_input.proofs.key.field_named.Given as goal

abbrev pub invariant-loop-field : goal.invariant-loop-field
invariant-loop-field l = list_any (λ field. bytes_eq l.text (key_of field)) (take l.field-index fields) ≡ false
