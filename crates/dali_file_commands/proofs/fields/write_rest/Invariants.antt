use Rattle.std.proofs.Common.{◌≡◌, ◌++◌, codes, take}
use Rattle.std.specs.List.{flat_map}
use Rattle.dali_text.specs.Output.{Takes, has_failed}
use Rattle.dali_file_commands.specs.FieldLines.{field_text}
use Rattle.dali_file_commands.proofs.fields.write_rest.Given as goal

abbrev pub invariant-loop-field : goal.invariant-loop-field
invariant-loop-field g l = record {
  text : Takes g.W.Write.contents l.initial.output l.output
      (flat_map (λ field. codes ",\n" ++ field_text field) (take l.field-index l.rest));
  failed : has_failed l.output ≡ has_failed l.initial.output;
}
