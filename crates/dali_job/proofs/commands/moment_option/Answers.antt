use Rattle.std.proofs.Common.{◌≡◌, ◌∙◌, [], ◌∷◌, Some, ap, codes}
use Rattle.clap.specs.Words.{Rule, new_rule, rule_of}
use Rattle.clap.specs.declared.builder.ArgAction.TheVariants.{Set}
use Rattle.clap.specs.declared.builder.ValueParser.TheVariants.{Unsigned}
use Rattle.clap.specs.declared.builder.arg.Arg.{Arg}
use Rattle.dali_job.proofs.commands.moment_option.Goals as goal

pub returns : goal.returns
returns c = (
  let parser : c.value_parser-2.result.value_parser ≡ Some (Unsigned 0 18446744073709551615) =
      c.value_parser-2.ensures.given.1 ∙ ap Some (c.value_parser-2.ensures.given.2 ∙ c.value_parser.ensures) in
      let long : rule_of c.long.result ≡ record (new_rule (codes "moment")) { long = Some (codes "moment") } =
      ap rule_of c.long.ensures ∙ ap (λ (r : Rule). record r { long = Some (codes "moment") }) c.new.ensures.rule in
      let named : rule_of c.value_name.result ≡ record (rule_of c.long.result) { value_names = 1 } =
      ap rule_of c.value_name.ensures in
      let told : rule_of c.help.result ≡ rule_of c.value_name.result = ap rule_of c.help.ensures in
      let parsed : rule_of c.value_parser-2.result
      ≡ record (rule_of c.help.result) { parser = Some (Unsigned 0 18446744073709551615) } =
      ap rule_of c.value_parser-2.ensures.others ∙ ap (λ p. record (rule_of c.help.result) { parser = p }) parser in
      let given : rule_of c.default_value.result
      ≡ record (rule_of c.value_parser-2.result) { defaults = codes "0" ∷ [] } =
      ap rule_of c.default_value.ensures in
      let whole : rule_of c.action.result ≡ record (rule_of c.default_value.result) { action = Some Set } =
      ap rule_of c.action.ensures in
      whole ∙ ap (λ (r : Rule). record r { action = Some Set }) given
      ∙ ap (λ (r : Rule). record r { defaults = codes "0" ∷ []; action = Some Set }) parsed
      ∙ ap (λ (r : Rule). record r {
        defaults = codes "0" ∷ [];
        action = Some Set;
        parser = Some (Unsigned 0 18446744073709551615);
      }) (told ∙ named ∙ ap (λ (r : Rule). record r { value_names = 1 }) long),
  ap (λ (a : Arg). a.global) c.action.ensures ∙ ap (λ (a : Arg). a.global) c.default_value.ensures
      ∙ ap (λ (a : Arg). a.global) c.value_parser-2.ensures.others
      ∙ ap (λ (a : Arg). a.global) c.help.ensures
      ∙ ap (λ (a : Arg). a.global) c.value_name.ensures
      ∙ ap (λ (a : Arg). a.global) c.long.ensures
      ∙ c.new.ensures.optional.1,
)
