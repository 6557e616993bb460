use Rattle.std.proofs.Common.{◌∙◌, Some, ap, true}
use Rattle.clap.specs.Words.{Rule, rule_of}
use Rattle.clap.specs.declared.builder.ArgAction.TheVariants.{Set}
use Rattle.clap.specs.declared.builder.arg.Arg.{Arg}
use Rattle.dali_job.proofs.commands.value_argument.Goals as goal

pub returns : goal.returns
returns c = (
  ap rule_of c.action.ensures ∙ ap (λ (a : Arg). rule_of (record a { action = Some Set })) c.required.ensures
      ∙ ap (λ (a : Arg). rule_of (record a { required = true; action = Some Set })) c.help.ensures
      ∙ ap (λ (r : Rule). record r { required = true; action = Some Set }) c.new.ensures.rule,
  ap (λ (a : Arg). a.global) c.action.ensures ∙ ap (λ (a : Arg). a.global) c.required.ensures
      ∙ ap (λ (a : Arg). a.global) c.help.ensures
      ∙ c.new.ensures.optional.1,
)
