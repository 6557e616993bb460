use Rattle.std.proofs.Common.{◌∙◌, Some, ap}
use Rattle.clap.specs.Words.{Rule, rule_of}
use Rattle.clap.specs.declared.builder.ArgAction.TheVariants.{SetTrue}
use Rattle.clap.specs.declared.builder.arg.Arg.{Arg}
use Rattle.dali_job.proofs.commands.flag_of.Goals as goal

pub returns : goal.returns
returns c = (
  ap rule_of c.action.ensures ∙ ap (λ (a : Arg). rule_of (record a { action = Some SetTrue })) c.help.ensures
      ∙ ap (λ (a : Arg). rule_of (record a { action = Some SetTrue })) c.long.ensures
      ∙ ap (λ (r : Rule). record r { long = Some c.args.id.now; action = Some SetTrue }) c.new.ensures.rule,
  ap (λ (a : Arg). a.global) c.action.ensures ∙ ap (λ (a : Arg). a.global) c.help.ensures
      ∙ ap (λ (a : Arg). a.global) c.long.ensures
      ∙ c.new.ensures.optional.1,
)
