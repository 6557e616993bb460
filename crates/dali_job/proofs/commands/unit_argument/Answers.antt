use Rattle.std.proofs.Common.{◌∙◌, ap, true}
use Rattle.clap.specs.Words.{Rule, rule_of}
use Rattle.clap.specs.declared.builder.arg.Arg.{Arg}
use Rattle.dali_job.proofs.commands.unit_argument.Goals as goal

pub returns : goal.returns
returns c =
    let (rule, own) = c.address_argument.ensures in (
      ap rule_of c.required.ensures ∙ ap (λ (r : Rule). record r { required = true }) rule,
      ap (λ (a : Arg). a.global) c.required.ensures ∙ own,
    )
