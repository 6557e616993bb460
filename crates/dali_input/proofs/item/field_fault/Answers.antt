use Rattle.std.proofs.Common.{subst}
use Rattle.dali_input.specs.Shallow.{data_of}
use Rattle.dali_input.specs.Members.{IsGivenBy}
use Rattle.dali_input.proofs.item.field_fault.Goals as goal

pub returns-in-Ok-set_given-clause-none : goal.returns-in-Ok-set_given-clause-none
returns-in-Ok-set_given-clause-none c = (
  c.set_given.new.draft,
  subst (λ before. IsGivenBy (data_of c.args.value) c.args.field before c.set_given.new.draft) c.in-Ok.ensures.ok
      c.in-Ok-set_given.ensures.ok,
)
