use Rattle.std.proofs.Common.{subst}
use Rattle.dali_address.specs.Phases.{IsFit}
use Rattle.dali_address.specs.declared.phase.Phase.{Phase}
use Rattle.dali_address.proofs.phase.Phase.call.Goals as goal

pub returns-in-Close : goal.returns-in-Close
returns-in-Close c task told stands fit = c.closing.ensures task told

pub returns-in-Take : goal.returns-in-Take
returns-in-Take c task told stands fit =
    c.call.ensures task told stands (subst (λ (it : Phase). IsFit task it) c.in-Take.is fit).0

pub returns-in-Give : goal.returns-in-Give
returns-in-Give c task told stands fit =
    c.call-in-Give.ensures task told stands (subst (λ (it : Phase). IsFit task it) c.in-Give.is fit).0

pub returns-in-Read : goal.returns-in-Read
returns-in-Read c task told stands fit =
    c.reading.ensures task told (subst (λ (it : Phase). IsFit task it) c.in-Read.is fit)
