use Rattle.dali_address.proofs.RunLemmas.{told_on}
use Rattle.dali_address.proofs.addressing.Addressing.said.Goals as goal

pub returns-in-Tell-clause-told : goal.returns-in-Tell-clause-told
returns-in-Tell-clause-told c told line saying was =
    told_on told c.args.self.now c.go.new.self c.go.ensures.kept.task c.go.ensures.kept.evidence was
    (c.go.ensures.right told was.stands (c.said-phase.ensures was.going.fit))
