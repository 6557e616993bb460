use Rattle.dali_address.proofs.addressing.Addressing.go.Goals as goal

pub returns-then-self-eq0-clause-right : goal.returns-then-self-eq0-clause-right
returns-then-self-eq0-clause-right c told stands fit =
    record { fit = tt; wants = c.ended-self.ensures.right c.args.self.now.task told stands }
