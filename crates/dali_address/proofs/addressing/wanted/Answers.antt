use Rattle.dali_address.proofs.addressing.wanted.Goals as goal

pub returns-in-None-clause-right : goal.returns-in-None-clause-right
returns-in-None-clause-right c told stands fit = c.ended.ensures.right c.args.task told stands
