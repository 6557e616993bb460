use Rattle.dali_journal.proofs.IndexLemmas.{told_unfinished, told_ended, found_unfinished, found_ended}
use Rattle.dali_journal.proofs.index.moment_at.Goals as goal

pub returns-in-Some : goal.returns-in-Some
returns-in-Some c = λ kept since agrees.
    (told_unfinished c.args.bytes.now c.args.known c.in-Begun.at kept since c.in-Some.field-0-0 c.in-Some.moment
    c.in-Begun.is c.in-Some.ensures agrees).1

pub returns-in-None : goal.returns-in-None
returns-in-None c = λ kept since agrees.
    absurd (found_unfinished c.args.bytes.now c.args.known c.in-Begun.at kept since c.in-Begun.is c.in-None.ensures
    agrees)

pub returns-in-Some-order_at : goal.returns-in-Some-order_at
returns-in-Some-order_at c = λ kept since agrees.
    (told_ended c.args.bytes.now c.args.known c.in-Ended.at c.in-Ended.field-1 kept since c.in-Some-order_at.field-0-0
    c.in-Some-order_at.moment c.in-Ended.is c.in-Some-order_at.ensures agrees).1

pub returns-in-None-order_at : goal.returns-in-None-order_at
returns-in-None-order_at c = λ kept since agrees.
    absurd (found_ended c.args.bytes.now c.args.known c.in-Ended.at c.in-Ended.field-1 kept since c.in-Ended.is
    c.in-None-order_at.ensures agrees)
