use Rattle.dali_file_commands.proofs.KnownLemmas.{began_surveyed, closed_surveyed, ended_surveyed, opened_surveyed}
use Rattle.dali_file_commands.proofs.known.Survey.with.Goals as goal

pub returns-in-Began : goal.returns-in-Began
returns-in-Began c = λ records is.
    let least = rw c.id.ensures at c.greater.ensures.least in
    let one = rw c.id.ensures at c.greater.ensures.one in
    rw (c.in-Began.is, c.id-in-Began.ensures)
    (began_surveyed _ _ records c.args.self c.greater.result is least c.greater.ensures.others one)

pub returns-in-Opened : goal.returns-in-Opened
returns-in-Opened c = λ records is. rw c.in-Opened.is (opened_surveyed _ records c.args.self is)

pub returns-in-Ended : goal.returns-in-Ended
returns-in-Ended c = λ records is. rw c.in-Ended.is (ended_surveyed _ records c.args.self is)

pub returns-in-Closed : goal.returns-in-Closed
returns-in-Closed c = λ records is. rw c.in-Closed.is (closed_surveyed _ records c.args.self is)
