use Rattle.dali_journal.specs.Orders.{kept_of}
use Rattle.dali_trace.specs.Trace.{records_of, is_busy, is_full}
use Rattle.dali_laws.proofs.ReplyLemmas.{some_due, only_due}
use Rattle.dali_laws.proofs.laws.one_reply_is_due.Goals as goal

pub returns : goal.returns
returns c = λ start past order.
    let kept = kept_of order.id (records_of start past) in
    let due = some_due order kept (is_busy start past) (is_full start past) in
    (due.0, due.1, λ other is. only_due order kept (is_busy start past) (is_full start past) due.0 other due.1 is)
