use Rattle.dali_link_commands.proofs.BehindLemmas.{list_answered}
use Rattle.dali_link_commands.proofs.drive.drive_orders.Goals as goal

pub returns-clause-answer : goal.returns-clause-answer
returns-clause-answer g c = (
  list_answered c.args.desk.now.older g.N.Write.contents c.args.task.now.moment c.args.task.now.pace
      c.args.task.now.required c.args.report.now c.follow_source.new.report c.args.orders.now c.new-listed.result
      c.follow_source.new.orders _ _ _ c.new-listed.ensures.few c.new-listed.ensures.state
      c.follow_source.ensures.answer,
  c.follow_source.ensures.unwritten,
)
