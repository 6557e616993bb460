use Rattle.dali_file_commands.proofs.ReportLemmas.{accepted_told}
use Rattle.dali_file_commands.proofs.check.write_accepted.Goals as goal

pub returns-clause-lines : goal.returns-clause-lines
returns-clause-lines g c =
    accepted_told c.write_known.result _ c.args.number c.args.order.now c.known.result _ _ _ c.known.ensures.known
    c.in_ok-write_order.ensures.text c.write_known.ensures.text
