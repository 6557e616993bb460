use Rattle.dali_link_commands.proofs.LinesGaveLemmas.{gave_ready}
use Rattle.dali_link_commands.proofs.stream.order_lines.OrderLines.begin.Goals as goal

pub returns : goal.returns
returns g c = record {
  given = λ first given gave.
      gave_ready g.R.Source.left g.R.Source.failed first c.args.self.now given _ c.requires c.ready_line.ensures gave;
}
