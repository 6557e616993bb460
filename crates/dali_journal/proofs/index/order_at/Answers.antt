use Rattle.std.proofs.Common.{◌∙◌, ap}
use Rattle.dali_journal.specs.Index.{order_in}
use Rattle.dali_journal.proofs.IndexLemmas.{order_there}
use Rattle.dali_journal.proofs.index.order_at.Goals as goal

pub returns : goal.returns
returns c = λ order moment stands.
    c.order_in.ensures
    ∙ ap order_in (order_there c.args.bytes.now c.args.at order moment c.read.result c.read.ensures stands)
