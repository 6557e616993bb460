use Rattle.serde_json.specs.View.{view}
use Rattle.dali_drive.specs.Found.{was_found}
use Rattle.dali_report.proofs.FoundLemmas.{found_no_float, found_told}
use Rattle.dali_report.proofs.line.found_line.Goals as goal

pub line_of-requires : goal.line_of-requires
line_of-requires c =
    let tells = c.in_ok-value.ensures in
    rw tells.2 (found_no_float c.args.run (was_found c.args.order.now c.args.found c.args.read.now) tells.0)

pub returns : goal.returns
returns c =
    found_told c.line_of.result c.args.run (was_found c.args.order.now c.args.found c.args.read.now)
    (view c.in_ok-value.value) c.in_ok-value.ensures c.line_of.ensures
