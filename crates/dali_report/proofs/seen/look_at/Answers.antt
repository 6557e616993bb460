use Rattle.std.proofs.Common.{refl}
use Rattle.serde_json.specs.View.{view}
use Rattle.dali_report.specs.Seen.{run_in}
use Rattle.dali_report.proofs.SeenLemmas.{value_seen}
use Rattle.dali_report.proofs.seen.look_at.Goals as goal

pub returns-in-Ok : goal.returns-in-Ok
returns-in-Ok c =
    let value = view c.in-Ok.value in
    rw c.seen_in.ensures (value_seen c.args.line.now value (run_in value) refl c.in-Ok.ensures.ok)
