use Rattle.std.proofs.Common.{◌∙◌, ap}
use Rattle.serde_json.specs.Data.{object, Members}
use Rattle.serde_json.specs.View.{members_view}
use Rattle.serde_json.proofs.Views.{view-Object}
use Rattle.dali_report.proofs.LineLemmas.{cause_members}
use Rattle.dali_report.proofs.line.cause_of.Goals as goal

pub returns : goal.returns
returns c =
    view-Object c.in_ok-members-3.members
    ∙ ap (λ (m : Members). object m) (cause_members (ap members_view c.new.ensures.empty)
    c.in_ok-was.ensures c.in_ok-members.ensures
    c.from.ensures c.in_ok-members-2.ensures
    c.byte_or_null.ensures c.in_ok-members-3.ensures)
