use Rattle.std.proofs.Common.{◌∙◌, ap, List, ℕ}
use Rattle.serde_json.specs.Data.{object, number, string, unsigned, Members}
use Rattle.serde_json.proofs.Views.{view-Object}
use Rattle.serde_json.specs.View.{members_view}
use Rattle.dali_report.proofs.LineLemmas.{end_members}
use Rattle.dali_report.proofs.line.end_value.Goals as goal

pub returns : goal.returns
returns c =
    view-Object c.in_ok-members-5.members ∙ ap (λ (m : Members). object m) (end_members
    (ap members_view c.new.ensures.empty)
    c.from.ensures c.in_ok-members.ensures
    (c.from-2.ensures ∙ ap (λ (t : List ℕ). string t) c.in_ok-name.ensures.ok) c.in_ok-members-2.ensures
    c.in_ok-digits_of.ensures c.in_ok-members-3.ensures
    (c.from-3.ensures ∙ ap (λ (n : ℕ). number (unsigned n)) c.number.ensures) c.in_ok-members-4.ensures
    (c.from-4.ensures ∙ ap (λ (t : List ℕ). string t) c.in_ok-escaped.ensures) c.in_ok-members-5.ensures)
