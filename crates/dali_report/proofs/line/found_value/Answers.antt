use Rattle.std.proofs.Common.{◌∙◌, ap, List, ℕ}
use Rattle.serde_json.specs.Data.{object, number, string, unsigned, Members}
use Rattle.serde_json.proofs.Views.{view-Object}
use Rattle.serde_json.specs.View.{members_view}
use Rattle.dali_report.proofs.LineLemmas.{found_members}
use Rattle.dali_report.proofs.line.found_value.Goals as goal

pub returns : goal.returns
returns c =
    let differing = c.in_ok-differing_fields.ensures in (
      differing.0,
      differing.1,
      view-Object c.in_ok-members-7.members ∙ ap (λ (m : Members). object m) (found_members
          (ap members_view c.new.ensures.empty)
          (c.from.ensures ∙ ap (λ (n : ℕ). number (unsigned n)) c.unit.ensures.value) c.in_ok-members.ensures
          c.from-2.ensures c.in_ok-members-2.ensures
          (c.from-3.ensures ∙ ap (λ (n : ℕ). number (unsigned n)) c.id.ensures) c.in_ok-members-3.ensures
          c.location_of.ensures c.in_ok-members-4.ensures
          (c.in_ok-text.ensures ∙ ap (λ (t : List ℕ). string t) c.found_text.ensures) c.in_ok-members-5.ensures
          differing.2 c.in_ok-members-6.ensures
          c.byte_of.ensures c.in_ok-members-7.ensures),
    )
