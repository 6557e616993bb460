use Rattle.std.proofs.Common.{◌∙◌, ap, refl, List, ℕ, string_bytes}
use Rattle.serde_json.specs.Data.{object, string, Members}
use Rattle.serde_json.specs.View.{members_view}
use Rattle.serde_json.proofs.Views.{view-Object}
use Rattle.dali_report.proofs.LineLemmas.{difference_members}
use Rattle.dali_report.proofs.differences.difference.Goals as goal

pub returns : goal.returns
returns c = (
  record {
    field = c.args.field;
    has = string_bytes c.in_ok-has.has;
    wants = string_bytes c.in_ok-wants.wants;
  },
  refl,
  (c.in_ok-has.ensures, c.in_ok-wants.ensures),
  view-Object c.in_ok-members-3.members
      ∙ ap (λ (m : Members). object m) (difference_members (ap members_view c.new.ensures.empty)
      c.from.ensures c.in_ok-members.ensures
      c.from-2.ensures c.in_ok-members-2.ensures
      (c.in_ok-try_from_str.ensures ∙ ap (λ (t : List ℕ). string t) c.key.ensures) c.in_ok-members-3.ensures),
)
