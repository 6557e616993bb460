-- Lemmas on how the following of a stream ended.
use Rattle.std.proofs.Common.{◌≡◌, ℕ, Bool, false}
use Rattle.dali_link_commands.specs.declared.stream.order_lines.OrderLines.{OrderLines}
use Rattle.dali_link_commands.specs.LinesGave.{state_of}
use Rattle.dali_link_commands.specs.FollowAnswers.{AreUnread}

-- new orders of a source that hasn't failed
pub new_are_unread : {R : Type 0} (failed : R → Bool) (source : R) (moment : ℕ) (orders : OrderLines R)
    → state_of orders ≡ record {
      source = source;
      moment = moment;
      count = 0;
      has_refused = false;
      is_begun = false;
      is_over = false;
    } → failed source ≡ false → AreUnread failed moment orders
new_are_unread failed source moment orders is unfailed = search (is, unfailed)
