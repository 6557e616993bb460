use Rattle.std.proofs.Common.{◌≡◌, arith}
use Rattle.serde_json.specs.Events.{items_len}
use Rattle.dali_input.proofs.ItemsLemmas.{next_is, no_items_left}
use Rattle.dali_input.proofs.items.Items.next.Goals as goal

pub returns-in_err-self-clause-next : goal.returns-in_err-self-clause-next
returns-in_err-self-clause-next c = λ all are.
    let none : items_len all ≡ 0 = omega (arith, are.counted, c.in_err-self.ensures) in
    rw c.from_residual.ensures (no_items_left all none)

pub returns-clause-next : goal.returns-clause-next
returns-clause-next c = λ all are. rw c.ok.ensures.value
    (next_is c.args.self.now _ all are c.in_ok-self.ensures.0 c.read_item.result c.read_item.ensures.ok
    c.read_item.ensures.err c.read_item.ensures.shorter c.in_ok-self.ensures.1)
