use Rattle.std.proofs.Common.{◌≡◌, Some, arith}
use Rattle.json.specs.Json.{read_key}
use Rattle.dali_input.proofs.ObjectLemmas.{none_read, read_more, no_key, no_value, all_read}
use Rattle.dali_input.proofs.members.read_members.Goals as goal

pub members-init : goal.members-init
members-init c = none_read _ _ c.new-members.result c.new-members.ensures

pub members-preserved-then-not-put : goal.members-preserved-then-not-put
members-preserved-then-not-put c =
    let named : read_key c.members.reader ≡ Some (Some c.in-Some.key.now, c.next_key.new.self) = grind arith in
    let d = c.in_ok-value.ensures.ok in
    read_more _ _ _ _ _ c.members.invariant _ _ d.0 _ _ named d.2 c.in_ok-value.ensures.shorter d.1
    c.put.ensures.here c.put.ensures.others c.put.ensures.known

pub members-preserved : goal.members-preserved
members-preserved c =
    let named : read_key c.members.reader ≡ Some (Some c.in-Some.key.now, c.next_key.new.self) = grind arith in
    let d = c.in_ok-value.ensures.ok in
    read_more _ _ _ _ _ c.members.invariant _ _ d.0 _ _ named d.2 c.in_ok-value.ensures.shorter d.1
    c.put.ensures.here c.put.ensures.others c.put.ensures.known

pub returns-in_err-key-clause-err : goal.returns-in_err-key-clause-err
returns-in_err-key-clause-err c refused =
    no_key _ _ _ c.next_key.new.self _ c.members.invariant c.in_err-key.ensures.value

pub returns-in_err-value-clause-err : goal.returns-in_err-value-clause-err
returns-in_err-value-clause-err c refused =
    let named : read_key c.members.reader ≡ Some (Some c.in-Some.key.now, c.next_key.new.self) = grind arith in
    no_value _ _ _ _ _ c.members.invariant _ named (c.read_value.ensures.err (grind arith))

pub returns-clause-ok : goal.returns-clause-ok
returns-clause-ok c = all_read _ _ _ c.next_key.new.self _ c.members.invariant (grind arith)
