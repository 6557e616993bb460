use Rattle.std.proofs.Common.{sym}
use Rattle.dali_engine.proofs.KeepLemmas.{ready_checked, ready_written, ready_closed, check_falls, keeps_begun}
use Rattle.dali_engine.proofs.KeepLemmas.{keeps_checked, keeps_written, keeps_closed}
use Rattle.dali_engine.proofs.FollowLemmas.{begun_follows, checked_follows, written_follows, closed_follows}
use Rattle.dali_engine.proofs.KeepNeverLemmas.{checks_keep_none, writes_keep_none}
use Rattle.dali_engine.proofs.writer.Writer.kept.Goals as goal

pub invariant_of-self-in-Ended : goal.invariant_of-self-in-Ended
invariant_of-self-in-Ended c = record {
  ready =
      ready_checked c.self.inside.pace c.self.inside.journal c.append-in-Ended.new.self c.in-Checks.order
      c.in-Checks.session
      c.in-Ended.verdict c.after_check-self-inside.result
      (rw (← c.in-Checks.ensures.value) at c.self.invariant.ready) c.after_check-self-inside.ensures
      (rw (c.check_record.ensures.record, c.unit.ensures.value) at c.append-in-Ended.ensures.records);
}

pub invariant_of-self-in-Ended-want : goal.invariant_of-self-in-Ended-want
invariant_of-self-in-Ended-want c = record {
  ready =
      rw (c.id.ensures, c.write_code-code.ensures)
      (ready_written c.self.inside.pace c.self.inside.journal c.append-in-Ended-want.new.self
      c.in-Writes.order c.in-Writes.session c.in-Ended-want.verdict
      (rw (← c.in-Writes.ensures.value) at c.self.invariant.ready)
      (rw c.write_code-code.ensures at c.append-in-Ended-want.ensures.records));
}

pub invariant_of-self-in-Closes : goal.invariant_of-self-in-Closes
invariant_of-self-in-Closes c = record {
  ready = ready_closed c.self.inside.pace c.self.inside.journal c.append-in-Closes.new.self c.in-Closes.order
      c.in-Closes.moment
      c.in-Closes.session
      (rw (← c.in-Closes.ensures.value) at c.self.invariant.ready)
      (rw c.unit-in-Closes.ensures.value at c.append-in-Closes.ensures.records)
      c.append-in-Closes.ensures.limit c.append-in-Closes.ensures.kept_room;
}

pub returns-in-Begins-clause-described : goal.returns-in-Begins-clause-described
returns-in-Begins-clause-described c = λ start past entry want d.
    keeps_begun c.self.inside.pace start past c.self.inside.journal c.append.new.self c.self.inside.phase
    c.in-Begins.order
    c.in-Begins.moment
    c.fresh_with_pace-session.result entry
    c.in-Begins.ensures.value (rw (← c.self.view_is) at d) c.self.invariant.ready (rw (← c.self.view_is) at want)
    c.fresh_with_pace-session.ensures.told
    (rw c.copy.ensures.value at c.append.ensures.records) c.append.ensures.limit

pub returns-in-Ended-clause-described : goal.returns-in-Ended-clause-described
returns-in-Ended-clause-described c = λ start past entry want d.
    keeps_checked c.self.inside.pace start past c.self.inside.journal c.append-in-Ended.new.self c.self.inside.phase
    c.in-Checks.order c.in-Checks.session c.in-Ended.verdict
    c.after_check-self-inside.result entry c.in-Checks.ensures.value (rw (← c.self.view_is) at d) c.self.invariant.ready
    (rw (← c.self.view_is) at want)
    (sym c.in-Ended.ensures.aim) c.after_check-self-inside.ensures
    (rw (c.check_record.ensures.record, c.unit.ensures.value) at c.append-in-Ended.ensures.records)
    c.append-in-Ended.ensures.limit

pub returns-in-Ended-want-clause-described : goal.returns-in-Ended-want-clause-described
returns-in-Ended-want-clause-described c = λ start past entry want d.
    rw (c.id.ensures, c.write_code-code.ensures) (keeps_written c.self.inside.pace start past c.self.inside.journal
    c.append-in-Ended-want.new.self c.self.inside.phase c.in-Writes.order c.in-Writes.session
    c.in-Ended-want.verdict entry c.in-Writes.ensures.value (rw (← c.self.view_is) at d) c.self.invariant.ready
    (rw (← c.self.view_is) at want)
    (sym c.in-Ended-want.ensures.aim) (rw c.write_code-code.ensures at c.append-in-Ended-want.ensures.records)
    c.append-in-Ended-want.ensures.limit)

pub returns-in-Closes-clause-described : goal.returns-in-Closes-clause-described
returns-in-Closes-clause-described c = λ start past entry want d.
    keeps_closed c.self.inside.pace start past c.self.inside.journal c.append-in-Closes.new.self c.self.inside.phase
    c.in-Closes.order c.in-Closes.moment
    c.in-Closes.session entry
    c.in-Closes.ensures.value (rw (← c.self.view_is) at d) c.self.invariant.ready (rw (← c.self.view_is) at want)
    (rw c.unit-in-Closes.ensures.value at c.append-in-Closes.ensures.records) c.append-in-Closes.ensures.limit

pub returns-in-Ended-clause-falls : goal.returns-in-Ended-clause-falls
returns-in-Ended-clause-falls c = rw (← c.self.view_is)
    (check_falls c.self.inside.pace c.in-Checks.order c.in-Checks.session c.in-Ended.verdict c.self.inside.phase
    c.after_check-self-inside.result c.in-Checks.ensures.value c.after_check-self-inside.ensures)

pub returns-in-Begins-clause-follows : goal.returns-in-Begins-clause-follows
returns-in-Begins-clause-follows c = λ start past entry want d f.
    begun_follows c.self.inside.pace start past c.self.inside.journal c.append.new.self c.self.inside.phase
    c.in-Begins.order
    c.in-Begins.moment
    c.fresh_with_pace-session.result entry
    c.in-Begins.ensures.value (rw (← c.self.view_is) at f) (rw (← c.self.view_is) at want)
    c.fresh_with_pace-session.ensures.told

pub returns-in-Ended-clause-follows : goal.returns-in-Ended-clause-follows
returns-in-Ended-clause-follows c = λ start past entry want d f.
    checked_follows c.self.inside.pace start past c.self.inside.journal c.append-in-Ended.new.self c.self.inside.phase
    c.in-Checks.order c.in-Checks.session c.in-Ended.verdict
    c.after_check-self-inside.result entry c.in-Checks.ensures.value (rw (← c.self.view_is) at d)
    (rw (← c.self.view_is) at f) c.self.invariant.ready (rw (← c.self.view_is) at want)
    (sym c.in-Ended.ensures.aim) c.after_check-self-inside.ensures

pub returns-in-Ended-want-clause-follows : goal.returns-in-Ended-want-clause-follows
returns-in-Ended-want-clause-follows c = λ start past entry want d f.
    rw (c.id.ensures, c.write_code-code.ensures) (written_follows c.self.inside.pace start past c.self.inside.journal
    c.append-in-Ended-want.new.self c.self.inside.phase c.in-Writes.order c.in-Writes.session
    c.in-Ended-want.verdict entry c.in-Writes.ensures.value (rw (← c.self.view_is) at d) (rw (← c.self.view_is) at f)
    c.self.invariant.ready (rw (← c.self.view_is) at want)
    (sym c.in-Ended-want.ensures.aim))

pub returns-in-Closes-clause-follows : goal.returns-in-Closes-clause-follows
returns-in-Closes-clause-follows c = λ start past entry want d f.
    closed_follows c.self.inside.pace start past c.self.inside.journal c.append-in-Closes.new.self c.self.inside.phase
    c.in-Closes.order c.in-Closes.moment
    c.in-Closes.session entry
    c.in-Closes.ensures.value (rw (← c.self.view_is) at d) (rw (← c.self.view_is) at f) c.self.invariant.ready
    (rw (← c.self.view_is) at want)

pub invariant_of-self-in_default : goal.invariant_of-self-in_default
invariant_of-self-in_default c =
    checks_keep_none c.self.inside.phase c.in-Checks.order c.in-Checks.session c.in_default.field-0
    c.in-Checks.ensures.value
    c.in_default.ensures.aim (rw (← c.self.view_is) at c.requires)

pub returns-in_default-clause-falls : goal.returns-in_default-clause-falls
returns-in_default-clause-falls c =
    checks_keep_none c.self.inside.phase c.in-Checks.order c.in-Checks.session c.in_default.field-0
    c.in-Checks.ensures.value
    c.in_default.ensures.aim (rw (← c.self.view_is) at c.requires)

pub returns-in_default-clause-described : goal.returns-in_default-clause-described
returns-in_default-clause-described c =
    checks_keep_none c.self.inside.phase c.in-Checks.order c.in-Checks.session c.in_default.field-0
    c.in-Checks.ensures.value
    c.in_default.ensures.aim (rw (← c.self.view_is) at c.requires)

pub returns-in_default-clause-follows : goal.returns-in_default-clause-follows
returns-in_default-clause-follows c =
    checks_keep_none c.self.inside.phase c.in-Checks.order c.in-Checks.session c.in_default.field-0
    c.in-Checks.ensures.value
    c.in_default.ensures.aim (rw (← c.self.view_is) at c.requires)

pub invariant_of-self-in_default-want : goal.invariant_of-self-in_default-want
invariant_of-self-in_default-want c =
    writes_keep_none c.self.inside.phase c.in-Writes.order c.in-Writes.session c.in_default-want.field-0
    c.in-Writes.ensures.value
    c.in_default-want.ensures.aim (rw (← c.self.view_is) at c.requires)

pub returns-in_default-want-clause-falls : goal.returns-in_default-want-clause-falls
returns-in_default-want-clause-falls c =
    writes_keep_none c.self.inside.phase c.in-Writes.order c.in-Writes.session c.in_default-want.field-0
    c.in-Writes.ensures.value
    c.in_default-want.ensures.aim (rw (← c.self.view_is) at c.requires)

pub returns-in_default-want-clause-described : goal.returns-in_default-want-clause-described
returns-in_default-want-clause-described c =
    writes_keep_none c.self.inside.phase c.in-Writes.order c.in-Writes.session c.in_default-want.field-0
    c.in-Writes.ensures.value
    c.in_default-want.ensures.aim (rw (← c.self.view_is) at c.requires)

pub returns-in_default-want-clause-follows : goal.returns-in_default-want-clause-follows
returns-in_default-want-clause-follows c =
    writes_keep_none c.self.inside.phase c.in-Writes.order c.in-Writes.session c.in_default-want.field-0
    c.in-Writes.ensures.value
    c.in_default-want.ensures.aim (rw (← c.self.view_is) at c.requires)
