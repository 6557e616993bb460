use Rattle.std.proofs.Common.{rules, ◌≡◌, ◌≢◌, ◌∙◌, ap, sym, length, append-nil}
use Rattle.dali_journal.specs.Sentence.{standing_of}
use Rattle.dali_link_commands.proofs.BehindLemmas.{standing_behind}
use Rattle.dali_link_commands.proofs.older.joined_behind.Goals as goal

pub returns-in_default : goal.returns-in_default
returns-in_default c = record {
  ok = tt;
  err = (search c.in-Ok.ensures.ok, λ idle. c.in_default.not-Idle (c.standing.ensures.value ∙ idle));
}

pub returns-in-None-clause-ok : goal.returns-in-None-clause-ok
returns-in-None-clause-ok c =
    let idle = sym c.standing.ensures.value ∙ c.in-Idle.is in
    let whole : c.in-Ok.counted ≡ length c.args.bytes.items = search rules in
    rw c.in-None.is (record {
      own = c.in-Ok.own;
      version = c.in-Ok.field-0-2;
      loaded = rw whole at c.in-Ok.ensures.ok;
      rests = idle;
      records_are = sym (append-nil c.in-Ok.own.records);
      stands = idle;
    })

pub returns-in-Ok-behind-clause-ok : goal.returns-in-Ok-behind-clause-ok
returns-in-Ok-behind-clause-ok c =
    let idle = sym c.standing.ensures.value ∙ c.in-Idle.is in
    let stands =
    ap standing_of c.in-Ok-behind.ensures.records
    ∙ standing_behind c.in-Ok.own.records c.in-Some.older.records (rw c.in-Some.is at c.requires.rests) ∙ idle in
    let whole : c.in-Ok.counted ≡ length c.args.bytes.items = search rules in
    rw c.in-Some.is (record {
      own = c.in-Ok.own;
      version = c.in-Ok.field-0-2;
      loaded = rw whole at c.in-Ok.ensures.ok;
      rests = idle;
      records_are = c.in-Ok-behind.ensures.records;
      stands = stands;
    })

pub returns-in-Err-behind-clause-err : goal.returns-in-Err-behind-clause-err
returns-in-Err-behind-clause-err c = rw c.in-Some.is (search c.in-Ok.ensures.ok, c.in-Err-behind.ensures.err)

pub returns-then-counted-length-clause-err : goal.returns-then-counted-length-clause-err
returns-then-counted-length-clause-err c =
    let is_cut : c.in-Ok.counted ≢ length c.args.bytes.items = search rules in (search c.in-Ok.ensures.ok, is_cut)
