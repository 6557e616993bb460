use Rattle.std.proofs.Common.{inr}
use Rattle.dali_link_commands.proofs.asked.asked_in.Goals as goal

pub returns-in-Err-behind-clause-err : goal.returns-in-Err-behind-clause-err
returns-in-Err-behind-clause-err g c = inr (inr (
  c.in-Err-behind.fault,
  c.older.ensures,
  (
    c.in-Ok.bytes.items,
    c.in-Ok.ensures.ok,
    (
      record {
        own = c.in-Ok-journal_in.own;
        counted = c.in-Ok-journal_in.field-0-1;
        version = c.in-Ok-journal_in.field-0-2;
        loaded = c.in-Ok-journal_in.ensures.ok;
      },
      rw c.in-Some.is c.in-Err-behind.ensures.err,
    ),
  ),
))
