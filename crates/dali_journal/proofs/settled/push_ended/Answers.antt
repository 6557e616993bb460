use Rattle.std.proofs.Common.{◌≡◌, nat_eq, Some, sym}
use Rattle.std.specs.Map.{lookup}
use Rattle.dali_journal.proofs.SettledLemmas.{ended_more, told_more}
use Rattle.dali_journal.proofs.settled.push_ended.Goals as goal

pub loop-place-preserved : goal.loop-place-preserved
loop-place-preserved c =
    let l = c.loop-place in
    let entries = c.args.index.now.entries in
    let there = sym c.in-Some.ensures.entry in
    record {
      items =
          ended_more c.push_entry.new.settled.items c.args.settled.now.items l.settled.items c.args.front entries
          l.place (c.in-Some.id.now, c.in-Some.known.now) there l.invariant.items c.in_ok-push_entry.ensures;
      told =
          told_more entries (λ entry. lookup (nat_eq entry.0) entries ≡ Some entry.1) l.place
          (c.in-Some.id.now, c.in-Some.known.now) there l.invariant.told c.in-Some.ensures.value;
    }
