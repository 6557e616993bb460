use Rattle.std.proofs.Common.{◌≡◌, map, take}
use Rattle.dali_link_commands.specs.Older.{held_under}
use Rattle.dali_link_commands.proofs.older.all_opened.Given as goal

abbrev pub invariant-loop-name : goal.invariant-loop-name
invariant-loop-name g l = record {
  opened : map g.R.Opened.Store.seen l.stores.items
      ≡ held_under (g.R.JournalFiles.has l.rt) (take l.name-index l.fn.names);
}
