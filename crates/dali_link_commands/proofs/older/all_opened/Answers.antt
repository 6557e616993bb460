use Rattle.std.proofs.Common.{rules, ◌≡◌, ◌++◌, ◌∷◌, [], ◌∙◌, ap}
use Rattle.std.proofs.lemmas.List.{take_all}
use Rattle.dali_link_commands.specs.Older.{held_under}
use Rattle.dali_link_commands.proofs.OlderLemmas.{opened_more}
use Rattle.dali_link_commands.proofs.older.all_opened.Goals as goal

pub loop-name-preserved : goal.loop-name-preserved
loop-name-preserved g c = record {
  opened =
      let pushed : c.push.new.self.items ≡ c.loop-name.stores.items ++ (c.in-Ok.store ∷ []) = search rules in
      rw pushed (opened_more g.R.Opened.Store.seen (g.R.JournalFiles.has c.args.rt.now) c.args.names.now
      c.loop-name.name-index _ c.loop-name.stores.items c.in-Ok.store c.loop-name.invariant.opened
      c.loop-name-test.true c.in-Ok.ensures.ok);
}

pub returns-clause-all : goal.returns-clause-all
returns-clause-all g c =
    c.loop-name.invariant.opened
    ∙ ap (held_under (g.R.JournalFiles.has c.args.rt.now))
    (take_all c.loop-name.name-index c.args.names.now c.loop-name-test.false)
