use Rattle.std.proofs.Common.{◌∙◌, subst, List, ℕ, sym}
use Rattle.dali_journal.specs.declared.version.Version.TheVariants.{Two}
use Rattle.dali_journal.specs.GroupAhead.{HasGroup}
use Rattle.dali_journal.proofs.IndexLemmas.{slice_rest}
use Rattle.dali_journal.proofs.FrontLemmas.{front_more, front_repeated}
use Rattle.dali_journal.proofs.group.groups_ahead.Goals as goal

pub returns-in-Ok-Some-clause-err : goal.returns-in-Ok-Some-clause-err
returns-in-Ok-Some-clause-err c =
    let l = c.loop-orders in
    let group = c.in-Some.group in
    front_repeated c.args.limit c.args.bytes.now l.at group.len l.orders group.id group.code l.index.entries
    c.in-Ok-Some.field-0-0 c.requires l.invariant
    (subst (λ (bs : List ℕ). HasGroup Two group.id group.code group.len bs) (slice_rest l.at c.args.bytes.now)
    c.in-Some.ensures)
    (sym c.in-Ok-Some.ensures.old ∙ c.in-Ok-Some.field-0-is)

pub loop-orders-preserved : goal.loop-orders-preserved
loop-orders-preserved c =
    let l = c.loop-orders in
    let group = c.in-Some.group in
    front_more c.args.limit c.args.bytes.now l.at group.len l.orders group.id group.code l.index.entries
    c.insert.new.self.entries
    l.invariant c.loop-orders-test.true
    (subst (λ (bs : List ℕ). HasGroup Two group.id group.code group.len bs) (slice_rest l.at c.args.bytes.now)
    c.in-Some.ensures)
    (sym c.in-Ok-None.ensures.old ∙ c.in-Ok-None.field-0-is)
    c.in-Ok-None.ensures.updates.0
