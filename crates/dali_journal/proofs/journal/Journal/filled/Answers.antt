use Rattle.std.proofs.Common.{◌++◌, ◌∙◌, ap, subst, List, ℕ, sym}
use Rattle.dali_journal.specs.declared.version.Version.TheVariants.{Two}
use Rattle.dali_journal.specs.Spelling.{header, records_spelling}
use Rattle.dali_journal.specs.JournalState.{HoldsOrders}
use Rattle.dali_journal.specs.Loading.{IsLoadFault}
use Rattle.dali_journal.proofs.TornLemmas.{torn_memory}
use Rattle.dali_journal.proofs.journal.Journal.filled.Goals as goal

pub returns-in-Err-clause-torn : goal.returns-in-Err-clause-torn
returns-in-Err-clause-torn c =
    torn_memory HoldsOrders c.args.self.limit (header Two ++ c.args.bytes.items) c.in-Err.fault c.in-Err.ensures.err

pub returns-in-Err-take_rest-clause-torn : goal.returns-in-Err-take_rest-clause-torn
returns-in-Err-take_rest-clause-torn c =
    let fault = c.in-Err-take_rest.fault in
    torn_memory HoldsOrders c.args.self.limit (header Two ++ c.args.bytes.items) fault
    (subst (λ n. IsLoadFault HoldsOrders n (header Two ++ c.args.bytes.items) fault) c.in-Ok.ensures.limit
    (subst (λ (bs : List ℕ). IsLoadFault HoldsOrders c.take_groups.new.self.limit bs fault)
    (ap (λ bs. header Two ++ bs)
    (ap (λ bs. records_spelling Two c.take_groups.new.self.records ++ bs) c.deref.ensures.value
    ∙ sym c.in-Ok.ensures.spelled))
    c.in-Err-take_rest.ensures.err))
