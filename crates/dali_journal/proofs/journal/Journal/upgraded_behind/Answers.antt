use Rattle.std.proofs.Common.{◌++◌, ◌∙◌, sym, ap, subst, List, ℕ}
use Rattle.dali_journal.specs.declared.version.Version.TheVariants.{One}
use Rattle.dali_journal.specs.Spelling.{records_spelling}
use Rattle.dali_journal.specs.JournalState.{HoldsOrders}
use Rattle.dali_journal.specs.Loading.{IsLoadFault}
use Rattle.dali_journal.proofs.IndexLemmas.{slice_rest}
use Rattle.dali_journal.proofs.TornLemmas.{torn_memory}
use Rattle.dali_journal.proofs.journal.Journal.upgraded_behind.Goals as goal

pub returns-in-Err-clause-torn : goal.returns-in-Err-clause-torn
returns-in-Err-clause-torn c =
    torn_memory HoldsOrders c.args.self.limit c.args.bytes.now c.in-Err.fault
    (subst (λ (bs : List ℕ). IsLoadFault HoldsOrders c.args.self.limit bs c.in-Err.fault)
    (ap (λ bs. records_spelling One c.args.self.records ++ bs) (slice_rest c.args.len c.args.bytes.now)
    ∙ sym c.requires.front) c.in-Err.ensures.err)
