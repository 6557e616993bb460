use Rattle.std.proofs.Common.{sym, subst, List, ℕ, Contains}
use Rattle.dali_journal.specs.declared.version.Version.TheVariants.{Two}
use Rattle.dali_journal.specs.declared.index.IndexEntry.TheVariants as index_entries
use Rattle.dali_journal.specs.declared.settled.Settled.{Settled}
use Rattle.dali_journal.specs.Orders.{kept_of, moment_of}
use Rattle.dali_journal.specs.Decoding.{records_in}
use Rattle.dali_journal.specs.JournalState.{JournalState}
use Rattle.dali_journal.specs.Index.{Agrees}
use Rattle.dali_journal.proofs.IndexedLemmas.{told_settled}
use Rattle.dali_journal.proofs.journal.Journal.told.Goals as goal

pub returns-in-Some : goal.returns-in-Some
returns-in-Some c =
    let inside = c.self.inside in
    let one = c.in-Some.one in
    let found = c.in-Some.ensures.some in
    subst (λ (j : JournalState). Agrees c.deref-in-Some.result.now (index_entries.Ended one.at one.code)
    (kept_of c.args.id j.records) (moment_of c.args.id j.records)) c.self.view_is
    (subst (λ (bs : List ℕ). Agrees bs (index_entries.Ended one.at one.code)
    (kept_of c.args.id (records_in Two inside.bytes.items)) (moment_of c.args.id (records_in Two inside.bytes.items)))
    (sym c.deref-in-Some.ensures.value)
    (told_settled inside.bytes.items (records_in Two inside.bytes.items) inside.front inside.settled.items
    inside.index.entries one c.args.id c.self.invariant.indexed
    (subst (λ (those : List Settled). Contains those one) c.deref.ensures.value found.0) found.1))
