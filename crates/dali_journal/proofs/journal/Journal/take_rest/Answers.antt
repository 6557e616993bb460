use Rattle.std.proofs.Common.{◌+◌, ◌++◌, ◌∙◌, subst, drop, List, ℕ}
use Rattle.dali_journal.specs.declared.read.Piece.TheVariants.{Bad}
use Rattle.dali_journal.specs.Spelling.{journal_spelling}
use Rattle.dali_journal.specs.Reading.{IsRead, BeginsWith}
use Rattle.dali_journal.specs.Loading.{IsRecordRefused}
use Rattle.dali_journal.proofs.IndexLemmas.{slice_rest}
use Rattle.dali_journal.proofs.LoadLemmas.{fault_of, kept_more, one_taken}
use Rattle.dali_journal.proofs.journal.Journal.take_rest.Goals as goal

pub returns-in-Bad-clause-err : goal.returns-in-Bad-clause-err
returns-in-Bad-clause-err c =
    let l = c.records in
    let i = l.invariant in (
      c.requires.journal.limited,
      record {
        version = c.args.version;
        of_version = c.requires.version;
        records = l.self.records;
        rest = drop l.at c.args.rest.now;
        spelled = i.spelled;
        kept = i.kept;
        behind = (
          i.place,
          subst (λ (bs : List ℕ). IsRead c.args.version bs Bad) (slice_rest l.at c.args.rest.now) c.in-Bad.ensures,
        );
      },
    )

pub returns-in-Err-clause-err : goal.returns-in-Err-clause-err
returns-in-Err-clause-err c =
    let l = c.records in
    let i = l.invariant in
    let place = c.args.front + l.at in
    let version = c.args.version in
    let limit = c.args.self.now.limit in
    fault_of version c.in-Err.fault limit (journal_spelling version c.args.self.now.records ++ c.args.rest.now)
    l.self.records
    (drop l.at c.args.rest.now) place c.in-Whole.entry c.requires.journal.limited c.requires.version i.spelled i.place
    i.kept
    (subst (λ (bs : List ℕ). BeginsWith version bs c.in-Whole.entry) (slice_rest l.at c.args.rest.now)
    c.in-Whole.ensures.0)
    (subst (λ n. IsRecordRefused c.in-Err.fault n place l.self.records c.in-Whole.entry) i.limit c.in-Err.ensures.err)

pub records-preserved : goal.records-preserved
records-preserved c =
    let l = c.records in
    let i = l.invariant in
    let version = c.args.version in
    let whole = c.in-Whole in
    let taken = c.in_default.ensures in
    let begins = subst (λ (bs : List ℕ). BeginsWith version bs whole.entry) (slice_rest l.at c.args.rest.now)
    whole.ensures.0 in
    let next =
    one_taken version l.self.records c.take.new.self.records
    (journal_spelling version c.args.self.now.records ++ c.args.rest.now) c.args.rest.now
    c.args.front l.at whole.len whole.entry i.spelled i.place i.within begins whole.ensures.1 taken.records in
    record {
      spelled = next.0;
      place = next.1;
      within = next.2;
      journal = taken.journal;
      kept = kept_more version c.args.self.now.limit c.take.new.self l.self.records whole.entry taken.journal
          (taken.limit ∙ i.limit) taken.records begins.0 i.kept;
      limit = taken.limit ∙ i.limit;
    }
