use Rattle.std.proofs.Common.{◌≡◌, ◌∙◌, Some, slice_get, sym, ap, subst, refl, ℕ}
use Rattle.dali_journal.specs.declared.index.IndexEntry.{IndexEntry}
use Rattle.dali_journal.specs.JournalState.{JournalState}
use Rattle.dali_journal.specs.Behind.{IsApart}
use Rattle.dali_journal.proofs.JoinLemmas.{key_there}
use Rattle.dali_journal.proofs.behind.common_at.Goals as goal

pub returns-else-is_common-clause-none : goal.returns-else-is_common-clause-none
returns-else-is_common-clause-none c = λ _ id there.
    let entry : ℕ × IndexEntry = (c.in-Some.field-0-0.now, c.in-Some.field-0-1.now) in
    let key = key_there c.newer.inside.index.entries c.args.place entry (sym c.in-Some.ensures.entry) in
    let both : Some c.in-Some.field-0-0.now ≡ Some id =
    sym key ∙ ap (λ (j : JournalState). slice_get j.numbers c.args.place) c.newer.view_is ∙ there in
    let same : c.in-Some.field-0-0.now ≡ id = cc in
    subst (IsApart c.args.newer.now.records c.args.older.now.records) same
    (c.if-is_common.ensures.no refl)
