use Rattle.std.proofs.Common.{◌<◌, All, length, get_or, take, take_all, sym, ap, subst, refl, arith}
use Rattle.std.proofs.lemmas.Option.{slice_get-get_or}
use Rattle.std.proofs.lemmas.Map.Entries.{length-keys_of}
use Rattle.std.proofs.lemmas.List.Elements.{All-more, All-same}
use Rattle.dali_journal.specs.declared.version.Version.TheVariants.{Two}
use Rattle.dali_journal.specs.Decoding.{records_in}
use Rattle.dali_journal.specs.JournalState.{JournalState}
use Rattle.dali_journal.specs.Behind.{IsApart, AreApart}
use Rattle.dali_journal.proofs.JoinLemmas.{apart_told}
use Rattle.dali_journal.proofs.behind.common_number.Goals as goal

pub loop-place-preserved : goal.loop-place-preserved
loop-place-preserved c =
    let numbers = c.args.newer.now.numbers in
    let place = c.loop-place.place in
    let same = ap (λ (j : JournalState). length j.numbers) c.newer.view_is in
    let count = length-keys_of c.newer.inside.index.entries in
    let within : place < length numbers =
    omega (arith, c.len-place-end.ensures.len, c.loop-place-test.true) in
    All-more (IsApart c.args.newer.now.records c.args.older.now.records) numbers place 0 within c.loop-place.invariant
    (c.in_default-common_at.ensures.none refl (get_or numbers place 0) (slice_get-get_or numbers place 0 within))

pub returns-clause-none : goal.returns-clause-none
returns-clause-none c = λ _.
    let inside = c.newer.inside in
    let older = c.args.older.now.records in
    let numbers = c.args.newer.now.numbers in
    let same = ap (λ (j : JournalState). length j.numbers) c.newer.view_is in
    let count = length-keys_of inside.index.entries in
    subst (λ (j : JournalState). AreApart j.records older) c.newer.view_is
    (apart_told inside.bytes.items (records_in Two inside.bytes.items) older inside.front inside.settled.items
    inside.index.entries c.newer.invariant.indexed
    (subst (λ (j : JournalState). All (λ one. IsApart j.records older one.id) inside.settled.items)
    (sym c.newer.view_is)
    (subst (All (λ one. IsApart c.args.newer.now.records older one.id)) c.deref.ensures.value
    (c.in_default.ensures.none refl)))
    (subst (λ (j : JournalState). All (IsApart j.records older) j.numbers) (sym c.newer.view_is)
    (All-same (IsApart c.args.newer.now.records older) numbers (take c.loop-place.place numbers)
    (sym (take_all c.loop-place.place numbers
    (omega (arith, c.len-place-end.ensures.len, c.loop-place-test.false))))
    c.loop-place.invariant)))
