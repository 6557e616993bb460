use Rattle.std.proofs.Common.{◌+◌, ◌∙◌, sym, ap, arith, length, nat_eq}
use Rattle.std.specs.List.{list_any}
use Rattle.std.specs.Map.{keys_of}
use Rattle.dali_journal.specs.declared.record.Record.TheVariants.{Began}
use Rattle.dali_journal.specs.declared.standing.Standing.{Standing}
use Rattle.dali_journal.specs.declared.version.Version.TheVariants.{Two}
use Rattle.dali_journal.specs.Sentence.{standing_of}
use Rattle.dali_journal.specs.Spelling.{spelling}
use Rattle.dali_journal.specs.JournalState.{JournalState, bytes_due}
use Rattle.dali_journal.proofs.JournalLemmas.{found_in}
use Rattle.dali_journal.proofs.journal.Journal.has_room.Goals as goal

pub returns-then-capacity-len : goal.returns-then-capacity-len
returns-then-capacity-len c =
    let entries = c.self.inside.index.entries in
    let key = c.contains_key.ensures ∙ found_in c.id.result entries
    ∙ ap (λ n. list_any (nat_eq n) (keys_of entries)) c.id.ensures
    ∙ ap (λ (j : JournalState). list_any (nat_eq c.args.order.now.id) j.numbers) c.self.view_is in
    let standing = c.self.invariant.standing_is ∙ ap (λ (j : JournalState). standing_of j.records) c.self.view_is in
    let due =
    c.bytes_wanted.ensures
    ∙ ap (λ (st : Standing). bytes_due st + length (spelling Two (Began c.args.order.now 0)) + 6) standing in
    let room = ap (λ (j : JournalState). j.room) c.self.view_is in
    let enough = c.if-capacity-len.true in
    let capacity = c.capacity.ensures in
    let len = c.len.ensures in
    (λ there. (omega arith, sym key ∙ there), λ has. key ∙ has.1)
