use Rattle.std.proofs.Common.{ℕ, ◌++◌, ◌∷◌, sym, ap, ◌∙◌, subst, arith, List, length}
use Rattle.dali_journal.specs.declared.version.Version.TheVariants.{Two}
use Rattle.dali_journal.specs.Sentence.{standing_of, Allows}
use Rattle.dali_journal.specs.Decoding.{records_in}
use Rattle.dali_journal.specs.JournalState.{JournalState, MayBegin}
use Rattle.dali_journal.proofs.JournalLemmas.{begins_in_range, sound_next, records_more, entered, keeps_room}
use Rattle.dali_journal.proofs.journal.Journal.append.Goals as goal

pub note-requires : goal.note-requires
note-requires c =
    entered c.args.self.now c.self.inside.index.entries c.args.entry c.requires.may_begin
    (sym (ap (λ (j : JournalState). j.numbers) c.self.view_is))

pub invariant_of-self : goal.invariant_of-self
invariant_of-self c =
    let inside = c.self.inside in
    let put = c.put_in_room.ensures in
    let after = c.after-self-inside.ensures in
    let more = ap length (c.deref.ensures.0 ∙ c.bytes-bytes.ensures.spelled) in
    rw (
      put.items,
      c.deref.ensures.0,
      c.bytes-bytes.ensures.spelled,
      after.value,
      c.replace-standing.ensures.value,
      c.orders_begun.ensures,
    )
    (sound_next inside.bytes.items inside.standing inside.orders inside.limit _ _ _ _ inside.front _
    inside.settled.items inside.index.entries c.note.new.index.entries c.args.entry
    c.self.invariant
    (subst (λ (j : JournalState). Allows (standing_of j.records) c.args.entry) (sym c.self.view_is) c.requires.allowed)
    (begins_in_range c.args.entry c.bytes-bytes.ensures.in_range)
    (subst (λ (j : JournalState). MayBegin j c.args.entry) (sym c.self.view_is) c.requires.may_begin)
    c.note.ensures.index_entries
    (omega (arith, c.len.ensures, inside.bytes.ok.0))
    (rw (← c.replace-standing.ensures.value, ← after.value) after.short)
    (omega (arith, put.len, put.capacity, more)))

pub returns-clause-records : goal.returns-clause-records
returns-clause-records c =
    let inside = c.self.inside in
    ap (records_in Two) (c.put_in_room.ensures.items
    ∙ ap (λ (more : List ℕ). inside.bytes.items ++ more) (c.deref.ensures.0 ∙ c.bytes-bytes.ensures.spelled))
    ∙ records_more inside.bytes.items inside.standing inside.orders inside.limit _ _ inside.front
    inside.settled.items inside.index.entries c.args.entry
    c.self.invariant
    (subst (λ (j : JournalState). Allows (standing_of j.records) c.args.entry) (sym c.self.view_is) c.requires.allowed)
    (begins_in_range c.args.entry c.bytes-bytes.ensures.in_range)
    ∙ ap (λ (j : JournalState). c.args.entry ∷ j.records) c.self.view_is

pub returns-clause-kept_room : goal.returns-clause-kept_room
returns-clause-kept_room c =
    let put = c.put_in_room.ensures in
    let more = ap length (c.deref.ensures.0 ∙ c.bytes-bytes.ensures.spelled) in
    let room = ap (λ (j : JournalState). j.room) (sym c.self.view_is) in
    keeps_room c.args.self.now _ c.args.entry c.requires.allowed (returns-clause-records c)
    (c.note.ensures.numbers ∙ ap (λ (j : JournalState). j.numbers) c.self.view_is)
    (omega (arith, put.len, put.capacity, more, room))
