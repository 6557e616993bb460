use Rattle.std.proofs.Common.{◌≡◌, ◌+◌, ◌-◌, ◌++◌, ◌∙◌, List, ℕ, length, sym, ap, subst, arith, vec_len, vec_capacity, rules}
use Rattle.std.specs.HashMap.{spare}
use Rattle.dali_journal.specs.declared.record.Record.{Record}
use Rattle.dali_journal.specs.declared.settled.Settled.{Settled}
use Rattle.dali_journal.specs.declared.standing.Standing.TheVariants.{Idle}
use Rattle.dali_journal.specs.declared.version.Version.TheVariants.{Two}
use Rattle.std.specs.List.Sorted.{IsPermutation}
use Rattle.dali_journal.specs.Sentence.{standing_of}
use Rattle.dali_journal.specs.Decoding.{records_in}
use Rattle.dali_journal.specs.JournalState.{JournalState}
use Rattle.dali_journal.specs.Settled.{settled_both}
use Rattle.dali_journal.specs.Behind.{AreApart}
use Rattle.dali_journal.specs.Index.{IsSound}
use Rattle.dali_journal.proofs.JoinLemmas.{sound_joined, read_joined}
use Rattle.dali_journal.proofs.journal.Journal.joined.Goals as goal

pub invariant_of-result : goal.invariant_of-result
invariant_of-result c =
    let was = c.older.inside in
    let is = c.self.inside in
    let older = records_in Two was.bytes.items in
    let own = records_in Two is.bytes.items in
    let new = c.reserve.new.self in
    let orders = was.orders + is.orders in
    let room = vec_capacity new - vec_len new in
    let settled = c.in_ok-settled.settled.items in
    let bytes : new.items ≡ was.bytes.items ++ is.bytes.items =
    c.in_ok-reserve.ensures.items ∙ c.in_ok-extend_from_slice.ensures.items
    ∙ ap (λ bs. was.bytes.items ++ bs) c.deref-2.ensures.value in
    let len : c.len-len.result ≡ length was.bytes.items = c.len-len.ensures ∙ was.bytes.ok.0 in
    let read = read_joined was.bytes.items is.bytes.items older own c.older.invariant.spelled c.self.invariant.spelled
    c.older.invariant.journal.kept.in_range c.self.invariant.journal.kept.in_range in
    let idle : standing_of older ≡ Idle =
    subst (λ (j : JournalState). standing_of j.records ≡ Idle) (sym c.older.view_is) c.requires.rests in
    let apart : AreApart own older =
    subst (λ (j : JournalState). AreApart j.records older) (sym c.self.view_is)
    (subst (λ (j : JournalState). AreApart c.args.self.records j.records) (sym c.older.view_is) c.requires.apart) in
    let moves = subst (λ (those : List Settled).
    IsPermutation (settled_both was.front was.settled.items was.index.entries (length was.bytes.items) those) settled)
    c.deref.ensures.value
    (subst (λ n. IsPermutation
    (settled_both was.front was.settled.items was.index.entries n c.deref.result.now) settled) len
    c.in_ok-settled.ensures.both) in
    let sound = sound_joined was.bytes.items is.bytes.items older own was.standing is.standing was.orders was.limit
    (vec_capacity was.bytes - vec_len was.bytes) (spare was.index) is.orders is.limit
    (vec_capacity is.bytes - vec_len is.bytes) (spare is.index) was.front is.front was.settled.items is.settled.items
    settled was.index.entries is.index.entries c.in-Some.limit room (spare is.index) c.older.invariant c.self.invariant
    idle apart c.in_ok-settled.ensures.told moves c.in_ok-settled.ensures.sorted
    (search rules)
    (omega (arith, c.bytes_due.ensures, c.in_ok-reserve.ensures.ok, c.in_ok-reserve.ensures.len)) in
    subst (λ (bs : List ℕ).
    IsSound bs (records_in Two bs) is.standing orders c.in-Some.limit room (spare is.index)
    (c.len-len.result + is.front) settled is.index.entries) (sym bytes)
    (subst (λ (those : List Record).
    IsSound (was.bytes.items ++ is.bytes.items) those is.standing orders c.in-Some.limit room (spare is.index)
    (c.len-len.result + is.front) settled is.index.entries) (sym read)
    (subst (λ n.
    IsSound (was.bytes.items ++ is.bytes.items) (own ++ older) is.standing orders c.in-Some.limit room (spare is.index)
    (n + is.front) settled is.index.entries) (sym len) sound))

pub returns-clause-records : goal.returns-clause-records
returns-clause-records c =
    let was = c.older.inside in
    let is = c.self.inside in
    let older = records_in Two was.bytes.items in
    let own = records_in Two is.bytes.items in
    ap (records_in Two) (c.in_ok-reserve.ensures.items ∙ c.in_ok-extend_from_slice.ensures.items
    ∙ ap (λ bs. was.bytes.items ++ bs) c.deref-2.ensures.value)
    ∙ read_joined was.bytes.items is.bytes.items older own c.older.invariant.spelled c.self.invariant.spelled
    c.older.invariant.journal.kept.in_range c.self.invariant.journal.kept.in_range
    ∙ ap (λ (j : JournalState). j.records ++ older) c.self.view_is
    ∙ ap (λ (j : JournalState). c.args.self.records ++ j.records) c.older.view_is
