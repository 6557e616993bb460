use Rattle.std.proofs.Common.{◌≡◌, ◌∙◌, sym, ap, subst, arith, ◌-◌, vec_len, vec_capacity, nat_eq, true, is_some}
use Rattle.std.specs.List.{list_any}
use Rattle.std.specs.Map.{keys_of, lookup}
use Rattle.dali_journal.specs.JournalState.{JournalState}
use Rattle.dali_journal.proofs.JournalLemmas.{found_in, reserved, reserved_sound, room_kept}
use Rattle.dali_journal.proofs.journal.Journal.reserve.Goals as goal

pub returns-in_err-enter-clause-kept_room : goal.returns-in_err-enter-clause-kept_room
returns-in_err-enter-clause-kept_room c =
    let inside = c.self.inside in
    let bytes = c.reserve.new.self in
    let r = c.reserve.ensures in
    let room = ap (λ (j : JournalState). j.room) c.self.view_is in
    room_kept c.args.self.now inside.bytes.items bytes.items (vec_capacity bytes - vec_len bytes) inside.index.entries
    c.enter.new.index.entries
    r.items (ap (λ (j : JournalState). j.records) c.self.view_is) (ap (λ (j : JournalState). j.numbers) c.self.view_is)
    (omega (arith, room, r.len, r.capacity)) c.enter.ensures.stays

pub returns-in_err-enter-clause-succeeds : goal.returns-in_err-enter-clause-succeeds
returns-in_err-enter-clause-succeeds c = λ has.
    let key = found_in c.id.result c.self.inside.index.entries
    ∙ ap (λ n. list_any (nat_eq n) (keys_of c.self.inside.index.entries)) c.id.ensures
    ∙ ap (λ (j : JournalState). list_any (nat_eq c.args.order.now.id) j.numbers) c.self.view_is in
    let e = c.in_err-enter.ensures.succeeds (key ∙ has.1) in cc

pub returns-clause-room : goal.returns-clause-room
returns-clause-room c =
    let inside = c.self.inside in
    let bytes = c.reserve.new.self in (
      reserved inside.bytes.items bytes.items inside.standing c.args.order.now c.bytes_wanted.result (vec_len bytes)
          (vec_capacity bytes)
          c.reserve.ensures.items c.self.invariant.standing_is c.bytes_wanted.ensures c.in_ok-reserve.ensures.ok,
      sym (found_in c.args.order.now.id c.enter.new.index.entries)
          ∙ subst (λ n. is_some (lookup (nat_eq n) c.enter.new.index.entries) ≡ true) c.id.ensures
          c.in_ok-enter.ensures.entered,
    )

pub returns-clause-kept_room : goal.returns-clause-kept_room
returns-clause-kept_room c =
    let inside = c.self.inside in
    let bytes = c.reserve.new.self in
    let r = c.reserve.ensures in
    let room = ap (λ (j : JournalState). j.room) c.self.view_is in
    room_kept c.args.self.now inside.bytes.items bytes.items (vec_capacity bytes - vec_len bytes) inside.index.entries
    c.enter.new.index.entries
    r.items (ap (λ (j : JournalState). j.records) c.self.view_is) (ap (λ (j : JournalState). j.numbers) c.self.view_is)
    (omega (arith, room, r.len, r.capacity)) c.enter.ensures.stays

pub invariant_of-self-in_err-enter : goal.invariant_of-self-in_err-enter
invariant_of-self-in_err-enter c =
    let inside = c.self.inside in
    let bytes = c.reserve.new.self in
    let r = c.reserve.ensures in
    reserved_sound inside.bytes.items bytes.items inside.standing inside.orders inside.limit
    (vec_capacity inside.bytes - vec_len inside.bytes) (vec_capacity bytes - vec_len bytes) _ _ inside.front
    inside.settled.items inside.index.entries c.enter.new.index.entries r.items c.self.invariant
    (omega (arith, r.len, r.capacity)) c.enter.ensures.same

pub invariant_of-self-2 : goal.invariant_of-self-2
invariant_of-self-2 c =
    let inside = c.self.inside in
    let bytes = c.reserve.new.self in
    let r = c.reserve.ensures in
    reserved_sound inside.bytes.items bytes.items inside.standing inside.orders inside.limit
    (vec_capacity inside.bytes - vec_len inside.bytes) (vec_capacity bytes - vec_len bytes) _ _ inside.front
    inside.settled.items inside.index.entries c.enter.new.index.entries r.items c.self.invariant
    (omega (arith, r.len, r.capacity)) c.enter.ensures.same
