use Rattle.std.proofs.Common.{◌≡◌, ◌-◌, ◌<◌, [], ◌∷◌, length, Some, None, refl, ap, ◌∙◌, arith}
use Rattle.json.specs.Json.{parse_map, after_end_array, read_key, items, value}
use Rattle.json.specs.Reads.{token_of}
use Rattle.json.proofs.Grammar.{value_is, read_key-shorter}
use Rattle.serde_json.specs.Data.{Items, no_items, no_members, null, boolean, number, string, item, array, object, put}
use Rattle.serde_json.specs.Read.{of_json, of_items, converted}
use Rattle.serde_json.specs.View.{number_view}
use Rattle.dali_input.proofs.TokenLemmas.{opened_array, opened_object, item_read, item_refused, items_over}
use Rattle.dali_input.proofs.TokenLemmas.{member_read, member_refused, key_refused, members_over}
use Rattle.dali_input.proofs.TokenLemmas.{unmapped, mapped_twice}
use Rattle.dali_input.proofs.value.+read.Goals as goal

-- ---- value_of

pub value_of-returns-in-String-clause-ok : goal.value_of-returns-in-String-clause-ok
value_of-returns-in-String-clause-ok t c =
    (string c.in-String.text.now, refl, rw c.in-String.is (ap (converted of_json) (value_is c.args.depth _)))

pub value_of-returns-in-Some-clause-ok : goal.value_of-returns-in-Some-clause-ok
value_of-returns-in-Some-clause-ok t c = (
  number (number_view c.in-Some.number),
  refl,
  rw c.in-Number.is (ap (converted of_json) (value_is c.args.depth _) ∙ rw (← c.in-Some.ensures)),
)

pub value_of-returns-in-None-clause-err : goal.value_of-returns-in-None-clause-err
value_of-returns-in-None-clause-err t c refused =
    rw c.in-Number.is (ap (converted of_json) (value_is c.args.depth _) ∙ rw (← c.in-None.ensures))

pub value_of-returns-in-Bool-clause-ok : goal.value_of-returns-in-Bool-clause-ok
value_of-returns-in-Bool-clause-ok t c =
    (boolean c.in-Bool.truth, refl, rw c.in-Bool.is (ap (converted of_json) (value_is c.args.depth _)))

pub value_of-returns-in-Null-clause-ok : goal.value_of-returns-in-Null-clause-ok
value_of-returns-in-Null-clause-ok t c =
    (null, refl, rw c.in-Null.is (ap (converted of_json) (value_is c.args.depth _)))

pub value_of-returns-in-EndObject-clause-err : goal.value_of-returns-in-EndObject-clause-err
value_of-returns-in-EndObject-clause-err t c refused =
    let ts = token_of c.args.token ∷ c.args.reader.now in
    let none : value c.args.depth ts ≡ None = rw (value_is c.args.depth ts) (grind arith) in
    ap (converted of_json) none

pub value_of-returns-then-depth-eq0-clause-err : goal.value_of-returns-then-depth-eq0-clause-err
unfolding value
value_of-returns-then-depth-eq0-clause-err t c refused =
    let none : c.args.depth ≡ 0 = omega arith in
    rw (none, c.in-BeginArray.is) refl

pub value_of-returns-then-depth-eq0-2-clause-err : goal.value_of-returns-then-depth-eq0-2-clause-err
unfolding value
value_of-returns-then-depth-eq0-2-clause-err t c refused =
    let none : c.args.depth ≡ 0 = omega arith in
    rw (none, c.in-BeginObject.is) refl

pub value_of-returns-in_err-pass_items-in-BeginArray-clause-err :
    goal.value_of-returns-in_err-pass_items-in-BeginArray-clause-err
value_of-returns-in_err-pass_items-in-BeginArray-clause-err t c refused = rw c.in-BeginArray.is
    (opened_array c.args.depth c.args.reader.now (omega arith)
    ∙ ap (parse_map array) (c.pass_items.ensures.err (grind arith)))

pub value_of-returns-in_ok-pass_items-in-BeginArray-clause-ok :
    goal.value_of-returns-in_ok-pass_items-in-BeginArray-clause-ok
value_of-returns-in_ok-pass_items-in-BeginArray-clause-ok t c =
    let passed = c.in_ok-pass_items-in-BeginArray.ensures.ok in (
      array passed.0,
      refl,
      rw c.in-BeginArray.is
          (opened_array c.args.depth c.args.reader.now (omega arith) ∙ ap (parse_map array) passed.1),
    )

pub value_of-returns-in_err-pass_members-in-BeginObject-clause-err :
    goal.value_of-returns-in_err-pass_members-in-BeginObject-clause-err
value_of-returns-in_err-pass_members-in-BeginObject-clause-err t c refused = rw c.in-BeginObject.is
    (opened_object c.args.depth c.args.reader.now (omega arith)
    ∙ ap (parse_map object) (c.pass_members.ensures.err (grind arith)))

pub value_of-returns-in_ok-pass_members-in-BeginObject-clause-ok :
    goal.value_of-returns-in_ok-pass_members-in-BeginObject-clause-ok
value_of-returns-in_ok-pass_members-in-BeginObject-clause-ok t c =
    let passed = c.in_ok-pass_members-in-BeginObject.ensures.ok in (
      object passed.0,
      refl,
      rw c.in-BeginObject.is
          (opened_object c.args.depth c.args.reader.now (omega arith) ∙ ap (parse_map object) passed.1),
    )

-- ---- read_value

pub read_value-returns-in-None-clause-err : goal.read_value-returns-in-None-clause-err
read_value-returns-in-None-clause-err t c refused =
    let empty : c.args.reader.now ≡ [] = grind arith in
    rw empty (ap (converted of_json) (value_is c.args.depth []))

-- ---- pass_items

pub pass_items-items-init : goal.pass_items-items-init
pass_items-items-init t c =
    (length c.args.reader.now, (λ (ds : Items). ds), omega arith, unmapped _, omega arith)

pub pass_items-items-preserved : goal.pass_items-items-preserved
pass_items-items-preserved t c =
    let p = value c.args.depth in
    let l = c.items in
    let n = l.invariant.0 in
    let going : (after_end_array l.reader ≡ None) × (c.take_end_array.new.self ≡ l.reader) = grind arith in
    let d = c.in_ok-read_value.ensures.ok in
    let r = c.read_value.new.reader in
    let less : length r < length l.reader = rw (← going.1) c.in_ok-read_value.ensures.shorter in
    let turn = item_read p n l.reader r d.0 (omega (arith, l.invariant.2)) going.0 (rw (← going.1) d.2) in (
      n - 1,
      (λ (ds : Items). l.invariant.1 (item d.0 ds)),
      omega (arith, l.invariant.2),
      l.invariant.3 ∙ ap (parse_map l.invariant.1) turn
          ∙ mapped_twice l.invariant.1 (item d.0) (converted of_items (items p (n - 1) r)),
      omega (arith, l.invariant.4),
    )

pub pass_items-returns-in_err-read_value-clause-err : goal.pass_items-returns-in_err-read_value-clause-err
pass_items-returns-in_err-read_value-clause-err t c refused =
    let p = value c.args.depth in
    let l = c.items in
    let going : (after_end_array l.reader ≡ None) × (c.take_end_array.new.self ≡ l.reader) = grind arith in
    l.invariant.3
    ∙ ap (parse_map l.invariant.1)
    (item_refused p l.invariant.0 l.reader going.0 (rw (← going.1) (c.read_value.ensures.err (grind arith))))

pub pass_items-returns-clause-ok : goal.pass_items-returns-clause-ok
pass_items-returns-clause-ok t c =
    let l = c.items in (
      l.invariant.1 no_items,
      l.invariant.3
          ∙ ap (parse_map l.invariant.1)
          (items_over (value c.args.depth) l.invariant.0 l.reader c.take_end_array.new.self l.invariant.2
          (grind arith)),
    )

-- ---- pass_members

pub pass_members-members-init : goal.pass_members-members-init
pass_members-members-init t c = (length c.args.reader.now, no_members, omega arith, refl, omega arith)

pub pass_members-returns-in_err-next_key-clause-err : goal.pass_members-returns-in_err-next_key-clause-err
pass_members-returns-in_err-next_key-clause-err t c refused =
    let l = c.members in
    l.invariant.3
    ∙ key_refused (value c.args.depth) l.invariant.1 l.invariant.0 l.reader c.in_err-next_key.ensures.value

pub pass_members-members-preserved : goal.pass_members-members-preserved
pass_members-members-preserved t c =
    let p = value c.args.depth in
    let l = c.members in
    let n = l.invariant.0 in
    let k = c.in-Some.field-0.now in
    let s = c.next_key.new.self in
    let named : read_key l.reader ≡ Some (Some k, s) = grind arith in
    let d = c.in_ok-read_value.ensures.ok in
    let r = c.read_value.new.reader in
    let less = read_key-shorter l.reader (Some k) s named in
    let lesser = c.in_ok-read_value.ensures.shorter in (
      n - 1,
      put k d.0 l.invariant.1,
      omega (arith, l.invariant.2),
      l.invariant.3 ∙ member_read p l.invariant.1 n k l.reader s r d.0 (omega (arith, l.invariant.2)) named d.2,
      omega (arith, l.invariant.4),
    )

pub pass_members-returns-in_err-read_value-clause-err : goal.pass_members-returns-in_err-read_value-clause-err
pass_members-returns-in_err-read_value-clause-err t c refused =
    let l = c.members in
    let k = c.in-Some.field-0.now in
    let s = c.next_key.new.self in
    let named : read_key l.reader ≡ Some (Some k, s) = grind arith in
    l.invariant.3
    ∙ member_refused (value c.args.depth) l.invariant.1 l.invariant.0 k l.reader s named
    (c.read_value.ensures.err (grind arith))

pub pass_members-returns-clause-ok : goal.pass_members-returns-clause-ok
pass_members-returns-clause-ok t c =
    let l = c.members in (
      l.invariant.1,
      l.invariant.3
          ∙ members_over (value c.args.depth) l.invariant.1 l.invariant.0 l.reader c.next_key.new.self l.invariant.2
          (grind arith),
    )
