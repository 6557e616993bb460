-- An object's members, read off the tokens after its brace.
use Rattle.std.proofs.Common.{◌≡◌, ◌≢◌, ℕ, ◌-◌, ◌<◌, ◌≤◌, List, length, ◌&&◌, Some, None, refl, ap, ◌∙◌}
use Rattle.std.proofs.Common.{arith}
use Rattle.json.specs.Token.{Token}
use Rattle.json.specs.Json as json
use Rattle.json.specs.Json.{Parse, members, read_key}
use Rattle.json.proofs.Grammar.{read_key-shorter}
use Rattle.serde_json.specs.Data.{Data, Members as JsonMembers, no_members, object, put}
use Rattle.serde_json.specs.Read.{converted, of_json, of_members}
use Rattle.dali_input.specs.declared.key.Key.{Key}
use Rattle.dali_input.specs.declared.members.Members.{Members}
use Rattle.dali_input.specs.Items.{is_key}
use Rattle.dali_input.specs.Keys.{text_of}
use Rattle.dali_input.specs.Members.{AreMembersOf, HasNone, value_at}
use Rattle.dali_input.specs.Shallow.{emptied}
use Rattle.dali_input.proofs.MemberLemmas.{TakenSoFar, none_taken, taken_more, all_taken}
use Rattle.dali_input.proofs.TokenLemmas.{member_read, member_refused, key_refused, members_over}

-- the members so far, and the tokens that are left
pub record ReadSoFar (p : Parse json.Json) (first now : List Token) (held : Members) : Type 0 where
  pub turns : ℕ
  pub before : JsonMembers
  pub enough : length now ≤ turns
  pub same : converted (λ ms. of_members ms no_members) (members p (length first) first)
      ≡ converted (λ ms. of_members ms before) (members p turns now)
  pub shorter : length now ≤ length first
  pub taken : TakenSoFar before held

module _ (p : Parse json.Json) (first : List Token) where
  pub none_read : (held : Members) → HasNone held → ReadSoFar p first first held
  none_read held none = record {
    turns = length first;
    before = no_members;
    enough = omega arith;
    same = refl;
    shorter = omega arith;
    taken = none_taken held none;
  }

  module _ (now s : List Token) (held : Members) (so_far : ReadSoFar p first now held) where
    -- one member more
    pub read_more : (k : List ℕ) (r : List Token) (d value : Data) (after : Members)
        → read_key now ≡ Some (Some k, s) → converted of_json (p s) ≡ Some (d, r) → length r < length s
        → value ≡ emptied d
        → ((key : Key) → text_of key ≡ k → value_at key after ≡ Some value)
        → ((key : Key) → text_of key ≢ k → value_at key after ≡ value_at key held)
        → after.are_known ≡ (held.are_known && is_key k)
        → ReadSoFar p first r after
    read_more k r d value after named read less shows here others known =
        let lesser = read_key-shorter now (Some k) s named in
        let some : 0 < so_far.turns = omega (arith, so_far.enough) in record {
          turns = so_far.turns - 1;
          before = put k d so_far.before;
          enough = omega (arith, so_far.enough);
          same = so_far.same ∙ member_read p so_far.before so_far.turns k now s r d some named read;
          shorter = omega (arith, so_far.shorter);
          taken = taken_more k d so_far.before held after so_far.taken
              (λ key text. here key text ∙ ap Some shows) others known;
        }

    -- a key that is none, or a value that is none
    pub no_key : read_key now ≡ None
        → converted (λ ms. of_members ms no_members) (members p (length first) first) ≡ None
    no_key e = so_far.same ∙ key_refused p so_far.before so_far.turns now e

    pub no_value : (k : List ℕ) → read_key now ≡ Some (Some k, s) → converted of_json (p s) ≡ None
        → converted (λ ms. of_members ms no_members) (members p (length first) first) ≡ None
    no_value k named e = so_far.same ∙ member_refused p so_far.before so_far.turns k now s named e

    -- the brace that closes the object
    pub all_read : read_key now ≡ Some (None, s)
        → (found : JsonMembers) × AreMembersOf (object found) held
        × (converted (λ ms. of_members ms no_members) (members p (length first) first) ≡ Some (found, s))
    all_read closed = (
      so_far.before,
      all_taken so_far.before held so_far.taken,
      so_far.same ∙ members_over p so_far.before so_far.turns now s so_far.enough closed,
    )
