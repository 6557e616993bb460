-- Lemmas on the walk over an object's members.
use Rattle.std.proofs.Common.{slice_index_or, replicate, ◌≡◌, ◌≢◌, ℕ, List, [], ◌∷◌, ◌++◌, Bool, true, false, ◌&&◌}
use Rattle.std.proofs.Common.{Option, Some, None, option_and_then, option_map, string_bytes, append_assoc}
use Rattle.std.proofs.Common.{length, refl, sym, ap, subst, ◌∙◌, MatchOption, Ordering, Less, Equal, Greater, is_eq}
use Rattle.std.proofs.lemmas.Map.Text.{is_eq-slice_cmp}
use Rattle.std.proofs.lemmas.Slice.Eq.{bytes_eq-Decides}
use Rattle.std.specs.Cmp.Lexicographic.{slice_cmp}
use Rattle.std.specs.List.{list_all}
use Rattle.std.specs.List.Sorted.{IsStrictlySortedBy}
use Rattle.std.specs.Map as map
use Rattle.std.specs.Ordering.{match_ordering, nat_cmp}
use Rattle.std.specs.Str.{bytes_eq}
use Rattle.std.specs.String.{string_cmp}
use Rattle.serde_json.specs.Data.{Data, null, boolean, number, string, array, object, put, Members as JsonMembers}
use Rattle.serde_json.specs.Data.{no_members, member}
use Rattle.serde_json.specs.Find.{get, get_member, as_object, as_number, as_u64}
use Rattle.serde_json.specs.View.{view, members_view}
use Rattle.serde_json.proofs.Views.{Entry, put_last, get_member-put, get_member-put_other}
use Rattle.dali_bank.specs.declared.fault.BankFault.{BankFault}
use Rattle.dali_bank.specs.declared.fault.BankFault.TheVariants.{Kind}
use Rattle.dali_bank.specs.declared.field.Field.{Field}
use Rattle.dali_bank.specs.declared.field.Field.TheVariants.{Gtin}
use Rattle.dali_bank.specs.Draft.{Drafted}
use Rattle.dali_bank.specs.Faults.{IsValueFault}
use Rattle.dali_bank.specs.Keys.{key_of}
use Rattle.dali_bank.specs.Layout.{fields, rank_of}
use Rattle.dali_input.specs.declared.key.Key.{Key}
use Rattle.dali_input.specs.declared.key.Key.TheVariants.{Order, Unit, Of}
use Rattle.dali_input.specs.declared.members.Members.{Members}
use Rattle.dali_input.specs.Items.{given, is_key, keys_of, whole_at, HasNumbers, KnowsKeys}
use Rattle.dali_input.specs.Keys.{text_of}
use Rattle.dali_input.specs.Members.{value_at, AreMembersOf, HasNone, IsGivenBy, IsRefusedAs, held}
use Rattle.dali_input.specs.Shallow.{emptied}

-- what the members so far have at each key
pub record TakenSoFar (ms : JsonMembers) (members : Members) : Type 0 where
  pub values : (key : Key) → value_at key members ≡ option_map emptied (get_member (text_of key) ms)
  pub known : members.are_known ≡ list_all is_key (keys_of ms)

turned : (b c : Bool) → (b && c) ≡ (c && b)
turned true true = refl
turned true false = refl
turned false true = refl
turned false false = refl

joined : (a b c : Bool) → (a && (b && c)) ≡ ((a && b) && c)
joined true b c = refl
joined false b c = refl

same_again : (a b : Bool) → (a && b) ≡ ((a && b) && a)
same_again true b = turned true b
same_again false b = refl

known_put_at : (is_known : List ℕ → Bool) (o : Ordering) (k l : List ℕ) (d e : Data) (ms : JsonMembers)
    → slice_cmp nat_cmp k l ≡ o
    → list_all is_known (keys_of (put k d ms)) ≡ (list_all is_known (keys_of ms) && is_known k)
    → list_all is_known
    (keys_of (match_ordering o (member k d (member l e ms)) (member l d ms) (member l e (put k d ms))))
    ≡ (list_all is_known (keys_of (member l e ms)) && is_known k)
known_put_at is_known Less k l d e ms is later = turned (is_known k) _
known_put_at is_known Equal k l d e ms is later =
    let same : k ≡ l = (bytes_eq-Decides k l).0 (sym (is_eq-slice_cmp k l) ∙ ap is_eq is) in
    rw same (same_again (is_known l) _)
known_put_at is_known Greater k l d e ms is later =
    ap (λ b. is_known l && b) later ∙ joined (is_known l) _ _

-- the keys with one more
known_put : (is_known : List ℕ → Bool) (k : List ℕ) (d : Data) (ms : JsonMembers)
    → list_all is_known (keys_of (put k d ms)) ≡ (list_all is_known (keys_of ms) && is_known k)
known_put is_known k d no_members = turned (is_known k) true
known_put is_known k d (member l e ms) =
    known_put_at is_known (slice_cmp nat_cmp k l) k l d e ms refl (known_put is_known k d ms)

pub known_more : (is_known : List ℕ → Bool) (es : List Entry) (e : Entry)
    → list_all is_known (keys_of (members_view (es ++ e ∷ [])))
    ≡ (list_all is_known (keys_of (members_view es)) && is_known (string_bytes e.0))
known_more is_known [] e = turned (is_known (string_bytes e.0)) true
known_more is_known (x ∷ es) e =
    ap (λ b. is_known (string_bytes x.0) && b) (known_more is_known es e) ∙ joined (is_known (string_bytes x.0)) _ _

-- one more member is taken
pub taken_more : (k : List ℕ) (d : Data) (ms : JsonMembers) (before after : Members) → TakenSoFar ms before
    → ((key : Key) → text_of key ≡ k → value_at key after ≡ Some (emptied d))
    → ((key : Key) → text_of key ≢ k → value_at key after ≡ value_at key before)
    → after.are_known ≡ (before.are_known && is_key k)
    → TakenSoFar (put k d ms) after
taken_more k d ms before after so_far here others known = record {
  values = λ key. go key (bytes_eq (text_of key) k) refl;
  known = known ∙ ap (λ b. b && is_key k) so_far.known ∙ sym (known_put is_key k d ms);
}
  where
    go : (key : Key) (same : Bool) → bytes_eq (text_of key) k ≡ same
        → value_at key after ≡ option_map emptied (get_member (text_of key) (put k d ms))
    go key true is =
        let text : text_of key ≡ k = (bytes_eq-Decides (text_of key) k).0 is in
        here key text
        ∙ sym (ap (option_map emptied)
        (ap (λ t. get_member t (put k d ms)) text ∙ get_member-put k d ms))
    go key false is =
        let other : text_of key ≢ k =
        λ text.
        let clash : true ≡ false = sym ((bytes_eq-Decides (text_of key) k).1 text) ∙ is in cc in
        others key other ∙ so_far.values key
        ∙ sym (ap (option_map emptied) (get_member-put_other (text_of key) k d ms other))

-- before the walk no key has a value
pub none_taken : (members : Members) → HasNone members → TakenSoFar no_members members
none_taken members none = record { values = none.values; known = none.known }

-- after the walk the members are those of the object
pub all_taken : (ms : JsonMembers) (members : Members) → TakenSoFar ms members → AreMembersOf (object ms) members
all_taken ms members so_far = record {
  values = so_far.values;
  known = λ all is.
      let same : all ≡ ms = cc in
      ap (λ (each : JsonMembers). list_all is_key (keys_of each)) same ∙ sym so_far.known;
}

-- the walk so far: what it has taken, and what it has left
pub record WalkedSoFar (source : Data) (left : List Entry) (members : Members) : Type 0 where
  pub done : List Entry
  pub ordered : IsStrictlySortedBy string_cmp (map.keys_of (done ++ left))
  pub whole : as_object source ≡ Some (members_view (done ++ left))
  pub taken : TakenSoFar (members_view done) members

-- before the walk no key has a value
nothing_taken : (field : Field) → held (slice_index_or (replicate (length fields) None) (rank_of field) None) ≡ None
nothing_taken Gtin = refl
nothing_taken _ = refl

abbrev pub no_values : Members
no_values = record { order = None; unit = None; fields = replicate (length fields) None; are_known = true }

pub has_none : HasNone no_values
has_none = record { values = nothing; known = refl }
  where
    nothing : (key : Key) → value_at key no_values ≡ None
    nothing Order = refl
    nothing Unit = refl
    nothing (Of field) = nothing_taken field

-- the step of the walk: one more member, from those that were left
pub walked_more : (source : Data) (e : Entry) (left : List Entry) (before after : Members)
    → WalkedSoFar source (e ∷ left) before
    → ((key : Key) → text_of key ≡ string_bytes e.0 → value_at key after ≡ Some (emptied (view e.1)))
    → ((key : Key) → text_of key ≢ string_bytes e.0 → value_at key after ≡ value_at key before)
    → after.are_known ≡ (before.are_known && is_key (string_bytes e.0))
    → WalkedSoFar source left after
walked_more source e left before after so_far here others known =
    let all : so_far.done ++ e ∷ left ≡ (so_far.done ++ e ∷ []) ++ left =
    sym (append_assoc so_far.done (e ∷ []) left) in
    record {
      done = so_far.done ++ e ∷ [];
      ordered = subst (λ es. IsStrictlySortedBy string_cmp (map.keys_of es)) all so_far.ordered;
      whole = so_far.whole ∙ ap (λ es. Some (members_view es)) all;
      taken = subst (λ ms. TakenSoFar ms after) (put_last so_far.done e left so_far.ordered)
          (taken_more (string_bytes e.0) (view e.1) _ before after so_far.taken here others known);
    }

-- ---- the contents of a value play no part

number_of_emptied : (json : Data) → as_number (emptied json) ≡ as_number json
number_of_emptied null = refl
number_of_emptied (boolean b) = refl
number_of_emptied (number n) = refl
number_of_emptied (string s) = refl
number_of_emptied (array ds) = refl
number_of_emptied (object ms) = refl

numbers_emptied : (json : Option Data)
    → option_and_then as_number (option_map emptied json) ≡ option_and_then as_number json
numbers_emptied None = refl
numbers_emptied (Some json) = number_of_emptied json

pub given_emptied : (field : Field) (json : Data) → given field (emptied json) ≡ given field json
given_emptied field null = refl
given_emptied field (boolean b) = refl
given_emptied field (number n) = refl
given_emptied field (string s) = refl
given_emptied field (array ds) = refl
given_emptied field (object ms) = refl

-- the whole number at a key is that of its member
pub whole_of : (source : Data) (members : Members) (key : Key) → AreMembersOf source members
    → option_and_then as_u64 (option_and_then as_number (value_at key members)) ≡ whole_at (text_of key) source
whole_of source members key are =
    ap (λ json. option_and_then as_u64 (option_and_then as_number json)) (are.values key)
    ∙ ap (option_and_then as_u64) (numbers_emptied (get (text_of key) source))

there : (json : Option Data) (value : Data) → Some value ≡ option_map emptied json
    → (source : Data) × (json ≡ Some source) × (value ≡ emptied source)
there None value e = absurd (cc)
there (Some source) value e = let same : value ≡ emptied source = cc in (source, refl, same)

not_there : (json : Option Data) → None ≡ option_map emptied json → json ≡ None
not_there None e = refl
not_there (Some source) e = absurd (cc)

-- what an object gives to a field is the member at its key
pub given_at : (source : Data) (members : Members) (field : Field) → AreMembersOf source members
    → (value : Data) → Some value ≡ value_at (Of field) members
    → (json : Data) × (get (key_of field) source ≡ Some json) × (value ≡ emptied json)
given_at source members field are value is = there (get (key_of field) source) value (is ∙ are.values (Of field))

pub none_at : (source : Data) (members : Members) (field : Field) → AreMembersOf source members
    → None ≡ value_at (Of field) members → get (key_of field) source ≡ None
none_at source members field are is = not_there (get (key_of field) source) (is ∙ are.values (Of field))

pub given_by : (field : Field) (json value : Data) (before after : Drafted) → value ≡ emptied json
    → IsGivenBy value field before after → IsGivenBy json field before after
given_by field json value before after is (plain, bytes, given_is, are, after_is) =
    (plain, bytes, sym (ap (given field) is ∙ given_emptied field json) ∙ given_is, are, after_is)

pub refused_as : (field : Field) (json value : Data) (fault : BankFault) → value ≡ emptied json
    → IsRefusedAs value field fault → IsRefusedAs json field fault
refused_as field json value fault is =
    subst (λ plain. MatchOption plain (fault ≡ Kind) (λ p. IsValueFault field p fault))
    (ap (given field) is ∙ given_emptied field json)

-- ---- what has a number is an object

members_where : (source : Data) (id : ℕ) → whole_at (text_of Order) source ≡ Some id
    → (all : JsonMembers) × (as_object source ≡ Some all)
members_where null id e = absurd (cc)
members_where (boolean b) id e = absurd (cc)
members_where (number n) id e = absurd (cc)
members_where (string s) id e = absurd (cc)
members_where (array ds) id e = absurd (cc)
members_where (object ms) id e = (ms, refl)

-- what has a number has members, and their keys are known or not
pub knows : (source : Data) (members : Members) (id unit : ℕ) (are_known : Bool) → AreMembersOf source members
    → HasNumbers source id unit → members.are_known ≡ are_known → KnowsKeys source are_known
knows source members id unit are_known are numbers is =
    let (all, object_is) = members_where source id numbers.order_is in
    (all, object_is, are.known all object_is ∙ is)
