-- The items of an array, one at a time.
use Rattle.std.proofs.Common.{◌≡◌, ◌≢◌, ℕ, zero, suc, ◌-◌, ◌<◌, ◌≤◌, List, [], ◌∷◌, length, Option, Some, None, option_map}
use Rattle.std.specs.Result.{result_ok}
use Rattle.std.proofs.Common.{Result, Ok, Err, IfOk, OnOk, MatchOption, is_err, true}
use Rattle.std.proofs.Common.{◌+◌, ◌++◌, option_and_then, refl, sym, ap, ◌∙◌, arith}
use Rattle.std.proofs.lemmas.List.{length-append}
use Rattle.json.specs.Lex.{lex, punctuate, tokens}
use Rattle.json.specs.Token.{Token}
use Rattle.json.specs.Json as json
use Rattle.json.specs.Json.{Json, Parse, parse_map, after_end_array, items_step, items, value}
use Rattle.json.proofs.Grammar.{left, Takes, skip_value-shorter, value-begin_array, value_is}
use Rattle.serde_json.specs.Data.{Data, Items, array, no_items, item}
use Rattle.serde_json.specs.Events.{items_len}
use Rattle.serde_json.specs.Read.{of_json, of_items, converted, read}
use Rattle.serde_json.specs.View.{items_of}
use Rattle.json.specs.Reads.{token_of}
use Rattle.json.specs.declared.reader.Invalid.{Invalid}
use Rattle.json.specs.declared.token.Token as reader_token
use Rattle.dali_input.specs.declared.fault.InputFault.{InputFault}
use Rattle.dali_input.specs.declared.fault.InputFault.TheVariants.{Memory}
use Rattle.dali_input.specs.Input.{IsNoJson}
use Rattle.dali_input.specs.Orders.{AreItems}
use Rattle.dali_input.specs.declared.item.Item.{Item}
use Rattle.dali_input.specs.declared.items.Items as reader
use Rattle.dali_input.specs.ItemsLeft.{AreLeft, IsItem, if_last, item_depth, items_to_end, value_to_end}
use Rattle.dali_input.proofs.TokenLemmas.{whole, item_read, item_refused, items_over}

-- ---- any number of turns that is enough gives the same

module _ (p : Parse Json) (takes : Takes p) where
  no_token : (o : Option (Json × List Token)) → p [] ≡ o → o ≡ None
  no_token None e = refl
  no_token (Some q) e = let never : ⊥ = omega (arith, takes [] q.1 (ap left e)) in absurd never

  item_then : (m n : ℕ) (ts : List Token)
      → ((r : List Token) → length r < length ts → items p m r ≡ items p n r)
      → (o : Option (Json × List Token)) → p ts ≡ o
      → option_and_then (λ q. parse_map (json.item q.0) (items p m q.1)) o
      ≡ option_and_then (λ q. parse_map (json.item q.0) (items p n q.1)) o
  item_then m n ts same None e = refl
  item_then m n ts same (Some q) e = ap (parse_map (json.item q.0)) (same q.1 (takes ts q.1 (ap left e)))

  step_alike : (m n : ℕ) (ts : List Token)
      → ((r : List Token) → length r < length ts → items p m r ≡ items p n r)
      → (o : Option (List Token)) → items_step p (items p m) ts o ≡ items_step p (items p n) ts o
  step_alike m n ts same (Some r) = refl
  step_alike m n ts same None = item_then m n ts same (p ts) refl

  turns_alike : (m n : ℕ) (ts : List Token) → length ts ≤ m → length ts ≤ n → items p m ts ≡ items p n ts
  unfolding items
  turns_alike zero zero ts a b = refl
  turns_alike zero (suc n) [] a b =
      sym (ap (option_and_then (λ q. parse_map (json.item q.0) (items p n q.1))) (no_token (p []) refl))
  turns_alike zero (suc n) (t ∷ ts) a b = let never : ⊥ = omega arith in absurd never
  turns_alike (suc m) zero [] a b =
      ap (option_and_then (λ q. parse_map (json.item q.0) (items p m q.1))) (no_token (p []) refl)
  turns_alike (suc m) zero (t ∷ ts) a b = let never : ⊥ = omega arith in absurd never
  turns_alike (suc m) (suc n) ts a b =
      step_alike m n ts (λ r less. turns_alike m n r (omega arith) (omega arith)) (after_end_array ts)

mapped_last : {A B : Type 0} (f : A → B) (o : Option (A × List Token))
    → if_last (parse_map f o) ≡ option_map f (if_last o)
mapped_last f None = refl
mapped_last f (Some (a, [])) = refl
mapped_last f (Some (a, t ∷ ts)) = refl

-- ---- a turn

pub one_item : (ts r : List Token) (d : Data) → length r < length ts → after_end_array ts ≡ None
    → converted of_json (value item_depth ts) ≡ Some (d, r)
    → items_to_end ts ≡ option_map (item d) (items_to_end r)
one_item ts r d less going e =
    let p = value item_depth in
    ap if_last (item_read p (length ts) ts r d (omega arith) going e)
    ∙ ap (λ o. if_last (parse_map (item d) (converted of_items o)))
    (turns_alike p (skip_value-shorter item_depth) (length ts - 1) (length r) r (omega arith) (omega arith))
    ∙ mapped_last (item d) _

pub no_more_items : (ts r : List Token) → after_end_array ts ≡ Some r
    → items_to_end ts ≡ if_last (Some (no_items, r))
no_more_items ts r e = ap if_last (items_over (value item_depth) (length ts) ts r (omega arith) e)

pub refused_item : (ts : List Token) → after_end_array ts ≡ None
    → converted of_json (value item_depth ts) ≡ None → items_to_end ts ≡ None
refused_item ts going e = ap if_last (item_refused (value item_depth) (length ts) ts going e)

-- ---- the next of items that are known to come

last_items : (r : List Token) (all : Items) → if_last (Some (no_items, r)) ≡ Some all → all ≡ no_items
last_items [] all e = cc
last_items (t ∷ r) all e = absurd (cc)

goes_on : (ts : List Token) (all : Items) (o : Option (List Token)) → after_end_array ts ≡ o
    → items_to_end ts ≡ Some all → items_len all ≢ 0 → o ≡ None
goes_on ts all None is e some = refl
goes_on ts all (Some r) is e some =
    absurd (some (ap items_len (last_items r all (sym (no_more_items ts r is) ∙ e))))

taken : (d : Data) (all : Items) (o : Option Items) → Some all ≡ option_map (item d) o
    → (others : Items) × (all ≡ item d others) × (o ≡ Some others)
taken d all None e = absurd (cc)
taken d all (Some others) e = let same : all ≡ item d others = cc in (others, same, refl)

module _ (ts : List Token) (all : Items) (is : items_to_end ts ≡ Some all) (some : items_len all ≢ 0) where
  pub next_item : (r : List Token) (d : Data) → length r < length ts
      → converted of_json (value item_depth ts) ≡ Some (d, r)
      → (others : Items) × (all ≡ item d others) × (items_to_end r ≡ Some others)
  next_item r d less e =
      taken d all (items_to_end r) (sym is ∙ one_item ts r d less (goes_on ts all _ refl is some) e)

  pub never_refused : converted of_json (value item_depth ts) ≡ None → ⊥
  never_refused e =
      let none : Some all ≡ None = sym is ∙ refused_item ts (goes_on ts all _ refl is some) e in cc

pub no_items_left : (all : Items) → items_len all ≡ 0 → all ≡ no_items
no_items_left no_items e = refl
no_items_left (item d ds) e = absurd (omega (arith, e))

module _ (now next : reader.Items) (all : Items) (are : AreLeft now all) (some : 1 ≤ now.left) where
  -- what is read of the next item is its value, and it is read
  pub next_is : (result : Result Item Invalid)
      → IfOk result (λ found. (source : Data) × IsItem source found
      × (converted of_json (value item_depth now.reader) ≡ Some (source, next.reader)))
      → (is_err result ≡ true → converted of_json (value item_depth now.reader) ≡ None)
      → OnOk result (length next.reader < length now.reader) → next.left ≡ now.left - 1
      → MatchOption (result_ok result) (all ≡ no_items) (λ found. (source : Data) × (others : Items)
      × (all ≡ item source others) × IsItem source found × AreLeft next others)
  next_is (Ok found) (source, is, read) refused less fewer =
      let counted = are.counted in
      let any : items_len all ≢ 0 = λ none. omega (arith, none) in
      let (others, all_is, rest_is) = next_item now.reader all are.to_end any next.reader source less read in
      let size = ap items_len all_is in
      (source, others, all_is, is, record { to_end = rest_is; counted = omega arith })
  next_is (Err invalid) none refused less fewer =
      let counted = are.counted in
      let any : items_len all ≢ 0 = λ zero. omega (arith, zero) in
      absurd (never_refused now.reader all are.to_end any (refused refl))

-- ---- how many there are

-- these and then the rest
abbrev pub before : List Data → Items → Items
before [] rest = rest
before (d ∷ ds) rest = item d (before ds rest)

pub before_push : (ds : List Data) (d : Data) (rest : Items) → before ds (item d rest) ≡ before (ds ++ d ∷ []) rest
before_push [] d rest = refl
before_push (e ∷ ds) d rest = ap (item e) (before_push ds d rest)

pub before_end : (ds : List Data) → before ds no_items ≡ items_of ds
before_end [] = refl
before_end (d ∷ ds) = ap (item d) (before_end ds)

one_more : (ds : List Data) (d : Data) (o : Option Items)
    → option_map (before ds) (option_map (item d) o) ≡ option_map (before (ds ++ d ∷ [])) o
one_more ds d None = refl
one_more ds d (Some rest) = ap Some (before_push ds d rest)

len_of : (ds : List Data) → items_len (items_of ds) ≡ length ds
len_of [] = refl
len_of (d ∷ ds) = ap suc (len_of ds)

-- the items so far, and how many they are
pub record CountedSoFar (all left : Option Items) (count : ℕ) : Type 0 where
  pub seen : List Data
  pub split : all ≡ option_map (before seen) left
  pub counted : length seen ≡ count

pub one_counted : (all : Option Items) (ts r : List Token) (d : Data) (count : ℕ)
    → CountedSoFar all (items_to_end ts) count → after_end_array ts ≡ None → length r < length ts
    → converted of_json (value item_depth ts) ≡ Some (d, r) → CountedSoFar all (items_to_end r) (count + 1)
one_counted all ts r d count so_far going less e = record {
  seen = so_far.seen ++ d ∷ [];
  split = so_far.split ∙ ap (option_map (before so_far.seen)) (one_item ts r d less going e)
      ∙ one_more so_far.seen d (items_to_end r);
  counted = length-append so_far.seen (d ∷ []) ∙ ap (λ n. n + 1) so_far.counted;
}

module _ (all : Option Items) (ts : List Token) (count : ℕ) (so_far : CountedSoFar all (items_to_end ts) count) where
  pub none_where_refused : after_end_array ts ≡ None → converted of_json (value item_depth ts) ≡ None → all ≡ None
  none_where_refused going e =
      so_far.split ∙ ap (option_map (before so_far.seen)) (refused_item ts going e)

  pub none_where_more : (t : Token) (r : List Token) → after_end_array ts ≡ Some (t ∷ r) → all ≡ None
  none_where_more t r over = so_far.split ∙ ap (option_map (before so_far.seen)) (no_more_items ts (t ∷ r) over)

  pub all_counted : after_end_array ts ≡ Some [] → (found : Items) × (all ≡ Some found) × (count ≡ items_len found)
  all_counted over = (
    items_of so_far.seen,
    so_far.split ∙ ap (option_map (before so_far.seen)) (no_more_items ts [] over) ∙ ap Some (before_end so_far.seen),
    sym (len_of so_far.seen ∙ so_far.counted),
  )

-- ---- the whole text

array_alone : (js : Option Items)
    → option_map array js ≡ option_map array (if_last (option_map (λ ds. (ds, [])) js))
array_alone None = refl
array_alone (Some ds) = refl

none_alone : (t : Token) (ts : List Token) (js : Option Items)
    → None ≡ option_map array (if_last (option_map (λ ds. (ds, t ∷ ts)) js))
none_alone t ts None = refl
none_alone t ts (Some ds) = refl

array_of : (o : Option (json.Items × List Token))
    → whole (parse_map json.array o) ≡ option_map array (if_last (converted of_items o))
array_of None = refl
array_of (Some (js, [])) = array_alone (of_items js)
array_of (Some (js, t ∷ ts)) = none_alone t ts (of_items js)

pub array_is_items : (ts : List Token)
    → value_to_end (Token.begin_array ∷ ts) ≡ option_map array (items_to_end ts)
array_is_items ts =
    ap whole (value-begin_array 127 ts (omega arith)) ∙ array_of (items (value item_depth) (length ts) ts)

-- the token before the items
pub behind_bracket : (first rest now : List Token) (token : Option reader_token.Token) (all : Items)
    → first ≡ Token.begin_array ∷ rest
    → MatchOption token ((first ≡ []) × (now ≡ [])) (λ t. first ≡ token_of t ∷ now)
    → items_to_end rest ≡ Some all → items_to_end now ≡ Some all
behind_bracket first rest now None all begun (none, empty) to_end =
    let clash : Token.begin_array ∷ rest ≡ [] = sym begun ∙ none in absurd (cc)
behind_bracket first rest now (Some t) all begun next to_end =
    let same : rest ≡ now = cc in
    ap items_to_end (sym same) ∙ to_end

pub counted_behind : (first rest : List Token) (result : Result ℕ InputFault) → first ≡ Token.begin_array ∷ rest
    → IfOk result (λ count. (all : Items) × (items_to_end rest ≡ Some all) × (count ≡ items_len all))
    → IfOk result (λ count. (all : Items) × (behind : List Token) × (first ≡ Token.begin_array ∷ behind)
    × (items_to_end behind ≡ Some all) × (count ≡ items_len all))
counted_behind first rest (Ok count) begun (all, to_end, counted) = (all, rest, begun, to_end, counted)
counted_behind first rest (Err fault) begun none = tt

pub nothing_there : (first : List Token) → first ≡ [] → value_to_end first ≡ None
nothing_there first none = ap value_to_end none ∙ ap whole (value_is 127 [])

-- ---- there is a byte

no_tokens : tokens [] ≡ []
unfolding lex punctuate
no_tokens = refl

pub begun_somewhere : (text : List ℕ) (rest : List Token) → tokens text ≡ Token.begin_array ∷ rest → 0 < length text
begun_somewhere [] rest begun =
    let clash : Token.begin_array ∷ rest ≡ [] = sym begun ∙ no_tokens in absurd (cc)
begun_somewhere (byte ∷ bytes) rest begun = omega arith

read_somewhere : (input : List ℕ) (json : Data) → read input ≡ Some json → 0 < length input
read_somewhere [] json reads =
    let clash : Some json ≡ None = sym reads ∙ nothing_there (tokens []) no_tokens in absurd (cc)
read_somewhere (byte ∷ bytes) json reads = omega arith

-- so memory may be wanted over such an input
pub memory_over_items : (limit : ℕ) (input : List ℕ) (all : Items) → AreItems limit input all
    → IsNoJson limit input Memory
memory_over_items limit input all (json, (fits, (utf8, reads)), is) = (read_somewhere input json reads, fits)
