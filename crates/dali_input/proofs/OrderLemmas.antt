-- Lemmas on what becomes of a list of orders.
use Rattle.std.specs.Prelude.{◌==◌}
use Rattle.std.proofs.Common.{◌≡◌, ◌≢◌, ℕ, Bool, true, false, suc, ◌+◌, List, [], ◌∷◌, ◌++◌, Ok, Err, length}
use Rattle.std.proofs.Common.{map, ap, sym, subst, ◌∙◌, arith, refl, add-zero, append-nil}
use Rattle.std.proofs.lemmas.Bool.{eqb-true, eqb-false}
use Rattle.std.proofs.lemmas.List.{map-append, length-append}
use Rattle.serde_json.specs.Data.{Data, Items, no_items, item}
use Rattle.serde_json.specs.View.{items_of}
use Rattle.dali_bank.specs.Order.{Contents}
use Rattle.dali_input.specs.declared.item.ItemFault.{ItemFault}
use Rattle.dali_input.specs.Items.{Judges}
use Rattle.dali_input.specs.Orders.{Outcome, JudgesEach, AreRefused, refused_from}
use Rattle.dali_input.proofs.ItemsLemmas.{before, before_push, before_end}

-- whether a list is empty, as its length tells
pub none_where : {X : Type 0} (xs : List X) (n : ℕ) (b : Bool) → n ≡ length xs → b ≡ (n == 0) → b ≡ true → xs ≡ []
none_where [] n b len is holds = refl
none_where (x ∷ xs) n b len is holds =
    let none : suc (length xs) ≡ 0 = sym len ∙ eqb-true n 0 (sym is ∙ holds) in absurd (omega (arith, none))

pub some_where : {X : Type 0} (xs : List X) (n : ℕ) (b : Bool) → n ≡ length xs → b ≡ (n == 0) → b ≡ false → xs ≢ []
some_where xs n b len is fails none = eqb-false n 0 (sym is ∙ fails) (len ∙ ap (λ (ys : List _). length ys) none)

pub judges_one_more : (ds : List Data) (xs : List Outcome) (d : Data) (x : Outcome) → JudgesEach (items_of ds) xs
    → Judges d x → JudgesEach (items_of (ds ++ d ∷ [])) (xs ++ x ∷ [])
judges_one_more [] [] d x js j = (j, tt)
judges_one_more [] (y ∷ xs) d x js j = absurd js
judges_one_more (e ∷ ds) [] d x js j = absurd js
judges_one_more (e ∷ ds) (y ∷ xs) d x js j = (js.0, judges_one_more ds xs d x js.1 j)

refused_one_more : (i : ℕ) (xs : List Outcome) (x : Outcome)
    → refused_from i (xs ++ x ∷ []) ≡ refused_from i xs ++ refused_from (i + length xs) (x ∷ [])
refused_one_more i [] x = ap (λ n. refused_from n (x ∷ [])) (sym (add-zero i))
refused_one_more i (Ok order ∷ xs) x =
    let there : i + 1 + length xs ≡ i + suc (length xs) = omega arith in
    refused_one_more (i + 1) xs x ∙ ap (λ n. refused_from (i + 1) xs ++ refused_from n (x ∷ [])) there
refused_one_more i (Err fault ∷ xs) x =
    let there : i + 1 + length xs ≡ i + suc (length xs) = omega arith in
    ap (λ t. (i, fault) ∷ t)
    (refused_one_more (i + 1) xs x ∙ ap (λ n. refused_from (i + 1) xs ++ refused_from n (x ∷ [])) there)

-- the items so far, the orders before the first that is refused, and those that are refused
pub record SoFar (all left : Items) (orders : List Contents) (refused : List (ℕ × ItemFault)) (number : ℕ)
    : Type 0 where
  pub seen : List Data
  pub split : all ≡ before seen left
  pub outcomes : List Outcome
  pub judged : JudgesEach (items_of seen) outcomes
  pub many : length outcomes ≡ number
  pub refused_are : refused ≡ refused_from 1 outcomes
  pub orders_are : refused ≡ [] → outcomes ≡ map Ok orders

pub at_start : (all : Items) → SoFar all all [] [] 0
at_start all = record {
  seen = [];
  split = refl;
  outcomes = [];
  judged = tt;
  many = refl;
  refused_are = refl;
  orders_are = λ e. refl;
}

not_nil : {X : Type 0} (xs : List X) (x : X) → xs ++ x ∷ [] ≢ []
not_nil [] x none = let clash : x ∷ [] ≡ [] = none in cc
not_nil (y ∷ xs) x none = let clash : y ∷ (xs ++ x ∷ []) ≡ [] = none in cc

module _ (all left others : Items) (source : Data) (next : left ≡ item source others) (orders : List Contents)
    (refused : List (ℕ × ItemFault)) (number : ℕ) (s : SoFar all left orders refused number) where
  split_more : all ≡ before (s.seen ++ source ∷ []) others
  split_more = s.split ∙ ap (before s.seen) next ∙ before_push s.seen source others

  -- one more item gives an order, if none was refused
  pub order_more : (order : Contents) → refused ≡ [] → Judges source (Ok order)
      → SoFar all others (orders ++ order ∷ []) refused (number + 1)
  order_more order none one = record {
    seen = s.seen ++ source ∷ [];
    split = split_more;
    outcomes = s.outcomes ++ Ok order ∷ [];
    judged = judges_one_more s.seen s.outcomes source (Ok order) s.judged one;
    many = length-append s.outcomes (Ok order ∷ []) ∙ ap (λ n. n + 1) s.many;
    refused_are = s.refused_are ∙ sym (refused_one_more 1 s.outcomes (Ok order) ∙ append-nil _);
    orders_are = λ empty. ap (λ t. t ++ Ok order ∷ []) (s.orders_are empty)
        ∙ sym (map-append Ok orders (order ∷ []));
  }

  -- the same where one was refused before it: the order is let go
  pub order_dropped : (order : Contents) → refused ≢ [] → Judges source (Ok order)
      → SoFar all others orders refused (number + 1)
  order_dropped order some one = record {
    seen = s.seen ++ source ∷ [];
    split = split_more;
    outcomes = s.outcomes ++ Ok order ∷ [];
    judged = judges_one_more s.seen s.outcomes source (Ok order) s.judged one;
    many = length-append s.outcomes (Ok order ∷ []) ∙ ap (λ n. n + 1) s.many;
    refused_are = s.refused_are ∙ sym (refused_one_more 1 s.outcomes (Ok order) ∙ append-nil _);
    orders_are = λ empty. absurd (some empty);
  }

  -- one item more is refused
  pub refusal_more : (fault : ItemFault) → Judges source (Err fault)
      → SoFar all others orders (refused ++ (number + 1, fault) ∷ []) (number + 1)
  refusal_more fault one =
      let here : 1 + length s.outcomes ≡ number + 1 = omega (arith, s.many) in
      record {
        seen = s.seen ++ source ∷ [];
        split = split_more;
        outcomes = s.outcomes ++ Err fault ∷ [];
        judged = judges_one_more s.seen s.outcomes source (Err fault) s.judged one;
        many = length-append s.outcomes (Err fault ∷ []) ∙ ap (λ n. n + 1) s.many;
        refused_are = ap (λ t. t ++ (number + 1, fault) ∷ []) s.refused_are
            ∙ sym
            (refused_one_more 1 s.outcomes (Err fault) ∙ ap (λ n. refused_from 1 s.outcomes ++ (n, fault) ∷ []) here);
        orders_are = λ empty. absurd (not_nil refused (number + 1, fault) empty);
      }

-- ---- at the end

module _ (all : Items) (orders : List Contents) (refused : List (ℕ × ItemFault)) (number : ℕ)
    (s : SoFar all no_items orders refused number) where
  all_seen : all ≡ items_of s.seen
  all_seen = s.split ∙ before_end s.seen

  pub all_orders : refused ≡ [] → JudgesEach all (map Ok orders)
  all_orders none =
      subst (λ items. JudgesEach items (map Ok orders)) (sym all_seen)
      (subst (JudgesEach (items_of s.seen)) (s.orders_are none) s.judged)

  pub all_refused : refused ≢ [] → AreRefused all refused
  all_refused some =
      (s.outcomes, subst (λ items. JudgesEach items s.outcomes) (sym all_seen) s.judged, s.refused_are, some)
