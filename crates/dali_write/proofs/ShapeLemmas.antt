-- The exchanges of whole tries, one by one.
use Rattle.std.proofs.Common.{◌≡◌, ◌⊎◌, inl, inr, Bool, true, false, refl, sym, ap, subst, ℕ, zero, suc, ◌+◌, List, [], ◌∷◌, ◌++◌, length, drop, arith}
use Rattle.std.specs.Prelude.{⊤}
use Rattle.std.proofs.lemmas.List.{append_cancel_right}
use Rattle.dali_frame.specs.declared.forward.Frame.{Frame}
use Rattle.dali_frame.specs.declared.forward.Frame.TheVariants.{Dtr0, Dtr1, AskDtr0, AskDtr1, Write}
use Rattle.dali_write.specs.Exchanges.{Exchange}
use Rattle.dali_write.specs.declared.request.Request.{Request}
use Rattle.dali_write.specs.declared.request.Wish.{Wish}
use Rattle.dali_write.specs.declared.request.Wish.TheVariants.{Nothing, Exactly}
use Rattle.dali_write.specs.Requests.{Meets, request, select_requests, questions, put_requests}
use Rattle.dali_write.specs.Tries.{Trying}

-- the requests that were sent and those that are left are all of them
pub trying_length : (requests : List Request) (tried : List Exchange) (left : List Request) → Trying requests tried left
    → length tried + length left ≡ length requests
trying_length requests [] left try = let same = ap (λ (l : List Request). length l) try in omega arith
trying_length requests (x ∷ tried) left try =
    let rest = trying_length requests tried (request x.frame try.0 ∷ left) try.2 in omega arith

-- of no requests, none is left
pub none_left : (tried : List Exchange) (next : Request) (left : List Request) → Trying [] tried (next ∷ left) → ⊥
none_left tried next left try = let long = trying_length [] tried (next ∷ left) try in omega arith

abbrev pub AllOf : (Request → Type 0) → List Request → Type 0
AllOf P [] = ⊤
AllOf P (next ∷ left) = P next × AllOf P left

-- what holds of all requests holds of those that are left
pub left_all : (P : Request → Type 0) (requests : List Request) (tried : List Exchange) (left : List Request)
    → AllOf P requests → Trying requests tried left → AllOf P left
left_all P requests [] left all try = subst (λ (l : List Request). AllOf P l) (sym try) all
left_all P requests (x ∷ tried) left all try =
    (left_all P requests tried (request x.frame try.0 ∷ left) all try.2).1

drop_next : (number : ℕ) (requests : List Request) (next : Request) (left : List Request)
    → next ∷ left ≡ drop number requests → left ≡ drop (suc number) requests
drop_next zero [] next left is = cc
drop_next zero (first ∷ requests) next left is = cc
drop_next (suc number) [] next left is = cc
drop_next (suc number) (first ∷ requests) next left is = drop_next number requests next left is

pub head_is : (x y : Request) (xs ys : List Request) → x ∷ xs ≡ y ∷ ys → x ≡ y
head_is x y xs ys same = cc

-- those that are left are the last ones
pub left_is : (requests : List Request) (tried : List Exchange) (left : List Request) → Trying requests tried left
    → left ≡ drop (length tried) requests
left_is requests [] left try = try
left_is requests (x ∷ tried) left try =
    drop_next (length tried) requests (request x.frame try.0) left
    (left_is requests tried (request x.frame try.0 ∷ left) try.2)

-- a try of the requests before the last ones
pub cut : (front back : List Request) (tried : List Exchange) (left : List Request)
    → Trying (front ++ back) tried (left ++ back) → Trying front tried left
cut front back [] left try = append_cancel_right left front back try
cut front back (x ∷ tried) left try = (try.0, try.1, cut front back tried (request x.frame try.0 ∷ left) try.2)

nothing_dropped : (number : ℕ) (next : Request) (left : List Request) → next ∷ left ≡ drop number [] → ⊥
nothing_dropped zero next left is = cc
nothing_dropped (suc number) next left is = cc

front_dropped : (P : Request → Type 0) (front : List Request) (last : Request) (number : ℕ) (next : Request)
    (left : List Request)
    → AllOf P front → next ∷ left ≡ drop number (front ++ last ∷ []) → P next ⊎ (next ∷ left ≡ last ∷ [])
front_dropped P [] last zero next left all is = inr is
front_dropped P [] last (suc number) next left all is = absurd (nothing_dropped number next left is)
front_dropped P (first ∷ front) last zero next left all is =
    inl (subst P (sym (head_is next first left (front ++ last ∷ []) is)) all.0)
front_dropped P (first ∷ front) last (suc number) next left all is =
    front_dropped P front last number next left all.1 is

-- the next request is one of the first ones, or it is the last one, after a whole try of those
pub front_or_last : (P : Request → Type 0) (front : List Request) (last : Request) (tried : List Exchange)
    (next : Request) (left : List Request)
    → AllOf P front → Trying (front ++ last ∷ []) tried (next ∷ left)
    → P next ⊎ ((next ≡ last) × Trying front tried [])
front_or_last P front last tried next left all try =
    let whole : List Request = front ++ last ∷ [] in
    elim (front_dropped P front last (length tried) next left all (left_is whole tried (next ∷ left) try)) [
      | inl holds ↦ inl holds
      | inr is ↦ inr (
        head_is next last left [] is,
        cut front (last ∷ []) tried [] (subst (λ (l : List Request). Trying (front ++ last ∷ []) tried l) is try),
      )
    ]

-- an exchange of a request
pub record Got (x : Exchange) (frame : Frame) (wish : Wish) : Type 0 where
  pub frame_is : x.frame ≡ frame
  pub meets : Meets wish x.answer

pub got : (x : Exchange) (wish : Wish) (next : Request) → request x.frame wish ≡ next → Meets wish x.answer
    → Got x next.frame next.wish
got x wish next same meets = grind arith

pub tail_is : (x y : Request) (xs ys : List Request) → x ∷ xs ≡ y ∷ ys → xs ≡ ys
tail_is x y xs ys same = cc

pub record Selected (unit location : ℕ) (tried : List Exchange) : Type 0 where
  pub x1 : Exchange
  pub x2 : Exchange
  pub x3 : Exchange
  pub x4 : Exchange
  pub is : tried ≡ x4 ∷ x3 ∷ x2 ∷ x1 ∷ []
  pub got1 : Got x1 (Dtr1 1) Nothing
  pub got2 : Got x2 (AskDtr1 unit) (Exactly 1)
  pub got3 : Got x3 (Dtr0 location) Nothing
  pub got4 : Got x4 (AskDtr0 unit) (Exactly location)

pub selected : (unit location : ℕ) (tried : List Exchange) → Trying (select_requests unit location) tried []
    → Selected unit location tried
selected unit location [] try = cc
selected unit location (x1 ∷ []) try = let same = try.2 in cc
selected unit location (x2 ∷ x1 ∷ []) try = let same = try.2.2 in cc
selected unit location (x3 ∷ x2 ∷ x1 ∷ []) try = let same = try.2.2.2 in cc
selected unit location (x4 ∷ x3 ∷ x2 ∷ x1 ∷ []) try = grind (arith, tail_is, got, head_is)
selected unit location (x5 ∷ x4 ∷ x3 ∷ x2 ∷ x1 ∷ rest) try = grind (arith, trying_length)

-- the two that ask both registers
pub record Questioned (unit location : ℕ) (tried : List Exchange) : Type 0 where
  pub x1 : Exchange
  pub x2 : Exchange
  pub is : tried ≡ x2 ∷ x1 ∷ []
  pub got1 : Got x1 (AskDtr1 unit) (Exactly 1)
  pub got2 : Got x2 (AskDtr0 unit) (Exactly location)

pub questioned : (unit location : ℕ) (tried : List Exchange) → Trying (questions unit location) tried []
    → Questioned unit location tried
questioned unit location [] try = cc
questioned unit location (x1 ∷ []) try = let same = try.2 in cc
questioned unit location (x2 ∷ x1 ∷ []) try = grind (arith, tail_is, got, head_is)
questioned unit location (x3 ∷ x2 ∷ x1 ∷ rest) try = grind (arith, trying_length)

-- The frames before a write at a unit that is enabled: they ask both registers, after one that sets DTR0 unless that
-- has moved on by itself.
abbrev pub asked_requests : Bool → ℕ → ℕ → List Request
asked_requests true unit location = questions unit location
asked_requests false unit location = request (Dtr0 location) Nothing ∷ questions unit location

pub put_parts : (moved : Bool) (unit location byte : ℕ) → put_requests moved unit location byte
    ≡ asked_requests moved unit location ++ request (Write byte) (Exactly byte) ∷ []
put_parts true unit location byte = refl
put_parts false unit location byte = refl

pub record Jumped (unit location : ℕ) (tried : List Exchange) : Type 0 where
  pub x1 : Exchange
  pub x2 : Exchange
  pub x3 : Exchange
  pub is : tried ≡ x3 ∷ x2 ∷ x1 ∷ []
  pub got1 : Got x1 (Dtr0 location) Nothing
  pub got2 : Got x2 (AskDtr1 unit) (Exactly 1)
  pub got3 : Got x3 (AskDtr0 unit) (Exactly location)

pub jumped : (unit location : ℕ) (tried : List Exchange) → Trying (asked_requests false unit location) tried []
    → Jumped unit location tried
jumped unit location [] try = cc
jumped unit location (x1 ∷ []) try = let same = try.2 in cc
jumped unit location (x2 ∷ x1 ∷ []) try = let same = try.2.2 in cc
jumped unit location (x3 ∷ x2 ∷ x1 ∷ []) try = grind (arith, tail_is, got, head_is)
jumped unit location (x4 ∷ x3 ∷ x2 ∷ x1 ∷ rest) try = grind (arith, trying_length)
