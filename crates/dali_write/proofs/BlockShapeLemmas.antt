-- The exchanges of whole block reads, part by part.
use Rattle.std.proofs.Common.{◌≡◌, inl, inr, refl, ap, subst, ◌∙◌, ℕ, zero, suc, ◌+◌, ◌≤◌, List, []}
use Rattle.std.proofs.Common.{◌∷◌, ◌++◌, length, length-append, drop, IsSome, arith}
use Rattle.std.specs.Prelude.{⊤}
use Rattle.std.proofs.lemmas.List.{nil_from_length, length-replicate}
use Rattle.std.proofs.Math.Seq.{drop-append_seam}
use Rattle.std.proofs.Math.Nat.{eq-or-lt_of_le}
use Rattle.dali_frame.specs.declared.forward.Frame.TheVariants.{AskDtr0, AskDtr1, Read}
use Rattle.dali_write.specs.Exchanges.{Exchange}
use Rattle.dali_write.specs.declared.request.Request.{Request}
use Rattle.dali_write.specs.declared.request.Wish.TheVariants.{Exactly, Anything}
use Rattle.dali_write.specs.Requests.{request, select_requests}
use Rattle.dali_write.specs.Tries.{Trying}
use Rattle.dali_write.proofs.ShapeLemmas.{Got, got, cut, left_is, left_all, AllOf, trying_length, head_is, tail_is}
use Rattle.dali_write.specs.declared.block.Block.{Block}
use Rattle.dali_write.specs.Requests.{moved_on, reads, block_requests}

-- a whole try of two parts of requests, one after the other
pub record Parts (front back : List Request) (tried : List Exchange) (left : List Request) : Type 0 where
  pub newer : List Exchange
  pub older : List Exchange
  pub is : tried ≡ newer ++ older
  pub older_is : Trying front older []
  pub newer_is : Trying back newer left

pub in_parts : (front back : List Request) (tried : List Exchange) (left : List Request)
    → Trying (front ++ back) tried left → length left ≤ length back → Parts front back tried left
in_parts front back [] left try few = grind (arith, length-append front back, nil_from_length)
in_parts front back (x ∷ tried) left try few = elim (eq-or-lt_of_le {n = length left} {m = length back} few) [
  | inl same ↦
      let all = trying_length (front ++ back) (x ∷ tried) left try in
      let long = length-append front back in
      let here : length (x ∷ tried) ≡ length front = omega arith in
      let left_back : left ≡ back =
      left_is (front ++ back) (x ∷ tried) left try
      ∙ (ap (λ (n : ℕ). drop n (front ++ back)) here ∙ drop-append_seam front back) in
      record {
        newer = [];
        older = x ∷ tried;
        is = refl;
        older_is = cut front back (x ∷ tried) []
            (subst (λ (l : List Request). Trying (front ++ back) (x ∷ tried) l) left_back try);
        newer_is = left_back;
      }
  | inr less ↦
      let p = in_parts front back tried (request x.frame try.0 ∷ left) try.2 less in
      record {
        newer = x ∷ p.newer;
        older = p.older;
        is = ap (λ (t : List Exchange). x ∷ t) p.is;
        older_is = p.older_is;
        newer_is = (try.0, try.1, p.newer_is);
      }
]

-- a whole try of two requests
pub record Both (one two : Request) (tried : List Exchange) : Type 0 where
  pub x1 : Exchange
  pub x2 : Exchange
  pub is : tried ≡ x2 ∷ x1 ∷ []
  pub got1 : Got x1 one.frame one.wish
  pub got2 : Got x2 two.frame two.wish

pub both : (one two : Request) (tried : List Exchange) → Trying (one ∷ two ∷ []) tried [] → Both one two tried
both one two [] try = cc
both one two (x1 ∷ []) try = let same = try.2 in cc
both one two (x2 ∷ x1 ∷ []) try = grind (arith, tail_is, got, head_is)
both one two (x3 ∷ x2 ∷ x1 ∷ rest) try = grind (arith, trying_length (one ∷ two ∷ []) (x3 ∷ x2 ∷ x1 ∷ rest) [] try)

-- each exchange is a read of the unit that was answered
abbrev pub AllReads : ℕ → List Exchange → Type 0
AllReads unit [] = ⊤
AllReads unit (x ∷ told) = (x.frame ≡ Read unit) × IsSome x.answer × AllReads unit told

abbrev IsRead : ℕ → Request → Type 0
IsRead unit next = (next.frame ≡ Read unit) × (next.wish ≡ Anything)

reads_all : (unit count : ℕ) → AllOf (IsRead unit) (reads unit count)
reads_all unit zero = tt
reads_all unit (suc count) = ((refl, refl), reads_all unit count)

pub all_reads : (unit count : ℕ) (tried : List Exchange) (left : List Request) → Trying (reads unit count) tried left
    → AllReads unit tried
all_reads unit count [] left try = tt
all_reads unit count (x ∷ tried) left try =
    grind (
      arith,
      left_all (IsRead unit) (reads unit count) tried (request x.frame try.0 ∷ left) (reads_all unit
          count) try.2,
      all_reads unit count tried (request x.frame try.0 ∷ left) try.2,
    )

-- each read is one request
pub reads_length : (unit count : ℕ) → length (reads unit count) ≡ count
reads_length unit count = length-replicate count (request (Read unit) Anything)

-- the requests after the reads
abbrev pub back_requests : ℕ → ℕ → List Request
back_requests unit place = request (AskDtr0 unit) (Exactly place) ∷ request (AskDtr1 unit) (Exactly 1) ∷ []

-- the exchanges of a block read: four that select its location, its reads, and two that ask the registers back
pub record WasBlock (unit : ℕ) (block : Block) (tried : List Exchange) : Type 0 where
  pub y1 : Exchange
  pub y2 : Exchange
  pub each : List Exchange
  pub older : List Exchange
  pub is : tried ≡ (y2 ∷ y1 ∷ []) ++ (each ++ older)
  pub selects : Trying (select_requests unit block.location) older []
  pub all : AllReads unit each
  pub count_is : length each ≡ block.count
  pub got1 : Got y1 (AskDtr0 unit) (Exactly (moved_on block.location block.count))
  pub got2 : Got y2 (AskDtr1 unit) (Exactly 1)

pub was_block : (unit : ℕ) (block : Block) (tried : List Exchange) → Trying (block_requests unit block) tried []
    → WasBlock unit block tried
was_block unit block tried try =
    let place = moved_on block.location block.count in
    let p =
    in_parts (select_requests unit block.location) (reads unit block.count ++ back_requests unit place) tried [] try
    (omega arith) in
    let q = in_parts (reads unit block.count) (back_requests unit place) p.newer [] p.newer_is (omega arith) in
    let b = both _ _ q.newer q.newer_is in
    let long = trying_length (reads unit block.count) q.older [] q.older_is in
    let so = reads_length unit block.count in
    let back : List Exchange = b.x2 ∷ b.x1 ∷ [] in
    let newer : List Exchange = back ++ q.older in
    let newer_is : p.newer ≡ newer =
    ◌∙◌ {c = newer} q.is (ap (λ (t : List Exchange). t ++ q.older) {y = back} b.is) in
    let whole : List Exchange = newer ++ p.older in
    record {
      y1 = b.x1;
      y2 = b.x2;
      each = q.older;
      older = p.older;
      is = ◌∙◌ {c = whole} p.is (ap (λ (t : List Exchange). t ++ p.older) {y = newer} newer_is);
      selects = p.older_is;
      all = all_reads unit block.count q.older [] q.older_is;
      count_is = omega arith;
      got1 = b.got1;
      got2 = b.got2;
    }

-- the frames of a block read
pub block_frames_are : (unit : ℕ) (block : Block) → length (block_requests unit block) ≡ block.count + 6
block_frames_are unit block = grind (arith, reads_length unit block.count, length-append)
