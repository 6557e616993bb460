-- No course leads past the end of a bank whose 00h names its last location.
use Rattle.std.proofs.Common.{◌≡◌, refl, subst, ℕ, zero, suc, ◌+◌, ◌≤◌, ◌==◌, ◌&&◌, min, max, nat_lt}
use Rattle.std.proofs.Common.{Bool, true, false, if◌then◌else◌, List, [], ◌∷◌, length, drop, Some, None, arith}
use Rattle.std.specs.Prelude.{slice_get}
use Rattle.std.proofs.lemmas.Bool.{ltb-true, ltb-false, eqb-true}
use Rattle.std.proofs.lemmas.Option.{get_or_from_slice_get}
use Rattle.dali_gear.specs.Faults.{IsBank}
use Rattle.dali_write.specs.Plans.{greatest}
use Rattle.dali_write.specs.declared.block.Block.{Block}
use Rattle.dali_write.specs.Requests.{block}
use Rattle.dali_read.specs.Places.{first_block, last_course, bank_course, order_course, in_a_row, row_of}
use Rattle.dali_read.proofs.BankFramesLemmas.{if_next}
use Rattle.dali_read.proofs.OrderFramesLemmas.{if_not, if_so}
use Rattle.dali_read.proofs.CourseLemmas.{last_follows, bank_follows, order_place, order_follows}
use Rattle.dali_read.proofs.SparedLemmas.{HeadIs, Stays}

pub first_within : (bank : List ℕ) (next : Block) → IsBank bank → Some first_block ≡ Some next
    → next.location + next.count ≤ length bank
first_within bank next is begins = grind arith

pub last_stays : (bank : List ℕ) → IsBank bank → Stays last_course (λ index. Some index) bank
last_stays bank is = grind (arith, last_follows, first_within)

-- the byte of 00h is one less than the locations
pub names_last : (bank : List ℕ) (last : ℕ) → IsBank bank → slice_get bank 0 ≡ Some last → last + 1 ≡ length bank
names_last bank last is here = grind (arith, get_or_from_slice_get bank 0 last 0 here)

pub bank_stays : (bank : List ℕ) → IsBank bank → Stays bank_course (λ index. Some index) bank
bank_stays bank is = record { begins = refl; first = refl; follows = bank_follows; within = by }
  where
    by : (bytes : List ℕ) (next : Block) → HeadIs bank bytes → bank_course bytes ≡ Some next
        → next.location + next.count ≤ length bank
    by [] next head here = first_within bank next is here
    by (last ∷ more) next head here =
        let long = names_last bank last is (head last refl) in
        let so = if_next (nat_lt (length more) (min last 0xFE)) _ next here in
        let below = ltb-true (length more) (min last 0xFE) so.0 in
        subst (λ (b : Block). b.location + b.count ≤ length bank) so.1 (omega arith)

-- a row of updates ends at the greatest location at the latest
row_reaches : (location : ℕ) (updates : List (ℕ × ℕ))
    → location + in_a_row location updates ≤ max location (suc (greatest updates))
row_reaches location [] = omega arith
row_reaches location (update ∷ updates) =
    by (update.0 == location) refl (row_reaches (suc location) updates)
  where
    by : (b : Bool) → (update.0 == location) ≡ b
        → suc location + in_a_row (suc location) updates ≤ max (suc location) (suc (greatest updates))
        → location + (if b then suc (in_a_row (suc location) updates) else 0)
        ≤ max location (suc (max update.0 (greatest updates)))
    by true e rest = let same = eqb-true update.0 location e in omega arith
    by false e rest = omega arith

greatest_left : (count : ℕ) (updates : List (ℕ × ℕ)) → greatest (drop count updates) ≤ greatest updates
greatest_left zero updates = omega arith
greatest_left (suc count) [] = omega arith
greatest_left (suc count) (update ∷ updates) = let rest = greatest_left count updates in omega arith

row_within : (updates : List (ℕ × ℕ)) (next : Block) → row_of updates ≡ Some next
    → next.location + next.count ≤ suc (greatest updates)
row_within [] next is = cc
row_within (update ∷ updates) next is = grind (arith, row_reaches update.0 (update ∷ updates))

left_within : (bank : List ℕ) (updates : List (ℕ × ℕ)) (count last : ℕ) (next : Block)
    → greatest updates ≤ last → last + 1 ≡ length bank → row_of (drop count updates) ≡ Some next
    → next.location + next.count ≤ length bank
left_within bank updates count last next reaches long row = grind (arith, row_within, greatest_left)

pub order_stays : (bank : List ℕ) (updates : List (ℕ × ℕ)) → IsBank bank
    → Stays (order_course updates) (order_place updates) bank
order_stays bank updates is = record { begins = refl; first = refl; follows = order_follows updates; within = by }
  where
    format : (last : ℕ) (next mine : Block) → 0x13 ≤ greatest updates → greatest updates ≤ last
        → last + 1 ≡ length bank → mine.location + mine.count ≡ 0x13 → Some mine ≡ Some next
        → next.location + next.count ≤ length bank
    format last next mine high reaches long ends here =
        let same : mine ≡ next = cc in
        subst (λ (b : Block). b.location + b.count ≤ length bank) same (omega arith)

    behind : (last : ℕ) (more : List ℕ) (next : Block) (low : Bool) → nat_lt (greatest updates) 0x13 ≡ low
        → nat_lt last (greatest updates) ≡ false → last + 1 ≡ length bank
        → order_course updates (last ∷ more) ≡ Some next → next.location + next.count ≤ length bank
    behind last more next true low reach long here =
        left_within bank updates (length more) last next (ltb-false last (greatest updates) reach) long
        (rw (reach, low) at here)
    behind last [] next false low reach long here =
        format last next (block 0x11 2) (ltb-false (greatest updates) 0x13 low)
        (ltb-false last (greatest updates) reach) long refl (rw (reach, low) at here)
    behind last (high ∷ []) next false low reach long here =
        format last next (block 0x12 1) (ltb-false (greatest updates) 0x13 low)
        (ltb-false last (greatest updates) reach) long refl (rw (reach, low) at here)
    behind last (high ∷ least ∷ found) next false low reach long here =
        let test = (high == 0x00) && (least == 0x03) in
        let chosen : (if test then row_of (drop (length found) updates) else None) ≡ Some next =
        rw (reach, low) at here in
        left_within bank updates (length found) last next (ltb-false last (greatest updates) reach) long
        (if_so test (row_of (drop (length found) updates)) next chosen).1

    by : (bytes : List ℕ) (next : Block) → HeadIs bank bytes → order_course updates bytes ≡ Some next
        → next.location + next.count ≤ length bank
    by [] next head here = first_within bank next is here
    by (last ∷ more) next head here =
        behind last more next (nat_lt (greatest updates) 0x13) refl
        (if_not (nat_lt last (greatest updates)) _ next here).0 (names_last bank last is (head last refl)) here

-- two lists with the same elements
pub same_elements : (one other : List ℕ) → length one ≡ length other
    → ((index byte : ℕ) → slice_get one index ≡ Some byte → slice_get other index ≡ Some byte)
    → one ≡ other
same_elements [] [] long same = refl
same_elements [] (y ∷ other) long same = let no : ⊥ = omega arith in absurd no
same_elements (x ∷ one) [] long same = let no : ⊥ = omega arith in absurd no
same_elements (x ∷ one) (y ∷ other) long same =
    let first = same 0 x refl in
    let rest =
    same_elements one other (let few : length one ≡ length other = omega arith in few)
    (λ index byte is. same (suc index) byte is) in
    cc
