-- A row that failed, worked out: when it is read again, in which rows, and what is then a cause.
use Rattle.std.proofs.Common.{◌≡◌, refl, ap, ℕ, zero, suc, ◌≤◌, List, [], ◌∷◌, length, Some, None, arith}
use Rattle.std.specs.List.{Contains}
use Rattle.dali_write.specs.Exchanges.{Exchange}
use Rattle.dali_write.specs.Doubts.{FoundAnother}
use Rattle.dali_write.specs.declared.ask.Cause.TheVariants.{Unread}
use Rattle.dali_write.specs.Plans.{Plan, next_plan, read_back, give_up, expect_all, pieces_of}
use Rattle.dali_write.specs.Causes.{cause_by}

-- five locations are read again as one and twice two, and what comes after goes on
pub five_in_three : pieces_of 0x03 (1 ∷ 2 ∷ 3 ∷ 4 ∷ 5 ∷ [])
    ≡ (0x03, 1 ∷ []) ∷ (0x04, 2 ∷ 3 ∷ []) ∷ (0x06, 4 ∷ 5 ∷ []) ∷ []
five_in_three = refl

pub four_again : next_plan (read_back ((0x03, 1 ∷ 2 ∷ 3 ∷ 4 ∷ []) ∷ [])) None
    ≡ expect_all ((0x03, 1 ∷ 2 ∷ []) ∷ (0x05, 3 ∷ 4 ∷ []) ∷ []) (read_back [])
four_again = refl

-- three are given up
pub three_given_up : next_plan (read_back ((0x03, 1 ∷ 2 ∷ 3 ∷ []) ∷ [])) None ≡ give_up
three_given_up = refl

-- another byte is believed at once in a row of three, and in one of four once it is read again
pub another_again : next_plan (read_back ((0x03, 1 ∷ 2 ∷ 3 ∷ 4 ∷ []) ∷ [])) (Some (1 ∷ 2 ∷ 3 ∷ 6 ∷ []))
    ≡ expect_all ((0x03, 1 ∷ 2 ∷ []) ∷ (0x05, 3 ∷ 4 ∷ []) ∷ []) (read_back [])
another_again = refl

pub another_given_up : next_plan (read_back ((0x03, 1 ∷ 2 ∷ 3 ∷ []) ∷ [])) (Some (1 ∷ 2 ∷ 6 ∷ [])) ≡ give_up
another_given_up = refl

pub another_piece : (after : Plan)
    → next_plan (expect_all ((0x05, 3 ∷ 4 ∷ []) ∷ []) after) (Some (3 ∷ 6 ∷ [])) ≡ give_up
another_piece after = refl

-- what fails for good is given up: a row of four isn't, and one of three is
pub four_go_on : next_plan (read_back ((0x03, 1 ∷ 2 ∷ 3 ∷ 4 ∷ []) ∷ [])) None ≡ give_up → ⊥
four_go_on gives = cc

-- nor is another byte that it told a cause
pub not_found_in_four : (unit : ℕ) (plan : Plan) (told : List Exchange)
    → FoundAnother unit plan ((0x03, 1 ∷ 2 ∷ 3 ∷ 4 ∷ []) ∷ []) told → ⊥
not_found_in_four unit plan told found = by found.bytes found.is_expected found.few
  where
    by : {location : ℕ} (bytes : List ℕ)
        → Contains {X = ℕ × List ℕ} ((0x03, 1 ∷ 2 ∷ 3 ∷ 4 ∷ []) ∷ []) (location, bytes)
        → length bytes ≤ 3 → ⊥
    by bytes (zero, low, is) few = let same = ap (λ (row : ℕ × List ℕ). length row.1) is in absurd (omega arith)
    by bytes (suc index, low, is) few = absurd (omega arith)

-- a row that is read again is no cause; one in which it is read again is one, and so is a row of three
pub four_no_cause : cause_by [] (read_back ((0x03, 1 ∷ 2 ∷ 3 ∷ 4 ∷ []) ∷ [])) None ≡ None
four_no_cause = refl

pub piece_is_one : (after : Plan) → cause_by [] (expect_all ((0x05, 3 ∷ 4 ∷ []) ∷ []) after) None ≡ Some (Unread 0x05)
piece_is_one after = refl

pub another_no_cause : cause_by [] (read_back ((0x03, 1 ∷ 2 ∷ 3 ∷ 4 ∷ []) ∷ [])) (Some (1 ∷ 2 ∷ 3 ∷ 6 ∷ [])) ≡ None
another_no_cause = refl

pub three_is_one : cause_by [] (read_back ((0x03, 1 ∷ 2 ∷ 3 ∷ []) ∷ [])) None ≡ Some (Unread 0x03)
three_is_one = refl
