-- Near the edges of what a row allows that told another byte.
use Rattle.std.proofs.Common.{◌≡◌, refl, ℕ, zero, suc, ◌+◌, ◌≤◌, List, [], ◌∷◌, length, Some, None, arith}
use Rattle.dali_frame.specs.declared.forward.Frame.TheVariants.{Dtr1, AskDtr0, AskDtr1, Read}
use Rattle.dali_write.specs.declared.pace.Pace.TheVariants.{Checked, Short}
use Rattle.dali_write.specs.Exchanges.{Exchange}
use Rattle.dali_write.specs.Misses.{misses_in, others_in, IsLong}
use Rattle.dali_write.specs.WorkedAccesses.{sent, told_more, three_read, after_a_row}

-- what has to be at 03h to 06h
abbrev wanted : List (ℕ × ℕ)
wanted = (0x03, 1) ∷ (0x04, 2) ∷ (0x05, 3) ∷ (0x06, 4) ∷ []

-- ---- what counts

pub another_told : others_in wanted (after_a_row 9 0) ≡ 1
another_told = refl

pub wanted_told : others_in wanted (after_a_row 4 0) ≡ 0
wanted_told = refl

-- a byte is another one of its place alone: nothing has to be at 07h
pub none_wanted : others_in ((0x07, 8) ∷ []) (after_a_row 9 0) ≡ 0
none_wanted = refl

-- a row counts once, and each row for itself
pub all_told : others_in wanted (told_more 9 (three_read 9 9 9 [])) ≡ 1
all_told = refl

pub next_told : others_in wanted (told_more 9 (three_read 1 2 3 (after_a_row 9 1))) ≡ 2
next_told = refl

-- one of three isn't read again, nor are two short ones one after the other
pub three_told : others_in wanted (three_read 9 9 9 []) ≡ 0
three_told = refl

pub three_twice : others_in wanted (three_read 9 9 9 (three_read 9 9 9 [])) ≡ 0
three_twice = refl

-- a read without an answer is a miss, and tells no byte
pub silence_told : others_in wanted (sent (Read 5) None ∷ three_read 1 2 3 []) ≡ 0
silence_told = refl

-- a try in which the unit lost its power after its questions, and so read bank 0: one miss, and one row
abbrev powerless : List Exchange
powerless = sent (AskDtr1 5) (Some 0x00) ∷ sent (AskDtr0 5) (Some 0x07) ∷ told_more 0 (three_read 0 0 0 (
    sent (AskDtr1 5) (Some 0x01) ∷ sent (Dtr1 0x01) None ∷ []
    ))

pub powerless_missed : misses_in powerless ≡ 1
powerless_missed = refl

pub powerless_told : others_in wanted powerless ≡ 1
powerless_told = refl

-- ---- how many frames it allows: by the short plan those of reading a row of sixteen again, by the checked one none

row_length : (byte n : ℕ) → length (after_a_row byte n) ≡ 5 + n
row_length byte zero = refl
row_length byte (suc n) = let rest = row_length byte n in omega arith

one_other : (n : ℕ) → others_in wanted (after_a_row 9 n) ≡ 1
one_other zero = refl
one_other (suc n) = let rest = one_other n in omega arith

no_other : (n : ℕ) → others_in wanted (after_a_row 4 n) ≡ 0
no_other zero = refl
no_other (suc n) = let rest = no_other n in omega arith

no_miss : (byte n : ℕ) → misses_in (after_a_row byte n) ≡ 0
no_miss byte zero = refl
no_miss byte (suc n) = let rest = no_miss byte n in omega arith

pub other_within : (n : ℕ) → IsLong Short wanted 12 (after_a_row 9 n) → (7 ≤ n) × (n ≤ 71)
other_within n long = grind (arith, row_length 9 n, one_other n, no_miss 9 n)

pub other_enough : (n : ℕ) → (7 ≤ n) × (n ≤ 71) → IsLong Short wanted 12 (after_a_row 9 n)
other_enough n (least, most) =
    let all = row_length 9 n in let one = one_other n in let none = no_miss 9 n in (omega arith, omega arith)

pub wanted_within : (n : ℕ) → IsLong Short wanted 12 (after_a_row 4 n) → n ≡ 7
wanted_within n long = grind (arith, row_length 4 n, no_other n, no_miss 4 n)

pub checked_within : (n : ℕ) → IsLong Checked wanted 12 (after_a_row 9 n) → n ≡ 7
checked_within n long = grind (arith, row_length 9 n, one_other n, no_miss 9 n)
