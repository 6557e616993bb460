-- Near the edges of what is read, of what is found, and of how many frames that takes.
use Rattle.std.proofs.Common.{◌≡◌, ◌⊎◌, inl, inr, refl, ap, ◌∙◌, ℕ, suc, ◌+◌, ◌≤◌, List, []}
use Rattle.std.proofs.Common.{◌∷◌, ◌++◌, drop, Some, None, arith}
use Rattle.std.specs.Prelude.{slice_get}
use Rattle.dali_write.specs.WorkedAccesses.{after_a_miss}
use Rattle.dali_read.specs.declared.finding.Finding.TheVariants.{Same, Other, Short, Format}
use Rattle.dali_write.specs.Requests.{block}
use Rattle.dali_read.specs.Places.{last_course, bank_course, identity_course, row_of, order_course}
use Rattle.dali_read.specs.Findings.{IsFound, told_bytes}
use Rattle.dali_read.specs.Shown.{ShowsBank, ShowsIdentity, Finds, Holds}
use Rattle.dali_read.specs.Counts.{block_frames, bank_frames, identity_frames, blocks_behind, order_frames, found_frames}
use Rattle.dali_read.specs.Counts.{AreSoMany}
use Rattle.dali_read.specs.WorkedReads.{four_updates, five_updates, row, filled, three_updates, small_bank, other_bank}
use Rattle.dali_read.specs.WorkedReads.{known_bytes, known_bank}
use Rattle.dali_bus.proofs.ByteLemmas.{same_byte}
use Rattle.dali_write.proofs.WorkedAccessLemmas.{miss_length, one_miss}

-- Which blocks of a bank are read

pub bank_begins : (bank_course [] ≡ Some (block 0x00 1)) × (bank_course (0x77 ∷ []) ≡ Some (block 0x01 16))
bank_begins = (refl, refl)

pub bank_goes_on : bank_course (0x77 ∷ filled 16) ≡ Some (block 0x11 16)
bank_goes_on = refl

-- 78h locations, the last ones in a shorter block
pub bank_ends : (bank_course (0x77 ∷ filled 112) ≡ Some (block 0x71 7)) × (bank_course (0x77 ∷ filled 119) ≡ None)
bank_ends = (refl, refl)

-- FFh isn't read, and if the last location is 00h nothing more is
pub up_to_feh : (bank_course (0xFF ∷ filled 240) ≡ Some (block 0xF1 14)) × (bank_course (0xFF ∷ filled 254) ≡ None)
up_to_feh = (refl, refl)

pub fe_is_read : bank_course (0xFE ∷ filled 253) ≡ Some (block 0xFE 1)
fe_is_read = refl

pub nothing_more : (bank_course (0x00 ∷ []) ≡ None) × (last_course (0x77 ∷ []) ≡ None)
nothing_more = (refl, refl)

-- The blocks of a unit's identity: none after 00h if the bank ends at 0Fh

pub identity_blocks : (identity_course [] ≡ Some (block 0x00 1)) × (identity_course (0x10 ∷ []) ≡ Some (block 0x03 14))
    × (identity_course (0xFF ∷ []) ≡ Some (block 0x03 14))
    × (identity_course (0x0F ∷ []) ≡ None)
    × (identity_course (0x77 ∷ known_bytes) ≡ None)
identity_blocks = (refl, refl, refl, refl, refl)

-- Which blocks of an order

pub order_begins : (order_course five_updates [] ≡ Some (block 0x00 1))
    × (order_course five_updates (0x13 ∷ []) ≡ Some (block 0x11 2))
    × (order_course five_updates (0x13 ∷ 0x00 ∷ []) ≡ Some (block 0x12 1))
order_begins = (refl, refl, refl)

pub row_by_row : (order_course five_updates (0x13 ∷ 0x00 ∷ 0x03 ∷ []) ≡ Some (block 0x03 3))
    × (order_course five_updates (0x13 ∷ 0x00 ∷ 0x03 ∷ filled 3) ≡ Some (block 0x10 1))
    × (order_course five_updates (0x13 ∷ 0x00 ∷ 0x03 ∷ filled 4) ≡ Some (block 0x13 1))
    × (order_course five_updates (0x13 ∷ 0x00 ∷ 0x03 ∷ filled 5) ≡ None)
row_by_row = (refl, refl, refl, refl)

-- a bank that is too short, and another content format
pub short_ends : order_course five_updates (0x12 ∷ []) ≡ None
short_ends = refl

pub format_ends : (order_course five_updates (0x13 ∷ 0x01 ∷ 0x03 ∷ []) ≡ None)
    × (order_course five_updates (0x13 ∷ 0x00 ∷ 0x02 ∷ []) ≡ None)
format_ends = (refl, refl)

-- below 13h the format isn't read
pub no_format : (order_course four_updates (0x10 ∷ []) ≡ Some (block 0x03 3))
    × (order_course four_updates (0x0F ∷ []) ≡ None)
    × (order_course ((0x12, 7) ∷ []) (0x20 ∷ []) ≡ Some (block 0x12 1))
no_format = (refl, refl, refl)

-- a row of 16 is one block, and one of 17 two
pub long_rows : (row_of (row 0x20 16) ≡ Some (block 0x20 16)) × (row_of (row 0x20 17) ≡ Some (block 0x20 16))
    × (row_of (drop 16 (row 0x20 17)) ≡ Some (block 0x30 1))
long_rows = (refl, refl, refl)

pub split_row : (order_course (row 0x20 17) (0x77 ∷ 0x00 ∷ 0x03 ∷ filled 16) ≡ Some (block 0x30 1))
    × (order_course (row 0x20 17) (0x77 ∷ 0x00 ∷ 0x03 ∷ filled 17) ≡ None)
split_row = (refl, refl)

-- the bytes that were read of an order's own locations: after the last location, and from 13h on after the content
-- format
pub own_bytes_told : (told_bytes four_updates (0x10 ∷ 1 ∷ 2 ∷ []) ≡ 1 ∷ 2 ∷ [])
    × (told_bytes five_updates (0x13 ∷ 0x00 ∷ 0x03 ∷ 1 ∷ 2 ∷ []) ≡ 1 ∷ 2 ∷ [])
    × (told_bytes ((0x12, 7) ∷ []) (0x20 ∷ 8 ∷ []) ≡ 8 ∷ [])
own_bytes_told = (refl, refl, refl)

pub nothing_told : (told_bytes five_updates (0x12 ∷ []) ≡ []) × (told_bytes four_updates [] ≡ [])
    × (told_bytes five_updates (0x13 ∷ 0x01 ∷ 0x03 ∷ []) ≡ [])
nothing_told = (refl, refl, refl)

-- How many frames

pub block_numbers : (block_frames 1 ≡ 7) × (block_frames 2 ≡ 8) × (block_frames 16 ≡ 22)
block_numbers = (refl, refl, refl)

pub bank_numbers : (bank_frames 0x00 ≡ 7) × (bank_frames 0x10 ≡ 29) × (bank_frames 0x11 ≡ 36)
    × (bank_frames 0x77 ≡ 174)
    × (bank_frames 0xFE ≡ 357) × (bank_frames 0xFF ≡ 357)
bank_numbers = (refl, refl, refl, refl, refl, refl)

pub identity_numbers : (identity_frames 0x00 ≡ 7) × (identity_frames 0x0F ≡ 7) × (identity_frames 0x10 ≡ 27)
    × (identity_frames 0xFF ≡ 27)
identity_numbers = (refl, refl, refl, refl)

pub row_numbers : (blocks_behind 0 0 [] ≡ 0) × (blocks_behind 0 0 five_updates ≡ 3)
    × (blocks_behind 0 0 (row 0x20 16) ≡ 1)
    × (blocks_behind 0 0 (row 0x20 17) ≡ 2)
    × (blocks_behind 0 0 (row 0x20 33) ≡ 3)
row_numbers = (refl, refl, refl, refl, refl)

pub order_numbers : (order_frames four_updates ≡ 7 + 4 + 12) × (order_frames five_updates ≡ 7 + 8 + 5 + 18)
order_numbers = (refl, refl)

pub found_numbers : (found_frames five_updates Short ≡ 7) × (found_frames five_updates Format ≡ 15)
    × (found_frames five_updates Same ≡ 38)
    × (found_frames five_updates (Other 0x05 0xFF) ≡ 38)
found_numbers = (refl, refl, refl, refl)

-- with one miss at most the frames of a whole block more
pub so_many : (n : ℕ) → AreSoMany 12 (after_a_miss n) → (11 ≤ n) × (n ≤ 33)
so_many n are = grind (arith, miss_length n, one_miss n)

pub many_enough : (n : ℕ) → (11 ≤ n) × (n ≤ 33) → AreSoMany 12 (after_a_miss n)
many_enough n (least, most) = let all = miss_length n in let one = one_miss n in (omega arith, omega arith)

-- Places that are found

pub same_found : IsFound three_updates (0x13 ∷ 0x00 ∷ 0x03 ∷ 7 ∷ 8 ∷ 9 ∷ []) Same
same_found = (0x13, omega arith, inr (7 ∷ 8 ∷ 9 ∷ [], refl, omega arith, ([], refl)))

-- the second one is another byte, and the third one too
pub second_found : IsFound three_updates (0x13 ∷ 0x00 ∷ 0x03 ∷ 7 ∷ 6 ∷ 5 ∷ []) (Other 0x04 6)
second_found = (
  0x13,
  omega arith,
  inr (
    7 ∷ 6 ∷ 5 ∷ [],
    refl,
    omega arith,
    (
      (0x03, 7) ∷ [],
      8,
      (0x13, 9) ∷ [],
      5 ∷ [],
      refl,
      refl,
      λ
          same. omega (arith, same),
    ),
  ),
)

pub low_found : IsFound four_updates (0x10 ∷ 7 ∷ 8 ∷ 9 ∷ 7 ∷ []) Same
low_found = (0x10, omega arith, inl (7 ∷ 8 ∷ 9 ∷ 7 ∷ [], refl, omega arith, ([], refl)))

pub short_found : IsFound five_updates (0x12 ∷ []) Short
short_found = (0x12, [], refl, omega arith)

pub format_found : IsFound five_updates (0x13 ∷ 0x01 ∷ 0x03 ∷ []) Format
format_found = (0x13, 0x01, 0x03, [], refl, omega arith, omega arith, λ right. omega (arith, right.0))

-- Places that aren't found

pub reaching_isnt_short : IsFound five_updates (0x13 ∷ []) Short → ⊥
reaching_isnt_short (last, more, is, short) = let same : 0x13 ≡ last = cc in omega arith

pub right_isnt_format : IsFound five_updates (0x13 ∷ 0x00 ∷ 0x03 ∷ []) Format → ⊥
right_isnt_format (last, high, low, more, is, reaches, far, other) = grind arith

pub low_isnt_format : IsFound four_updates (0x13 ∷ 0x01 ∷ 0x03 ∷ []) Format → ⊥
low_isnt_format (last, high, low, more, is, reaches, far, other) = omega arith

pub short_isnt_format : IsFound five_updates (0x12 ∷ 0x01 ∷ 0x03 ∷ []) Format → ⊥
short_isnt_format (last, high, low, more, is, reaches, far, other) = let same : 0x12 ≡ last = cc in omega arith

pub other_isnt_same : IsFound three_updates (0x13 ∷ 0x00 ∷ 0x03 ∷ 7 ∷ 6 ∷ 5 ∷ []) Same → ⊥
other_isnt_same (last, reaches, inl (more, is, near, own)) = omega arith
other_isnt_same (last, reaches, inr (more, is, far, own)) = cc

pub fewer_arent_same : IsFound three_updates (0x13 ∷ 0x00 ∷ 0x03 ∷ 7 ∷ 8 ∷ []) Same → ⊥
fewer_arent_same (last, reaches, inl (more, is, near, own)) = omega arith
fewer_arent_same (last, reaches, inr (more, is, far, own)) = cc

pub other_format_isnt_same : IsFound three_updates (0x13 ∷ 0x01 ∷ 0x03 ∷ 7 ∷ 8 ∷ 9 ∷ []) Same → ⊥
other_format_isnt_same (last, reaches, inl (more, is, near, own)) = omega arith
other_format_isnt_same (last, reaches, inr (more, is, far, own)) = cc

pub short_isnt_same : IsFound three_updates (0x12 ∷ 0x00 ∷ 0x03 ∷ 7 ∷ 8 ∷ 9 ∷ []) Same → ⊥
short_isnt_same (last, reaches, inl (more, is, near, own)) = omega arith
short_isnt_same (last, reaches, inr (more, is, far, own)) = let same : 0x12 ≡ last = cc in omega arith

-- the updates before one of them
abbrev Before : List (ℕ × ℕ) → ℕ → ℕ → List (ℕ × ℕ) → ℕ → ℕ → Type 0
Before before location own updates place byte = (before ≡ updates) × (location ≡ place) × (own ≡ byte)

splits : (before behind : List (ℕ × ℕ)) (location own : ℕ) → three_updates ≡ before ++ (location, own) ∷ behind
    → Before before location own [] 0x03 7
    ⊎ (Before before location own ((0x03, 7) ∷ []) 0x04 8
    ⊎ Before before location own ((0x03, 7) ∷ (0x04, 8) ∷ []) 0x13 9)
splits [] behind location own is = grind arith
splits (a ∷ []) behind location own is = grind arith
splits (a ∷ b ∷ []) behind location own is = grind arith
splits (a ∷ b ∷ c ∷ []) behind location own is = cc
splits (a ∷ b ∷ c ∷ d ∷ before) behind location own is = cc

-- a later one isn't the first other, and none is other than itself
pub later_isnt_other : IsFound three_updates (0x13 ∷ 0x00 ∷ 0x03 ∷ 7 ∷ 6 ∷ 5 ∷ []) (Other 0x13 5) → ⊥
later_isnt_other (last, reaches, inl (more, is, near, other)) = omega arith
later_isnt_other (last, reaches, inr (more, is, far, (before, own, behind, rest, parts, bytes, differs))) =
    grind (arith, splits before behind 0x13 own parts)

pub own_isnt_other : IsFound three_updates (0x13 ∷ 0x00 ∷ 0x03 ∷ 7 ∷ 8 ∷ 9 ∷ []) (Other 0x04 8) → ⊥
own_isnt_other (last, reaches, inl (more, is, near, other)) = omega arith
own_isnt_other (last, reaches, inr (more, is, far, (before, own, behind, rest, parts, bytes, differs))) =
    grind (arith, splits before behind 0x04 own parts)

-- The bytes of a bank

pub bank_finds_other : Finds (Holds other_bank) three_updates (Other 0x04 6)
bank_finds_other = (
  (0x13, refl, omega arith, λ far. (refl, refl)),
  ((0x03, 7) ∷ [], 8, (0x13, 9) ∷ [], refl, (refl, tt), refl, λ same. omega (arith, same)),
)

pub bank_isnt_same : Finds (Holds other_bank) three_updates Same → ⊥
bank_isnt_same (suits, each) = omega (arith, same_byte 6 8 each.1.0)

pub bank_has_other_first : Finds (Holds other_bank) three_updates (Other 0x13 5) → ⊥
bank_has_other_first (suits, (before, own, behind, parts, each, here, differs)) = grind (arith, splits, same_byte)

pub bank_has_no_such_byte : Finds (Holds other_bank) three_updates (Other 0x04 5) → ⊥
bank_has_no_such_byte (suits, (before, own, behind, parts, each, here, differs)) = omega (arith, same_byte 6 5 here)

pub own_byte_isnt_other : Finds (Holds other_bank) three_updates (Other 0x03 7) → ⊥
own_byte_isnt_other (suits, (before, own, behind, parts, each, here, differs)) = grind (arith, splits)

-- a bank that names 03h as its last location doesn't suit, whatever follows it
pub named_too_short : Finds (Holds (0x03 ∷ 1 ∷ 0xFF ∷ 7 ∷ 8 ∷ [])) ((0x03, 7) ∷ (0x04, 8) ∷ []) Same → ⊥
named_too_short (suits, each) = grind (arith, same_byte 0x03 suits.0 suits.1)

pub bank_is_short : Finds (Holds small_bank) three_updates Short
bank_is_short = (0x04, refl, omega arith)

pub whole_bank : ShowsBank (Holds small_bank) small_bank
whole_bank =
    record { last = 0x04; names = refl; count = refl; bytes_are = λ location byte there. there }

pub fewer_arent_bank : ShowsBank (Holds small_bank) (0x04 ∷ 1 ∷ 0xFF ∷ 7 ∷ []) → ⊥
fewer_arent_bank shows = grind (arith, same_byte 0x04 shows.last shows.names)

pub more_arent_bank : ShowsBank (Holds (0x04 ∷ 1 ∷ 0xFF ∷ 7 ∷ 8 ∷ 9 ∷ [])) (0x04 ∷ 1 ∷ 0xFF ∷ 7 ∷ 8 ∷ 9 ∷ []) → ⊥
more_arent_bank shows = grind (arith, same_byte 0x04 shows.last shows.names)

pub others_arent_bank : ShowsBank (Holds small_bank) (0x04 ∷ 1 ∷ 0xFF ∷ 7 ∷ 9 ∷ []) → ⊥
others_arent_bank shows = omega (arith, same_byte 8 9 (shows.bytes_are 4 9 refl))

-- FFh is no location
pub bank_to_feh : ShowsBank (Holds (0xFF ∷ filled 254)) (0xFF ∷ filled 254)
bank_to_feh =
    record { last = 0xFF; names = refl; count = refl; bytes_are = λ location byte there. there }

-- what a unit is, in a bank that ends at 10h and in one that ends before
pub known_unit : ShowsIdentity (Holds known_bank) (0x10 ∷ known_bytes)
known_unit =
    record {
      last = 0x10;
      more = known_bytes;
      bytes_are = refl;
      named = refl;
      reach = inr (omega arith, refl);
      more_are = λ index byte there.
          let behind : 3 + index ≡ suc (suc (suc index)) = omega arith in
          ap (λ (n : ℕ). slice_get known_bank n) behind ∙ there;
    }

pub short_unit : ShowsIdentity (Holds small_bank) (0x04 ∷ [])
short_unit =
    record {
      last = 0x04;
      more = [];
      bytes_are = refl;
      named = refl;
      reach = inl (omega arith, refl);
      more_are = λ index byte there. cc;
    }

pub last_alone_isnt_known : ShowsIdentity (Holds known_bank) (0x10 ∷ []) → ⊥
last_alone_isnt_known shows = let same : 0x10 ∷ [] ≡ shows.last ∷ shows.more = shows.bytes_are in grind arith

pub fewer_arent_known : ShowsIdentity (Holds known_bank) (0x10 ∷ drop 1 known_bytes) → ⊥
fewer_arent_known shows =
    let same : 0x10 ∷ drop 1 known_bytes ≡ shows.last ∷ shows.more = shows.bytes_are in grind arith

pub short_isnt_known : ShowsIdentity (Holds (0x0F ∷ drop 1 known_bank)) (0x0F ∷ known_bytes) → ⊥
short_isnt_known shows = let same : 0x0F ∷ known_bytes ≡ shows.last ∷ shows.more = shows.bytes_are in grind arith
