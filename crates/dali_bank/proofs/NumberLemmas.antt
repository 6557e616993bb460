-- Lemmas on numbers that are spelled by bytes.
use Rattle.std.proofs.Common.{◌≡◌, ℕ, suc, zero, ◌+◌, ◌-◌, ◌*◌, ◌^◌, ◌<◌, ◌≤◌, List, [], ◌∷◌, length, drop, ◌++◌, ◌≢◌}
use Rattle.std.proofs.Common.{replicate, ap, refl, sym, ◌∙◌, arith, lit<, add-one, length-drop, length-append}
use Rattle.std.specs.Int.{w64, to_be_bytes, from_be_bytes}
use Rattle.std.specs.List.{AllByRecursion}
use Rattle.std.proofs.Math.Nat.{pow-le-pow_right, pow-suc}
use Rattle.std.proofs.lemmas.List.{length-replicate}
use Rattle.std.proofs.lemmas.Nat.{from_be_bytes-to_be_bytes_8}
use Rattle.dali_bank.specs.Numbers.{big_endian, SpellsNumber}

-- a leading byte that the number has no room for is 0
leading_zero : (byte power rest least : ℕ) → least ≤ power → byte * power + rest < least → byte ≡ 0
leading_zero zero power rest least grows small = refl
leading_zero (suc byte) power rest least grows small =
    let once : power ≤ suc byte * power = grind arith in
    absurd (omega arith)

-- bytes in front that the number has no room for are 0, and add nothing
big_endian-drop : (k : ℕ) (bytes : List ℕ) → k ≤ length bytes → big_endian bytes < 256 ^ (length bytes - k)
    → big_endian (drop k bytes) ≡ big_endian bytes
big_endian-drop zero bytes within small = refl
big_endian-drop (suc k) [] within small = refl
big_endian-drop (suc k) (byte ∷ bytes) within small =
    let fewer : length bytes - k ≤ length bytes = omega arith in
    let room : 256 ^ (length bytes - k) ≤ 256 ^ length bytes = pow-le-pow_right (lit< tt) fewer in
    let left : suc (length bytes) - suc k ≡ length bytes - k = omega arith in
    let whole : byte * 256 ^ length bytes + big_endian bytes < 256 ^ (length bytes - k) = rw left at small in
    let none : byte ≡ 0 =
    leading_zero byte (256 ^ length bytes) (big_endian bytes) (256 ^ (length bytes - k)) room whole in
    let same : byte * 256 ^ length bytes + big_endian bytes ≡ big_endian bytes = rw none (omega arith) in
    big_endian-drop k bytes (omega arith) (rw same at whole) ∙ sym same

-- what std reads of eight bytes
big_endian-eight : (a b c d e f g h : ℕ)
    → big_endian (a ∷ b ∷ c ∷ d ∷ e ∷ f ∷ g ∷ h ∷ []) ≡ from_be_bytes w64 (a ∷ b ∷ c ∷ d ∷ e ∷ f ∷ g ∷ h ∷ [])
big_endian-eight a b c d e f g h = omega arith

in_range-drop : (k : ℕ) (bytes : List ℕ) → AllByRecursion (λ byte. byte < 256) bytes
    → AllByRecursion (λ byte. byte < 256) (drop k bytes)
in_range-drop zero bytes all = all
in_range-drop (suc k) [] all = tt
in_range-drop (suc k) (byte ∷ bytes) all = in_range-drop k bytes all.1

-- the last bytes of a number that they have room for
pub last_bytes : (size number : ℕ) → size ≤ 8 → number < 256 ^ size → number < 2 ^ 64
    → SpellsNumber size number (drop (8 - size) (to_be_bytes w64 number))
last_bytes size number few small fits =
    let whole : big_endian (to_be_bytes w64 number) ≡ number =
    big_endian-eight _ _ _ _ _ _ _ _ ∙ from_be_bytes-to_be_bytes_8 number fits in
    let eight_in_range : AllByRecursion (λ byte. byte < 256) (to_be_bytes w64 number) = (
      omega arith,
      (omega arith, (omega arith, (omega arith, (omega arith, (omega arith, (omega arith, (omega arith, tt))))))),
    ) in
    let left : 8 - (8 - size) ≡ size = omega arith in
    let few_enough : 8 - size ≤ 8 = omega arith in
    record {
      sized = length-drop (8 - size) (to_be_bytes w64 number) ∙ left;
      in_range = in_range-drop (8 - size) (to_be_bytes w64 number) eight_in_range;
      adds_up = big_endian-drop (8 - size) (to_be_bytes w64 number) few_enough (rw (whole, left) small) ∙ whole;
    }

-- one byte more
pub big_endian-push : (bytes : List ℕ) (byte : ℕ) → big_endian (bytes ++ byte ∷ []) ≡ big_endian bytes * 256 + byte
big_endian-push [] byte = omega arith
big_endian-push (b ∷ bytes) byte =
    let more : length (bytes ++ byte ∷ []) ≡ suc (length bytes) = simp length-append (omega arith) in
    let power : 256 ^ suc (length bytes) ≡ 256 ^ length bytes * 256 = pow-suc 256 (length bytes) in
    rw (more, power, big_endian-push bytes byte) (omega arith)

pub number_small : (number byte count : ℕ) → number < 256 ^ count → byte < 256 → number * 256 + byte < 256 ^ (count + 1)
number_small number byte count small fits =
    let power : 256 ^ suc count ≡ 256 ^ count * 256 = pow-suc 256 count in
    rw (add-one, power) (omega (arith, small, fits))

-- FFh in every byte is the greatest number
pub big_endian-unknown : (size : ℕ) → big_endian (replicate size 0xFF) + 1 ≡ 256 ^ size
big_endian-unknown zero = refl
big_endian-unknown (suc size) =
    let power : 256 ^ suc size ≡ 256 ^ size * 256 = pow-suc 256 size in
    let others = big_endian-unknown size in
    rw (power, length-replicate {A = ℕ} size 0xFF) (omega (arith, others))

-- bytes of a lesser number aren't all FFh
pub not_unknown : (size number : ℕ) (bytes : List ℕ) → number + 1 < 256 ^ size → SpellsNumber size number bytes
    → bytes ≢ replicate size 0xFF
not_unknown size number bytes small spelled same =
    let greatest : big_endian bytes ≡ big_endian (replicate size 0xFF) = ap big_endian same in
    absurd (omega (arith, small, spelled.adds_up, greatest, big_endian-unknown size))
