-- The bytes of an identification number are those of its hexadecimal digits.
use Rattle.std.proofs.Common.{◌≡◌, ◌↔◌, ℕ, zero, suc, ◌+◌, ◌*◌, ◌^◌, ◌<◌, ◌≤◌, ◌-◌, ◌⊎◌, inl, inr, true, List, [], ◌∷◌}
use Rattle.std.proofs.Common.{length, Option, Some, None, Result, Ok, Err, refl, sym, ap, ◌∙◌, arith}
use Rattle.std.proofs.Math.Nat.{pow-suc}
use Rattle.std.proofs.lemmas.Bool.{cases_lt}
use Rattle.std.proofs.lemmas.Bool.Decides.{nat_tests}
use Rattle.std.proofs.lemmas.List.Elements.{All-cons, All-nil}
use Rattle.std.specs.Char.{digit_value}
use Rattle.std.specs.List.{AllByRecursion, AllPass}
use Rattle.std.specs.Result.{result_unwrap_or}
use Rattle.std.specs.Str.Parse.{AllDigits, digits_value_after}
use Rattle.hex.specs.Hex.{decode_pairs, decode_sized, digit_or_error, hex_digit_value, is_hex_digit, pair_value}
use Rattle.hex.specs.Hex.{value_at, ◌>>=◌}
use Rattle.hex.specs.declared.error.FromHexError.{FromHexError}
use Rattle.hex.proofs.HexLemmas.{decode_of-even, decode_pairs-digits, decode_pairs-ok, decode_sized-ok}
use Rattle.hex.proofs.HexLemmas.{decode_sized-twice}
use Rattle.dali_bank.specs.declared.field.Form.TheVariants as form
use Rattle.dali_bank.specs.Spelling.{AreFormBytes, hex}
use Rattle.dali_bank.specs.Numbers.{big_endian}
use Rattle.dali_bank.proofs.GtinLemmas.{digit_value-in_range}

value_then : {A B : Type 0} (r : Result A FromHexError) (f : A → Result B FromHexError) (y : B)
    → (r >>= f) ≡ Ok y → (x : A) × (r ≡ Ok x) × (f x ≡ Ok y)
value_then (Ok x) f y h = (x, refl, h)
value_then (Err e) f y h = cc h

digit_read : (c i : ℕ) (o : Option ℕ) (v : ℕ) → digit_or_error c i o ≡ Ok v → o ≡ Some v
digit_read c i (Some w) v h = ap Some (ap (λ (r : Result ℕ FromHexError). result_unwrap_or r 0) h)
digit_read c i None v h = cc h

-- a digit is an upper case letter, a lower case letter, or 0 to 9
ranges : (c v : ℕ) → hex_digit_value c ≡ Some v
    → ((65 ≤ c) × (c ≤ 70) × (v ≡ c - 55))
    ⊎ (((97 ≤ c) × (c ≤ 102) × (v ≡ c - 87)) ⊎ ((48 ≤ c) × (c ≤ 57) × (v ≡ c - 48)))
ranges c v h = grind (arith)

upper_valued : (c : ℕ) → 65 ≤ c → c ≤ 70 → digit_value c ≡ c - 55
upper_valued c low high = grind (arith, nat_tests)

lower_valued : (c : ℕ) → 97 ≤ c → c ≤ 102 → digit_value c ≡ c - 87
lower_valued c low high = grind (arith, nat_tests)

digit_valued : (c v : ℕ) → hex_digit_value c ≡ Some v → digit_value c ≡ v
digit_valued c v h = elim (ranges c v h) [
  | inl upper ↦ upper_valued c upper.0 upper.1 ∙ sym upper.2
  | inr other ↦ elim other [
    | inl lower ↦ lower_valued c lower.0 lower.1 ∙ sym lower.2
    | inr number ↦ digit_value-in_range c number.0 number.1 ∙ sym number.2
  ]
]

digit_small : (c v : ℕ) → hex_digit_value c ≡ Some v → v < 16
digit_small c v h = grind (arith)

digit_known : (c : ℕ) → digit_value c < 16 → is_hex_digit c ≡ true
digit_known c small = grind (arith)

-- what was read of pairs of digits
record IsRead (n : ℕ) (s bytes : List ℕ) : Type 0 where
  digits : AllDigits 16 s
  valued : digits_value_after 16 n s ≡ n * 256 ^ length bytes + big_endian bytes
  in_range : AllByRecursion (λ byte. byte < 256) bytes

pairs_read : (i n : ℕ) (s bytes : List ℕ) → decode_pairs i s ≡ Ok bytes → IsRead n s bytes
unfolding decode_pairs
pairs_read i n [] bytes h =
    let none : [] ≡ bytes = ap (λ (r : Result (List ℕ) FromHexError). result_unwrap_or r []) h in
    rw (← none) (record { digits = tt; valued = omega arith; in_range = tt })
pairs_read i n (a ∷ []) bytes h = cc h
pairs_read i n (a ∷ b ∷ rest) bytes h =
    let pair = value_then (pair_value a b i) _ bytes h in
    let high = value_then (value_at a i) _ pair.0 pair.1 in
    let low = value_then (value_at b (i + 1)) _ pair.0 high.2 in
    let others = value_then (decode_pairs (i + 2) rest) _ bytes pair.2 in
    let a_read = digit_read a i (hex_digit_value a) high.0 high.1 in
    let b_read = digit_read b (i + 1) (hex_digit_value b) low.0 low.1 in
    let a_value = digit_valued a high.0 a_read in
    let b_value = digit_valued b low.0 b_read in
    let byte : high.0 * 16 + low.0 ≡ pair.0 =
    ap (λ (r : Result ℕ FromHexError). result_unwrap_or r 0) low.2 in
    let whole : pair.0 ∷ others.0 ≡ bytes =
    ap (λ (r : Result (List ℕ) FromHexError). result_unwrap_or r []) others.2 in
    let next = pairs_read (i + 2) (n * 256 + pair.0) rest others.0 others.1 in
    let number : (n * 16 + digit_value a) * 16 + digit_value b ≡ n * 256 + pair.0 =
    rw (a_value, b_value) (omega (arith, byte)) in
    let power : 256 ^ suc (length others.0) ≡ 256 ^ length others.0 * 256 = pow-suc 256 (length others.0) in
    let small = digit_small a high.0 a_read in
    let small_low = digit_small b low.0 b_read in
    rw (← whole) (record {
      digits = (rw a_value small, (rw b_value small_low, next.digits));
      valued = ap (λ m. digits_value_after 16 m rest) number ∙ next.valued ∙ rw power (grind arith);
      in_range = (omega (arith, byte, small, small_low), next.in_range);
    })

digits_known : (s : List ℕ) → AllDigits 16 s → AllPass is_hex_digit s
digits_known [] all = All-nil (λ c. is_hex_digit c ≡ true)
digits_known (c ∷ s) all = All-cons (λ c. is_hex_digit c ≡ true) c s (digit_known c all.0) (digits_known s all.1)

grows : (one other power : ℕ) → one ≤ other → one * power ≤ other * power
grows zero other power less = omega arith
grows (suc one) zero power less = absurd (omega arith)
grows (suc one) (suc other) power less = let rest = grows one other power (omega arith) in omega (arith, rest)

-- a number whose last digits are below a power has one digit before them
front_less : (a b power one other : ℕ) → one < power → a * power + one ≡ b * power + other → b ≤ a
front_less a b power one other small same = elim (cases_lt a b) [
  | inl less ↦ let more = grows (suc a) b power less in absurd (omega (arith, small, same, more))
  | inr not_less ↦ omega (arith, not_less)
]

-- bytes in range are below a power
below : (bytes : List ℕ) → AllByRecursion (λ byte. byte < 256) bytes → big_endian bytes < 256 ^ length bytes
below [] all = omega arith
below (byte ∷ bytes) all =
    let rest = below bytes all.1 in
    let power : 256 ^ suc (length bytes) ≡ 256 ^ length bytes * 256 = pow-suc 256 (length bytes) in
    let most = grows byte 255 (256 ^ length bytes) (omega (arith, all.0)) in
    rw power (omega (arith, rest, most))

-- as many bytes in range that spell one number are one
same_bytes : (one other : List ℕ) → length one ≡ length other
    → AllByRecursion (λ byte. byte < 256) one → AllByRecursion (λ byte. byte < 256) other
    → big_endian one ≡ big_endian other → one ≡ other
same_bytes [] [] sized all others same = refl
same_bytes [] (b ∷ other) sized all others same = absurd (omega arith)
same_bytes (a ∷ one) [] sized all others same = absurd (omega arith)
same_bytes (a ∷ one) (b ∷ other) sized all others same =
    let fewer : length one ≡ length other = omega arith in
    let power : 256 ^ length one ≡ 256 ^ length other = ap (λ k. 256 ^ k) fewer in
    let one_below = below one all.1 in
    let other_below : big_endian other < 256 ^ length one = rw power (below other others.1) in
    let sum : a * 256 ^ length one + big_endian one ≡ b * 256 ^ length one + big_endian other =
    same ∙ ap (λ p. b * p + big_endian other) (sym power) in
    let at_least = front_less a b (256 ^ length one) (big_endian one) (big_endian other) one_below sum in
    let at_most = front_less b a (256 ^ length one) (big_endian other) (big_endian one) other_below (sym sum) in
    let first : a ≡ b = omega (arith, at_least, at_most) in
    let rest : big_endian one ≡ big_endian other = omega (arith, ap (λ k. k * 256 ^ length one) first, sum) in
    rw first (ap (λ bytes. b ∷ bytes) (same_bytes one other fewer all.1 others.1 rest))

-- what hex decodes of a text are the bytes that its digits spell
pub decoded : (s bytes : List ℕ) (size : ℕ)
    → (decode_sized s size ≡ Ok bytes) ↔ AreFormBytes form.Identification size (hex s) bytes
decoded s bytes size = (there, back) where
  there : decode_sized s size ≡ Ok bytes → AreFormBytes form.Identification size (hex s) bytes
  there h =
      let long = decode_sized-ok s size bytes h in
      let pairs =
      sym (decode_of-even s (omega (arith, long))) ∙ sym (decode_sized-twice s size (omega (arith, long))) ∙ h in
      let read = pairs_read 0 0 s bytes pairs in
      let twice = decode_pairs-ok 0 s bytes pairs in (
        omega (arith, long),
        read.digits,
        record { sized = omega (arith, long, twice.1); in_range = read.in_range; adds_up = omega (arith, read.valued) },
      )

  back : AreFormBytes form.Identification size (hex s) bytes → decode_sized s size ≡ Ok bytes
  back facts =
      let some = decode_pairs-digits 0 s (omega (arith, facts.0)) (digits_known s facts.1) in
      let read = pairs_read 0 0 s some.0 some.1 in
      let twice = decode_pairs-ok 0 s some.0 some.1 in
      let same = same_bytes some.0 bytes (omega (arith, facts.0, twice.1, facts.2.sized))
      read.in_range facts.2.in_range (omega (arith, read.valued, facts.2.adds_up)) in
      decode_sized-twice s size (omega (arith, facts.0)) ∙ decode_of-even s (omega (arith, facts.0))
      ∙ some.1 ∙ ap Ok same
