-- The location that DTR0 holds after the reads of a block.
use Rattle.std.proofs.Common.{◌≡◌, refl, ap, ◌∙◌, ℕ, zero, suc, ◌+◌, ◌≤◌, min}
use Rattle.std.proofs.Common.{List, [], ◌∷◌, ◌++◌, slice_get, Some, None, arith}
use Rattle.std.proofs.lemmas.Bool.{eqb-true, eqb-false}
use Rattle.dali_bus.specs.Hears.{up}
use Rattle.dali_write.specs.declared.request.Request.{Request}
use Rattle.dali_write.specs.Requests.{select_requests}
use Rattle.dali_write.specs.Requests.{moved_on, reads}

pub up_is : (at : ℕ) → at ≤ 255 → up at ≡ min (at + 1) 255
up_is at within = grind (arith, eqb-true, eqb-false)

pub place_behind : (location count : ℕ) → location ≤ 255 → moved_on location count ≡ min (location + count) 255
place_behind location zero within = omega arith
place_behind location (suc count) within = grind (arith, place_behind location count within, up_is)

-- below FFh that is `count` further
pub moved_is : (location count : ℕ) → location + count ≤ 0xFF → moved_on location count ≡ location + count
moved_is location count within = place_behind location count (omega arith) ∙ omega arith

-- the requests after the reads
pub behind_first : (unit count : ℕ) (a b : Request) → slice_get (reads unit count ++ a ∷ b ∷ []) count ≡ Some a
behind_first unit zero a b = refl
behind_first unit (suc count) a b = behind_first unit count a b

pub behind_second : (unit count : ℕ) (a b : Request) → slice_get (reads unit count ++ a ∷ b ∷ []) (suc count) ≡ Some b
behind_second unit zero a b = refl
behind_second unit (suc count) a b = behind_second unit count a b

pub behind_last : (unit count number : ℕ) (a b : Request) → count + 2 ≤ number
    → slice_get (reads unit count ++ a ∷ b ∷ []) number ≡ None
behind_last unit zero zero a b far = let no : ⊥ = omega arith in absurd no
behind_last unit zero (suc zero) a b far = let no : ⊥ = omega arith in absurd no
behind_last unit zero (suc (suc number)) a b far = refl
behind_last unit (suc count) zero a b far = let no : ⊥ = omega arith in absurd no
behind_last unit (suc count) (suc number) a b far = behind_last unit count number a b (omega arith)

pub fifth_on : (unit location : ℕ) (rest : List Request) (number behind : ℕ) → number ≡ 4 + behind
    → slice_get (select_requests unit location ++ rest) number ≡ slice_get rest behind
fifth_on unit location rest number behind is = grind arith

-- one location further first or last
pub moved_next : (location count : ℕ) → moved_on (up location) count ≡ moved_on location (suc count)
moved_next location zero = refl
moved_next location (suc count) = ap up (moved_next location count)
