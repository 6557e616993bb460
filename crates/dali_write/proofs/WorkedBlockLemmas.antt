-- Near the edges of what a block read is.
use Rattle.std.proofs.Common.{◌≡◌, refl, sym, ℕ, zero, suc, List, [], ◌∷◌, ◌++◌, length, drop, slice_get, Some}
use Rattle.std.proofs.Common.{None, arith}
use Rattle.dali_frame.specs.declared.forward.Frame.TheVariants.{AskDtr1}
use Rattle.dali_bus.specs.Carry.{WorldStep}
use Rattle.dali_bus.proofs.ByteLemmas.{same_byte}
use Rattle.dali_write.specs.Exchanges.{Exchange}
use Rattle.dali_write.specs.declared.request.Request.{Request}
use Rattle.dali_write.specs.declared.request.Wish.TheVariants.{Nothing, Exactly, Anything}
use Rattle.dali_write.specs.Requests.{Meets, request}
use Rattle.dali_write.specs.Tries.{Trying}
use Rattle.dali_write.specs.Worlds.{IsAmong, Run}
use Rattle.dali_write.specs.Requests.{block, block_requests}
use Rattle.dali_write.specs.Blocks.{Fits, IsBlockRead}
use Rattle.dali_write.specs.WorkedBlocks.{two_locations, two_read, whole_read, seven_frames}
use Rattle.dali_write.specs.LoneUnit.{lone_unit, six_frames}
use Rattle.dali_write.proofs.LoneUnitLemmas.{tells_dtr1}
use Rattle.dali_write.proofs.RunLemmas.{run_of, leads_of, Stays}
use Rattle.dali_write.proofs.ShapeLemmas.{left_is}
use Rattle.dali_write.proofs.WorkedSixFrameLemmas.{six_may_be}

-- Which blocks fit

pub some_fit : Fits (block 0x00 1) × Fits (block 0xFE 1) × Fits (block 0xEF 16)
some_fit = grind arith

pub none_doesnt : Fits (block 0x03 0) → ⊥
none_doesnt fits = omega (arith, fits.some)

pub seventeen_dont : Fits (block 0x03 17) → ⊥
seventeen_dont fits = omega (arith, fits.few)

pub last_doesnt : (Fits (block 0xFF 1) → ⊥) × (Fits (block 0xF0 16) → ⊥)
last_doesnt = ((λ fits. omega (arith, fits.within)), (λ fits. omega (arith, fits.within)))

-- Examples of a block read

pub two_are_read : IsBlockRead 5 two_locations (0x0A ∷ 0x0B ∷ []) whole_read
two_are_read = (
  (
    Exactly 1,
    refl,
    (
      Exactly 5,
      refl,
      (Anything, refl, (Anything, refl, (Exactly 3, refl, (Nothing, tt, (Exactly 1, refl, (Nothing, tt, refl)))))),
    ),
  ),
  refl,
)

pub eight_frames : length whole_read ≡ 8
eight_frames = refl

pub no_other_bytes : (bytes : List ℕ) → IsBlockRead 5 two_locations bytes whole_read → bytes ≡ 0x0A ∷ 0x0B ∷ []
no_other_bytes bytes read = sym read.1

-- of a try each exchange is what its request asks for
pub request_next : (number : ℕ) (requests : List Request) (one next : Request) (left : List Request)
    → one ∷ left ≡ drop number requests → slice_get requests number ≡ Some next → one ≡ next
request_next zero [] one next left is at = cc
request_next zero (first ∷ requests) one next left is at = cc
request_next (suc number) [] one next left is at = cc
request_next (suc number) (first ∷ requests) one next left is at = request_next number requests one next left is at

pub asked_for : (requests : List Request) (newer : List Exchange) (x : Exchange) (older : List Exchange)
    (left : List Request) (next : Request)
    → slice_get requests (length older) ≡ Some next → Trying requests (newer ++ x ∷ older) left
    → (x.frame ≡ next.frame) × Meets next.wish x.answer
asked_for requests [] x older left next at try = grind (arith, request_next, left_is)
asked_for requests (y ∷ newer) x older left next at try =
    asked_for requests newer x older (request y.frame try.0 ∷ left) next at try.2

-- DTR0 one less, DTR1 at 00h, or a read that wasn't answered
pub moved_less : (bytes : List ℕ)
    → IsBlockRead 5 two_locations bytes (two_read (Some 0x0A) (Some 0x0B) (Some 0x04) (Some 0x01)) → ⊥
moved_less bytes read = grind (arith, asked_for, same_byte)

pub in_bank_0 : (bytes : List ℕ)
    → IsBlockRead 5 two_locations bytes (two_read (Some 0x0A) (Some 0x0B) (Some 0x05) (Some 0x00)) → ⊥
in_bank_0 bytes read = grind (arith, asked_for, same_byte)

pub one_unanswered : (bytes : List ℕ)
    → IsBlockRead 5 two_locations bytes (two_read (Some 0x0A) None (Some 0x05) (Some 0x01)) → ⊥
one_unanswered bytes read = grind (arith, asked_for)

-- and without its last frame it isn't whole
pub last_unasked : (bytes : List ℕ) → IsBlockRead 5 two_locations bytes (drop 1 whole_read) → ⊥
last_unasked bytes read = grind (arith, left_is (block_requests 5 two_locations) (drop 1 whole_read) [] read.0)

-- A loss of power before the reads is shown by the last frame alone: the first six are answered as they want.

pub six_as_wanted : Trying (block_requests 9 (block 0x00 1)) six_frames (request (AskDtr1 9) (Exactly 1) ∷ [])
six_as_wanted =
    (Exactly 1, refl, (Anything, refl, (Exactly 0, refl, (Nothing, tt, (Exactly 1, refl, (Nothing, tt, refl))))))

pub seven_may_be : Run WorldStep (IsAmong (9 ∷ [])) seven_frames (lone_unit 0 0) (lone_unit 0 1)
seven_may_be =
    grind (
      arith,
      run_of seven_frames (lone_unit 0 0) (lone_unit 0 1) (
        lone_unit 0 1,
        lone_unit 0 1,
        leads_of
            six_frames (lone_unit 0 0) (lone_unit 0 1) six_may_be,
        tells_dtr1 0 1 9 refl,
        Stays,
      ),
    )

pub loss_is_told : (bytes : List ℕ) → IsBlockRead 9 (block 0x00 1) bytes seven_frames → ⊥
loss_is_told bytes read = grind (arith, asked_for, same_byte)
