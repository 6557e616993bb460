-- The effects that a bus may have on the units that it reaches by a frame of addresses, and the answers that may come
-- back.
use Rattle.std.specs.Prelude.{◌≡◌, ◌≢◌, ℕ, ◌⊎◌, List, Option, Some, None, map, ⊤}
use Rattle.dali_address.specs.Units.{Member, Units}
use Rattle.dali_address.specs.Obeys.{Passes, Obeys}
use Rattle.dali_address.specs.declared.call.Call.{Call}
use Rattle.dali_address.specs.declared.call.Call.TheVariants.{Compare, AskMissing, AskPresent}

-- a frame, and what came back
pub record Exchange : Type 0 where
  pub call : Call
  pub answer : Option ℕ

abbrev pub calls_of : List Exchange → List Call
calls_of exchanges = map (λ exchange. exchange.call) exchanges

-- a unit didn't hear the frame, or it heard it. No unit comes or goes
abbrev pub MayObey : Option Member → Call → Option Member → Type 0
MayObey None call None = ⊤
MayObey (Some old) call (Some new) = Passes old new ⊎ ((answer : Option ℕ) × Obeys old call answer new)
MayObey old call new = ⊥

-- the unit of this number heard the frame and answered the byte
pub record Answers (old : Units) (call : Call) (byte : ℕ) (new : Units) (number : ℕ) : Type 0 where
  pub before : Member
  pub after : Member
  pub was : old number ≡ Some before
  pub is : new number ≡ Some after
  pub obeys : Obeys before call (Some byte) after

-- two units answered at once
pub record Collides (old : Units) (call : Call) (new : Units) : Type 0 where
  pub one : ℕ
  pub two : ℕ
  pub others : one ≢ two
  pub byte_one : ℕ
  pub byte_two : ℕ
  pub answers_one : Answers old call byte_one new one
  pub answers_two : Answers old call byte_two new two

-- a frame to which only YES can be answered: whatever comes counts as YES, so it may be several answers, or noise
abbrev pub IsYesAlone : Call → Type 0
IsYesAlone Compare = ⊤
IsYesAlone AskMissing = ⊤
IsYesAlone (AskPresent short) = ⊤
IsYesAlone _ = ⊥

-- The answers that may come back. A byte is that of a unit that answered, or two answered at once: then any may come.
-- None may always come: a frame or an answer may be lost, or garbled.
abbrev pub ComesBack : Units → Call → Option ℕ → Units → Type 0
ComesBack old call None new = ⊤
ComesBack old call (Some byte) new =
    IsYesAlone call ⊎ ((number : ℕ) × Answers old call byte new number) ⊎ Collides old call new

-- the frame is carried from these units to those
pub record Step (old : Units) (exchange : Exchange) (new : Units) : Type 0 where
  pub each : (number : ℕ) → MayObey (old number) exchange.call (new number)
  pub back : ComesBack old exchange.call exchange.answer new
