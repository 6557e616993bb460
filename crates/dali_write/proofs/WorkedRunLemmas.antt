-- Near the edges of writes one just after the other.
use Rattle.std.proofs.Common.{◌≡◌, ◌⊎◌, inl, inr, refl, ap, ◌∙◌, ℕ, List, [], ◌∷◌, Some, None}
use Rattle.std.specs.Prelude.{length}
use Rattle.dali_frame.specs.declared.forward.Frame.TheVariants.{Dtr0, Dtr1, AskDtr0, AskDtr1, Enable, Read, Write}
use Rattle.dali_write.specs.Exchanges.{Exchange}
use Rattle.dali_write.specs.WorkedAccesses.{sent}
use Rattle.dali_write.specs.declared.access.Access.TheVariants.{WriteTo, WriteOn}
use Rattle.dali_write.specs.declared.pace.Pace.TheVariants.{Checked, Short}
use Rattle.dali_write.specs.declared.request.Wish.TheVariants.{Nothing, Exactly}
use Rattle.dali_write.specs.Requests.{request, access_requests}
use Rattle.dali_write.specs.Plans.{write_on, unlock, next_plan, IsInTurn}
use Rattle.dali_write.specs.Stages.{access_of, written_before}
use Rattle.std.proofs.Common.{Ok, ◌+◌}
use Rattle.dali_write.specs.Frames.{next_frames}
use Rattle.dali_write.specs.Counts.{jumps, done_frames}
use Rattle.dali_write.specs.Misses.{misses_in, location_in, IsApt}
use Rattle.dali_write.specs.Worlds.{Selects}
use Rattle.dali_write.proofs.EndLemmas.{ends_selecting, fourth_is, moved_by}

-- ---- the frames

-- to the location just after
pub three_on : access_requests 5 (WriteOn 0x03 0x04 0xA4) 0
    ≡ request (AskDtr1 5) (Exactly 1) ∷ request (AskDtr0 5) (Exactly 0x04) ∷ request (Write 0xA4) (Exactly 0xA4) ∷ []
three_on = refl

-- to another one DTR0 is set
pub four_further : access_requests 5 (WriteOn 0x10 0x13 0x18) 0
    ≡ request (Dtr0 0x13) Nothing ∷ request (AskDtr1 5) (Exactly 1) ∷ request (AskDtr0 5) (Exactly 0x13)
    ∷ request (Write 0x18) (Exactly 0x18) ∷ []
four_further = refl

pub four_back : length (access_requests 5 (WriteOn 0x08 0x02 0xFF) 0) ≡ 4
four_back = refl

-- after a miss it is a checked write
pub checked_behind_a_miss : access_requests 5 (WriteOn 0x03 0x04 0xA4) 1 ≡ access_requests 5 (WriteTo 0x04 0xA4) 0
checked_behind_a_miss = refl

-- DTR0 stays at FFh
pub three_at_the_top : next_frames Short 0xFF 0xFF ≡ 3
three_at_the_top = refl

-- ---- the plan

abbrev two : List (ℕ × ℕ)
two = (0x03, 0x03) ∷ (0x05, 0xA4) ∷ []

-- the first update comes just after the lock byte
pub first_on : access_of (next_plan (unlock Short two) (Some [])) ≡ Ok (WriteOn 0x02 0x03 0x03)
first_on = refl

pub second_on : access_of (write_on Short two 0x03 ((0x05, 0xA4) ∷ [])) ≡ Ok (WriteOn 0x03 0x05 0xA4)
second_on = refl

pub lock_on : access_of (write_on Short two 0x05 []) ≡ Ok (WriteOn 0x05 0x02 0xFF)
lock_on = refl

pub checked_each : access_of (write_on Checked two 0x02 two) ≡ Ok (WriteTo 0x03 0x03)
checked_each = refl

pub before_first : written_before two 0 ≡ 0x02
before_first = refl

pub before_last : written_before two 2 ≡ 0x05
before_last = refl

-- ---- the counts

pub one_jump : jumps 0x02 ((0x03, 0x03) ∷ (0x04, 0xA4) ∷ []) ≡ 1
one_jump = refl

pub two_jumps : jumps 0x02 two ≡ 2
two_jumps = refl

pub few_frames : done_frames Short ((0x03, 0x03) ∷ (0x04, 0xA4) ∷ []) ≡ 7 + 3 + 3 + 4 + 9
few_frames = refl

pub more_frames : done_frames Short two ≡ 7 + 3 + 4 + 4 + 8 + 7
more_frames = refl

-- ---- the location that DTR0 should hold

-- after the write of the lock byte
abbrev unlocked : List Exchange
unlocked =
    sent (Write 0x55) (Some 0x55) ∷ sent (AskDtr0 5) (Some 0x02) ∷ sent (Dtr0 0x02) None
    ∷ sent (AskDtr1 5) (Some 0x01) ∷ sent (Dtr1 0x01) None ∷ []

pub stands_at_03 : location_in unlocked ≡ 0x03
stands_at_03 = refl

pub none_missed : misses_in (sent (AskDtr0 5) (Some 0x03) ∷ sent (AskDtr1 5) (Some 0x01) ∷ unlocked) ≡ 0
none_missed = refl

-- a unit that doesn't move on
pub stayed : misses_in (sent (AskDtr0 5) (Some 0x02) ∷ sent (AskDtr1 5) (Some 0x01) ∷ unlocked) ≡ 1
stayed = refl

pub in_its_place : IsApt unlocked (WriteOn 0x02 0x03 0x03)
in_its_place older = refl

pub out_of_place : IsApt unlocked (WriteOn 0x03 0x04 0xA4) → ⊥
out_of_place apt = let differs = apt [] in cc

-- ---- what makes sure of the location

pub both_asked : Selects 5 0x03 (sent (AskDtr0 5) (Some 0x03) ∷ sent (AskDtr1 5) (Some 0x01) ∷ unlocked)
both_asked = moved_by 5 0x03 unlocked

-- of exchanges that make sure of it the second asks DTR1, or it sets DTR0
second_is : (unit location : ℕ) (x y : Exchange) (told : List Exchange) → Selects unit location (x ∷ y ∷ told)
    → (y.frame ≡ AskDtr1 unit) ⊎ (y.frame ≡ Dtr0 location)
second_is unit location x y told selects =
    let ends = ends_selecting unit location (x ∷ y ∷ told) selects in
    let is = ends.is in
    let same : y ≡ ends.next = cc in elim ends.asks [
      | inl asks ↦ inl (ap (λ (e : Exchange). e.frame) same ∙ asks.frame_is)
      | inr sets ↦ inr (ap (λ (e : Exchange). e.frame) same ∙ sets.0.frame_is)
    ]

-- not if the unit was enabled since it answered DTR1: it may have lost its power before, and has bank 0 selected then
pub not_enabled_between : Selects 5 0x02
    (sent (AskDtr0 5) (Some 0x02) ∷ sent (Enable 5) None ∷ sent (Enable 5) None ∷ sent (AskDtr1 5) (Some 0x01) ∷ [])
    → ⊥
not_enabled_between selects = elim (second_is 5 0x02 _ _ _ selects) [
  | inl asks ↦ cc
  | inr sets ↦ cc
]

-- nor if a byte was read, which moves DTR0 on, or if another unit answered DTR1
pub not_read_between : Selects 5 0x02
    (sent (AskDtr0 5) (Some 0x02) ∷ sent (Read 5) (Some 0x00) ∷ sent (AskDtr1 5) (Some 0x01) ∷ []) → ⊥
not_read_between selects = elim (second_is 5 0x02 _ _ _ selects) [
  | inl asks ↦ cc
  | inr sets ↦ cc
]

pub not_of_another_unit : Selects 5 0x02 (sent (AskDtr0 5) (Some 0x02) ∷ sent (AskDtr1 6) (Some 0x01) ∷ []) → ⊥
not_of_another_unit selects = elim (second_is 5 0x02 _ _ _ selects) [
  | inl asks ↦ cc
  | inr sets ↦ cc
]

-- nor if DTR1 was set since then
pub not_set_between : Selects 5 0x02
    (sent (AskDtr0 5) (Some 0x02) ∷ sent (Dtr1 0x02) None ∷ sent (AskDtr1 5) (Some 0x01) ∷ []) → ⊥
not_set_between selects = elim (second_is 5 0x02 _ _ _ selects) [
  | inl asks ↦ cc
  | inr sets ↦ cc
]

-- nor if DTR0 was set since then, unless DTR1 was set just before
pub not_jumped_between : Selects 5 0x13
    (sent (AskDtr0 5) (Some 0x13) ∷ sent (Dtr0 0x13) None ∷ sent (AskDtr1 5) (Some 0x01)
    ∷ sent (Write 0xA4) (Some 0xA4) ∷ []) → ⊥
not_jumped_between selects = elim (fourth_is 5 0x13 _ _ _ _ _ selects) [
  | inl asks ↦ cc
  | inr sets ↦ cc
]

pub jumped_before : Selects 5 0x13
    (sent (AskDtr0 5) (Some 0x13) ∷ sent (AskDtr1 5) (Some 0x01) ∷ sent (Dtr0 0x13) None
    ∷ sent (Write 0xA4) (Some 0xA4) ∷ [])
jumped_before = moved_by 5 0x13 (sent (Dtr0 0x13) None ∷ sent (Write 0xA4) (Some 0xA4) ∷ [])

-- ---- in turn

-- a write that names another location than the one just written
pub out_of_turn : IsInTurn (Some 0x03) (write_on Short two 0x04 []) → ⊥
out_of_turn turn = let differs = turn.0 in cc
