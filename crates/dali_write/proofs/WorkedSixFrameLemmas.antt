-- Why a checked read has a seventh frame: what six would tell of the small worked world.
use Rattle.std.proofs.Common.{◌≡◌, refl, sym, ap, ◌∙◌, ℕ, inl, inr, List, [], ◌∷◌, Option, Some, None, arith}
use Rattle.dali_frame.specs.declared.forward.Frame.TheVariants.{Dtr0, Dtr1, AskDtr0, AskDtr1}
use Rattle.dali_bus.specs.World.{Gear}
use Rattle.dali_bus.specs.Carry.{WorldStep}
use Rattle.dali_write.specs.declared.request.Wish.TheVariants.{Nothing, Exactly, Anything}
use Rattle.dali_write.specs.Requests.{request, read_requests}
use Rattle.dali_write.specs.Tries.{Trying}
use Rattle.dali_write.specs.Worlds.{IsAmong, Run, Shows}
use Rattle.dali_bus.specs.Power.{MayRelock}
use Rattle.dali_write.specs.Exchanges.{Exchange}
use Rattle.dali_write.specs.WorkedAccesses.{sent}
use Rattle.dali_write.specs.LoneUnit.{small_gear, lone_unit, six_frames}
use Rattle.dali_write.proofs.LoneUnitLemmas.{hears_dtr0, hears_dtr1, tells_dtr0, tells_dtr1, reads_bank_0, loses_power}
use Rattle.dali_write.proofs.RunLemmas.{run_of, Leads, Stays, Loses}
use Rattle.dali_bus.proofs.ByteLemmas.{same_byte}

-- six frames of a checked read were answered as they want, and one is left

pub six_are_answered : Trying (read_requests 9 0) six_frames (request (AskDtr1 9) (Exactly 1) ∷ [])
six_are_answered =
    (Exactly 1, refl, (Anything, refl, (Exactly 0, refl, (Nothing, tt, (Exactly 1, refl, (Nothing, tt, refl))))))

-- the lone unit may have answered them so, if it lost its power before the read

select_frames : List Exchange
select_frames =
    sent (AskDtr0 9) (Some 0) ∷ sent (Dtr0 0) None ∷ sent (AskDtr1 9) (Some 1) ∷ sent (Dtr1 1) None ∷ []

selected_then_off : Leads WorldStep (IsAmong (9 ∷ [])) select_frames (lone_unit 0 0) (lone_unit 0 0)
unfolding select_frames
selected_then_off = (
  lone_unit 1 0,
  lone_unit 1 0,
  (
    lone_unit 1 0,
    lone_unit 1 0,
    (
      lone_unit 1 0,
      lone_unit 1 0,
      (lone_unit 0 0, lone_unit 1 0, Stays, hears_dtr1 0 0 1, Stays),
      tells_dtr1 1 0 9 refl,
      Stays,
    ),
    hears_dtr0 1 0 0,
    Stays,
  ),
  tells_dtr0 1 0 9 refl,
  Loses 9 (inl refl) Stays (loses_power 1 0),
)

six_lead : Leads WorldStep (IsAmong (9 ∷ [])) six_frames (lone_unit 0 0) (lone_unit 0 1)
unfolding select_frames
six_lead = (
  lone_unit 0 1,
  lone_unit 0 1,
  (lone_unit 0 0, lone_unit 0 1, selected_then_off, reads_bank_0, Stays),
  tells_dtr0 0 1 9 refl,
  Stays,
)

pub six_may_be : Run WorldStep (IsAmong (9 ∷ [])) six_frames (lone_unit 0 0) (lone_unit 0 1)
six_may_be = run_of six_frames (lone_unit 0 0) (lone_unit 0 1) six_lead

-- and bank 1 doesn't hold the byte at 00h: without the seventh frame it would be reported as read

its_byte : (gear : Gear) → Some (small_gear 0 1) ≡ Some gear → gear.memory 1 0 ≡ Some 0x77
its_byte gear is = let same : gear ≡ small_gear 0 1 = cc in ap (λ (g : Gear). g.memory 1 0) same

not_that : (now : Option ℕ) → now ≡ Some 0x77 → MayRelock (IsAmong (9 ∷ []) 9) 1 0 (Some 0x02) now → ⊥
not_that now holds (inl same) = omega (arith, same_byte 0x77 0x02 (sym holds ∙ same))
not_that now holds (inr relocks) = omega (arith, relocks.2)

pub six_show_nothing : Shows (IsAmong (9 ∷ [])) (lone_unit 0 1) 9 0 0x02 → ⊥
six_show_nothing shows = not_that (shows.gear.memory 1 0) (its_byte shows.gear shows.is) shows.byte_is
