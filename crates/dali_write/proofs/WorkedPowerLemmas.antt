-- Losses of power near the edges: cases that a weaker definition would let through.
use Rattle.std.proofs.Common.{◌≡◌, ◌≢◌, inl, inr, refl, sym, ◌∙◌, ℕ, [], ◌∷◌, Option, arith}
use Rattle.dali_frame.specs.declared.forward.Frame.{Frame}
use Rattle.dali_bus.specs.World.{World}
use Rattle.dali_gear.specs.SimState.{SimState, SimCarry, SimPower, world_of}
use Rattle.dali_write.specs.Worlds.{IsAmong, Run}
use Rattle.dali_write.specs.WhenBlock.{AllBut}
use Rattle.dali_write.proofs.RunLemmas.{leads_of, shown_run}
use Rattle.dali_write.proofs.RunLemmas.{Drifts, Stays, Loses}
use Rattle.dali_bus.specs.Carry.{WorldStep, Carried, Powered}
use Rattle.dali_gear.specs.SimState.{SimStep}

-- if the unit at 5 alone loses its power, that at 6 stays as it is
other_than : (address : ℕ) → IsAmong (5 ∷ []) address → 6 ≢ address
other_than address (inl is) = λ same. omega (arith, is, same)
other_than address (inr none) = absurd none

fives_stay : (first last : World) → Drifts WorldStep (IsAmong (5 ∷ [])) first last → last 6 ≡ first 6
fives_stay first last Stays = refl
fives_stay first last (Loses {mid = mid} address of_these drifts lost) =
    lost.others 6 (other_than address of_these) ∙ fives_stay first mid drifts

pub others_stay : (first last : World) → Run WorldStep (IsAmong (5 ∷ [])) [] first last → last 6 ≡ first 6
others_stay first last run = fives_stay first last (leads_of [] first last run)

-- and the same on the simulated bus, where the unit may lose it before a frame and after it, and twice
pub simulated_others_stay : (first last : SimState) → Run SimStep (IsAmong (5 ∷ [])) [] first last
    → world_of last.units 6 ≡ world_of first.units 6
simulated_others_stay first last run =
    others_stay (world_of first.units) (world_of last.units) (shown_run (IsAmong (5 ∷ [])) [] first last run)

pub powered_before : (first mid last : SimState) (frame : Frame) (answer : Option ℕ) → SimPower first 5 mid
    → SimCarry mid frame answer last
    → Run SimStep (IsAmong (5 ∷ [])) (record { frame = frame; answer = answer } ∷ []) first last
powered_before first mid last frame answer lost carried =
    record {
      past = Carried frame answer ∷ Powered 5 ∷ [];
      told_is = refl;
      among = λ address has. has;
      chain = record { states = mid ∷ first ∷ []; steps = (carried, (lost, refl)) };
    }

pub powered_twice_after : (first mid then last : SimState) (frame : Frame) (answer : Option ℕ)
    → SimCarry first frame answer mid → SimPower mid 5 then → SimPower then 5 last
    → Run SimStep (IsAmong (5 ∷ [])) (record { frame = frame; answer = answer } ∷ []) first last
powered_twice_after first mid then last frame answer carried one two =
    record {
      past = Powered 5 ∷ Powered 5 ∷ Carried frame answer ∷ [];
      told_is = refl;
      among = λ address has. elim has [
        | inl five ↦ inl five
        | inr before ↦ before
      ];
      chain = record { states = then ∷ mid ∷ first ∷ []; steps = (two, (one, (carried, refl))) };
    }

-- while only others lose their power, the unit stays as it is
stays_as_it_is : (loses : ℕ → Type 0) (first last : World) → Drifts WorldStep (AllBut 6 loses) first last
    → last 6 ≡ first 6
stays_as_it_is loses first last Stays = refl
stays_as_it_is loses first last (Loses {mid = mid} address of_these drifts lost) =
    lost.others 6 (λ same. of_these.1 (sym same)) ∙ stays_as_it_is loses first mid drifts

pub keeps_its_power : (loses : ℕ → Type 0) (first last : World) → Run WorldStep (AllBut 6 loses) [] first last
    → last 6 ≡ first 6
keeps_its_power loses first last run = stays_as_it_is loses first last (leads_of [] first last run)
