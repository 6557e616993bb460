-- The unit of the small worked world: what it may do.
use Rattle.std.proofs.Common.{◌≡◌, ◌≢◌, refl, ℕ, Bool, true, false, inl, inr, Option}
use Rattle.std.proofs.Common.{Some, None}
use Rattle.std.proofs.lemmas.Bool.{eqb-true, ne_eqb}
use Rattle.std.specs.Prelude.{◌==◌, if◌then◌else◌}
use Rattle.std.specs.Prelude.{IfSome}
use Rattle.dali_frame.specs.declared.forward.Frame.{Frame}
use Rattle.dali_frame.specs.declared.forward.Frame.TheVariants.{Dtr0, Dtr1, AskDtr0, AskDtr1, Read}
use Rattle.dali_bus.specs.World.{IfThere}
use Rattle.dali_bus.specs.Hears.{Hears}
use Rattle.dali_bus.specs.Carry.{Carry, MayHear, Answered}
use Rattle.dali_bus.specs.Power.{LosesPower, PowersUp}
use Rattle.dali_write.specs.LoneUnit.{small_gear, lone_unit}

-- the unit heard a frame
heard : (dtr1 dtr0 now1 now0 : ℕ) (frame : Frame) (answer : Option ℕ)
    → Hears 9 (small_gear dtr1 dtr0) frame answer (small_gear now1 now0)
    → Carry (lone_unit dtr1 dtr0) frame answer (lone_unit now1 now0)
heard dtr1 dtr0 now1 now0 frame answer hears =
    record { units = λ address. at (address == 9) address refl; answers = answered answer hears }
  where
    at : (here : Bool) (address : ℕ) → (address == 9) ≡ here
        → MayHear address (if here then Some (small_gear dtr1 dtr0) else None) frame
        (if here then Some (small_gear now1 now0) else None)
    at true address e = inr (answer, rw (eqb-true address 9 e) hears)
    at false address e = tt

    answered : (back : Option ℕ) → Hears 9 (small_gear dtr1 dtr0) frame back (small_gear now1 now0)
        → IfSome back (λ byte. Answered (lone_unit dtr1 dtr0) frame byte (lone_unit now1 now0))
    answered None hears = tt
    answered (Some byte) hears =
        record {
          address = 9;
          before = small_gear dtr1 dtr0;
          after = small_gear now1 now0;
          was = refl;
          is = refl;
          hears = hears;
        }

pub hears_dtr0 : (dtr1 dtr0 byte : ℕ) → Carry (lone_unit dtr1 dtr0) (Dtr0 byte) None (lone_unit dtr1 byte)
hears_dtr0 dtr1 dtr0 byte =
    heard dtr1 dtr0 dtr1 byte (Dtr0 byte) None
    (record { obeyed = small_gear dtr1 byte; obeys = (refl, refl); ends = inl refl })

pub hears_dtr1 : (dtr1 dtr0 byte : ℕ) → Carry (lone_unit dtr1 dtr0) (Dtr1 byte) None (lone_unit byte dtr0)
hears_dtr1 dtr1 dtr0 byte =
    heard dtr1 dtr0 byte dtr0 (Dtr1 byte) None
    (record { obeyed = small_gear byte dtr0; obeys = (refl, refl); ends = inl refl })

pub tells_dtr0 : (dtr1 dtr0 to : ℕ) → to ≡ 9
    → Carry (lone_unit dtr1 dtr0) (AskDtr0 to) (Some dtr0) (lone_unit dtr1 dtr0)
tells_dtr0 dtr1 dtr0 to mine =
    heard dtr1 dtr0 dtr1 dtr0 (AskDtr0 to) (Some dtr0)
    (record { obeyed = small_gear dtr1 dtr0; obeys = inl (mine, (refl, refl)); ends = inl refl })

pub tells_dtr1 : (dtr1 dtr0 to : ℕ) → to ≡ 9
    → Carry (lone_unit dtr1 dtr0) (AskDtr1 to) (Some dtr1) (lone_unit dtr1 dtr0)
tells_dtr1 dtr1 dtr0 to mine =
    heard dtr1 dtr0 dtr1 dtr0 (AskDtr1 to) (Some dtr1)
    (record { obeyed = small_gear dtr1 dtr0; obeys = inl (mine, (refl, refl)); ends = inl refl })

pub reads_bank_0 : Carry (lone_unit 0 0) (Read 9) (Some 0x02) (lone_unit 0 1)
reads_bank_0 =
    heard 0 0 0 1 (Read 9) (Some 0x02)
    (record { obeyed = small_gear 0 1; obeys = inl (refl, inl (refl, refl, refl)); ends = inl refl })

pub reads_bank_1 : Carry (lone_unit 1 0) (Read 9) (Some 0x77) (lone_unit 1 1)
reads_bank_1 =
    heard 1 0 1 1 (Read 9) (Some 0x77)
    (record { obeyed = small_gear 1 1; obeys = inl (refl, inl (refl, refl, refl)); ends = inl refl })

-- after power-up both registers are 0, and there is no lock byte
powers_up : (dtr1 dtr0 : ℕ) (here : Bool)
    → IfThere PowersUp (if here then Some (small_gear dtr1 dtr0) else None)
    (if here then Some (small_gear 0 0) else None)
powers_up dtr1 dtr0 true =
    record {
      dtr0 = refl;
      dtr1 = refl;
      dtr2 = refl;
      off = refl;
      lock = refl;
      other_locks = λ bank above. inr refl;
      rest = λ bank location free. refl;
    }
powers_up dtr1 dtr0 false = tt

pub loses_power : (dtr1 dtr0 : ℕ) → LosesPower (lone_unit dtr1 dtr0) 9 (lone_unit 0 0)
loses_power dtr1 dtr0 =
    record { there = powers_up dtr1 dtr0 true; others = λ other apart. rw (ne_eqb other 9 apart) refl }

pub keeps_power : (dtr1 dtr0 address : ℕ) → address ≢ 9
    → LosesPower (lone_unit dtr1 dtr0) address (lone_unit dtr1 dtr0)
keeps_power dtr1 dtr0 address other =
    record { there = rw (ne_eqb address 9 other) tt; others = λ other apart. refl }
