-- A bus that alters answers, near the edges: what it may do and what it may not.
use Rattle.std.proofs.Common.{◌≡◌, ◌∙◌, inl, refl, sym, ap, subst, ℕ, Bool, true, false, Option, Some, None, arith}
use Rattle.std.specs.Prelude.{is_some}
use Rattle.dali_frame.specs.declared.forward.Frame.{Frame}
use Rattle.dali_frame.specs.declared.forward.Frame.TheVariants.{Dtr0, AskDtr0, AskDtr1, Read, Write}
use Rattle.dali_bus.specs.World.{World, Gear}
use Rattle.dali_bus.specs.WorkedFrames.{small, pair}
use Rattle.dali_bus.specs.Carry.{Carry, MayHear}
use Rattle.dali_write.specs.Noise.{Noisy, NoisyCarry}
use Rattle.dali_write.proofs.GearLemmas.{asked0, dtr0_in, end_steady}
use Rattle.dali_write.proofs.NoiseLemmas.{question_dtr0}

-- a unit at 5, whose DTR0 is 3, and one at 6
abbrev units : World
units = pair (small true) (small false)

abbrev nobody : World
nobody address = None

abbrev at : World → Bool → Noisy
at world unset = record { world = world; unset = unset }

stays : (address : ℕ) (gear : Option Gear) (frame : Frame) → MayHear address gear frame gear
stays address None frame = tt
stays address (Some gear) frame = inl refl

nothing_heard : (world : World) (frame : Frame) → Carry world frame None world
nothing_heard world frame = record { units = λ address. stays address (world address) frame; answers = tt }

-- the unit tells 3, and 4 comes back
tells : Carry units (AskDtr0 5) (Some 3) units
tells =
    record {
      units = λ address. stays address (units address) (AskDtr0 5);
      answers = record {
        address = 5;
        before = small true;
        after = small true;
        was = refl;
        is = refl;
        hears = record { obeyed = small true; obeys = inl (refl, (refl, refl)); ends = inl refl };
      };
    }

pub another_byte_comes : NoisyCarry false 5 (at units false) (AskDtr0 5) (Some 4) (at units false)
another_byte_comes =
    record {
      given = Some 3;
      carries = tells;
      altered = λ made_up accesses. absurd accesses;
      unaltered = λ unset. cc;
      settled = λ set. tt;
    }

differ : (dtr0 : Option ℕ) → dtr0 ≡ Some 4 → dtr0 ≡ Some 3 → ⊥
differ dtr0 four three = cc

-- but not just after a setting that the unit didn't hear
pub not_behind_a_missed_setting : (made : Bool) (new : Noisy)
    → NoisyCarry made 5 (at units true) (AskDtr0 5) (Some 4) new → ⊥
not_behind_a_missed_setting made new c =
    let carry : Carry units (AskDtr0 5) (Some 4) new.world =
    subst (λ (a : Option ℕ). Carry units (AskDtr0 5) a new.world) (sym (c.unaltered refl)) c.carries in
    let four = asked0 units 5 4 new.world carry in
    let three = question_dtr0 5 (units 5) (AskDtr0 5) (new.world 5) tt (carry.units 5) in
    differ (dtr0_in (new.world 5)) four three

-- a setting that the unit doesn't hear is such a one
pub missed_setting : (made : Bool) → NoisyCarry made 5 (at units false) (Dtr0 4) None (at units true)
missed_setting made =
    record {
      given = None;
      carries = nothing_heard units (Dtr0 4);
      altered = λ made_up accesses. refl;
      unaltered = λ unset. refl;
      settled = λ set. cc;
    }

pub missed_setting_counts : (made unset : Bool) → NoisyCarry made 5 (at units unset) (Dtr0 4) None (at units false) → ⊥
missed_setting_counts made unset c =
    let h = (c.settled refl).1 in
    let four : 3 ≡ 4 = (end_steady h.obeyed (small true) h.ends).dtr0 ∙ ap (λ (g : Gear). g.dtr0) h.obeys.0 in
    let never : ⊥ = omega (arith, four) in
    absurd never

-- a question about DTR1 doesn't settle it, one about DTR0 does
pub not_settled_by_dtr1 : (made : Bool) (answer : Option ℕ) (world : World)
    → NoisyCarry made 5 (at units true) (AskDtr1 5) answer (at world false) → ⊥
not_settled_by_dtr1 made answer world c = let never = c.settled refl in cc

pub settled_by_dtr0 : (made : Bool) → NoisyCarry made 5 (at units true) (AskDtr0 5) (Some 3) (at units false)
settled_by_dtr0 made =
    record {
      given = Some 3;
      carries = tells;
      altered = λ made_up accesses. refl;
      unaltered = λ unset. refl;
      settled = λ set. tt;
    }

-- if no unit is there, a byte may come back to a question
pub made_up_answer : NoisyCarry false 5 (at nobody false) (AskDtr0 7) (Some 4) (at nobody false)
made_up_answer =
    record {
      given = None;
      carries = nothing_heard nobody (AskDtr0 7);
      altered = λ made_up accesses. absurd accesses;
      unaltered = λ unset. cc;
      settled = λ set. tt;
    }

-- and to a write only if bytes may be made up
pub made_up_write : NoisyCarry true 5 (at nobody false) (Write 9) (Some 9) (at nobody false)
made_up_write =
    record {
      given = None;
      carries = nothing_heard nobody (Write 9);
      altered = λ made_up accesses. cc;
      unaltered = λ unset. cc;
      settled = λ set. tt;
    }

none_given : (frame : Frame) (given : Option ℕ) (new : World) → is_some {T = ℕ} (Some 9) ≡ is_some given
    → Carry nobody frame given new → ⊥
none_given frame None new altered carry = cc
none_given frame (Some v) new altered carry = let was = carry.answers.was in cc

pub no_made_up_write : (unset : Bool) (new : Noisy) → NoisyCarry false 5 (at nobody unset) (Write 9) (Some 9) new → ⊥
no_made_up_write unset new c = none_given (Write 9) c.given new.world (c.altered refl tt) c.carries

pub no_made_up_read : (unset : Bool) (new : Noisy) → NoisyCarry false 5 (at nobody unset) (Read 7) (Some 9) new → ⊥
no_made_up_read unset new c = none_given (Read 7) c.given new.world (c.altered refl tt) c.carries
