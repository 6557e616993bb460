-- A unit that tells that DTR1 is 01h kept its power since DTR1 was set.
use Rattle.std.proofs.Common.{◌≡◌, sym, ap, subst, ◌∙◌, inl, inr, ℕ, List, [], ◌∷◌, Option, Some, None}
use Rattle.std.specs.Prelude.{⊤}
use Rattle.dali_frame.specs.declared.forward.Frame.{Frame}
use Rattle.dali_bus.specs.Power.{PowersUp}
use Rattle.dali_bus.specs.World.{World, Gear, IfThere}
use Rattle.dali_write.specs.Exchanges.{Exchange}
use Rattle.dali_write.specs.WhenBlock.{AllBut}
use Rattle.dali_write.proofs.GearLemmas.{LeavesDtr1, carry_dtr1, dtr1_in}
use Rattle.dali_write.proofs.TruthLemmas.{same_or_not}
use Rattle.dali_write.proofs.RunLemmas.{Leads, Drifts, Stays, Loses}
use Rattle.dali_bus.specs.Carry.{WorldStep}

-- a unit that lost its power has not bank 1 selected
gone : (old new : Option Gear) → IfThere PowersUp old new → dtr1_in new ≡ Some 1 → ⊥
gone None None powers bank = cc
gone (Some old) (Some new) powers bank = let zero = powers.dtr1 in let one : new.dtr1 ≡ 1 = cc in cc
gone None (Some new) powers bank = absurd powers
gone (Some old) None powers bank = absurd powers

-- so one that has it selected lost none, and had it selected before
drifts_apart : {loses : ℕ → Type 0} (unit : ℕ) (first last : World) → Drifts WorldStep loses first last
    → dtr1_in (last unit) ≡ Some 1 → Drifts WorldStep (AllBut unit loses) first last × (dtr1_in (first unit) ≡ Some 1)
drifts_apart unit first last Stays bank = (Stays, bank)
drifts_apart unit first last (Loses {mid = mid} at of_these drifts lost) bank = elim (same_or_not at unit) [
  | inl same ↦ absurd (gone (mid unit) (last unit)
      (subst (λ (a : ℕ). IfThere PowersUp (mid a) (last a)) same lost.there) bank)
  | inr other ↦
      let still = lost.others unit (λ e. other (sym e)) in
      let earlier = drifts_apart unit first mid drifts (sym (ap dtr1_in still) ∙ bank) in
      (Loses at (of_these, other) earlier.0 lost, earlier.1)
]

-- none of the frames sets DTR1
abbrev pub AllLeave : List Exchange → Type 0
AllLeave [] = ⊤
AllLeave (x ∷ told) = LeavesDtr1 x.frame × AllLeave told

pub kept_on : (loses : ℕ → Type 0) (unit : ℕ) (told : List Exchange) (first last : World) → AllLeave told
    → Leads WorldStep loses told first last → dtr1_in (last unit) ≡ Some 1
    → Leads WorldStep (AllBut unit loses) told first last × (dtr1_in (first unit) ≡ Some 1)
kept_on loses unit [] first last leaves run bank = drifts_apart unit first last run bank
kept_on loses unit (x ∷ told) first last leaves run bank =
    let after = drifts_apart unit run.1 last run.4 bank in
    let before = sym (carry_dtr1 run.0 x.frame x.answer run.1 leaves.0 run.3 unit) ∙ after.1 in
    let rest = kept_on loses unit told first run.0 leaves.1 run.2 before in
    ((run.0, run.1, rest.0, run.3, after.0), rest.1)

pub leaves : (x : Exchange) (frame : Frame) → x.frame ≡ frame → LeavesDtr1 frame → LeavesDtr1 x.frame
leaves x frame is so = subst LeavesDtr1 (sym is) so
