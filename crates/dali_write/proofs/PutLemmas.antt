-- The changes that one frame may make, and the frames of a session that may be sent.
use Rattle.std.proofs.Common.{◌≡◌, ◌⊎◌, refl, sym, ap, subst, ◌∙◌, inl, inr, ℕ, false}
use Rattle.std.proofs.Common.{List, Option, Some, None, IsSome, is_some, Bool, true, arith}
use Rattle.std.specs.Prelude.{◌≢◌}
use Rattle.std.proofs.lemmas.Bool.{eqb-true}
use Rattle.dali_frame.specs.declared.forward.Frame.{Frame}
use Rattle.dali_frame.specs.declared.forward.Frame.TheVariants.{Write, Enable}
use Rattle.dali_bus.specs.World.{World, Gear, Memory, stored, byte_in}
use Rattle.dali_bus.specs.Hears.{IsIndicator}
use Rattle.dali_bus.specs.Power.{relocked, MayRelock}
use Rattle.dali_bus.specs.Carry.{Carry, MayHear, Heard}
use Rattle.dali_write.specs.Exchanges.{Exchange}
use Rattle.dali_write.specs.Worlds.{KeepsAt, Selects, OnlyEnabled, Written}
use Rattle.dali_write.specs.Touches.{Has, OldOrNew, Touches}
use Rattle.dali_write.proofs.GearLemmas.{end_steady, carry_stays, StaysAt, IsQuiet, same_byte, IsOff, memory_of}
use Rattle.dali_write.proofs.PowerLemmas.{relock_then, keeps_then, stays_keeps}
use Rattle.dali_write.proofs.TruthLemmas.{write_safe}
use Rattle.dali_write.proofs.RunLemmas.{Leads}
use Rattle.dali_bus.specs.Carry.{WorldStep}

-- The effect of one frame: every other unit keeps its memory and isn't newly enabled, and in this one each place is
-- old, or new by one of the writes, or the indicator byte
abbrev pub NowOldOrNew : List (ℕ × ℕ) → Option Gear → Option Gear → Type 0
NowOldOrNew writes first last =
    (bank location : ℕ) → (byte_in last bank location ≡ byte_in first bank location)
    ⊎ ((byte : ℕ) × (bank ≡ 1) × Has writes location byte × IsSome (byte_in first bank location)
    × (byte_in last bank location ≡ Some byte))
    ⊎ (IsIndicator bank location
    × (is_some (byte_in last bank location) ≡ is_some (byte_in first bank location)))

pub record Puts (writes : List (ℕ × ℕ)) (unit : ℕ) (first last : World) : Type 0 where
  pub others : (address : ℕ) → address ≢ unit → StaysAt first last address
  pub here : NowOldOrNew writes (first unit) (last unit)

pub kept_old : (writes : List (ℕ × ℕ)) (old new : Option Gear) → memory_of new ≡ memory_of old
    → NowOldOrNew writes old new
kept_old writes old new same = λ bank location. inl (same_byte old new same bank location)

-- storing a byte changes one place
stored_byte : (memory : Memory) (location byte bank place : ℕ)
    → (stored memory 1 location byte bank place ≡ memory bank place)
    ⊎ ((bank ≡ 1) × (place ≡ location) × (stored memory 1 location byte bank place ≡ Some byte))
stored_byte memory location byte bank place = grind (arith, eqb-true)

-- and no place appears or goes away by it, if it was there
stored_some : (memory : Memory) (location byte bank place : ℕ) → IsSome (memory 1 location)
    → is_some (stored memory 1 location byte bank place) ≡ is_some (memory bank place)
stored_some memory location byte bank place there = grind (arith, eqb-true)

-- if one of the writes was stored, each place is old or new
pub written_new : (writes : List (ℕ × ℕ)) (old new : Option Gear) (location byte : ℕ) → Has writes location byte
    → Written location byte (memory_of old) (memory_of new) → NowOldOrNew writes old new
written_new writes None new location byte has is = absurd is
written_new writes (Some old) None location byte has is = absurd is
written_new writes (Some old) (Some new) location byte has is = grind (arith, stored_byte, stored_some)

-- a place that is there was there
relocked_some : (o : Option ℕ) → IsSome (relocked o) → IsSome o
relocked_some None some = cc
relocked_some (Some byte) some = refl

was_there : {lost : Type 0} {bank location : ℕ} (first mid : Option ℕ) → MayRelock lost bank location first mid
    → IsSome mid → IsSome first
was_there first mid (inl same) some = subst (λ (o : Option ℕ). IsSome o) same some
was_there first mid (inr (lost, above, lock, is)) some = grind (arith, relocked_some)

-- a lock byte of a place that is there is FFh after a loss of power, whatever was written there
relocked_all : (first byte : Option ℕ) → IsSome first → IsSome byte → relocked byte ≡ relocked first
relocked_all None byte some there = cc
relocked_all (Some old) None some there = cc
relocked_all (Some old) (Some byte) some there = refl

-- a place is there after a loss of power if it was before
relock_there : {lost : Type 0} {bank location : ℕ} (first mid : Option ℕ) → MayRelock lost bank location first mid
    → is_some mid ≡ is_some first
relock_there first mid (inl same) = ap is_some same
relock_there None mid (inr (lost, above, lock, is)) = ap is_some is
relock_there (Some byte) mid (inr (lost, above, lock, is)) = ap is_some is

-- one change after another
old_or_new_then : {lost : Type 0} (writes : List (ℕ × ℕ)) (first mid last : Option Gear)
    → OldOrNew lost writes first mid → OldOrNew lost writes mid last → OldOrNew lost writes first last
old_or_new_then {lost} writes first mid last one two = λ bank location.
    by bank location (one bank location) (two bank location)
  where
    Changes : ℕ → ℕ → Option Gear → Option Gear → Type 0
    Changes bank location old new =
        MayRelock lost bank location (byte_in old bank location) (byte_in new bank location)
        ⊎ ((byte : ℕ) × (bank ≡ 1) × Has writes location byte × IsSome (byte_in old bank location)
        × (byte_in new bank location ≡ Some byte))
        ⊎ (IsIndicator bank location × (is_some (byte_in new bank location) ≡ is_some (byte_in old bank location)))

    by : (bank location : ℕ) → Changes bank location first mid → Changes bank location mid last
        → Changes bank location first last
    by bank location (inl old) (inl new) =
        inl (relock_then (byte_in first bank location) (byte_in mid bank location) (byte_in last bank location) old new)
    by bank location (inl old) (inr (inl new)) =
        inr (inl (
          new.0,
          new.1,
          new.2,
          was_there (byte_in first bank location) (byte_in mid bank location) old new.3,
          new.4,
        ))
    by bank location (inl old) (inr (inr new)) =
        inr (inr (new.0, new.1 ∙ relock_there (byte_in first bank location) (byte_in mid bank location) old))
    by bank location (inr (inl old)) (inl (inl same)) = inr (inl (old.0, old.1, old.2, old.3, same ∙ old.4))
    by bank location (inr (inl old)) (inl (inr (lost, above, lock, is))) =
        let there : IsSome (byte_in mid bank location) = subst (λ (o : Option ℕ). IsSome o) (sym old.4) refl in
        inl (inr (
          lost,
          above,
          lock,
          is ∙ relocked_all (byte_in first bank location) (byte_in mid bank location) old.3 there,
        ))
    by bank location (inr (inl old)) (inr (inl new)) = inr (inl (new.0, new.1, new.2, old.3, new.4))
    by bank location (inr (inl old)) (inr (inr new)) =
        inr (inr (new.0, new.1 ∙ ap is_some old.4 ∙ sym old.3))
    by bank location (inr (inr old)) (inl new) =
        inr (inr (old.0, relock_there (byte_in mid bank location) (byte_in last bank location) new ∙ old.1))
    by bank location (inr (inr old)) (inr (inl new)) =
        inr (inl (new.0, new.1, new.2, subst (λ (there : Bool). there ≡ true) old.1 new.3, new.4))
    by bank location (inr (inr old)) (inr (inr new)) = inr (inr (new.0, new.1 ∙ old.1))

-- one part of a run after another
pub touches_then : {loses : ℕ → Type 0} (writes : List (ℕ × ℕ)) (unit : ℕ) (first mid last : World)
    → Touches loses writes unit first mid → Touches loses writes unit mid last → Touches loses writes unit first last
touches_then writes unit first mid last one two = grind (arith, keeps_then, old_or_new_then)

-- if every unit keeps its memory, nothing is touched
pub keeps_touches : {loses : ℕ → Type 0} (writes : List (ℕ × ℕ)) (unit : ℕ) (first last : World)
    → ((address : ℕ) → KeepsAt loses first last address) → Touches loses writes unit first last
keeps_touches writes unit first last keeps = grind arith

-- what one frame did
pub puts_touch : {loses : ℕ → Type 0} (writes : List (ℕ × ℕ)) (unit : ℕ) (first last : World)
    → Puts writes unit first last → Touches loses writes unit first last
puts_touch writes unit first last puts = grind (arith, stays_keeps)

-- still no other unit is enabled
pub only_on : {loses : ℕ → Type 0} (writes : List (ℕ × ℕ)) (unit : ℕ) (first last : World) → OnlyEnabled unit first
    → Touches loses writes unit first last → OnlyEnabled unit last
only_on writes unit first last only touches = λ address other. (touches.others address other).off (only address other)

-- enabling a unit changes no memory
enable_memory : (at : ℕ) (old : Gear) (to : ℕ) (new : Gear) → Heard at old (Enable to) new → new.memory ≡ old.memory
enable_memory at old to new heard = grind (arith, end_steady)

-- the same of the unit at an address, if there is one
enable_here : (at : ℕ) (old : Option Gear) (to : ℕ) (new : Option Gear) → MayHear at old (Enable to) new
    → memory_of new ≡ memory_of old
enable_here at None to None hears = refl
enable_here at (Some old) to (Some new) (inl same) = ap (λ (g : Gear). Some g.memory) same
enable_here at (Some old) to (Some new) (inr heard) = ap Some (enable_memory at old to new heard)
enable_here at None to (Some new) hears = absurd hears
enable_here at (Some old) to None hears = absurd hears

-- a write enables no unit
write_off : (at : ℕ) (old : Gear) (byte : ℕ) (new : Gear) → old.enabled ≡ false → Heard at old (Write byte) new
    → new.enabled ≡ false
write_off at old byte new off heard = grind (arith, end_steady)

-- the same of the unit at an address, if there is one
pub write_off_here : (at : ℕ) (old : Option Gear) (byte : ℕ) (new : Option Gear) → MayHear at old (Write byte) new
    → IsOff old → IsOff new
write_off_here at None byte None hears off = off
write_off_here at (Some old) byte (Some new) (inl same) off = ap (λ (g : Gear). g.enabled) same ∙ off
write_off_here at (Some old) byte (Some new) (inr heard) off = write_off at old byte new off heard
write_off_here at None byte (Some new) hears off = absurd hears
write_off_here at (Some old) byte None hears off = absurd hears

-- a quiet frame puts nothing
pub quiet_puts : (writes : List (ℕ × ℕ)) (unit : ℕ) (before : World) (frame : Frame) (given : Option ℕ) (last : World)
    → ((address : ℕ) → IsQuiet address frame) → Carry before frame given last → Puts writes unit before last
quiet_puts writes unit before frame given last quiet carry =
    let stays : (address : ℕ) → StaysAt before last address =
    λ address. carry_stays before frame given last address (quiet address) carry in
    record {
      others = λ address other. stays address;
      here = kept_old writes (before unit) (last unit) (stays unit).memory;
    }

-- nor does one that enables this unit
pub enable_puts : (writes : List (ℕ × ℕ)) (unit : ℕ) (before : World) (given : Option ℕ) (last : World)
    → Carry before (Enable unit) given last → Puts writes unit before last
enable_puts writes unit before given last carry = grind (arith, carry_stays, kept_old, enable_here)

-- After these exchanges the frame may be sent: if no other unit is enabled, it touches only the places of the writes.
abbrev pub SafeNext : (ℕ → Type 0) → List (ℕ × ℕ) → ℕ → List Exchange → Frame → Type 0
SafeNext loses writes unit tried frame =
    (first before last : World) (answer : Option ℕ) → OnlyEnabled unit before
    → Leads WorldStep loses tried first before → Carry before frame answer last → Puts writes unit before last

-- one that enables this unit may always be sent
pub enable_safe : (loses : ℕ → Type 0) (writes : List (ℕ × ℕ)) (unit : ℕ) (tried : List Exchange)
    → SafeNext loses writes unit tried (Enable unit)
enable_safe loses writes unit tried first before last answer only run carry =
    grind (arith, carry_stays, kept_old, enable_here)

-- a guarded write of one of the writes
pub guarded_safe : (loses : ℕ → Type 0) (writes : List (ℕ × ℕ)) (unit location byte : ℕ) (tried : List Exchange)
    → Has writes location byte
    → Selects unit location tried
    → SafeNext loses writes unit tried (Write byte)
guarded_safe loses writes unit location byte tried has selects first before last answer only run carry =
    grind (arith, write_safe, write_off_here, kept_old, written_new)
