-- The effects that a frame of addresses may have on a unit that hears it, and its answers (IEC 62386-102: special
-- commands).
--
-- Everything not named stays as it is. A frame that counts only if it comes twice may count or not, each time: so a
-- lost half of a pair, or one that comes too late, needs no row. The initialisation state may end at any moment, by its
-- timer or by a loss of power.
use Rattle.std.specs.Prelude.{◌≡◌, ◌≢◌, ◌≤◌, ℕ, ◌⊎◌, Option, Some, None, IsNone}
use Rattle.dali_bus.specs.Hears.{MayEnd}
use Rattle.dali_bus.specs.Power.{PowersUp}
use Rattle.dali_address.specs.Calls.{short_byte}
use Rattle.dali_address.specs.Units.{Three, number_of, Disabled, Enabled, Withdrawn, Member}
use Rattle.dali_address.specs.declared.call.Call.{Call}
use Rattle.dali_address.specs.declared.call.Call.TheVariants.{Terminate, InitialiseAll, InitialiseMissing, InitialiseAt}
use Rattle.dali_address.specs.declared.call.Call.TheVariants.{Randomise, Compare, Withdraw, SearchHigh, SearchMiddle}
use Rattle.dali_address.specs.declared.call.Call.TheVariants.{SearchLow, Program, Remove, AskShort, AskMissing}
use Rattle.dali_address.specs.declared.call.Call.TheVariants.{AskPresent, AskRandomHigh, AskRandomMiddle, AskRandomLow}

-- it is in the initialisation state, withdrawn or not
abbrev pub IsActive : Member → Type 0
IsActive member = member.phase ≢ Disabled

-- it is in the initialisation state, and its random address is its search address
abbrev pub IsChosen : Member → Type 0
IsChosen member = IsActive member × (member.random ≡ member.search)

-- it stays as it was, or this applies to it and it changes so
abbrev pub MayBecome : Type 0 → Member → Member → Option ℕ → Member → Type 0
MayBecome applies changed old answer new = ((new ≡ old) ⊎ (applies × (new ≡ changed))) × (answer ≡ None)

-- it stays as it was, and answers the byte exactly if this applies to it
abbrev pub Tells : Type 0 → ℕ → Member → Option ℕ → Member → Type 0
Tells applies byte old answer new =
    (new ≡ old) × ((applies × (answer ≡ Some byte)) ⊎ ((applies → ⊥) × (answer ≡ None)))

-- a byte of the search address changes, or the unit isn't in the initialisation state and it stays
abbrev pub Seeks : Three → Member → Option ℕ → Member → Type 0
Seeks search old answer new =
    ((new ≡ record old { search = search }) ⊎ ((old.phase ≡ Disabled) × (new ≡ old))) × (answer ≡ None)

-- the answer that tells a short address: MASK if there is none
abbrev pub told_short : Option ℕ → ℕ
told_short None = 0xFF
told_short (Some short) = short_byte short

-- what the unit may do with the frame
abbrev pub Does : Member → Call → Option ℕ → Member → Type 0
Does old Terminate answer new = (new ≡ record old { phase = Disabled }) × (answer ≡ None)
Does old InitialiseAll answer new = MayBecome (Unit {0}) (record old { phase = Enabled }) old answer new
Does old InitialiseMissing answer new =
    MayBecome (IsNone old.short) (record old { phase = Enabled }) old answer new
Does old (InitialiseAt short) answer new =
    MayBecome (old.short ≡ Some short) (record old { phase = Enabled }) old answer new
Does old Randomise answer new =
    (random : Three) × MayBecome (IsActive old) (record old { random = random }) old answer new
Does old Compare answer new =
    Tells ((old.phase ≡ Enabled) × (number_of old.random ≤ number_of old.search)) 0xFF old answer new
Does old Withdraw answer new =
    MayBecome ((old.phase ≡ Enabled) × (old.random ≡ old.search)) (record old { phase = Withdrawn }) old answer new
Does old (SearchHigh byte) answer new = Seeks (record old.search { high = byte }) old answer new
Does old (SearchMiddle byte) answer new = Seeks (record old.search { middle = byte }) old answer new
Does old (SearchLow byte) answer new = Seeks (record old.search { low = byte }) old answer new
Does old (Program short) answer new =
    MayBecome (IsChosen old) (record old { short = Some short }) old answer new
Does old Remove answer new = MayBecome (IsChosen old) (record old { short = None }) old answer new
Does old AskShort answer new = Tells (IsChosen old) (told_short old.short) old answer new
Does old AskMissing answer new = Tells (IsNone old.short) 0xFF old answer new
Does old (AskPresent short) answer new = Tells (old.short ≡ Some short) 0xFF old answer new
Does old (AskRandomHigh short) answer new = Tells (old.short ≡ Some short) old.random.high old answer new
Does old (AskRandomMiddle short) answer new = Tells (old.short ≡ Some short) old.random.middle old answer new
Does old (AskRandomLow short) answer new = Tells (old.short ≡ Some short) old.random.low old answer new

-- what may happen to a unit at any moment: the initialisation state ends, its search address too at a loss of power;
-- its write enable ends. None of these frames stores a byte or enables
pub record Passes (old new : Member) : Type 0 where
  pub short : new.short ≡ old.short
  pub random : new.random ≡ old.random
  pub phase : (new.phase ≡ Disabled) ⊎ ((new.phase ≡ old.phase) × (new.search ≡ old.search))
  pub gear : MayEnd old.gear new.gear ⊎ PowersUp old.gear new.gear

-- the unit, having heard the frame, may give this answer and then be so
pub record Obeys (old : Member) (call : Call) (answer : Option ℕ) (new : Member) : Type 0 where
  pub obeyed : Member
  pub does : Does old call answer obeyed
  pub passes : Passes obeyed new
