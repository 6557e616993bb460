-- How sessions end on the simulated bus if little is lost.
use Rattle.std.specs.Prelude.{◌≡◌, ◌⊎◌, ℕ, ◌<◌, ◌≤◌, ◌==◌, Bool, false, ◌&&◌, nat_lt, List, [], ◌∷◌, length}
use Rattle.std.specs.Prelude.{slice_index, if◌then◌else◌}
use Rattle.std.specs.List.{list_any, AllByRecursion}
use Rattle.dali_gear.specs.UnitState.{BankState, UnitState}
use Rattle.dali_gear.specs.SimState.{SimState, SimStep}
use Rattle.dali_write.specs.Exchanges.{Exchange}
use Rattle.dali_write.specs.declared.ask.Verdict.{Verdict}
use Rattle.dali_write.specs.declared.ask.Verdict.TheVariants.{MayOpen, Short, Format}
use Rattle.dali_write.specs.Plans.{greatest}
use Rattle.dali_write.specs.Tries.{most_tries}
use Rattle.dali_write.specs.Losses.{losses, Unrefused, IsAlone}
use Rattle.dali_write.specs.Worlds.{Run}
use Rattle.dali_write.specs.Misses.{misses_in}

-- the location isn't fixed
abbrev pub IsFree : BankState → ℕ → Type 0
IsFree bank location = list_any (λ fixed. fixed == location) bank.fixed ≡ false

-- the bank has the location, past the lock byte, and it isn't fixed
abbrev pub MayStoreAt : BankState → ℕ → Type 0
MayStoreAt bank location = (3 ≤ location) × (location < length bank.bytes) × IsFree bank location

-- and so it is of each update
abbrev pub TakesAll : BankState → List (ℕ × ℕ) → Type 0
TakesAll bank updates = AllByRecursion (λ update. MayStoreAt bank update.0) updates

-- a unit at the address has this bank 1
abbrev pub HasBank : ℕ → BankState → List UnitState → Type 0
HasBank address bank [] = ⊥
HasBank address bank (unit ∷ units) = ((unit.address ≡ address) × (unit.bank1 ≡ bank)) ⊎ HasBank address bank units

-- the content format 0003h
abbrev pub has_format : List ℕ → Bool
has_format bytes = (slice_index bytes 0x11 == 0x00) && (slice_index bytes 0x12 == 0x03)

-- Of three values the one for an order of these updates, if bank 1 has these bytes: the first if it ends before the
-- greatest location, the second if an update is at 13h or above and the content format isn't 0003h, else the third.
abbrev pub by_bank : {A : Type 0} → A → A → A → List ℕ → List (ℕ × ℕ) → A
by_bank short format suits bytes updates =
    if nat_lt (slice_index bytes 0) (greatest updates) then short
    else (if nat_lt (greatest updates) 0x13 then suits else (if has_format bytes then suits else format))

-- what a fresh session finds
abbrev pub found_verdict : List ℕ → List (ℕ × ℕ) → Verdict
found_verdict bytes updates = by_bank Short Format MayOpen bytes updates

-- Along the simulated bus, where units of these addresses may lose their power, from a unit that is alone at its
-- address and keeps its power: no fate refuses, and it loses less than an access has tries.
pub record Spared (loses : ℕ → Type 0) (at : ℕ) (unit : UnitState) (told : List Exchange) (first last : SimState)
    : Type 0 where
  pub run : Run SimStep loses told first last
  pub keeps_power : loses at → ⊥
  pub alone : IsAlone at unit first.units
  pub kind : Unrefused run.past run.chain.states
  pub few : losses at run.past run.chain.states < most_tries

-- it missed no more often than it lost
abbrev pub MissesByLosses : (loses : ℕ → Type 0) (at : ℕ) (unit : UnitState) (told : List Exchange)
    (first last : SimState)
    → Spared loses at unit told first last → Type 0
MissesByLosses loses at unit told first last spared =
    misses_in told ≤ losses at spared.run.past spared.run.chain.states
