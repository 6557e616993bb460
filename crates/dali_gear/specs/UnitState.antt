-- The state of a simulated unit, and the effect of each frame that it hears.
use Rattle.std.specs.Prelude.{ℕ, Bool, true, false, not, ◌&&◌, ◌||◌, ◌==◌, nat_lt, nat_le, List, [], ◌∷◌, replicate}
use Rattle.std.specs.Prelude.{length, slice_get, slice_index, slice_set, Option, Some, None, if◌then◌else◌}
use Rattle.std.specs.List.{list_any}
use Rattle.dali_frame.specs.declared.forward.Frame.{Frame}
use Rattle.dali_frame.specs.declared.forward.Frame.TheVariants.{Dtr0, Dtr1, Dtr2, Write, WriteSilent, Enable, AskDtr0}
use Rattle.dali_frame.specs.declared.forward.Frame.TheVariants.{AskDtr1, AskDtr2, Read, Other}
use Rattle.dali_bus.specs.Hears.{up}
use Rattle.dali_bus.specs.World.{Gear}

-- a memory bank: its bytes from location 00h on, and the locations that can't be written
pub record BankState : Type 0 where
  pub bytes : List ℕ
  pub fixed : List ℕ

-- a unit. A half pair is pending after the first of the two frames that enable it to be written
pub record UnitState : Type 0 where
  pub address : ℕ
  pub dtr0 : ℕ
  pub dtr1 : ℕ
  pub dtr2 : ℕ
  pub enabled : Bool
  pub half_pair : Bool
  pub bank1 : BankState
  pub bank2 : BankState

-- the location is the lock byte, or it is lockable, not fixed, and the lock byte is 55h
abbrev pub is_writable : BankState → ℕ → Bool
is_writable bank location =
    nat_lt location (length bank.bytes)
    && ((location == 2)
    || (nat_le 3 location && not (list_any (λ fixed. fixed == location) bank.fixed)
    && (slice_index bank.bytes 2 == 0x55)))

-- the bank with this byte at that location
abbrev pub with_byte : BankState → ℕ → ℕ → BankState
with_byte bank location byte = record bank { bytes = slice_set bank.bytes location byte }

-- a unit has bank 1 and bank 2
abbrev pub has_bank : ℕ → Bool
has_bank number = (number == 1) || (number == 2)

-- the bank with this number, of the two that it has
abbrev pub bank_of : UnitState → ℕ → BankState
bank_of unit number = if number == 1 then unit.bank1 else unit.bank2

-- the unit with this byte at the place that DTR1 and DTR0 name
abbrev pub with_stored : UnitState → ℕ → UnitState
with_stored unit byte =
    if unit.dtr1 == 1
    then record unit { bank1 = with_byte unit.bank1 unit.dtr0 byte }
    else record unit { bank2 = with_byte unit.bank2 unit.dtr0 byte }

-- it is write-enabled, and has the bank that DTR1 names
abbrev pub carries_out : UnitState → Bool
carries_out unit = unit.enabled && has_bank unit.dtr1

-- it stores the byte that is written, unless it is to refuse
abbrev pub stores : Bool → UnitState → Bool
stores refuses unit = carries_out unit && not refuses && is_writable (bank_of unit unit.dtr1) unit.dtr0

-- the byte at the place that DTR1 and DTR0 name, if it exists
abbrev pub selected_byte : UnitState → Option ℕ
selected_byte unit = if has_bank unit.dtr1 then slice_get (bank_of unit unit.dtr1).bytes unit.dtr0 else None

-- after a write: if it is carried out DTR0 moves on, whether or not the byte is stored
abbrev pub after_write : Bool → UnitState → ℕ → UnitState
after_write refuses unit byte =
    if carries_out unit
    then record (if stores refuses unit then with_stored unit byte else unit) { dtr0 = up unit.dtr0 }
    else unit

-- after a read: it isn't write-enabled, and if it has the bank DTR0 moves on
abbrev pub after_read : UnitState → UnitState
after_read unit =
    if has_bank unit.dtr1
    then record unit { enabled = false; dtr0 = up unit.dtr0 }
    else record unit { enabled = false }

-- after a frame of a pair: the second one enables it, the first one is half of a pair
abbrev pub after_enable : UnitState → UnitState
after_enable unit =
    if unit.half_pair then record unit { enabled = true; half_pair = false } else record unit { half_pair = true }

-- after a frame other than ENABLE WRITE MEMORY to this unit
abbrev pub after_other_frame : Bool → UnitState → Frame → UnitState
after_other_frame refuses unit (Dtr0 byte) = record unit { dtr0 = byte }
after_other_frame refuses unit (Dtr1 byte) = record unit { dtr1 = byte }
after_other_frame refuses unit (Dtr2 byte) = record unit { dtr2 = byte }
after_other_frame refuses unit (Write byte) = after_write refuses unit byte
after_other_frame refuses unit (WriteSilent byte) = after_write refuses unit byte
after_other_frame refuses unit (Read to) = if to == unit.address then after_read unit else unit
after_other_frame refuses unit (Other word) = record unit { enabled = false }
after_other_frame refuses unit other = unit

-- the frame is ENABLE WRITE MEMORY to this address
abbrev pub enables : ℕ → Frame → Bool
enables address (Enable to) = to == address
enables address _ = false

-- the unit after a frame that it hears: any but ENABLE WRITE MEMORY to it drops a half pair that is pending
abbrev pub after_frame : Bool → UnitState → Frame → UnitState
after_frame refuses unit frame =
    if enables unit.address frame
    then after_enable unit
    else after_other_frame refuses (record unit { half_pair = false }) frame

-- what the unit answers to a frame that it hears
abbrev pub answer_to : Bool → UnitState → Frame → Option ℕ
answer_to refuses unit (Write byte) = if stores refuses unit then Some byte else None
answer_to refuses unit (AskDtr0 to) = if to == unit.address then Some unit.dtr0 else None
answer_to refuses unit (AskDtr1 to) = if to == unit.address then Some unit.dtr1 else None
answer_to refuses unit (AskDtr2 to) = if to == unit.address then Some unit.dtr2 else None
answer_to refuses unit (Read to) = if to == unit.address then selected_byte unit else None
answer_to refuses unit _ = None

-- the unit as memory access sees it
abbrev pub gear_of : UnitState → Gear
gear_of unit =
    record {
      dtr0 = unit.dtr0;
      dtr1 = unit.dtr1;
      dtr2 = unit.dtr2;
      enabled = unit.enabled;
      memory = λ bank location. if has_bank bank then slice_get (bank_of unit bank).bytes location else None;
    }

-- the bank after power-up: its lock byte is FFh
abbrev pub locked_bank : BankState → BankState
locked_bank bank = with_byte bank 2 0xFF

-- the unit after it lost its power and got it back
abbrev pub powered_up : UnitState → UnitState
powered_up unit =
    record unit {
      dtr0 = 0;
      dtr1 = 0;
      dtr2 = 0;
      enabled = false;
      half_pair = false;
      bank1 = locked_bank unit.bank1;
      bank2 = locked_bank unit.bank2;
    }

-- a new unit with these bytes in bank 1. Bank 2 has 16 locations: 0Fh at 00h, and FFh at all others
abbrev pub new_unit : ℕ → List ℕ → List ℕ → UnitState
new_unit address bytes fixed =
    record {
      address = address;
      dtr0 = 0;
      dtr1 = 0;
      dtr2 = 0;
      enabled = false;
      half_pair = false;
      bank1 = record { bytes = bytes; fixed = fixed };
      bank2 = record { bytes = 0x0F ∷ replicate 15 0xFF; fixed = [] };
    }
