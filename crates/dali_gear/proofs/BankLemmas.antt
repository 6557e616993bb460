-- The bank 1 that frames leave.
use Rattle.std.proofs.Common.{◌≡◌, refl, sym, subst, ℕ, Bool, true, false, ◌&&◌, ◌||◌, not, ◌==◌, nat_lt, nat_le}
use Rattle.std.proofs.Common.{if◌then◌else◌, List, [], ◌∷◌, length, map, arith}
use Rattle.std.specs.Prelude.{slice_index, ⊤}
use Rattle.std.specs.List.{list_any}
use Rattle.std.specs.Cmp.{first_so, second_so}
use Rattle.std.proofs.lemmas.Bool.{eqb-true, leb-true}
use Rattle.std.proofs.lemmas.List.{length-set, get_or-set_other}
use Rattle.dali_frame.specs.declared.forward.Frame.{Frame}
use Rattle.dali_frame.specs.declared.forward.Frame.TheVariants.{Dtr0, Dtr1, Dtr2, Write, WriteSilent, Enable, AskDtr0}
use Rattle.dali_frame.specs.declared.forward.Frame.TheVariants.{AskDtr1, AskDtr2, Read, Other}
use Rattle.dali_gear.specs.declared.fate.Fate.{Fate}
use Rattle.dali_gear.specs.Fate.{is_lost}
use Rattle.dali_bus.specs.Hears.{up}
use Rattle.dali_gear.specs.Faults.{IsBank}
use Rattle.dali_gear.specs.UnitState.{BankState, UnitState, is_writable, with_byte, bank_of, has_bank, carries_out}
use Rattle.dali_gear.specs.UnitState.{stores, after_write, after_frame, powered_up}
use Rattle.dali_gear.specs.SimState.{AreBanks, unit_after, unit_powered}

-- the frame writes nothing
abbrev pub IsQuiet : Frame → Type 0
IsQuiet (Dtr0 b) = ⊤
IsQuiet (Dtr1 b) = ⊤
IsQuiet (Dtr2 b) = ⊤
IsQuiet (Write b) = ⊥
IsQuiet (WriteSilent b) = ⊥
IsQuiet (Enable to) = ⊤
IsQuiet (AskDtr0 to) = ⊤
IsQuiet (AskDtr1 to) = ⊤
IsQuiet (AskDtr2 to) = ⊤
IsQuiet (Read to) = ⊤
IsQuiet (Other w) = ⊤

enable_banks : (unit : UnitState) (mine half : Bool)
    → (if mine
    then (if half then record unit { enabled = true; half_pair = false } else record unit { half_pair = true })
    else record unit { half_pair = false }).bank1
    ≡ unit.bank1
enable_banks unit true true = refl
enable_banks unit true false = refl
enable_banks unit false half_pair = refl

read_banks : (unit : UnitState) (mine has : Bool) (dtr0 : ℕ)
    → (if mine
    then (if has then record unit { enabled = false; dtr0 = dtr0 } else record unit { enabled = false })
    else unit).bank1
    ≡ unit.bank1
read_banks unit true true dtr0 = refl
read_banks unit true false dtr0 = refl
read_banks unit false has dtr0 = refl

pub bank_stays : (refuses : Bool) (unit : UnitState) (frame : Frame) → IsQuiet frame
    → (after_frame refuses unit frame).bank1 ≡ unit.bank1
bank_stays refuses unit (Dtr0 b) quiet = refl
bank_stays refuses unit (Dtr1 b) quiet = refl
bank_stays refuses unit (Dtr2 b) quiet = refl
bank_stays refuses unit (Write b) quiet = absurd quiet
bank_stays refuses unit (WriteSilent b) quiet = absurd quiet
bank_stays refuses unit (Enable to) quiet = enable_banks unit (to == unit.address) unit.half_pair
bank_stays refuses unit (AskDtr0 to) quiet = refl
bank_stays refuses unit (AskDtr1 to) quiet = refl
bank_stays refuses unit (AskDtr2 to) quiet = refl
bank_stays refuses unit (Read to) quiet =
    read_banks (record unit { half_pair = false }) (to == unit.address) (has_bank unit.dtr1) _
bank_stays refuses unit (Other w) quiet = refl

writable_from : (bank : BankState) (location : ℕ) → is_writable bank location ≡ true → location ≡ 0 → ⊥
writable_from bank location can none = by (location == 2) refl (second_so (nat_lt location (length bank.bytes)) _ can)
  where
    by : (two : Bool) → (location == 2) ≡ two
        → (two
        || (nat_le 3 location && not (list_any (λ fixed. fixed == location) bank.fixed)
        && (slice_index bank.bytes 2 == 0x55)))
        ≡ true
        → ⊥
    by true e on = let is = eqb-true location 2 e in omega arith
    by false e on =
        let long =
        leb-true 3 location (first_so (nat_le 3 location) _
        (first_so (nat_le 3 location && not (list_any (λ fixed. fixed == location) bank.fixed)) _ on)) in
        omega arith

still_bank : (bank : BankState) (location byte : ℕ) → IsBank bank.bytes → (location ≡ 0 → ⊥)
    → IsBank (with_byte bank location byte).bytes
still_bank bank location byte is other =
    let long = length-set bank.bytes location byte in
    let first = get_or-set_other bank.bytes location 0 byte 0 (λ same. other (sym same)) in
    let least = is.least in
    let most = is.most in
    let last = is.last in
    record { least = omega arith; most = omega arith; last = omega arith }

write_bank : (unit : UnitState) (refuses : Bool) (byte : ℕ) → IsBank unit.bank1.bytes
    → IsBank (after_write refuses unit byte).bank1.bytes
write_bank unit refuses byte is = by (carries_out unit) (stores refuses unit) (unit.dtr1 == 1) refl refl
  where
    by : (on done one : Bool) → stores refuses unit ≡ done → (unit.dtr1 == 1) ≡ one
        → IsBank (if on
        then record (if done
        then (if one
        then record unit { bank1 = with_byte unit.bank1 unit.dtr0 byte }
        else record unit { bank2 = with_byte unit.bank2 unit.dtr0 byte })
        else unit) { dtr0 = up unit.dtr0 }
        else unit).bank1.bytes
    by false done one stored bank = is
    by true false one stored bank = is
    by true true false stored bank = is
    by true true true stored bank =
        let can : is_writable (bank_of unit unit.dtr1) unit.dtr0 ≡ true =
        second_so (carries_out unit && not refuses) (is_writable (bank_of unit unit.dtr1) unit.dtr0) stored in
        let here : is_writable unit.bank1 unit.dtr0 ≡ true = rw bank at can in
        still_bank unit.bank1 unit.dtr0 byte is (writable_from unit.bank1 unit.dtr0 here)

quiet_bank : (unit : UnitState) (refuses : Bool) (frame : Frame) → IsQuiet frame → IsBank unit.bank1.bytes
    → IsBank (after_frame refuses unit frame).bank1.bytes
quiet_bank unit refuses frame quiet is =
    subst (λ (b : BankState). IsBank b.bytes) (sym (bank_stays refuses unit frame quiet)) is

-- a unit that hears a frame still has a bank 1 that a unit may have
pub frame_bank : (unit : UnitState) (refuses : Bool) (frame : Frame) → IsBank unit.bank1.bytes
    → IsBank (after_frame refuses unit frame).bank1.bytes
frame_bank unit refuses (Dtr0 b) is = quiet_bank unit refuses (Dtr0 b) tt is
frame_bank unit refuses (Dtr1 b) is = quiet_bank unit refuses (Dtr1 b) tt is
frame_bank unit refuses (Dtr2 b) is = quiet_bank unit refuses (Dtr2 b) tt is
frame_bank unit refuses (Enable to) is = quiet_bank unit refuses (Enable to) tt is
frame_bank unit refuses (AskDtr0 to) is = quiet_bank unit refuses (AskDtr0 to) tt is
frame_bank unit refuses (AskDtr1 to) is = quiet_bank unit refuses (AskDtr1 to) tt is
frame_bank unit refuses (AskDtr2 to) is = quiet_bank unit refuses (AskDtr2 to) tt is
frame_bank unit refuses (Read to) is = quiet_bank unit refuses (Read to) tt is
frame_bank unit refuses (Other w) is = quiet_bank unit refuses (Other w) tt is
frame_bank unit refuses (Write b) is = write_bank (record unit { half_pair = false }) refuses b is
frame_bank unit refuses (WriteSilent b) is = write_bank (record unit { half_pair = false }) refuses b is

pub fate_bank : (fate : Fate) (frame : Frame) (unit : UnitState) → IsBank unit.bank1.bytes
    → IsBank (unit_after fate frame unit).bank1.bytes
fate_bank fate frame unit is = by (is_lost fate unit.address)
  where
    by : (lost : Bool) → IsBank (if lost then unit else after_frame fate.refuse unit frame).bank1.bytes
    by true = is
    by false = frame_bank unit fate.refuse frame is

-- and so has one that lost its power
pub power_bank : (address : ℕ) (unit : UnitState) → IsBank unit.bank1.bytes
    → IsBank (unit_powered address unit).bank1.bytes
power_bank address unit is = by (unit.address == address)
  where
    by : (here : Bool) → IsBank (if here then powered_up unit else unit).bank1.bytes
    by true = still_bank unit.bank1 2 0xFF is (λ same. omega (arith, same))
    by false = is

pub banks_after : (f : UnitState → UnitState)
    → ((unit : UnitState) → IsBank unit.bank1.bytes → IsBank (f unit).bank1.bytes)
    → (units : List UnitState) → AreBanks units → AreBanks (map f units)
banks_after f keeps [] are = tt
banks_after f keeps (unit ∷ units) are = (keeps unit are.0, banks_after f keeps units are.1)
