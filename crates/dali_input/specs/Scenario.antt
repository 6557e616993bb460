-- The contents of a scenario file.
use Rattle.std.specs.Prelude.{◌≡◌, ◌↔◌, ◌≤◌, ◌^◌, ◌-◌, ℕ, List, [], ◌∷◌, Bool, true, false, Some, Ok, codes, length}
use Rattle.std.specs.Prelude.{map}
use Rattle.std.specs.Int.{bit_at}
use Rattle.std.specs.List.{Contains, sum_by}
use Rattle.serde_json.specs.Data.{Data}
use Rattle.serde_json.specs.Find.{get, as_bool, as_str}
use Rattle.serde_json.specs.View.{view}
use Rattle.hex.specs.Hex.{decode_of}
use Rattle.dali_bank.specs.Blank.{blank_bank}
use Rattle.dali_input.specs.declared.scenario.UnitPlan.{UnitPlan}
use Rattle.dali_input.specs.declared.scenario.FatePlan.{FatePlan}
use Rattle.dali_input.specs.declared.scenario.EventPlan.{EventPlan}
use Rattle.dali_input.specs.declared.scenario.EventPlan.TheVariants.{Submit, Steps, Stop, Power}
use Rattle.dali_input.specs.declared.scenario.Scenario.{Scenario}
use Rattle.dali_write.specs.declared.pace.Pace.{Pace}
use Rattle.dali_write.specs.declared.pace.Pace.TheVariants.{Checked, Short}
use Rattle.dali_input.specs.Values.{IsWhole, IsArrayOf, IsRequired, IsOptional, has_only_keys}

-- the most events and fates of a scenario, when each is counted as often as it stands for
abbrev pub most_events : ℕ
most_events = 20000

-- ---- units

-- a unit: its short address, the bytes of its bank 1 and the fixed locations there, and DTR0, DTR1 and DTR2
pub record PlannedUnit : Type 0 where
  pub address : ℕ
  pub bank : List ℕ
  pub fixed : List ℕ
  pub dtrs : ℕ × ℕ × ℕ

-- a string of at most 512 hexadecimal digits in either case, two for each byte
pub record IsBankText (json : Data) (bytes : List ℕ) : Type 0 where
  pub text : List ℕ
  pub is_string : as_str json ≡ Some text
  pub few : length text ≤ 512
  pub spelled : decode_of text ≡ Ok bytes

abbrev pub AreBytes : Data → List ℕ → Type 0
AreBytes json bytes = IsArrayOf (IsWhole 0 255) json bytes

-- three bytes
abbrev pub AreDtrs : Data → ℕ × ℕ × ℕ → Type 0
AreDtrs json dtrs = AreBytes json (dtrs.0 ∷ dtrs.1 ∷ dtrs.2 ∷ [])

pub record IsUnit (json : Data) (unit : PlannedUnit) : Type 0 where
  pub keys : has_only_keys (codes "address" ∷ codes "bank" ∷ codes "fixed" ∷ codes "dtr" ∷ []) json ≡ true
  pub address : IsRequired (IsWhole 0 255) (get (codes "address") json) unit.address
  pub bank : IsOptional IsBankText blank_bank (get (codes "bank") json) unit.bank
  pub fixed : IsOptional AreBytes [] (get (codes "fixed") json) unit.fixed
  pub dtrs : IsOptional AreDtrs (0, 0, 0) (get (codes "dtr") json) unit.dtrs

-- ---- fates

-- an array of short addresses, in any order: the bits of the number are these
pub record AreLost (json : Data) (lost : ℕ) : Type 0 where
  pub addresses : List ℕ
  pub array : IsArrayOf (IsWhole 0 63) json addresses
  pub bits : (address : ℕ) → (bit_at lost address ≡ 1) ↔ Contains addresses address

abbrev pub IsBoolean : Data → Bool → Type 0
IsBoolean json answer = as_bool json ≡ Some answer

-- a fate, and how many frames in a row have it
pub record IsFate (json : Data) (plan : FatePlan) : Type 0 where
  pub keys : has_only_keys (codes "times" ∷ codes "lost" ∷ codes "answer_lost" ∷ codes "refuse" ∷ []) json ≡ true
  pub times : IsOptional (IsWhole 1 most_events) 1 (get (codes "times") json) plan.times
  pub lost : IsOptional AreLost 0 (get (codes "lost") json) plan.fate.lost
  pub answer_lost : IsOptional IsBoolean false (get (codes "answer_lost") json) plan.fate.answer_lost
  pub refuse : IsOptional IsBoolean false (get (codes "refuse") json) plan.fate.refuse

-- ---- events

-- an order is submitted, whatever it is, at a moment; this many steps are made; the program stops, and this many bytes
-- of a record reach the journal; or the unit at an address loses its power
pub data PlannedEvent : Type 0 where
  submit : Data → ℕ → PlannedEvent
  steps : ℕ → PlannedEvent
  stop : ℕ → PlannedEvent
  power : ℕ → PlannedEvent

-- the greatest moment
abbrev pub most_moment : ℕ
most_moment = 2 ^ 64 - 1

-- an object with one key; an order may have its moment beside it, which is 0 if it is missing
abbrev pub IsEvent : Data → PlannedEvent → Type 0
IsEvent json (submit order moment) =
    (has_only_keys (codes "submit" ∷ codes "moment" ∷ []) json ≡ true) × (get (codes "submit") json ≡ Some order)
    × IsOptional (IsWhole 0 most_moment) 0 (get (codes "moment") json) moment
IsEvent json (steps count) = (has_only_keys (codes "steps" ∷ []) json ≡ true)
    × IsRequired (IsWhole 1 most_events) (get (codes "steps") json) count
IsEvent json (stop bytes) = (has_only_keys (codes "stop" ∷ []) json ≡ true)
    × IsRequired (IsWhole 0 65535) (get (codes "stop") json) bytes
IsEvent json (power address) = (has_only_keys (codes "power" ∷ []) json ≡ true)
    × IsRequired (IsWhole 0 63) (get (codes "power") json) address

-- ---- the whole

-- the name of a plan
abbrev pub IsPlan : Data → Pace → Type 0
IsPlan json Checked = as_str json ≡ Some (codes "checked")
IsPlan json Short = as_str json ≡ Some (codes "short")

pub record Planned : Type 0 where
  pub limit : ℕ
  pub pace : Pace
  pub units : List PlannedUnit
  pub fates : List FatePlan
  pub events : List PlannedEvent

pub record IsScenario (json : Data) (planned : Planned) : Type 0 where
  pub keys : has_only_keys
      (codes "limit" ∷ codes "plan" ∷ codes "units" ∷ codes "fates" ∷ codes "events" ∷ []) json ≡ true
  pub limit : IsRequired (IsWhole 0 (2 ^ 64 - 1)) (get (codes "limit") json) planned.limit
  pub pace : IsOptional IsPlan Checked (get (codes "plan") json) planned.pace
  pub units : IsRequired (IsArrayOf IsUnit) (get (codes "units") json) planned.units
  pub fates : IsOptional (IsArrayOf IsFate) [] (get (codes "fates") json) planned.fates
  pub events : IsRequired (IsArrayOf IsEvent) (get (codes "events") json) planned.events

-- how many events an event stands for
abbrev pub event_count : PlannedEvent → ℕ
event_count (submit order moment) = 1
event_count (steps count) = count
event_count (stop bytes) = 1
event_count (power address) = 1

-- there are no more events and fates than there may be
pub record IsSmall (planned : Planned) : Type 0 where
  pub events : sum_by event_count planned.events ≤ most_events
  pub fates : sum_by (λ plan. plan.times) planned.fates ≤ most_events

-- ---- the same, of what a scenario holds

abbrev pub unit_planned : UnitPlan → PlannedUnit
unit_planned plan =
    record { address = plan.address; bank = plan.bank.items; fixed = plan.fixed.items; dtrs = plan.dtrs }

abbrev pub event_of : EventPlan → PlannedEvent
event_of (Submit order moment) = submit (view order.now) moment
event_of (Steps count) = steps count
event_of (Stop bytes) = stop bytes
event_of (Power address) = power address

abbrev pub planned_of : Scenario → Planned
planned_of scenario = record {
  limit = scenario.limit;
  pace = scenario.pace;
  units = map unit_planned scenario.units.items;
  fates = scenario.fates.items;
  events = map event_of scenario.events.items;
}
