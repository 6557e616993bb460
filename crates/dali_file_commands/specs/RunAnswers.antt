-- The answers of `run`, and what it writes, and the way of a scenario to it: read, understood, set up, run, printed.
use Rattle.std.specs.Prelude.{◌≡◌, ◌⊎◌, ℕ, List, Bool, length, ⊤}
use Rattle.serde_json.specs.Data.{Data}
use Rattle.dali_gear.specs.declared.fate.Fate.{Fate}
use Rattle.dali_gear.specs.SimState.{SimState, world_of}
use Rattle.dali_gear.specs.UnitState.{UnitState}
use Rattle.dali_bus.specs.Unenabled.{NoneEnabled}
use Rattle.dali_journal.specs.JournalState.{IsLimit}
use Rattle.dali_trace.specs.declared.fault.RunFault.TheVariants.{Limit, NoMemory}
use Rattle.dali_trace.specs.declared.happening.Event.{Event}
use Rattle.dali_trace.specs.declared.happening.Happening.{Happening}
use Rattle.dali_trace.specs.Spared.{IsSimRun}
use Rattle.dali_text.specs.RunText.{run_text}
use Rattle.dali_input.specs.Input.{InputState, IsJson, IsNoJson, IsReadFailure, ReadsInput}
use Rattle.dali_input.specs.declared.fault.InputFault.{InputFault}
use Rattle.dali_input.specs.Scenario.{IsScenario, Planned}
use Rattle.dali_input.specs.Setup.{IsSetUp, IsSetupRefused}
use Rattle.dali_input.specs.Values.{IsNoReading}
use Rattle.dali_input.specs.declared.command_fault.Fault.{Fault}
use Rattle.dali_input.specs.declared.command_fault.Fault.TheVariants.{Input, Unit, SameAddress, Order, Run, Journal, Drive, Older}
use Rattle.dali_input.specs.declared.command_fault.Status.{Status}
use Rattle.dali_input.specs.declared.command_fault.Status.TheVariants.{Good}
use Rattle.dali_input.specs.CommandFaults.{IsRefusal}

-- the most bytes of a scenario
abbrev pub scenario_limit : ℕ
scenario_limit = 16777216

-- a scenario was read and understood: the reader gave an input whose JSON says this
pub record IsUnderstood (before after : InputState) (planned : Planned) : Type 0 where
  pub input : List ℕ
  pub json : Data
  pub read : ReadsInput scenario_limit before after input
  pub is_json : IsJson scenario_limit input json
  pub says : IsScenario json planned

-- it was set up and run: from its units, its fates and its events came this trace and this journal, and this is the bus
-- after it
pub record IsScenarioRun (planned : Planned) (trace : List Happening) (journal : List ℕ) (last : SimState)
    : Type 0 where
  pub first : SimState
  pub all : List Event
  pub ready : IsSetUp planned first.units first.fates all
  pub unenabled : NoneEnabled (world_of first.units)
  pub run : IsSimRun planned.limit planned.pace all first trace journal last

-- what a run that was read, understood, set up and made gives
abbrev pub IsRan : InputState → InputState → List Happening → List ℕ → SimState → Type 0
IsRan before after trace journal last =
    (planned : Planned) × IsUnderstood before after planned × IsScenarioRun planned trace journal last

-- why no scenario was understood: the reader or the memory failed, the input has no JSON, or its JSON says none
abbrev pub IsMisread : InputState → InputState → InputFault → Type 0
IsMisread before after fault =
    IsReadFailure before after fault ⊎ ((input : List ℕ) × ReadsInput scenario_limit before after input
    × (IsNoJson scenario_limit input fault
    ⊎ ((json : Data) × IsJson scenario_limit input json × IsNoReading (IsScenario json) fault)))

-- one was understood, and can't be set up
abbrev pub IsNotSetUp : InputState → InputState → Fault → Type 0
IsNotSetUp before after fault =
    (planned : Planned) × IsUnderstood before after planned × IsSetupRefused planned fault

-- why none was run, by the station at which its way ended; want of memory may come at any
abbrev pub IsUnrun : InputState → InputState → Fault → Type 0
IsUnrun before after (Input fault) = IsMisread before after fault ⊎ IsNotSetUp before after (Input fault)
IsUnrun before after (Unit number fault) = IsNotSetUp before after (Unit number fault)
IsUnrun before after SameAddress = IsNotSetUp before after SameAddress
IsUnrun before after (Order number fault) = IsNotSetUp before after (Order number fault)
IsUnrun before after (Run Limit) = (planned : Planned) × IsUnderstood before after planned
    × ((units : List UnitState) × (fates : List Fate) × (all : List Event) × IsSetUp planned units fates all)
    × ¬ IsLimit planned.limit
IsUnrun before after (Run NoMemory) = ⊤
IsUnrun before after (Journal fault) = ⊥
IsUnrun before after (Drive fault) = ⊥
IsUnrun before after Older = ⊥

-- a run is printed
pub record IsRunReport (single_frames : Bool) (before after : InputState) (status : Status) (text : List ℕ)
    : Type 0 where
  pub trace : List Happening
  pub journal : List ℕ
  pub last : SimState
  pub ran : IsRan before after trace journal last
  pub status_is : status ≡ Good
  pub text_is : text ≡ run_text single_frames trace (length journal) last.units

-- what `run` answers and writes, by what the reader had before and has after it
abbrev pub IsRunAnswer : Bool → InputState → InputState → Status → List ℕ → Type 0
IsRunAnswer single_frames before after status text =
    IsRunReport single_frames before after status text
    ⊎ ((fault : Fault) × IsUnrun before after fault × IsRefusal fault status text)
