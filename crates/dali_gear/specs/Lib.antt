pub mod UnitState
pub mod Faults
pub mod Fate
pub mod SimState
pub mod UnitHears
pub mod SimSteps
