pub mod OpenLemmas
pub mod Moments
mod MemoryLemmas
pub mod Betweens
mod WorkedStoreLemmas
mod WorkedOpenLemmas
mod WorkedFaultLemmas
