pub mod Readings
pub mod Places
pub mod Findings
pub mod Shown
pub mod Counts
pub mod WorkedReads
