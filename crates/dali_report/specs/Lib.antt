pub mod Differences
pub mod Lines
pub mod Tallies
pub mod Reports
pub mod Outcomes
pub mod Told
pub mod Seen
pub mod Watched
