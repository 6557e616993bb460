pub mod LineLemmas
pub mod ReportLemmas
pub mod FoundLemmas
pub mod DifferenceLemmas
pub mod AgreeLemmas
mod WorkedDifferenceLemmas
pub mod WorkedReportLemmas
pub mod SeenLemmas
mod WorkedSeenLemmas
