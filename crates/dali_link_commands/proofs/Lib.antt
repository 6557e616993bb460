pub mod WordsLemmas
pub mod ReportLemmas
pub mod ProblemLemmas
pub mod DriveLemmas
pub mod FollowLemmas
pub mod BehindLemmas
pub mod OlderLemmas
mod WorkedEndLemmas
mod WorkedFollowLemmas
mod WorkedBareLemmas
mod WorkedBehindLemmas
mod WorkedWordsLemmas
pub mod WorkedBenchLemmas
mod WorkedOrdersLemmas
mod WorkedBreakLemmas
mod WorkedReadLemmas
mod WorkedReportLemmas
pub mod ReadLemmas
pub mod MoveLemmas
pub mod CountLemmas
pub mod ShareLemmas
pub mod AddressLemmas
mod WorkedOlderLemmas
mod WorkedUnreadLemmas
mod WorkedAddressLemmas
pub mod LineFaultLemmas
pub mod LinesGaveLemmas
pub mod LinesJudgedLemmas
mod WorkedLinesJudgedLemmas
mod WorkedStreamLineLemmas
