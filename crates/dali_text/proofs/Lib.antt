pub mod StreamLemmas
pub mod BankLinesLemmas
pub mod RunTextLemmas
pub mod JournalLinesLemmas
pub mod WorkedLinesLemmas
mod EscapedLemmas
mod WorkedEscapedLemmas
