pub mod FailureLemmas
pub mod KnownLemmas
pub mod FrameLemmas
pub mod ReportLemmas
pub mod RunLemmas
mod NoteLineLemmas
pub mod NoteLemmas
mod WorkedNoteLemmas
mod WorkedKnownLemmas
mod WorkedJournalLemmas
pub mod FieldLemmas
mod WorkedFieldLemmas
