pub mod Phases
pub mod WriterState
pub mod Inside
pub mod Describes
pub mod Follows
pub mod WorkLeft
pub mod Served
