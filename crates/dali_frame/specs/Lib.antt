pub mod Frame
pub mod Hex
pub mod Line
pub mod LineFault
