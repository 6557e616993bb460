pub mod World
pub mod Hears
pub mod Power
pub mod Carry
pub mod Chain
pub mod Unenabled
pub mod WorkedFrames
