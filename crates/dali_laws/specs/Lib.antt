pub mod Law
pub mod Powered
pub mod Joined
pub mod Stays
pub mod WorkedStays
