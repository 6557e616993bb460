pub mod Stores
pub mod Memory
pub mod Opened
pub mod WorkedStores
pub mod Files
