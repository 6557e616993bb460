pub mod LinkOptions
pub mod Jobs
