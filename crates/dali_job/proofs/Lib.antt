pub mod JobLemmas
pub mod WorkedJobLemmas
pub mod WorkedRefusalLemmas
