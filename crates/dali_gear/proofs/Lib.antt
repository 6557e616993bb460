pub mod BankLemmas
pub mod SimLemmas
