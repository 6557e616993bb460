pub mod ByteLemmas
pub mod OpenLemmas
pub mod ChainLemmas
pub mod UnenabledLemmas
pub mod WorkedFrameLemmas
pub mod WorkedChainLemmas
pub mod WorkedRelockLemmas
