pub mod ChainLemmas
pub mod ListLemmas
pub mod ListsLemmas
pub mod RingLemmas
