pub mod PieceLemmas
pub mod BlockLemmas
pub mod TransferLemmas
