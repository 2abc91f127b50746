pub mod BlockLemmas
pub mod CallLemmas
pub mod CountLemmas
pub mod MemLemmas
pub mod StreamLemmas
pub mod SumLemmas
