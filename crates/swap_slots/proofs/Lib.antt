pub mod BitLemmas
pub mod SlotLemmas
