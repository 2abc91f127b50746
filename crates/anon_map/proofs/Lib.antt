pub mod KeptLemmas
pub mod MapLaws
