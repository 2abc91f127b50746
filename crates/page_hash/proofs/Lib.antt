pub mod IndexLemmas
pub mod NameLaws
