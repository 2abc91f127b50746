pub mod LinkLemmas
pub mod OwnerLaws
pub mod WalkLaws
