pub mod FrameLemmas
pub mod HatLemmas
pub mod MapLaws
pub mod TableLemmas
