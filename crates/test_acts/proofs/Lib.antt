pub mod TrialLemmas
pub mod TrialFiles
