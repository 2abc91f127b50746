pub mod PageTrialLemmas
pub mod SlotTrialLemmas
