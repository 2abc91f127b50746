pub mod PageTrials
pub mod SlotTrials
