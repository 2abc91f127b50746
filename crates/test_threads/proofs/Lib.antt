pub mod Working
pub mod Trials
