pub mod Store
pub mod Tally
