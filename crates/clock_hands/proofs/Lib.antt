pub mod Uses
pub mod Looks
