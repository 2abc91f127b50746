pub mod Callers
pub mod Running
pub mod Rows
pub mod Lines
pub mod Closing
pub mod Conditions
pub mod Parts
