pub mod Verdicts
pub mod Checks
pub mod Judging
pub mod Opened
