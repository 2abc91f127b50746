pub mod Clock
pub mod Seen
