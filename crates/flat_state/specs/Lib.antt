-- The plain form that steps over entries, `FlatState`.
pub mod PageCode
pub mod FlatCode
pub mod Stored
pub mod Cells
pub mod State
pub mod FlatState
pub mod Mapped
