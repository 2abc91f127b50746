pub mod Seen
pub mod Judged
pub mod Checked
pub mod Openings
pub mod Meanings
