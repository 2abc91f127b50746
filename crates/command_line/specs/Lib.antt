pub mod FileWords
pub mod Inquiries
pub mod Options
pub mod Sayings
