pub mod Asking
pub mod PlayablePlans
pub mod TracesRead
pub mod AskedRules
pub mod Unread
