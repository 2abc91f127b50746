pub mod Daemon
pub mod Lines
pub mod Transfers
