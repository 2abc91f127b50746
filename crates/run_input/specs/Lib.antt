pub mod Asked
pub mod Inquired
pub mod TraceChecks
pub mod Reading
pub mod Alone
