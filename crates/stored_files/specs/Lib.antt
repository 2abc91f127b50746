pub mod Closed
pub mod Texts
pub mod Written
pub mod Uncut
pub mod Showing
pub mod DiskTables
