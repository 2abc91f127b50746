pub mod Ending
pub mod LastLine
