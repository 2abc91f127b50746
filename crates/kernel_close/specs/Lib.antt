pub mod Finish
pub mod LeftMarks
pub mod Closing
