pub mod Ends
pub mod Forks
pub mod Pieces
