pub mod Endings
pub mod Unfailing
pub mod WrittenPieces
