pub mod Space
pub mod Pages
pub mod Inside
pub mod Lends
