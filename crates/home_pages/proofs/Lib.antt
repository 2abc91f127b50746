pub mod Takes
pub mod Replacements
pub mod Unpushed
pub mod Brings
