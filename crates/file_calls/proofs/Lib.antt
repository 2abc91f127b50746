pub mod Refusals
pub mod FileKinds
