pub mod Singles
pub mod Volumes
