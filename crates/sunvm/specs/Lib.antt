pub mod BlankDisks
pub mod BlankPlaces
pub mod HostSeen
