pub mod OnDisks
pub mod Run
pub mod RunLaws
pub mod Members
pub mod MemberRooms
pub mod Ended
pub mod Stopped
