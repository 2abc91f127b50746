pub mod Lanes
pub mod LaneTurns
pub mod Drives
pub mod Alone
pub mod DriveLaws
