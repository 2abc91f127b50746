pub mod Links
pub mod Order
pub mod Slots
