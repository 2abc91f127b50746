pub mod StripeBlocks
pub mod StripeLook
pub mod StripeSeen
pub use Rattle.block_device.specs as block_device
