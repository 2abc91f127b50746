pub mod FileBytes
pub mod FileBlocks
pub mod FileDiskLook
pub mod FileDiskSeen
pub mod MemFileLook
pub use Rattle.block_device.specs as block_device
