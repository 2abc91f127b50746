pub mod Away
pub mod Bays
pub mod Bytes
pub mod Flight
pub mod Laws
pub mod Layout
pub mod Moves
pub mod New
pub mod Notes
pub mod Out
pub mod Parts
pub mod Seen
pub mod Stages
pub mod Steps
pub mod StoreFits
pub mod Table
pub mod TableLaws
pub mod Transfers
pub mod Value
pub mod Waits
pub use Rattle.block_device.specs as block_device
pub use Rattle.core_arena.specs as core_arena
pub use Rattle.page_lock.specs as page_lock
pub use Rattle.page_clock.specs as page_clock
pub use Rattle.page_hash.specs as page_hash
pub use Rattle.page_lists.specs as page_lists
