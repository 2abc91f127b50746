pub mod Steps
pub mod Plans
pub mod Marks
pub mod Flights
pub mod Slots
pub mod Owners
pub mod Empties
pub mod OwnPages
pub mod Rooms
pub mod Frames
pub mod Copies
pub mod SlotsDue
pub mod Writers
pub mod CleanSteps
pub mod Faults
pub use Rattle.vm_world.specs.vm_types as vm_types
pub use Rattle.vm_world.specs.vnode_files as vnode_files
pub use Rattle.vm_world.specs.flat_model as flat_model
pub use Rattle.page_store.specs.block_device as block_device
pub use Rattle.page_store.specs.core_arena as core_arena
pub use Rattle.page_store.specs.page_lock as page_lock
pub use Rattle.page_store.specs.page_clock as page_clock
pub use Rattle.page_store.specs.page_hash as page_hash
pub use Rattle.vm_world.specs.anon_slots as anon_slots
pub use Rattle.vm_world.specs.anon_map as anon_map
pub use Rattle.vm_world.specs.hat_layer as hat_layer
pub use Rattle.vm_world.specs.addr_space as addr_space
pub use Rattle.page_store.specs as page_store
pub use Rattle.vm_world.specs as vm_world
