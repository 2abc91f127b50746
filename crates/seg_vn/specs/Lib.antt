pub mod Segments
pub mod Spaces
pub mod Words
pub mod Lends
pub mod Clears
pub mod Leaves
pub mod Serves
pub mod Shown
pub mod FaultPlaces
pub mod Cuts
pub mod Copied
pub mod Protections
pub mod CleanPlaces
pub use Rattle.seg_ops.specs.vm_types as vm_types
pub use Rattle.seg_ops.specs.vnode_files as vnode_files
pub use Rattle.seg_ops.specs.flat_model as flat_model
pub use Rattle.seg_ops.specs.block_device as block_device
pub use Rattle.seg_ops.specs.core_arena as core_arena
pub use Rattle.seg_ops.specs.page_lock as page_lock
pub use Rattle.seg_ops.specs.page_clock as page_clock
pub use Rattle.seg_ops.specs.page_hash as page_hash
pub use Rattle.seg_ops.specs.anon_slots as anon_slots
pub use Rattle.seg_ops.specs.anon_map as anon_map
pub use Rattle.seg_ops.specs.hat_layer as hat_layer
pub use Rattle.seg_ops.specs.addr_space as addr_space
pub use Rattle.seg_ops.specs.page_store as page_store
pub use Rattle.seg_ops.specs.vm_world as vm_world
pub use Rattle.seg_ops.specs as seg_ops
