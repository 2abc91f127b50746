pub mod Accesses
pub mod Answers
pub mod Reaching
pub use Rattle.seg_vn.specs.vm_types as vm_types
pub use Rattle.seg_vn.specs.vnode_files as vnode_files
pub use Rattle.seg_vn.specs.flat_model as flat_model
pub use Rattle.seg_vn.specs.block_device as block_device
pub use Rattle.seg_vn.specs.core_arena as core_arena
pub use Rattle.seg_vn.specs.page_lock as page_lock
pub use Rattle.seg_vn.specs.page_clock as page_clock
pub use Rattle.seg_vn.specs.page_hash as page_hash
pub use Rattle.seg_vn.specs.anon_slots as anon_slots
pub use Rattle.seg_vn.specs.anon_map as anon_map
pub use Rattle.seg_vn.specs.hat_layer as hat_layer
pub use Rattle.seg_vn.specs.addr_space as addr_space
pub use Rattle.seg_vn.specs.page_store as page_store
pub use Rattle.seg_vn.specs.vm_world as vm_world
pub use Rattle.seg_vn.specs.seg_ops as seg_ops
pub use Rattle.seg_vn.specs as seg_vn
