pub mod FlatPuts
pub mod Targets
pub mod Words
pub mod Found
pub mod Joined
pub mod Served
pub mod Reached
pub use Rattle.seg_vn.proofs.vnode_files as vnode_files
pub use Rattle.seg_vn.proofs.flat_model as flat_model
pub use Rattle.seg_vn.proofs.page_hash as page_hash
pub use Rattle.seg_vn.proofs.page_store as page_store
pub use Rattle.seg_vn.proofs.vm_world as vm_world
pub use Rattle.seg_vn.proofs.seg_ops as seg_ops
pub use Rattle.seg_vn.proofs as seg_vn
pub use Rattle.seg_vn.proofs.home_pages as home_pages
pub use Rattle.seg_vn.proofs.hat_layer as hat_layer
