pub mod CutSegments
pub mod CopiedSegments
pub mod GivenBack
mod LastObjects
pub mod LeftSegments
pub mod SpacesFrom
pub mod Writers
pub mod LimitedSegments
pub mod ClearedSpaces
pub mod Modifying
pub mod FilePlaces
pub mod Faulted
pub mod SlotsDue
pub mod ServedFaults
pub mod FaultPlaces
pub mod FaultSteps
mod Copies
mod CopySteps
pub mod PlacesShown
pub mod ShownSome
pub mod SharedFiles
pub mod HomeFrames
pub use Rattle.seg_ops.proofs.vnode_files as vnode_files
pub use Rattle.seg_ops.proofs.flat_model as flat_model
pub use Rattle.seg_ops.proofs.page_hash as page_hash
pub use Rattle.seg_ops.proofs.anon_map as anon_map
pub use Rattle.seg_ops.proofs.addr_space as addr_space
pub use Rattle.seg_ops.proofs.page_store as page_store
pub use Rattle.seg_ops.proofs.vm_world as vm_world
pub use Rattle.seg_ops.proofs as seg_ops
pub use Rattle.home_pages.proofs as home_pages
pub use Rattle.seg_ops.proofs.hat_layer as hat_layer
