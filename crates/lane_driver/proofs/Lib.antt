pub mod OwnSeats
pub mod Adds
pub mod Driven
pub mod MayGo
pub mod Counts
pub mod Falls
pub mod Securing
pub mod Rounds
pub mod Ends
pub mod TurnLaws
pub mod Turning
pub mod Orders
pub mod FirstCalls
pub use Rattle.fault_entry.proofs.vm_world as vm_world
pub use Rattle.fault_entry.proofs.page_store as page_store
pub use Rattle.fault_entry.proofs.seg_ops as seg_ops
pub use Rattle.fault_entry.proofs.flat_model as flat_model
