pub mod Appending
pub mod Births
pub mod Grouped
pub mod LeftSections
pub mod Blocks
pub mod Digits
pub mod FileLines
pub mod Firsts
pub mod RunEntries
pub mod Spelled
pub use Rattle.vm_script.proofs.flat_model as flat_model
pub use Rattle.vm_script.proofs as vm_script
pub use Rattle.vm_script.proofs.vnode_files as vnode_files
