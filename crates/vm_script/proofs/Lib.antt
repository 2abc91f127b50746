pub mod Cursors
pub mod Digits
pub mod ByLine
pub mod Flags
pub mod GivenDisks
pub mod Tellings
pub mod Runs
pub mod OneBlock
pub mod Places
pub mod Placed
pub mod SetupLines
pub mod Nesting
pub mod Printing
pub mod FileLines
pub mod Scripts
pub mod FaultLines
pub mod Ranges
pub mod Generations
pub mod QuickLines
pub use Rattle.flat_model.proofs as flat_model
pub use Rattle.flat_model.proofs.vnode_files as vnode_files
