pub mod Faults
pub mod Groups
pub mod Laws
pub mod Pieces
pub mod PiecesInside
pub mod Report
pub mod Results
pub mod Runs
pub mod Summary
pub mod Texts
pub mod Trace
pub use Rattle.vm_script.specs.vm_types as vm_types
pub use Rattle.vm_script.specs.flat_model as flat_model
pub use Rattle.vm_script.specs as vm_script
