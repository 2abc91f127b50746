pub mod Recorded
pub mod Rows
pub mod Slices
pub use Rattle.vm_types.specs as vm_types
