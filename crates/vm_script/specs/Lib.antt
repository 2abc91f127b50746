pub mod Blocks
pub mod Counts
pub mod Cursor
pub mod Ended
pub mod Fields
pub mod FileNames
pub mod Generated
pub mod GivenDisks
pub mod Growing
pub mod Lines
pub mod PlanSeen
pub mod PlanCalls
pub mod Plans
pub mod Printed
pub mod Processes
pub mod Quick
pub mod ReadLines
pub mod Reading
pub mod Rules
pub mod Sound
pub mod Statements
pub mod Texts
pub mod Told
pub use Rattle.flat_model.specs.vm_types as vm_types
pub use Rattle.flat_model.specs as flat_model
