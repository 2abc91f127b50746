pub mod Ledger
pub mod Marks
pub mod State
pub mod StateCode
pub mod Setup
pub mod Fits
pub mod Flights
pub mod Calls
pub mod Answered
pub mod SeatSteps
pub mod Raises
pub mod Forks
pub use Rattle.fault_entry.specs.vm_types as vm_types
pub use Rattle.fault_entry.specs.flat_model as flat_model
pub use Rattle.fault_entry.specs.block_device as block_device
pub use Rattle.fault_entry.specs.page_hash as page_hash
pub use Rattle.fault_entry.specs.addr_space as addr_space
pub use Rattle.fault_entry.specs.page_store as page_store
pub use Rattle.fault_entry.specs.vm_world as vm_world
pub use Rattle.disk_marks.specs as disk_marks
pub use Rattle.fault_entry.specs as fault_entry
pub use Rattle.kernel_close.specs as kernel_close
pub use Rattle.clock_hands.specs as clock_hands
