pub mod Ledgers
pub mod Tops
pub mod OwnFiles
pub mod Landings
pub mod Starts
pub mod MarkRows
pub mod MarksKept
pub mod Departures
pub mod CutFiles
pub mod CutRows
pub mod Rising
pub mod AnsweredMarks
pub mod Served
pub mod Forked
pub mod Hands
pub use Rattle.fault_entry.proofs.vm_world as vm_world
pub use Rattle.fault_entry.proofs.page_store as page_store
pub use Rattle.kernel_close.proofs as kernel_close
pub use Rattle.mark_laws.proofs as mark_laws
