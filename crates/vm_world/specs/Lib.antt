pub mod World
pub mod Segments
pub mod Pages
pub mod FlatMemory
pub mod FramesFit
pub mod CountsFit
pub mod TranslationsFit
pub mod MemoryFits
pub mod NotesFit
pub mod State
pub mod Marks
pub mod MarksOf
pub mod DiskPlaces
pub mod HistoryFits
pub mod Wants
pub mod StateFits
pub mod WorldSteps
pub mod Events
pub mod Opening
pub mod Laws
pub mod Busy
pub mod Crowded
pub mod EntryLaws
pub mod Plans
pub mod StateSteps
pub mod StateMarks
pub mod StateEntries
pub mod StateSyncs
pub mod Failures
pub mod CallSteps
pub mod Serving
pub mod ServingLaws
pub mod EventLaws
pub mod SeatLaws
pub mod SpaceSteps
pub mod MapSteps
pub mod SegmentSteps
pub mod ForkSteps
pub mod SyncSteps
pub mod ProtectSteps
pub mod GapSteps
pub mod FileSteps
pub mod FileLocks
pub mod FileCalls
pub mod ZeroObjects
pub mod Words
pub use Rattle.flat_model.specs.vm_types as vm_types
pub use Rattle.flat_model.specs.vnode_files as vnode_files
pub use Rattle.flat_model.specs as flat_model
pub use Rattle.mark_laws.specs as mark_laws
pub use Rattle.mark_laws.specs.disk_marks as disk_marks
pub use Rattle.anon_slots.specs as anon_slots
pub use Rattle.anon_map.specs as anon_map
pub use Rattle.hat_layer.specs as hat_layer
pub use Rattle.addr_space.specs as addr_space
