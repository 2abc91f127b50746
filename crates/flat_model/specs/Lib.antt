-- Flat memory and what the calls do to it.
pub mod Words
pub mod Flat
pub mod Refusals
pub mod Spaces
pub mod Access
pub mod Space
pub mod Mapping
pub mod Parts
pub mod Processes
pub mod Step
pub mod Opening
-- Histories.
pub mod History
pub mod Counted
pub mod Told
-- The laws.
pub mod SpaceLaws
pub mod StoreLaws
pub mod NamedLaws
pub mod MapLaws
pub mod PartLaws
pub mod FlatLaws
pub mod HistoryLaws
pub mod ReplayLaws
pub mod SyncLaws
pub mod CountLaws
pub mod SpellingLaws
pub mod OpenLaws
pub mod Births
pub mod FrameLaws
pub mod LineLaws
pub mod ObjectLaws
pub mod CacheLaws
pub mod ReserveLaws
pub mod ReachedLaws
pub mod TailLaws
pub mod GrownLaws
pub mod ProtectLaws
pub mod Shapes
pub use Rattle.vm_types.specs as vm_types
pub use Rattle.vnode_files.specs as vnode_files
