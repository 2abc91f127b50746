pub mod DiskLists
pub mod NumbersDiffer
pub mod FaultCauses
pub mod DiskCounts
pub mod PageLemmas
pub mod LineLemmas
pub mod ClearLemmas
pub mod MountLemmas
pub mod MountedLaws
pub mod WriteLemmas
pub mod SparedBlocks
pub mod FilledBlocks
pub mod FileLineLemmas
pub mod OpenLemmas
pub mod PlacedLemmas
pub mod PlanLemmas
pub mod LawLemmas
pub mod FoundLemmas
pub mod HandLemmas
pub mod PlaceLemmas
pub mod GivenFiles
pub mod ToldDisks
pub mod AllPlaced
pub mod StopLemmas
pub mod MountSpecs
pub mod HeldVolumes
pub mod VolumeSeen
pub mod JoinedNumbers
pub mod MountDisks
pub mod MountVolume
pub mod MountStops
pub mod MountEnds
pub mod Unfailing
pub use Rattle.volume_format.proofs.vnode_files as vnode_files
pub use Rattle.vm_report.proofs.flat_model as flat_model
pub use Rattle.vm_report.proofs.vm_script as vm_script
pub use Rattle.vm_report.proofs as vm_report
pub use Rattle.stored_files.proofs as stored_files
