pub mod Opened
pub mod Handed
pub mod Numbers
pub mod Attached
pub mod Mounting
pub mod Placing
pub mod Unfailed
pub use Rattle.vm_report.specs.vm_types as vm_types
pub use Rattle.volume_format.specs.vnode_files as vnode_files
pub use Rattle.vm_report.specs.flat_model as flat_model
pub use Rattle.vm_report.specs.vm_script as vm_script
pub use Rattle.vm_report.specs as vm_report
pub use Rattle.volume_format.specs as volume_format
pub use Rattle.block_device.specs as block_device
pub use Rattle.volume_disks.specs as volume_disks
pub use Rattle.joined_disk.specs as joined_disk
pub use Rattle.stored_files.specs as stored_files
