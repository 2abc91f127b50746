pub mod Table
pub mod Layout
pub mod Rules
pub mod Writing
pub mod Place
pub mod Volume
pub use Rattle.vnode_files.specs as vnode_files
