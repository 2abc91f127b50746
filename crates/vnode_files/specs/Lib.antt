pub mod FileName
pub mod Grow
pub mod Vnode
pub mod Files
pub mod Layout
pub mod FilesCode
pub mod Room
pub mod Step
