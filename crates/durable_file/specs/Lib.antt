pub mod Flushing
pub mod MemFlushedLook
