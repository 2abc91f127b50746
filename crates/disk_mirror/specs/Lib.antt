pub mod BitSeen
pub mod MirrorBlocks
pub mod MirrorLook
pub mod MirrorSeen
