pub mod BitLemmas
pub mod MirrorLemmas
