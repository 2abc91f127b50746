pub mod RangeLemmas
pub mod TestLemmas
pub mod PassedLemmas
pub mod WritingLemmas
pub mod TableLemmas
pub mod PlaceLemmas
pub mod SliceLemmas
pub mod ReadingLemmas
pub mod SpellingLemmas
pub mod FieldLemmas
pub mod EncodedLemmas
pub mod ReadBackLemmas
pub mod VolumeLemmas
pub mod KeptLemmas
pub use Rattle.vnode_files.proofs as vnode_files
