pub mod AbortLemmas
pub mod Agree
pub mod AwayLemmas
pub mod BayLemmas
pub mod BeginLemmas
pub mod Clips
pub mod Elsewhere
pub mod EndLemmas
pub mod FillLemmas
pub mod FrameLaws
pub mod FrameLemmas
pub mod GiveLemmas
pub mod LayoutLemmas
pub mod Links
pub mod NewLemmas
pub mod PokeLemmas
pub mod QueryLemmas
pub mod Returning
pub mod RowSteps
pub mod StillLemmas
pub mod TableLemmas
pub mod TakeLemmas
pub mod TransferLemmas
pub use Rattle.page_hash.proofs as page_hash
pub use Rattle.page_lists.proofs as page_lists
