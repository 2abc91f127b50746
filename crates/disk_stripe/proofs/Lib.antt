pub mod StripeLemmas
