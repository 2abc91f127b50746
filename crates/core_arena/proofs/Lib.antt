pub mod BytesLemmas
mod OriginLemmas
mod PageLemmas
mod Stretches
mod Vecs
mod Walks
