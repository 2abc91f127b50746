pub mod BlankDiskLemmas
