pub mod PageLaws
pub mod PartLemmas
pub mod SpanLemmas
pub mod Totals
pub mod PartLists
