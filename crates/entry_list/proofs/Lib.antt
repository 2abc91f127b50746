pub mod RowLaws
pub mod SliceLaws
