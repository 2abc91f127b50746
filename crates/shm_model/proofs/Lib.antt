pub mod KeyLaws
pub mod Segments
pub mod Tied
pub mod Found
pub mod Lives
