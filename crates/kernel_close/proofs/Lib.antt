pub mod Records
pub mod Fills
pub mod Pushes
pub mod OnePush
pub mod Finishes
pub mod MarkTables
pub mod PageBlocks
pub mod LeftMarks
