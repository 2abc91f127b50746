pub mod EntryForm
pub mod EntryWords
pub mod EntryReading
pub mod WordsBehind
pub mod TraceLines
pub mod OpeningWords
pub mod OpeningReading
pub mod Traces
pub mod TraceForm
pub mod LineOrder
pub mod BadLines
pub mod LinesRead
pub mod ReadLaws
pub mod OpeningSeen
pub mod OpeningTaken
pub use Rattle.vm_report.specs as vm_report
