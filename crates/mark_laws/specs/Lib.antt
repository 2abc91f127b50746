pub mod Pages
pub mod FileLaws
pub mod Syncs
pub mod MarksFit
pub mod MarkLaws
pub mod Cuts
pub mod CutLaws
pub mod RaiseLaws
pub mod EntryLaws
pub mod FailureLaws
pub mod HeldBlocks
pub mod AccountLaws
pub use Rattle.disk_marks.specs as disk_marks
