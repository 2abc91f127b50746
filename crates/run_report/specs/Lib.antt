pub mod AskedTexts
pub mod ReportEnds
