pub mod FaultTexts
pub mod Fields
pub mod Helps
pub mod LineWords
pub mod RuleTexts
pub mod Tables
pub use Rattle.vm_script.specs as vm_script
