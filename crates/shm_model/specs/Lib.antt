pub mod Names
pub mod Keys
pub mod Tied
pub mod TiedLaws
pub mod Lives
pub use Rattle.flat_model.specs as flat_model
