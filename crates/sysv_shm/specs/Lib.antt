pub mod Makers
pub mod Slots
pub mod Shm
pub mod ShmLaws
pub use Rattle.shm_model.specs as shm_model
