pub mod JoinedLaws
pub mod JoinedSeen
pub use Rattle.disk_stripe.specs as disk_stripe
pub use Rattle.disk_mirror.specs as disk_mirror
