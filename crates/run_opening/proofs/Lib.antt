pub mod KeptBytes
pub mod Courses
pub mod Traced
pub mod FilledLines
pub mod HeldDisks
pub mod RisingNumbers
pub mod Unopened
pub mod ReadyPlans
