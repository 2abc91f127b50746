pub mod EntriesTold
pub mod FilesTold
pub mod PrintedLines
pub mod RunsTold
