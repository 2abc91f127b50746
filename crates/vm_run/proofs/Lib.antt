pub mod Cases
pub mod KeptTables
pub mod RunReady
