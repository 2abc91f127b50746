pub mod Clock
