pub mod Pool
pub mod Table
pub mod Free
