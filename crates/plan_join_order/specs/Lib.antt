pub mod Groups
pub mod Narrow
pub mod Implied
pub mod Laterals
