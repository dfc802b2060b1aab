pub mod Marks
pub mod Lines
pub mod Readings
pub mod Scripts
pub mod Kinds
pub mod Laws
pub mod Lifting
