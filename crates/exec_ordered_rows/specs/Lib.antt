pub mod Cells
pub mod Limits
pub mod Places
pub mod Sketches
