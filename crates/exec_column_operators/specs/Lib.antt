pub mod Choices
pub mod Constants
pub mod Exact
pub mod Parts
pub mod Zips
