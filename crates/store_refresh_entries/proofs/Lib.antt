pub mod Readings
mod Sizes
