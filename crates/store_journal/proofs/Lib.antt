pub mod Frames
mod Entries
pub mod Moments
mod Crash
mod Steps
pub mod Readings
mod Runs
