pub mod Joining
pub mod Older
pub mod Segments
pub mod Trials
