pub mod Feed
pub mod Gateway
pub mod Stored
