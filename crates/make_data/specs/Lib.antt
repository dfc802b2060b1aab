pub mod Status
pub mod Target
pub mod Words
