pub mod Groups
pub mod Stored
pub mod Shelves
pub mod Entries
pub mod Pages
pub mod Taken
pub mod Cases
