pub mod Numbers
pub mod SetRows
pub mod Counted
pub mod Taken
pub mod Sunk
pub mod Steps
pub mod Operations
