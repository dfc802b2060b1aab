pub mod Pairs
pub mod Steps
pub mod Roles
pub mod Ends
pub mod Numbers
