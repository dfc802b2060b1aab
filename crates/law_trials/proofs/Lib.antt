pub mod Lexed
pub mod Runs
pub mod Plain
pub mod Expanded
pub mod Ranges
pub mod Trials
