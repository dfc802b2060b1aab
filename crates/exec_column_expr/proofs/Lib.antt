pub mod Lists
pub mod MadeRows
pub mod Nodes
pub mod Ranks
pub mod Steps
