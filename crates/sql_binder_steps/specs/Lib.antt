pub mod Steps
pub mod Names
pub mod Kinds
pub mod Values
pub mod Parts
pub mod Sets
