pub mod Both
pub mod Groups
pub mod Steps
pub mod Whole
pub mod WorkedProofs
