pub mod Texts
pub mod Dates
pub mod Fields
pub mod Parts
pub mod Tables
pub mod Pairs
pub mod Files
