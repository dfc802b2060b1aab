pub mod Joins
pub mod Firsts
pub mod DistinctValues
mod Quotients
