pub mod Ranks
pub mod Gather
pub mod Truths
pub mod Implied
