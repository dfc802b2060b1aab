pub mod Longer
pub mod Neighbours
pub mod Next
pub mod Rest
