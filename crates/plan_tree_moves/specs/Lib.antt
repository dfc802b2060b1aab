pub mod Regroup
pub mod Prune
