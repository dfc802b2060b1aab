pub mod Dependence
pub mod Growth
pub mod FromGrowth
pub mod Seeks
pub mod Supplied
