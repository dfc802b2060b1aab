pub mod SetGrowth
