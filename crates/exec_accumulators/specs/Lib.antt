pub mod Accumulators
