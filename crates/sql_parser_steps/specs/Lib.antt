pub mod Kinds
pub mod Values
pub mod ExpressionReadings
pub mod Readings
pub mod Nests
pub mod Reads
