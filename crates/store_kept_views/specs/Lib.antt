pub mod RowGroups
pub mod Standing
pub mod Readings
pub mod Moving
pub mod Output
pub mod Kept
pub mod Cases
