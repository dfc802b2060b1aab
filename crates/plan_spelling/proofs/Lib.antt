pub mod Lists
pub mod NodeSteps
pub mod Opened
pub mod Parts
pub mod UniqueParts
pub mod Readback
pub mod Texts
pub mod Written
