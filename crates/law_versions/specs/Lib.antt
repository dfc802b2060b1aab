pub mod Accepted
pub mod RunningSteps
