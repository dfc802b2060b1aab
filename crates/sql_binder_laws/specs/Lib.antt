pub mod WellTyped
pub mod Names
pub mod Settled
pub mod AnsweredCases
