pub mod Ranks
pub mod ConditionLaws
