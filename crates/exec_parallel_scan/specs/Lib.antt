pub mod ExpressionGroups
pub mod Kept
pub mod Parts
pub mod Stages
