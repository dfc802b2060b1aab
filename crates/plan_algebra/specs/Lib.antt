pub mod Aggregates
pub mod KeptPlans
pub mod NodeLaws
pub mod Pieces
pub mod Plans
pub mod States
pub mod Trees
