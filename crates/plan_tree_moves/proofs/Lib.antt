pub mod Regrouping
pub mod Pruning
pub mod SlimJoins
pub mod RightColumns
pub mod OuterColumns
