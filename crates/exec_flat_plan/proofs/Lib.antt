pub mod KeptRows
pub mod LateRows
pub mod Next
pub mod PlanReads
pub mod Released
