pub mod PlanText
pub mod Planned
pub mod Examples
pub mod Made
