pub mod Domains
pub mod Footings
pub mod FromRows
pub mod Growth
pub mod Lowerings
pub mod OwnColumns
pub mod OwnRows
pub mod PlanKinds
