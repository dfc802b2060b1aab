pub mod Lines
pub mod FromQueries
pub mod TypedViews
