pub mod Expressions
pub mod Grammar
pub mod Faults
pub mod Script
