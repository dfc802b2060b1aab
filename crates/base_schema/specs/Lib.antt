pub mod Tables
pub mod Kinds
pub mod LineForm
pub mod State
