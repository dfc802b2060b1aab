pub mod Answer
pub mod Examples
pub mod Lines
pub mod Refusal
pub mod Version
