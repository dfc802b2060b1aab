pub mod Meaning
pub mod Answer
pub mod Reads
pub mod Typing
pub mod Examples
pub mod LateralExamples
pub mod SetExamples
