pub mod Arranged
pub mod Own
pub mod Sink
pub mod Narrow
pub mod Below
pub mod Selected
