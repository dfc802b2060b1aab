pub mod Format
pub mod Reading
pub mod Bytes
pub mod Journal
