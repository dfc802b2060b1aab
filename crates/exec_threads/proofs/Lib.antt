pub mod Chunked
pub mod MadeParts
