pub mod Bytes
pub mod Words
pub mod Forms
pub mod Lexing
pub mod Fronts
pub mod Making
pub mod Names
pub mod Kinds
