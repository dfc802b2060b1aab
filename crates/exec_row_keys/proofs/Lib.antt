pub mod CodeLists
pub mod KeyLists
pub mod NullCodes
pub mod Told
mod NumberKeys
