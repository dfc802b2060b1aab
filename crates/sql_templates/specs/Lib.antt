pub mod Cutting
pub mod Filling
pub mod Laws
pub mod Parts
pub mod Standing
pub mod Templates
pub mod Writable
