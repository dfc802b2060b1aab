pub mod Exprs
pub mod Plans
pub mod Laws
