pub mod Change
pub mod Laws
