pub mod Loops
pub mod Values
pub mod Others
pub mod Wide
pub mod Moves
