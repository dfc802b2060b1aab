pub mod Bind
pub mod Line
pub mod Refresh
pub mod Statement
