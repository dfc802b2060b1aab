pub mod Queue
pub mod Roles
pub mod Insides
pub mod Answers
pub mod Feeds
