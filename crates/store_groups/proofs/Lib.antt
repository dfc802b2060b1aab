pub mod EntryLists
pub mod PageLists
pub mod BodyLists
pub mod ShelfLists
