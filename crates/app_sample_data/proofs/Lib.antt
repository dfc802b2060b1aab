pub mod CalendarDays
pub mod Ring
pub mod Steps
pub mod Words
