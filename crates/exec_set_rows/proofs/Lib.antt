pub mod TakenRows
