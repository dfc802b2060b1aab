mod CutRows
mod Joins
mod Kept
mod Pieces
mod Runs
mod Sessions
