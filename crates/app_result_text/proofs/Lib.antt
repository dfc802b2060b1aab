mod Digits
mod RowCells
mod Runs
