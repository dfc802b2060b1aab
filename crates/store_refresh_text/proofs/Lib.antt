mod Cells
mod Clean
mod Fields
mod Lines
mod Deletes
