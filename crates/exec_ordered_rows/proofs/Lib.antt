pub mod CellReads
pub mod Faults
pub mod Limits
pub mod PlaceOrders
pub mod Puts
pub mod SketchLaws
pub mod SketchOrders
