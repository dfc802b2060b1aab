pub mod ShownSteps
pub mod ViewOutcomes
pub mod Fronts
pub mod Firsts
pub mod Printing
