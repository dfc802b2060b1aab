mod KeepNames
mod LineSteps
mod Digits
mod WorkedExamples
