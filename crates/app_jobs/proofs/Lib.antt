mod OnTheWay
pub mod Orders
mod Taken
mod KeptFed
mod KeptRun
mod KeptWhole
mod KeptPlayed
mod KeptJoined
mod KeptSent
mod Reached
mod NextVersions
pub mod KeptOnce
mod NextRun
mod OwnPlans
mod Crossing
