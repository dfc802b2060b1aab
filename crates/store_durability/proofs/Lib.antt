pub mod Accepted
mod Feeding
pub mod GatewayTurns
mod ListTurns
mod Outcomes
