pub mod AcceptedKeys
pub mod MachineSteps
