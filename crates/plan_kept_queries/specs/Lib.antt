pub mod Forms
pub mod Scans
