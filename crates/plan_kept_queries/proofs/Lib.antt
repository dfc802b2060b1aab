pub mod FormsOpened
pub mod FormLists
pub mod FormLoops
pub mod ScansOpened
pub mod ScanCases
