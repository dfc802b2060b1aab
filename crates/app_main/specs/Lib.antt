pub use Rattle.app_inputs.specs.Printing
pub use Rattle.app_inputs.specs.Words
pub use Rattle.app_run.specs.JobMeaning
pub use Rattle.app_run.specs.Journals
pub use Rattle.app_run.specs.Meaning
