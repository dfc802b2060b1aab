-- The rows of a reader's lines.
use Rattle.base_schema.proofs.Fits.{rows_fit_are_of}

pub ruleset readers = (rows_fit_are_of)
