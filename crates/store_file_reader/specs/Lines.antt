-- The lines that a reader has read.
use Rattle.std.specs.Prelude.{ℕ, List}
use Rattle.base_value.specs.declared.value.Value.{Value}
use Rattle.base_schema.specs.LineForm.{LineForm}
use Rattle.store_file_reader.specs.File.{Progress, progress}

-- the form of a file's lines, how many bytes it may have, and what the lines so far gave
pub record LinesRead : Type 0 where
  pub form : LineForm
  pub limit : ℕ
  pub so_far : Progress

-- these rows of lines of that many bytes
abbrev pub lines_read : LineForm → ℕ → List (List Value) → ℕ → LinesRead
lines_read form limit rows bytes =
    record { form = form; limit = limit; so_far = progress rows bytes }
