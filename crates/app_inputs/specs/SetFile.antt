-- What is read of a refresh file.
use Rattle.base_refusals.specs.declared.refresh.RefreshFile.{RefreshFile}
use Rattle.base_schema.specs.LineForm.{refresh_form}
use Rattle.app_inputs.specs.DataFile.{FileRows, FitForm, IsGiven}

-- rows that such a file can have: those of orders and lineitem are of these tables' kinds
abbrev pub FitsFile : RefreshFile → FileRows → Type 0
FitsFile file read = FitForm (refresh_form file) read

-- rows that some such file gave
abbrev pub IsOfFile : RefreshFile → FileRows → Type 0
IsOfFile file read = IsGiven (refresh_form file) read
