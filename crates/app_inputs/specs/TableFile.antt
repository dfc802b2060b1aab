-- What is read of a table's file, and which of its refusals that is.
use Rattle.std.specs.Prelude.{◌≡◌, ℕ, List, ⊤, Option, None, Some, MatchResult}
use Rattle.std.specs.declared.result.Result.{Result}
use Rattle.std.specs.declared.result.Result.TheVariants.{Err, Ok}
use Rattle.base_value.specs.declared.value.Value.{Value}
use Rattle.base_schema.specs.declared.table.TableName.{TableName}
use Rattle.app_inputs.specs.Inputs.{BadInput, rows_in}
use Rattle.app_inputs.specs.Views.{refused_view}
use Rattle.app_inputs.specs.declared.input_error.InputError.{InputError}
use Rattle.app_inputs.specs.declared.input_error.InputError.TheVariants as error

-- a refusal is the input's; an input that could not be read says nothing of it
abbrev pub IsRefusalOf : {A : Type 0} → Result A BadInput → InputError → Type 0
IsRefusalOf input (error.Unread unread) = ⊤
IsRefusalOf input (error.Refused refusal) = input ≡ Err (refused_view refusal)

-- what was read is the input, or the error is its refusal
abbrev pub IsRead : Result (List (List Value)) BadInput → Result (List (List Value)) InputError
    → Type 0
IsRead input result = MatchResult result (λ rows. input ≡ Ok rows) (IsRefusalOf input)

-- what was read of a table's file of that name, where the bytes that were left of it are known
abbrev pub IsRowsOf : TableName → List ℕ → Option (List ℕ) → Result (List (List Value)) InputError
    → Type 0
IsRowsOf table name None result = ⊤
IsRowsOf table name (Some text) result = IsRead (rows_in table name (Some text)) result
