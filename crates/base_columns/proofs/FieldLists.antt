-- Lemmas on the fields of a row.
use Rattle.std.proofs.Common.{◌≡◌, List, length, map}
use Rattle.std.proofs.lemmas.List.{length-map}
use Rattle.base_columns.specs.Fields.{field_value}
use Rattle.base_columns.specs.declared.field.Field.{Field}

pub fields_length : (row : List Field) → length (map field_value row) ≡ length row
fields_length row = length-map row field_value
