-- Refusals of a line of a table's file, as they are printed.
use Rattle.std.specs.Prelude.{ℕ, List, codes}
use Rattle.base_refusals.specs.declared.line.LineFault.{LineFault}
use Rattle.base_refusals.specs.declared.line.LineFault.TheVariants.{FieldCount, BadNumber, NumberTooWide}
use Rattle.base_refusals.specs.declared.line.LineFault.TheVariants.{BadDate, BadText, TextTooLong}
use Rattle.base_refusals.specs.declared.line.LineFault.TheVariants.{DuplicateKey, FileTooLong}

-- the number of a fault of a line
abbrev pub line_fault_number : LineFault → ℕ
line_fault_number FieldCount = 1
line_fault_number BadNumber = 2
line_fault_number NumberTooWide = 3
line_fault_number BadDate = 4
line_fault_number BadText = 5
line_fault_number TextTooLong = 6
line_fault_number DuplicateKey = 7
line_fault_number FileTooLong = 8

-- the name of a fault of a line
abbrev pub line_fault_name : LineFault → List ℕ
line_fault_name FieldCount = codes "FieldCount"
line_fault_name BadNumber = codes "BadNumber"
line_fault_name NumberTooWide = codes "NumberTooWide"
line_fault_name BadDate = codes "BadDate"
line_fault_name BadText = codes "BadText"
line_fault_name TextTooLong = codes "TextTooLong"
line_fault_name DuplicateKey = codes "DuplicateKey"
line_fault_name FileTooLong = codes "FileTooLong"
