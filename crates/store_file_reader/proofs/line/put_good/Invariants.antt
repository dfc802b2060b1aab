use Rattle.std.proofs.Common.{◌≡◌, map, drop}
use Rattle.std.specs.List.{All}
use Rattle.base_columns.specs.Fields.{field_value, IsPrintableField}
use Rattle.store_file_reader.specs.Line.{values_of}
use Rattle.store_file_reader.proofs.BarCuts.{CutSoFar}
use Rattle.store_file_reader.proofs.Cuts.{before}
use Rattle.store_file_reader.proofs.line.put_good.Given as goal

abbrev pub invariant-loop-column : goal.invariant-loop-column
invariant-loop-column l =
    (values_of l.columns l.line ≡ before (map field_value l.fields.items) (values_of (drop l.column-index l.columns) l.rest))
    × All IsPrintableField l.fields.items
    × CutSoFar l.line l.rest l.bars l.column-index
