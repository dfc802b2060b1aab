use Rattle.base_value.specs.declared.value.Value.TheVariants.{Number, Date}
use Rattle.app_result_text.proofs.RowCells.{is_inside}
use Rattle.app_result_text.proofs.cells.push_cell.Goals as goal

pub push_number_at-requires : goal.push_number_at-requires
push_number_at-requires c = is_inside c.args.column.now _ (Number _) _ c.args.i c.in-Some.ensures c.requires.inside

pub push_date_at-requires : goal.push_date_at-requires
push_date_at-requires c = is_inside c.args.column.now _ Date _ c.args.i c.in-Some-marked_dates.ensures c.requires.inside
