-- The worked rows, computed.
use Rattle.expr_conditions.specs.Ranks.{rank_of, says}
use Rattle.base_decimal.specs.Decimal.{rescaled, sum_of}
use Rattle.expr_scalar.specs.Meaning.{values, truths, operated}
use Rattle.expr_scalar.proofs.Opened.{values_opened, truths_opened, operation_is}
use Rattle.plan_algebra.specs.Aggregates.{aggregates_of}
use Rattle.plan_algebra.specs.Trees.{right_row, listed, mark_under, scalar_at, keys_under, aggregates_under}
use Rattle.plan_algebra.specs.Plans.{reads_of}
use Rattle.plan_algebra.proofs.Opened.{rows_opened, scans_opened, width_Project}
use Rattle.plan_unnesting.specs.WorkedRows.{WorkedRows}

pub worked_rows : WorkedRows
unfolding rank_of says values truths operated sum_of rescaled right_row listed mark_under scalar_at keys_under aggregates_under aggregates_of reads_of
worked_rows = record {
  customers = simp (rows_opened, values_opened, truths_opened);
  customers_read = simp scans_opened;
  keys = simp (rows_opened, width_Project, values_opened, truths_opened);
  orders = simp (rows_opened, values_opened, truths_opened);
  regions = simp (rows_opened, values_opened, truths_opened);
  regions_read = simp scans_opened;
  nested = simp (rows_opened, values_opened, truths_opened, operation_is);
  nested_read = simp scans_opened;
}
