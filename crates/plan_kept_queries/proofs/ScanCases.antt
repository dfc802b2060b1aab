-- The worked reads, computed.
use Rattle.base_decimal.specs.Decimal.{rescaled, sum_of, quotient_of}
use Rattle.expr_scalar.specs.declared.expr.Expr.TheVariants.{outs-All, outs-Column}
use Rattle.expr_scalar.specs.Meaning.{operated, values, truths, chosen}
use Rattle.sql_bound_query.specs.declared.query.BoundAggregate.TheVariants.{outs-CountRows}
use Rattle.sql_bound_query.specs.declared.query.BoundBlock.TheVariants.{outs-Grouped, outs-Plain}
use Rattle.sql_bound_query.specs.declared.query.BoundSource.TheVariants.{outs-Table}
use Rattle.sql_bound_query.specs.declared.query.Input.TheVariants.{outs-Column as outs-Input}
use Rattle.sql_bound_query.specs.Meaning.{rows}
use Rattle.sql_bound_query.proofs.ExampleProofs.{computed}
use Rattle.plan_kept_queries.specs.Forms.{is_kept_block, is_table, is_over_row, is_kept_aggregate, holds_always, own_place, shown_place}
use Rattle.plan_kept_queries.specs.Scans.{ReadCases, reads}
use Rattle.plan_kept_queries.proofs.ScansOpened.{tables_opened}

ruleset nodes_opened = (outs-All, outs-Column, outs-CountRows, outs-Grouped, outs-Plain, outs-Table, outs-Input)

pub read_cases : ReadCases
unfolding reads rows operated values truths chosen rescaled sum_of quotient_of is_kept_block is_table is_over_row is_kept_aggregate holds_always own_place shown_place
read_cases = (simp tables_opened, simp (tables_opened, nodes_opened), simp tables_opened, simp (tables_opened, nodes_opened, computed))
