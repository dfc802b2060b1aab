-- The queries with lateral items, computed.
use Rattle.sql_binder_steps.specs.Steps.{input, aggregate, alone, apart, counted, take_aggregates}
use Rattle.sql_binder_steps.specs.Names.{is_met, ends, means, the_one, key_of, found, resolved}
use Rattle.sql_binder_steps.specs.Values.{date_literal, negative, compared, null_test, between, liked}
use Rattle.sql_binder_steps.specs.Values.{in_list, denied, extracted, substring, operated, shifted, ended}
use Rattle.sql_binder_steps.specs.Values.{first_condition, next_condition, all_of, any_of, chosen}
use Rattle.sql_binder_steps.specs.Values.{case_of, case_else_of}
use Rattle.sql_binder_steps.specs.Parts.{column, inside, within_on, hiding, among_rows, grouped}
use Rattle.sql_binder_steps.specs.Parts.{aggregated, existing, containing, only_value, member}
use Rattle.sql_binder_steps.specs.Parts.{table_headers, named_item, unused, column_of, renamed_headers}
use Rattle.sql_binder_steps.specs.Parts.{distinct_names, listed_headers, table_rows, named_rows}
use Rattle.sql_binder_steps.specs.Parts.{first_rows, crossed, joining, joined_rows, present, holding}
use Rattle.sql_binder_steps.specs.Parts.{shown_part, star, keys_of, plain, closing, once_each}
use Rattle.sql_binder_steps.specs.Parts.{output_place, order_of}
use Rattle.sql_binder.specs.Operands.{conditions, operands, chain, arm_conditions, arm_values}
use Rattle.sql_binder.specs.FromLists.{on_condition, on_joining, joins, chained, from_list}
use Rattle.sql_binder.specs.Clauses.{condition, shown_item, shown_items, select}
use Rattle.sql_binder.specs.Blocks.{is_grouped, from_where, over_rows, group_lists, over_groups}
use Rattle.sql_binder.specs.Binding.{clauses_of, is_grouped_select, bound_query, bound_view}
use Rattle.sql_binder.specs.LateralCases.{BoundLaterals, RefusedLaterals}
use Rattle.sql_binder.proofs.Applied.{computed}

pub bound_laterals : BoundLaterals
unfolding input aggregate alone apart counted take_aggregates is_met ends means the_one key_of found
    resolved date_literal negative compared null_test between liked in_list denied extracted
    substring operated shifted ended first_condition next_condition all_of any_of chosen case_of
    case_else_of column inside within_on hiding among_rows grouped aggregated existing containing
    only_value member table_headers named_item unused column_of renamed_headers distinct_names
    listed_headers table_rows named_rows first_rows crossed joining joined_rows present holding
    shown_part star keys_of plain closing once_each output_place order_of conditions operands chain
    arm_conditions arm_values on_condition on_joining joins chained from_list condition shown_item
    shown_items select is_grouped from_where over_rows group_lists over_groups clauses_of
    is_grouped_select bound_query bound_view
bound_laterals = (simp computed, simp computed, simp computed, simp computed)

pub refused_laterals : RefusedLaterals
unfolding input aggregate alone apart counted take_aggregates is_met ends means the_one key_of found
    resolved date_literal negative compared null_test between liked in_list denied extracted
    substring operated shifted ended first_condition next_condition all_of any_of chosen case_of
    case_else_of column inside within_on hiding among_rows grouped aggregated existing containing
    only_value member table_headers named_item unused column_of renamed_headers distinct_names
    listed_headers table_rows named_rows first_rows crossed joining joined_rows present holding
    shown_part star keys_of plain closing once_each output_place order_of conditions operands chain
    arm_conditions arm_values on_condition on_joining joins chained from_list condition shown_item
    shown_items select is_grouped from_where over_rows group_lists over_groups clauses_of
    is_grouped_select bound_query bound_view
refused_laterals = (
  simp computed,
  simp computed,
  simp computed,
  simp computed,
  simp computed,
  simp computed,
  simp computed,
  simp computed,
  simp computed,
)
