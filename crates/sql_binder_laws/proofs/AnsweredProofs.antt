-- The statements over small tables, computed: bound, then answered.
use Rattle.sql_binder_steps.specs.Steps.{input, aggregate, alone, apart, counted, take_aggregates}
use Rattle.sql_binder_steps.specs.Names.{is_met, ends, means, the_one, key_of, found, resolved}
use Rattle.sql_binder_steps.specs.Values.{date_literal, negative, compared, null_test, between, liked}
use Rattle.sql_binder_steps.specs.Values.{in_list, denied, extracted, substring, shifted, ended}
use Rattle.sql_binder_steps.specs.Values.{operated as chained_on, chosen as case_chosen}
use Rattle.sql_binder_steps.specs.Values.{first_condition, next_condition, all_of, any_of}
use Rattle.sql_binder_steps.specs.Values.{case_of, case_else_of}
use Rattle.sql_binder_steps.specs.Parts.{column, inside, within_on, hiding, among_rows, grouped}
use Rattle.sql_binder_steps.specs.Parts.{aggregated, existing, containing, only_value, member}
use Rattle.sql_binder_steps.specs.Parts.{table_headers, named_item, unused, column_of, renamed_headers}
use Rattle.sql_binder_steps.specs.Parts.{distinct_names, listed_headers, table_rows, named_rows}
use Rattle.sql_binder_steps.specs.Parts.{first_rows, crossed, joining, joined_rows, present, holding}
use Rattle.sql_binder_steps.specs.Parts.{shown_part, star, keys_of, plain, closing, once_each}
use Rattle.sql_binder_steps.specs.Parts.{output_place, order_of}
use Rattle.sql_binder.specs.Operands.{conditions, operands, chain, arm_conditions, arm_values}
use Rattle.sql_binder.specs.FromLists.{on_condition, on_joining, joins, chained, from_list}
use Rattle.sql_binder.specs.Clauses.{condition, shown_item, shown_items, select}
use Rattle.sql_binder.specs.Blocks.{is_grouped, from_where, over_rows, group_lists, over_groups}
use Rattle.sql_binder.specs.Binding.{clauses_of, is_grouped_select, bound_query, bound_view}
use Rattle.base_date.specs.Move.{times}
use Rattle.base_decimal.specs.Decimal.{rescaled, sum_of, difference_of, quotient_of}
use Rattle.base_text.specs.Pattern.{is_like, some_rest}
use Rattle.expr_scalar.specs.Meaning.{operated, values, truths, chosen}
use Rattle.expr_scalar.proofs.Opened.{values_opened, truths_opened, operation_is, branch_is}
use Rattle.sql_bound_query.specs.Meaning.{rows}
use Rattle.sql_bound_query.specs.Answer.{answer}
use Rattle.sql_bound_query.proofs.Opened.{query_opened}
use Rattle.sql_binder.proofs.Applied.{computed}
use Rattle.sql_binder_laws.specs.AnsweredCases.{PlainStatements, Balances, DividedConditions}
use Rattle.sql_binder_laws.specs.AnsweredCases.{SumsOfLargest, CountsOfOrders, KeysNotIn, OneOrder}
use Rattle.sql_binder_laws.specs.AnsweredCases.{RegionsOfOrders, GroupOfNoRows, Distribution}
use Rattle.sql_binder_laws.specs.AnsweredCases.{SubqueriesOfOn, AnsweredLaterals}

pub ruleset answered = (
  computed,
  query_opened,
  values_opened,
  truths_opened,
  operation_is,
  branch_is,
)

pub plain_statements : PlainStatements
unfolding input aggregate alone apart counted take_aggregates is_met ends means the_one key_of found
    resolved date_literal negative compared null_test between liked in_list denied extracted
    substring chained_on shifted ended first_condition next_condition all_of any_of case_chosen
    case_of case_else_of column inside within_on hiding among_rows grouped aggregated existing
    containing only_value member table_headers named_item unused column_of renamed_headers
    distinct_names listed_headers table_rows named_rows first_rows crossed joining joined_rows
    present holding shown_part star keys_of plain closing once_each output_place order_of conditions
    operands chain arm_conditions arm_values on_condition on_joining joins chained from_list
    condition shown_item shown_items select is_grouped from_where over_rows group_lists over_groups
    clauses_of is_grouped_select bound_query bound_view times answer rows operated values truths
    chosen rescaled sum_of difference_of quotient_of is_like some_rest
plain_statements = (simp answered, simp answered, simp answered, simp answered)

pub balances : Balances
unfolding input aggregate alone apart counted take_aggregates is_met ends means the_one key_of found
    resolved date_literal negative compared null_test between liked in_list denied extracted
    substring chained_on shifted ended first_condition next_condition all_of any_of case_chosen
    case_of case_else_of column inside within_on hiding among_rows grouped aggregated existing
    containing only_value member table_headers named_item unused column_of renamed_headers
    distinct_names listed_headers table_rows named_rows first_rows crossed joining joined_rows
    present holding shown_part star keys_of plain closing once_each output_place order_of conditions
    operands chain arm_conditions arm_values on_condition on_joining joins chained from_list
    condition shown_item shown_items select is_grouped from_where over_rows group_lists over_groups
    clauses_of is_grouped_select bound_query bound_view times answer rows operated values truths
    chosen rescaled sum_of difference_of quotient_of is_like some_rest
balances = (simp answered, simp answered)

pub divided_conditions : DividedConditions
unfolding input aggregate alone apart counted take_aggregates is_met ends means the_one key_of found
    resolved date_literal negative compared null_test between liked in_list denied extracted
    substring chained_on shifted ended first_condition next_condition all_of any_of case_chosen
    case_of case_else_of column inside within_on hiding among_rows grouped aggregated existing
    containing only_value member table_headers named_item unused column_of renamed_headers
    distinct_names listed_headers table_rows named_rows first_rows crossed joining joined_rows
    present holding shown_part star keys_of plain closing once_each output_place order_of conditions
    operands chain arm_conditions arm_values on_condition on_joining joins chained from_list
    condition shown_item shown_items select is_grouped from_where over_rows group_lists over_groups
    clauses_of is_grouped_select bound_query bound_view times answer rows operated values truths
    chosen rescaled sum_of difference_of quotient_of is_like some_rest
divided_conditions = (simp answered, simp answered, simp answered, simp answered)

pub sums_of_largest : SumsOfLargest
unfolding input aggregate alone apart counted take_aggregates is_met ends means the_one key_of found
    resolved date_literal negative compared null_test between liked in_list denied extracted
    substring chained_on shifted ended first_condition next_condition all_of any_of case_chosen
    case_of case_else_of column inside within_on hiding among_rows grouped aggregated existing
    containing only_value member table_headers named_item unused column_of renamed_headers
    distinct_names listed_headers table_rows named_rows first_rows crossed joining joined_rows
    present holding shown_part star keys_of plain closing once_each output_place order_of conditions
    operands chain arm_conditions arm_values on_condition on_joining joins chained from_list
    condition shown_item shown_items select is_grouped from_where over_rows group_lists over_groups
    clauses_of is_grouped_select bound_query bound_view times answer rows operated values truths
    chosen rescaled sum_of difference_of quotient_of is_like some_rest
sums_of_largest = (simp answered, simp answered, simp answered)

pub counts_of_orders : CountsOfOrders
unfolding input aggregate alone apart counted take_aggregates is_met ends means the_one key_of found
    resolved date_literal negative compared null_test between liked in_list denied extracted
    substring chained_on shifted ended first_condition next_condition all_of any_of case_chosen
    case_of case_else_of column inside within_on hiding among_rows grouped aggregated existing
    containing only_value member table_headers named_item unused column_of renamed_headers
    distinct_names listed_headers table_rows named_rows first_rows crossed joining joined_rows
    present holding shown_part star keys_of plain closing once_each output_place order_of conditions
    operands chain arm_conditions arm_values on_condition on_joining joins chained from_list
    condition shown_item shown_items select is_grouped from_where over_rows group_lists over_groups
    clauses_of is_grouped_select bound_query bound_view times answer rows operated values truths
    chosen rescaled sum_of difference_of quotient_of is_like some_rest
counts_of_orders = (simp answered, simp answered)

pub regions_not_in : KeysNotIn
unfolding input aggregate alone apart counted take_aggregates is_met ends means the_one key_of found
    resolved date_literal negative compared null_test between liked in_list denied extracted
    substring chained_on shifted ended first_condition next_condition all_of any_of case_chosen
    case_of case_else_of column inside within_on hiding among_rows grouped aggregated existing
    containing only_value member table_headers named_item unused column_of renamed_headers
    distinct_names listed_headers table_rows named_rows first_rows crossed joining joined_rows
    present holding shown_part star keys_of plain closing once_each output_place order_of conditions
    operands chain arm_conditions arm_values on_condition on_joining joins chained from_list
    condition shown_item shown_items select is_grouped from_where over_rows group_lists over_groups
    clauses_of is_grouped_select bound_query bound_view times answer rows operated values truths
    chosen rescaled sum_of difference_of quotient_of is_like some_rest
regions_not_in = (simp answered, simp answered, simp answered)

pub one_order : OneOrder
unfolding input aggregate alone apart counted take_aggregates is_met ends means the_one key_of found
    resolved date_literal negative compared null_test between liked in_list denied extracted
    substring chained_on shifted ended first_condition next_condition all_of any_of case_chosen
    case_of case_else_of column inside within_on hiding among_rows grouped aggregated existing
    containing only_value member table_headers named_item unused column_of renamed_headers
    distinct_names listed_headers table_rows named_rows first_rows crossed joining joined_rows
    present holding shown_part star keys_of plain closing once_each output_place order_of conditions
    operands chain arm_conditions arm_values on_condition on_joining joins chained from_list
    condition shown_item shown_items select is_grouped from_where over_rows group_lists over_groups
    clauses_of is_grouped_select bound_query bound_view times answer rows operated values truths
    chosen rescaled sum_of difference_of quotient_of is_like some_rest
one_order = (simp answered, simp answered)

pub regions_of_orders : RegionsOfOrders
unfolding input aggregate alone apart counted take_aggregates is_met ends means the_one key_of found
    resolved date_literal negative compared null_test between liked in_list denied extracted
    substring chained_on shifted ended first_condition next_condition all_of any_of case_chosen
    case_of case_else_of column inside within_on hiding among_rows grouped aggregated existing
    containing only_value member table_headers named_item unused column_of renamed_headers
    distinct_names listed_headers table_rows named_rows first_rows crossed joining joined_rows
    present holding shown_part star keys_of plain closing once_each output_place order_of conditions
    operands chain arm_conditions arm_values on_condition on_joining joins chained from_list
    condition shown_item shown_items select is_grouped from_where over_rows group_lists over_groups
    clauses_of is_grouped_select bound_query bound_view times answer rows operated values truths
    chosen rescaled sum_of difference_of quotient_of is_like some_rest
regions_of_orders = simp answered

pub subqueries_of_on : SubqueriesOfOn
unfolding input aggregate alone apart counted take_aggregates is_met ends means the_one key_of found
    resolved date_literal negative compared null_test between liked in_list denied extracted
    substring chained_on shifted ended first_condition next_condition all_of any_of case_chosen
    case_of case_else_of column inside within_on hiding among_rows grouped aggregated existing
    containing only_value member table_headers named_item unused column_of renamed_headers
    distinct_names listed_headers table_rows named_rows first_rows crossed joining joined_rows
    present holding shown_part star keys_of plain closing once_each output_place order_of conditions
    operands chain arm_conditions arm_values on_condition on_joining joins chained from_list
    condition shown_item shown_items select is_grouped from_where over_rows group_lists over_groups
    clauses_of is_grouped_select bound_query bound_view times answer rows operated values truths
    chosen rescaled sum_of difference_of quotient_of is_like some_rest
subqueries_of_on = (simp answered, simp answered)

pub answered_laterals : AnsweredLaterals
unfolding input aggregate alone apart counted take_aggregates is_met ends means the_one key_of found
    resolved date_literal negative compared null_test between liked in_list denied extracted
    substring chained_on shifted ended first_condition next_condition all_of any_of case_chosen
    case_of case_else_of column inside within_on hiding among_rows grouped aggregated existing
    containing only_value member table_headers named_item unused column_of renamed_headers
    distinct_names listed_headers table_rows named_rows first_rows crossed joining joined_rows
    present holding shown_part star keys_of plain closing once_each output_place order_of conditions
    operands chain arm_conditions arm_values on_condition on_joining joins chained from_list
    condition shown_item shown_items select is_grouped from_where over_rows group_lists over_groups
    clauses_of is_grouped_select bound_query bound_view times answer rows operated values truths
    chosen rescaled sum_of difference_of quotient_of is_like some_rest
answered_laterals = (simp answered, simp answered)

pub group_of_no_rows : GroupOfNoRows
unfolding input aggregate alone apart counted take_aggregates is_met ends means the_one key_of found
    resolved date_literal negative compared null_test between liked in_list denied extracted
    substring chained_on shifted ended first_condition next_condition all_of any_of case_chosen
    case_of case_else_of column inside within_on hiding among_rows grouped aggregated existing
    containing only_value member table_headers named_item unused column_of renamed_headers
    distinct_names listed_headers table_rows named_rows first_rows crossed joining joined_rows
    present holding shown_part star keys_of plain closing once_each output_place order_of conditions
    operands chain arm_conditions arm_values on_condition on_joining joins chained from_list
    condition shown_item shown_items select is_grouped from_where over_rows group_lists over_groups
    clauses_of is_grouped_select bound_query bound_view times answer rows operated values truths
    chosen rescaled sum_of difference_of quotient_of is_like some_rest
group_of_no_rows = (simp answered, simp answered, simp answered, simp answered)

pub distribution_of_orders : Distribution
unfolding input aggregate alone apart counted take_aggregates is_met ends means the_one key_of found
    resolved date_literal negative compared null_test between liked in_list denied extracted
    substring chained_on shifted ended first_condition next_condition all_of any_of case_chosen
    case_of case_else_of column inside within_on hiding among_rows grouped aggregated existing
    containing only_value member table_headers named_item unused column_of renamed_headers
    distinct_names listed_headers table_rows named_rows first_rows crossed joining joined_rows
    present holding shown_part star keys_of plain closing once_each output_place order_of conditions
    operands chain arm_conditions arm_values on_condition on_joining joins chained from_list
    condition shown_item shown_items select is_grouped from_where over_rows group_lists over_groups
    clauses_of is_grouped_select bound_query bound_view times answer rows operated values truths
    chosen rescaled sum_of difference_of quotient_of is_like some_rest
distribution_of_orders = simp answered
