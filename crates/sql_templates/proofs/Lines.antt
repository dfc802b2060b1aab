-- Each line of the grammar reads what stands for read tokens.
use Rattle.std.proofs.Common.{ℕ, zero, suc, true, false, [], ◌∷◌, Some, None}
use Rattle.sql_lexer.specs.declared.kind.Kind.TheVariants as k
use Rattle.sql_lexer.specs.declared.token.Token.{Token}
use Rattle.sql_ast.specs.declared.tree.Expr.{Expr}
use Rattle.sql_ast.specs.declared.tree.Expr.TheVariants as e
use Rattle.sql_ast.specs.declared.words.Comparison.TheVariants as comparison
use Rattle.sql_ast.specs.declared.words.Quantifier.TheVariants as quantifier
use Rattle.sql_ast.specs.declared.words.SetOperator.TheVariants as set_operator
use Rattle.sql_ast.specs.declared.words.Span.TheVariants as span
use Rattle.sql_ast.specs.declared.words.Aggregate.TheVariants as aggregate
use Rattle.sql_ast.specs.declared.words.Adding.TheVariants as adding
use Rattle.sql_ast.specs.declared.words.Multiplying.TheVariants as multiplying
use Rattle.sql_ast.specs.declared.tree.Selected.TheVariants as selected
use Rattle.sql_ast.specs.declared.tree.FromItem.TheVariants as from_item
use Rattle.sql_ast.specs.declared.tree.Clause.TheVariants as clause
use Rattle.sql_ast.specs.declared.tree.Block.{Block}
use Rattle.sql_ast.specs.declared.words.JoinKind.TheVariants as join_kind
use Rattle.sql_ast.specs.declared.statement.RefreshKind.TheVariants as refresh_kind
use Rattle.sql_ast.specs.declared.statement.Statement.TheVariants as statements
use Rattle.sql_parser_steps.specs.declared.test.Compared.TheVariants as compared
use Rattle.sql_parser_steps.specs.declared.test.Test.TheVariants as t
use Rattle.sql_grammar_laws.specs.Readings.{Reading}
use Rattle.sql_parser_steps.specs.Values.{text_of, count_of, number, text, first, second, pair, cons, constant, after_word, after_point, column, negative, negation, factor, term, product, sum, all_of, any_of, arm, case_of, date, interval, extract, substring, distinct_count, between, like, in_list, in_query, is_null, is_not_null, denied, tested, item, distinct, plain_selection, derived, lateral, join, joined, condition, filters, block, named_key, ordered, create_view, text_value, number_value, with_query, under_with, set_part, combined}
use Rattle.sql_parser_steps.specs.ExpressionReadings.{read_name, read_literal, read_number, read_digits, read_span, read_column_tail, read_column, read_multiply, read_add, read_product, read_sum, read_conjunction, read_whole, read_expr_list, read_arm, read_arms, read_else, read_case_body, read_case, read_date_text, read_date, read_precision, read_interval, read_extract_inside, read_extract, read_places, read_substring_inside, read_substring, read_count_inside, read_count, read_aggregate_word, read_aggregate, read_call, read_leaf, read_parens_inside, read_parens, read_subquery, read_exists, read_operand, read_unary_line, read_comparison, read_quantifier, read_compared_query, read_compared, read_compare, read_null, read_between, read_like, read_in_inside, read_in, read_deny_test, read_test, read_predicate, read_part_line}
use Rattle.sql_parser_steps.specs.Readings.{read_alias, read_item, read_selection, read_select, read_names, read_column_names, read_table, read_derived_alias, read_from_query, read_derived, read_lateral, read_from_item, read_inner_words, read_left_words, read_join_words, read_joined_item, read_joined, read_from, read_where, read_group, read_having, read_filters, read_block, read_all, read_intersect_words, read_set_word, read_set_words, read_term, read_query_line, read_direction, read_named_key, read_order, read_rows_only, read_limit, read_version, read_ordered, read_with_query, read_with, read_with_ordered, read_view_name, read_create, read_drop, read_refresh_word, read_refresh, read_value, read_values, read_run_inside, read_run, read_statement, read_ended, unary_at, part_at, query_at, inner_query, ended_at}
use Rattle.sql_templates.proofs.Readings.{Follows, same_is, same_among, tests_is, tests_count, tests_digits, follow_one, follow_opens, follow_nothing, follow_never, follow_mapped, follow_both, follow_either, follow_links}

pub follow_name : Follows read_name
unfolding read_name
follow_name = follow_mapped text_of (follow_one (tests_is k.Name))

pub follow_literal : Follows read_literal
unfolding read_literal
follow_literal = follow_mapped text_of (follow_one (tests_is k.Text))

pub follow_number : Follows read_number
unfolding read_number
follow_number = follow_mapped count_of (follow_one tests_count)

pub follow_digits : Follows read_digits
unfolding read_digits
follow_digits = follow_mapped text_of (follow_one tests_digits)

pub follow_span : Follows read_span
unfolding read_span
follow_span = follow_either (same_is k.Year) (follow_mapped (constant span.Year) (follow_one (tests_is k.Year))) (follow_either (same_is k.Month) (follow_mapped (constant span.Month) (follow_one (tests_is k.Month))) (follow_mapped (constant span.Day) (follow_one (tests_is k.Day))))

pub follow_column_tail : Follows read_column_tail
unfolding read_column_tail
follow_column_tail = follow_either (same_is k.Point) (follow_both after_point (follow_one (tests_is k.Point)) follow_name) (follow_nothing None)

pub follow_column : Follows read_column
unfolding read_column
follow_column = follow_both column follow_name follow_column_tail

pub follow_multiply : Follows read_multiply
unfolding read_multiply
follow_multiply = follow_either (same_is k.Star) (follow_mapped (constant multiplying.Times) (follow_one (tests_is k.Star))) (follow_mapped (constant multiplying.Divide) (follow_one (tests_is k.Slash)))

pub follow_add : Follows read_add
unfolding read_add
follow_add = follow_either (same_is k.Plus) (follow_mapped (constant adding.Plus) (follow_one (tests_is k.Plus))) (follow_mapped (constant adding.Minus) (follow_one (tests_is k.Minus)))

pub follow_product : (wide : ℕ) {unary : Reading Token Expr} → Follows unary → Follows (read_product wide unary)
unfolding read_product
follow_product wide by_unary = follow_both product by_unary (follow_links factor (same_among (k.Star ∷ k.Slash ∷ [])) follow_multiply by_unary wide)

pub follow_sum : (wide : ℕ) {unary : Reading Token Expr} → Follows unary → Follows (read_sum wide unary)
unfolding read_sum
follow_sum wide by_unary = follow_both sum (follow_product wide by_unary) (follow_links term (same_among (k.Plus ∷ k.Minus ∷ [])) follow_add (follow_product wide by_unary) wide)

pub follow_conjunction : (wide : ℕ) {part : Reading Token Expr} → Follows part → Follows (read_conjunction wide part)
unfolding read_conjunction
follow_conjunction wide by_part = follow_both all_of by_part (follow_links second (same_is k.And) (follow_one (tests_is k.And)) by_part wide)

pub follow_whole : (wide : ℕ) {part : Reading Token Expr} → Follows part → Follows (read_whole wide part)
unfolding read_whole
follow_whole wide by_part = follow_both any_of (follow_conjunction wide by_part) (follow_links second (same_is k.Or) (follow_one (tests_is k.Or)) (follow_conjunction wide by_part) wide)

pub follow_expr_list : (wide : ℕ) {part : Reading Token Expr} → Follows part → Follows (read_expr_list wide part)
unfolding read_expr_list
follow_expr_list wide by_part = follow_both cons (follow_whole wide by_part) (follow_links second (same_is k.Comma) (follow_one (tests_is k.Comma)) (follow_whole wide by_part) wide)

pub follow_arm : (wide : ℕ) {part : Reading Token Expr} → Follows part → Follows (read_arm wide part)
unfolding read_arm
follow_arm wide by_part = follow_both arm (follow_both second (follow_one (tests_is k.When)) (follow_whole wide by_part)) (follow_both second (follow_one (tests_is k.Then)) (follow_whole wide by_part))

pub follow_arms : (wide : ℕ) {part : Reading Token Expr} → Follows part → Follows (read_arms wide part)
unfolding read_arms
follow_arms wide by_part = follow_both cons (follow_arm wide by_part) (follow_links second (same_is k.When) (follow_nothing (tt {0})) (follow_arm wide by_part) wide)

pub follow_else : (wide : ℕ) {part : Reading Token Expr} → Follows part → Follows (read_else wide part)
unfolding read_else
follow_else wide by_part = follow_either (same_is k.Else) (follow_both after_word (follow_one (tests_is k.Else)) (follow_whole wide by_part)) (follow_nothing None)

pub follow_case_body : (wide : ℕ) {part : Reading Token Expr} → Follows part → Follows (read_case_body wide part)
unfolding read_case_body
follow_case_body wide by_part = follow_both case_of (follow_arms wide by_part) (follow_else wide by_part)

pub follow_case : (wide : ℕ) (room : ℕ) {part : Reading Token Expr} → Follows part → Follows (read_case wide room part)
unfolding read_case
follow_case wide room by_part = follow_both second (follow_opens room (tests_is k.Case)) (follow_both first (follow_case_body wide by_part) (follow_one (tests_is k.End)))

pub follow_date_text : (room : ℕ) → Follows (read_date_text room)
unfolding read_date_text
follow_date_text room = follow_either (same_is k.OpenParen) (follow_both second (follow_opens room (tests_is k.OpenParen)) (follow_both first follow_literal (follow_one (tests_is k.CloseParen)))) follow_literal

pub follow_date : (room : ℕ) → Follows (read_date room)
unfolding read_date
follow_date room = follow_both date (follow_one (tests_is k.Date)) (follow_date_text room)

pub follow_precision : (room : ℕ) → Follows (read_precision room)
unfolding read_precision
follow_precision room = follow_either (same_is k.OpenParen) (follow_mapped (constant (tt {0})) (follow_both second (follow_opens room (tests_is k.OpenParen)) (follow_both first follow_number (follow_one (tests_is k.CloseParen))))) (follow_nothing (tt {0}))

pub follow_interval : (room : ℕ) → Follows (read_interval room)
unfolding read_interval
follow_interval room = follow_both interval (follow_both second (follow_one (tests_is k.Interval)) follow_digits) (follow_both first follow_span (follow_precision room))

pub follow_extract_inside : (wide : ℕ) {part : Reading Token Expr} → Follows part → Follows (read_extract_inside wide part)
unfolding read_extract_inside
follow_extract_inside wide by_part = follow_both extract follow_span (follow_both second (follow_one (tests_is k.From)) (follow_whole wide by_part))

pub follow_extract : (wide : ℕ) (room : ℕ) {part : Reading Token Expr} → Follows part → Follows (read_extract wide room part)
unfolding read_extract
follow_extract wide room by_part = follow_both second (follow_one (tests_is k.Extract)) (follow_both second (follow_opens room (tests_is k.OpenParen)) (follow_both first (follow_extract_inside wide by_part) (follow_one (tests_is k.CloseParen))))

pub follow_places : Follows read_places
unfolding read_places
follow_places = follow_both pair (follow_both second (follow_one (tests_is k.From)) follow_number) (follow_both second (follow_one (tests_is k.For)) follow_number)

pub follow_substring_inside : (wide : ℕ) {part : Reading Token Expr} → Follows part → Follows (read_substring_inside wide part)
unfolding read_substring_inside
follow_substring_inside wide by_part = follow_both substring (follow_whole wide by_part) follow_places

pub follow_substring : (wide : ℕ) (room : ℕ) {part : Reading Token Expr} → Follows part → Follows (read_substring wide room part)
unfolding read_substring
follow_substring wide room by_part = follow_both second (follow_one (tests_is k.Substring)) (follow_both second (follow_opens room (tests_is k.OpenParen)) (follow_both first (follow_substring_inside wide by_part) (follow_one (tests_is k.CloseParen))))

pub follow_count_inside : (wide : ℕ) {part : Reading Token Expr} → Follows part → Follows (read_count_inside wide part)
unfolding read_count_inside
follow_count_inside wide by_part = follow_either (same_is k.Star) (follow_mapped (constant e.CountRows) (follow_one (tests_is k.Star))) (follow_either (same_is k.Distinct) (follow_both distinct_count (follow_one (tests_is k.Distinct)) (follow_whole wide by_part)) (follow_mapped e.Count (follow_whole wide by_part)))

pub follow_count : (wide : ℕ) (room : ℕ) {part : Reading Token Expr} → Follows part → Follows (read_count wide room part)
unfolding read_count
follow_count wide room by_part = follow_both second (follow_one (tests_is k.Count)) (follow_both second (follow_opens room (tests_is k.OpenParen)) (follow_both first (follow_count_inside wide by_part) (follow_one (tests_is k.CloseParen))))

pub follow_aggregate_word : Follows read_aggregate_word
unfolding read_aggregate_word
follow_aggregate_word = follow_either (same_is k.Sum) (follow_mapped (constant aggregate.Sum) (follow_one (tests_is k.Sum))) (follow_either (same_is k.Avg) (follow_mapped (constant aggregate.Avg) (follow_one (tests_is k.Avg))) (follow_either (same_is k.Min) (follow_mapped (constant aggregate.Min) (follow_one (tests_is k.Min))) (follow_mapped (constant aggregate.Max) (follow_one (tests_is k.Max)))))

pub follow_aggregate : (wide : ℕ) (room : ℕ) {part : Reading Token Expr} → Follows part → Follows (read_aggregate wide room part)
unfolding read_aggregate
follow_aggregate wide room by_part = follow_both e.Aggregate follow_aggregate_word (follow_both second (follow_opens room (tests_is k.OpenParen)) (follow_both first (follow_whole wide by_part) (follow_one (tests_is k.CloseParen))))

pub follow_call : (wide : ℕ) (room : ℕ) {part : Reading Token Expr} → Follows part → Follows (read_call wide room part)
unfolding read_call
follow_call wide room by_part = follow_either (same_is k.Extract) (follow_extract wide room by_part) (follow_either (same_is k.Substring) (follow_substring wide room by_part) (follow_either (same_is k.Count) (follow_count wide room by_part) (follow_aggregate wide room by_part)))

pub follow_leaf : (room : ℕ) → Follows (read_leaf room)
unfolding read_leaf
follow_leaf room = follow_either (same_is k.Number) (follow_mapped number (follow_one (tests_is k.Number))) (follow_either (same_is k.Text) (follow_mapped text (follow_one (tests_is k.Text))) (follow_either (same_is k.Date) (follow_date room) (follow_either (same_is k.Interval) (follow_interval room) (follow_mapped e.Column follow_column))))

pub follow_parens_inside : (wide : ℕ) {part : Reading Token Expr} {query : Reading Token Block} → Follows part → Follows query → Follows (read_parens_inside wide part query)
unfolding read_parens_inside
follow_parens_inside wide by_part by_query = follow_either (same_is k.Select) (follow_mapped e.Scalar by_query) (follow_whole wide by_part)

pub follow_parens : (wide : ℕ) (room : ℕ) {part : Reading Token Expr} {query : Reading Token Block} → Follows part → Follows query → Follows (read_parens wide room part query)
unfolding read_parens
follow_parens wide room by_part by_query = follow_both second (follow_opens room (tests_is k.OpenParen)) (follow_both first (follow_parens_inside wide by_part by_query) (follow_one (tests_is k.CloseParen)))

pub follow_subquery : (room : ℕ) {query : Reading Token Block} → Follows query → Follows (read_subquery room query)
unfolding read_subquery
follow_subquery room by_query = follow_both second (follow_opens room (tests_is k.OpenParen)) (follow_both first by_query (follow_one (tests_is k.CloseParen)))

pub follow_exists : (room : ℕ) {query : Reading Token Block} → Follows query → Follows (read_exists room query)
unfolding read_exists
follow_exists room by_query = follow_both second (follow_one (tests_is k.Exists)) (follow_mapped e.Exists (follow_subquery room by_query))

pub follow_operand : (wide : ℕ) (room : ℕ) {part : Reading Token Expr} {query : Reading Token Block} → Follows part → Follows query → Follows (read_operand wide room part query)
unfolding read_operand
follow_operand wide room by_part by_query = follow_either (same_is k.OpenParen) (follow_parens wide room by_part by_query) (follow_either (same_is k.Exists) (follow_exists room by_query) (follow_either (same_is k.Case) (follow_case wide room by_part) (follow_either (same_among (k.Extract ∷ k.Substring ∷ k.Count ∷ k.Sum ∷ k.Avg ∷ k.Min ∷ k.Max ∷ [])) (follow_call wide room by_part) (follow_leaf room))))

pub follow_unary_line : (wide : ℕ) (room : ℕ) {inner : Reading Token Expr} {part : Reading Token Expr} {query : Reading Token Block} → Follows inner → Follows part → Follows query → Follows (read_unary_line wide room inner part query)
unfolding read_unary_line
follow_unary_line wide room by_inner by_part by_query = follow_either (same_is k.Minus) (follow_both negative (follow_opens room (tests_is k.Minus)) by_inner) (follow_operand wide room by_part by_query)

pub follow_comparison : Follows read_comparison
unfolding read_comparison
follow_comparison = follow_either (same_is k.Equal) (follow_mapped (constant comparison.Equal) (follow_one (tests_is k.Equal))) (follow_either (same_is k.NotEqual) (follow_mapped (constant comparison.NotEqual) (follow_one (tests_is k.NotEqual))) (follow_either (same_is k.Less) (follow_mapped (constant comparison.Less) (follow_one (tests_is k.Less))) (follow_either (same_is k.LessOrEqual) (follow_mapped (constant comparison.LessOrEqual) (follow_one (tests_is k.LessOrEqual))) (follow_either (same_is k.Greater) (follow_mapped (constant comparison.Greater) (follow_one (tests_is k.Greater))) (follow_mapped (constant comparison.GreaterOrEqual) (follow_one (tests_is k.GreaterOrEqual)))))))

pub follow_quantifier : Follows read_quantifier
unfolding read_quantifier
follow_quantifier = follow_either (same_is k.Any) (follow_mapped (constant quantifier.Any) (follow_one (tests_is k.Any))) (follow_either (same_is k.Some) (follow_mapped (constant quantifier.Any) (follow_one (tests_is k.Some))) (follow_mapped (constant quantifier.All) (follow_one (tests_is k.All))))

pub follow_compared_query : (room : ℕ) {query : Reading Token Block} → Follows query → Follows (read_compared_query room query)
unfolding read_compared_query
follow_compared_query room by_query = follow_both compared.Query follow_quantifier (follow_subquery room by_query)

pub follow_compared : (wide : ℕ) (room : ℕ) {unary : Reading Token Expr} {query : Reading Token Block} → Follows unary → Follows query → Follows (read_compared wide room unary query)
unfolding read_compared
follow_compared wide room by_unary by_query = follow_either (same_among (k.Any ∷ k.Some ∷ k.All ∷ [])) (follow_compared_query room by_query) (follow_mapped compared.Sum (follow_sum wide by_unary))

pub follow_compare : (wide : ℕ) (room : ℕ) {unary : Reading Token Expr} {query : Reading Token Block} → Follows unary → Follows query → Follows (read_compare wide room unary query)
unfolding read_compare
follow_compare wide room by_unary by_query = follow_both t.Compare follow_comparison (follow_compared wide room by_unary by_query)

pub follow_null : Follows read_null
unfolding read_null
follow_null = follow_both second (follow_one (tests_is k.Is)) (follow_either (same_is k.Not) (follow_both is_not_null (follow_one (tests_is k.Not)) (follow_one (tests_is k.Null))) (follow_mapped is_null (follow_one (tests_is k.Null))))

pub follow_between : (wide : ℕ) {unary : Reading Token Expr} → Follows unary → Follows (read_between wide unary)
unfolding read_between
follow_between wide by_unary = follow_both second (follow_one (tests_is k.Between)) (follow_both between (follow_sum wide by_unary) (follow_both second (follow_one (tests_is k.And)) (follow_sum wide by_unary)))

pub follow_like : Follows read_like
unfolding read_like
follow_like = follow_both like (follow_one (tests_is k.Like)) follow_literal

pub follow_in_inside : (wide : ℕ) {part : Reading Token Expr} {query : Reading Token Block} → Follows part → Follows query → Follows (read_in_inside wide part query)
unfolding read_in_inside
follow_in_inside wide by_part by_query = follow_either (same_is k.Select) (follow_mapped in_query by_query) (follow_mapped in_list (follow_expr_list wide by_part))

pub follow_in : (wide : ℕ) (room : ℕ) {part : Reading Token Expr} {query : Reading Token Block} → Follows part → Follows query → Follows (read_in wide room part query)
unfolding read_in
follow_in wide room by_part by_query = follow_both second (follow_one (tests_is k.In)) (follow_both second (follow_opens room (tests_is k.OpenParen)) (follow_both first (follow_in_inside wide by_part by_query) (follow_one (tests_is k.CloseParen))))

pub follow_deny_test : (wide : ℕ) (room : ℕ) {unary : Reading Token Expr} {part : Reading Token Expr} {query : Reading Token Block} → Follows unary → Follows part → Follows query → Follows (read_deny_test wide room unary part query)
unfolding read_deny_test
follow_deny_test wide room by_unary by_part by_query = follow_either (same_is k.Between) (follow_between wide by_unary) (follow_either (same_is k.Like) follow_like (follow_in wide room by_part by_query))

pub follow_test : (wide : ℕ) (room : ℕ) {unary : Reading Token Expr} {part : Reading Token Expr} {query : Reading Token Block} → Follows unary → Follows part → Follows query → Follows (read_test wide room unary part query)
unfolding read_test
follow_test wide room by_unary by_part by_query = follow_either (same_among (k.Equal ∷ k.NotEqual ∷ k.Less ∷ k.LessOrEqual ∷ k.Greater ∷ k.GreaterOrEqual ∷ [])) (follow_compare wide room by_unary by_query) (follow_either (same_is k.Is) follow_null (follow_either (same_is k.Not) (follow_both denied (follow_one (tests_is k.Not)) (follow_deny_test wide room by_unary by_part by_query)) (follow_either (same_among (k.Between ∷ k.Like ∷ k.In ∷ [])) (follow_deny_test wide room by_unary by_part by_query) (follow_nothing t.Absent))))

pub follow_predicate : (wide : ℕ) (room : ℕ) {unary : Reading Token Expr} {part : Reading Token Expr} {query : Reading Token Block} → Follows unary → Follows part → Follows query → Follows (read_predicate wide room unary part query)
unfolding read_predicate
follow_predicate wide room by_unary by_part by_query = follow_both tested (follow_sum wide by_unary) (follow_test wide room by_unary by_part by_query)

pub follow_part_line : (wide : ℕ) (room : ℕ) {unary : Reading Token Expr} {part : Reading Token Expr} {query : Reading Token Block} → Follows unary → Follows part → Follows query → Follows (read_part_line wide room unary part query)
unfolding read_part_line
follow_part_line wide room by_unary by_part by_query = follow_either (same_is k.Not) (follow_both negation (follow_opens room (tests_is k.Not)) by_part) (follow_predicate wide room by_unary by_part by_query)

pub follow_alias : Follows read_alias
unfolding read_alias
follow_alias = follow_either (same_is k.As) (follow_both after_word (follow_one (tests_is k.As)) follow_name) (follow_either (same_is k.Name) (follow_mapped Some follow_name) (follow_nothing None))

pub follow_item : (wide : ℕ) {part : Reading Token Expr} → Follows part → Follows (read_item wide part)
unfolding read_item
follow_item wide by_part = follow_both item (follow_whole wide by_part) follow_alias

pub follow_selection : (wide : ℕ) {part : Reading Token Expr} → Follows part → Follows (read_selection wide part)
unfolding read_selection
follow_selection wide by_part = follow_either (same_is k.Star) (follow_mapped (constant selected.All) (follow_one (tests_is k.Star))) (follow_mapped selected.Items (follow_both cons (follow_item wide by_part) (follow_links second (same_is k.Comma) (follow_one (tests_is k.Comma)) (follow_item wide by_part) wide)))

pub follow_select : (wide : ℕ) {part : Reading Token Expr} → Follows part → Follows (read_select wide part)
unfolding read_select
follow_select wide by_part = follow_both second (follow_one (tests_is k.Select)) (follow_either (same_is k.Distinct) (follow_both distinct (follow_one (tests_is k.Distinct)) (follow_selection wide by_part)) (follow_mapped plain_selection (follow_selection wide by_part)))

pub follow_names : (wide : ℕ) → Follows (read_names wide)
unfolding read_names
follow_names wide = follow_both cons follow_name (follow_links second (same_is k.Comma) (follow_one (tests_is k.Comma)) follow_name wide)

pub follow_column_names : (wide : ℕ) (room : ℕ) → Follows (read_column_names wide room)
unfolding read_column_names
follow_column_names wide room = follow_either (same_is k.OpenParen) (follow_both second (follow_opens room (tests_is k.OpenParen)) (follow_both first (follow_names wide) (follow_one (tests_is k.CloseParen)))) (follow_nothing [])

pub follow_table : Follows read_table
unfolding read_table
follow_table = follow_both from_item.Table follow_name follow_alias

pub follow_derived_alias : Follows read_derived_alias
unfolding read_derived_alias
follow_derived_alias = follow_either (same_is k.As) (follow_both second (follow_one (tests_is k.As)) follow_name) follow_name

pub follow_from_query : (wide : ℕ) (room : ℕ) {query : Reading Token Block} → Follows query → Follows (read_from_query wide room query)
unfolding read_from_query
follow_from_query wide room by_query = follow_both pair (follow_subquery room by_query) (follow_both pair follow_derived_alias (follow_column_names wide room))

pub follow_derived : (wide : ℕ) (room : ℕ) {query : Reading Token Block} → Follows query → Follows (read_derived wide room query)
unfolding read_derived
follow_derived wide room by_query = follow_mapped derived (follow_from_query wide room by_query)

pub follow_lateral : (wide : ℕ) (room : ℕ) {query : Reading Token Block} → Follows query → Follows (read_lateral wide room query)
unfolding read_lateral
follow_lateral wide room by_query = follow_both lateral (follow_one (tests_is k.Lateral)) (follow_from_query wide room by_query)

pub follow_from_item : (wide : ℕ) (room : ℕ) {query : Reading Token Block} → Follows query → Follows (read_from_item wide room query)
unfolding read_from_item
follow_from_item wide room by_query = follow_either (same_is k.OpenParen) (follow_derived wide room by_query) (follow_either (same_is k.Lateral) (follow_lateral wide room by_query) follow_table)

pub follow_inner_words : Follows read_inner_words
unfolding read_inner_words
follow_inner_words = follow_either (same_is k.Join) (follow_mapped (constant join_kind.Inner) (follow_one (tests_is k.Join))) (follow_mapped (constant join_kind.Inner) (follow_both second (follow_one (tests_is k.Inner)) (follow_one (tests_is k.Join))))

pub follow_left_words : Follows read_left_words
unfolding read_left_words
follow_left_words = follow_mapped (constant join_kind.LeftOuter) (follow_both second (follow_one (tests_is k.Left)) (follow_either (same_is k.Outer) (follow_both second (follow_one (tests_is k.Outer)) (follow_one (tests_is k.Join))) (follow_one (tests_is k.Join))))

pub follow_join_words : Follows read_join_words
unfolding read_join_words
follow_join_words = follow_either (same_is k.Left) follow_left_words follow_inner_words

pub follow_joined_item : (wide : ℕ) (room : ℕ) {part : Reading Token Expr} {query : Reading Token Block} → Follows part → Follows query → Follows (read_joined_item wide room part query)
unfolding read_joined_item
follow_joined_item wide room by_part by_query = follow_both pair (follow_from_item wide room by_query) (follow_both second (follow_one (tests_is k.On)) (follow_whole wide by_part))

pub follow_joined : (wide : ℕ) (room : ℕ) {part : Reading Token Expr} {query : Reading Token Block} → Follows part → Follows query → Follows (read_joined wide room part query)
unfolding read_joined
follow_joined wide room by_part by_query = follow_both joined (follow_from_item wide room by_query) (follow_links join (same_among (k.Left ∷ k.Join ∷ k.Inner ∷ [])) follow_join_words (follow_joined_item wide room by_part by_query) wide)

pub follow_from : (wide : ℕ) (room : ℕ) {part : Reading Token Expr} {query : Reading Token Block} → Follows part → Follows query → Follows (read_from wide room part query)
unfolding read_from
follow_from wide room by_part by_query = follow_both second (follow_one (tests_is k.From)) (follow_both cons (follow_joined wide room by_part by_query) (follow_links second (same_is k.Comma) (follow_one (tests_is k.Comma)) (follow_joined wide room by_part by_query) wide))

pub follow_where : (wide : ℕ) {part : Reading Token Expr} → Follows part → Follows (read_where wide part)
unfolding read_where
follow_where wide by_part = follow_either (same_is k.Where) (follow_both condition (follow_one (tests_is k.Where)) (follow_whole wide by_part)) (follow_nothing clause.Absent)

pub follow_group : (wide : ℕ) → Follows (read_group wide)
unfolding read_group
follow_group wide = follow_either (same_is k.Group) (follow_both second (follow_both second (follow_one (tests_is k.Group)) (follow_one (tests_is k.By))) (follow_both cons follow_column (follow_links second (same_is k.Comma) (follow_one (tests_is k.Comma)) follow_column wide))) (follow_nothing [])

pub follow_having : (wide : ℕ) {part : Reading Token Expr} → Follows part → Follows (read_having wide part)
unfolding read_having
follow_having wide by_part = follow_either (same_is k.Having) (follow_both condition (follow_one (tests_is k.Having)) (follow_whole wide by_part)) (follow_nothing clause.Absent)

pub follow_filters : (wide : ℕ) {part : Reading Token Expr} → Follows part → Follows (read_filters wide part)
unfolding read_filters
follow_filters wide by_part = follow_both filters (follow_where wide by_part) (follow_both pair (follow_group wide) (follow_having wide by_part))

pub follow_block : (wide : ℕ) (room : ℕ) {part : Reading Token Expr} {query : Reading Token Block} → Follows part → Follows query → Follows (read_block wide room part query)
unfolding read_block
follow_block wide room by_part by_query = follow_both block (follow_select wide by_part) (follow_both pair (follow_from wide room by_part by_query) (follow_filters wide by_part))

pub follow_all : Follows read_all
unfolding read_all
follow_all = follow_either (same_is k.All) (follow_mapped (constant true) (follow_one (tests_is k.All))) (follow_nothing false)

pub follow_intersect_words : Follows read_intersect_words
unfolding read_intersect_words
follow_intersect_words = follow_both pair (follow_mapped (constant set_operator.Intersect) (follow_one (tests_is k.Intersect))) follow_all

pub follow_set_word : Follows read_set_word
unfolding read_set_word
follow_set_word = follow_either (same_is k.Union) (follow_mapped (constant set_operator.Union) (follow_one (tests_is k.Union))) (follow_mapped (constant set_operator.Except) (follow_one (tests_is k.Except)))

pub follow_set_words : Follows read_set_words
unfolding read_set_words
follow_set_words = follow_both pair follow_set_word follow_all

pub follow_term_line : (wide : ℕ) (room : ℕ) {part : Reading Token Expr} {query : Reading Token Block} → Follows part → Follows query → Follows (read_term wide room part query)
unfolding read_term
follow_term_line wide room by_part by_query = follow_both combined (follow_block wide room by_part by_query) (follow_links set_part (same_is k.Intersect) follow_intersect_words (follow_block wide room by_part by_query) wide)

pub follow_query_line : (wide : ℕ) (room : ℕ) {part : Reading Token Expr} {query : Reading Token Block} → Follows part → Follows query → Follows (read_query_line wide room part query)
unfolding read_query_line
follow_query_line wide room by_part by_query = follow_both combined (follow_term_line wide room by_part by_query) (follow_links set_part (same_among (k.Union ∷ k.Except ∷ [])) follow_set_words (follow_term_line wide room by_part by_query) wide)

pub follow_direction : Follows read_direction
unfolding read_direction
follow_direction = follow_either (same_is k.Asc) (follow_mapped (constant false) (follow_one (tests_is k.Asc))) (follow_either (same_is k.Desc) (follow_mapped (constant true) (follow_one (tests_is k.Desc))) (follow_nothing false))

pub follow_named_key : Follows read_named_key
unfolding read_named_key
follow_named_key = follow_both named_key follow_name follow_direction

pub follow_order : (wide : ℕ) → Follows (read_order wide)
unfolding read_order
follow_order wide = follow_either (same_is k.Order) (follow_both second (follow_both second (follow_one (tests_is k.Order)) (follow_one (tests_is k.By))) (follow_both cons follow_named_key (follow_links second (same_is k.Comma) (follow_one (tests_is k.Comma)) follow_named_key wide))) (follow_nothing [])

pub follow_rows_only : Follows read_rows_only
unfolding read_rows_only
follow_rows_only = follow_both second (follow_one (tests_is k.Rows)) (follow_one (tests_is k.Only))

pub follow_limit : Follows read_limit
unfolding read_limit
follow_limit = follow_either (same_is k.Limit) (follow_both after_word (follow_one (tests_is k.Limit)) follow_number) (follow_either (same_is k.Fetch) (follow_both after_word (follow_both second (follow_one (tests_is k.Fetch)) (follow_one (tests_is k.First))) (follow_both first follow_number follow_rows_only)) (follow_nothing None))

pub follow_version : Follows read_version
unfolding read_version
follow_version = follow_either (same_is k.At) (follow_both after_word (follow_both second (follow_one (tests_is k.At)) (follow_one (tests_is k.Version))) follow_number) (follow_nothing None)

pub follow_ordered : (wide : ℕ) {query : Reading Token Block} → Follows query → Follows (read_ordered wide query)
unfolding read_ordered
follow_ordered wide by_query = follow_both ordered by_query (follow_both pair (follow_order wide) (follow_both pair follow_limit follow_version))

pub follow_with_query : (wide : ℕ) (room : ℕ) {inner : Reading Token Block} → Follows inner → Follows (read_with_query wide room inner)
unfolding read_with_query
follow_with_query wide room by_inner = follow_both with_query (follow_both pair follow_name (follow_column_names wide room)) (follow_both second (follow_one (tests_is k.As)) (follow_subquery room by_inner))

pub follow_with : (wide : ℕ) (room : ℕ) {inner : Reading Token Block} → Follows inner → Follows (read_with wide room inner)
unfolding read_with
follow_with wide room by_inner = follow_both second (follow_one (tests_is k.With)) (follow_both cons (follow_with_query wide room by_inner) (follow_links second (same_is k.Comma) (follow_one (tests_is k.Comma)) (follow_with_query wide room by_inner) wide))

pub follow_with_ordered : (wide : ℕ) (room : ℕ) {query inner : Reading Token Block} → Follows query → Follows inner → Follows (read_with_ordered wide room query inner)
unfolding read_with_ordered
follow_with_ordered wide room by_query by_inner = follow_both under_with (follow_with wide room by_inner) (follow_ordered wide by_query)

pub follow_view_name : (wide : ℕ) (room : ℕ) → Follows (read_view_name wide room)
unfolding read_view_name
follow_view_name wide room = follow_both second (follow_both second (follow_one (tests_is k.Create)) (follow_one (tests_is k.View))) (follow_both pair follow_name (follow_column_names wide room))

pub follow_create : (wide : ℕ) (room : ℕ) {query : Reading Token Block} → Follows query → Follows (read_create wide room query)
unfolding read_create
follow_create wide room by_query = follow_both create_view (follow_view_name wide room) (follow_both second (follow_one (tests_is k.As)) by_query)

pub follow_drop : Follows read_drop
unfolding read_drop
follow_drop = follow_both second (follow_both second (follow_one (tests_is k.Drop)) (follow_one (tests_is k.View))) (follow_mapped statements.DropView follow_name)

pub follow_refresh_word : Follows read_refresh_word
unfolding read_refresh_word
follow_refresh_word = follow_either (same_is k.Insert) (follow_mapped (constant refresh_kind.Insert) (follow_one (tests_is k.Insert))) (follow_mapped (constant refresh_kind.Delete) (follow_one (tests_is k.Delete)))

pub follow_refresh : Follows read_refresh
unfolding read_refresh
follow_refresh = follow_both second (follow_one (tests_is k.Refresh)) (follow_both statements.Refresh follow_refresh_word follow_number)

pub follow_value : Follows read_value
unfolding read_value
follow_value = follow_either (same_is k.Text) (follow_mapped text_value (follow_one (tests_is k.Text))) (follow_mapped number_value (follow_one (tests_is k.Number)))

pub follow_values : (wide : ℕ) → Follows (read_values wide)
unfolding read_values
follow_values wide = follow_both cons follow_value (follow_links second (same_is k.Comma) (follow_one (tests_is k.Comma)) follow_value wide)

pub follow_run_inside : (wide : ℕ) → Follows (read_run_inside wide)
unfolding read_run_inside
follow_run_inside wide = follow_either (same_is k.CloseParen) (follow_mapped (constant []) (follow_one (tests_is k.CloseParen))) (follow_both first (follow_values wide) (follow_one (tests_is k.CloseParen)))

pub follow_run : (wide : ℕ) (room : ℕ) → Follows (read_run wide room)
unfolding read_run
follow_run wide room = follow_both second (follow_one (tests_is k.Run)) (follow_both statements.Run follow_number (follow_both second (follow_opens room (tests_is k.OpenParen)) (follow_run_inside wide)))

pub follow_statement : (wide : ℕ) (room : ℕ) {query inner : Reading Token Block} → Follows query → Follows inner → Follows (read_statement wide room query inner)
unfolding read_statement
follow_statement wide room by_query by_inner = follow_either (same_is k.Select) (follow_mapped statements.Query (follow_ordered wide by_query)) (follow_either (same_is k.With) (follow_with_ordered wide room by_query by_inner) (follow_either (same_is k.Create) (follow_create wide room by_query) (follow_either (same_is k.Drop) follow_drop (follow_either (same_is k.Refresh) follow_refresh (follow_run wide room)))))

pub follow_ended : (wide : ℕ) (room : ℕ) {query inner : Reading Token Block} → Follows query → Follows inner → Follows (read_ended wide room query inner)
unfolding read_ended
follow_ended wide room by_query by_inner = follow_both first (follow_statement wide room by_query by_inner) (follow_one (tests_is k.Semicolon))

-- ---- the three parts that lead back to themselves
record AtRoom (room : ℕ) : Type 0 where
  unary : Follows (unary_at 1023 room)
  part : Follows (part_at 1023 room)
  query : Follows (query_at 1023 room)

at_room : (room : ℕ) → AtRoom room
unfolding unary_at
at_room zero =
    let unary = follow_unary_line 1023 0 follow_never follow_never follow_never in
    let part = follow_part_line 1023 0 unary follow_never follow_never in
    record { unary = unary; part = part; query = follow_query_line 1023 0 part follow_never }
at_room (suc room) =
    let inner = at_room room in
    let unary = follow_unary_line 1023 (suc room) inner.unary inner.part inner.query in
    let part = follow_part_line 1023 (suc room) unary inner.part inner.query in
    record { unary = unary; part = part; query = follow_query_line 1023 (suc room) part inner.query }

follow_inner : (room : ℕ) → Follows (inner_query 1023 room)
follow_inner zero = follow_never
follow_inner (suc room) = (at_room room).query

pub follow_ended_at : (room : ℕ) → Follows (ended_at 1023 room)
follow_ended_at room = let at = at_room room in follow_ended 1023 room at.query (follow_inner room)
