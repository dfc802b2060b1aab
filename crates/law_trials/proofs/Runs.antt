-- The script of a trial is read: it is runs with values that can be put into a script.
use Rattle.std.proofs.Common.{◌≡◌, ℕ, ◌≤◌, Bool, true, false, ◌&&◌, List, [], ◌∷◌, length, Option, Some, None, Result, Ok, Err, refl, ap, sym, subst, arith}
use Rattle.std.specs.Prelude.{nat_le}
use Rattle.std.specs.List.{list_all}
use Rattle.std.proofs.lemmas.Bool.{and_parts, leb-true}
use Rattle.base_text.specs.Printable.{first_unprintable}
use Rattle.base_decimal.specs.Decimal.{fits}
use Rattle.sql_grammar_laws.specs.declared.fault.SyntaxFault.{SyntaxFault}
use Rattle.sql_grammar_laws.specs.Readings.{Outcome, links}
use Rattle.sql_grammar_laws.specs.Scripts.{statements}
use Rattle.sql_grammar_laws.proofs.Verdict.{read_is}
use Rattle.sql_ast.specs.declared.statement.Statement.{Statement}
use Rattle.sql_ast.specs.declared.statement.Statement.TheVariants.{Run}
use Rattle.sql_ast.specs.declared.statement.TemplateValue.{TemplateValue}
use Rattle.sql_ast.specs.declared.statement.TemplateValue.TheVariants as value
use Rattle.sql_lexer.specs.Kinds.{is}
use Rattle.sql_lexer.specs.declared.token.Token.{Token}
use Rattle.sql_parser_steps.specs.ExpressionReadings.{read_name, read_literal, read_number, read_digits, read_span, read_column_tail, read_column, read_multiply, read_add, read_product, read_sum, read_conjunction, read_whole, read_expr_list, read_arm, read_arms, read_else, read_case_body, read_case, read_date_text, read_date, read_precision, read_interval, read_extract_inside, read_extract, read_places, read_substring_inside, read_substring, read_count_inside, read_count, read_aggregate_word, read_aggregate, read_call, read_leaf, read_parens_inside, read_parens, read_subquery, read_exists, read_operand, read_unary_line, read_comparison, read_quantifier, read_compared_query, read_compared, read_compare, read_null, read_between, read_like, read_in_inside, read_in, read_deny_test, read_test, read_predicate, read_part_line}
use Rattle.sql_parser.specs.Grammar.{Ended}
use Rattle.sql_parser_steps.specs.Readings.{read_alias, read_item, read_selection, read_select, read_names, read_column_names, read_table, read_derived_alias, read_derived, read_from_item, read_inner_words, read_left_words, read_join_words, read_joined_item, read_joined, read_from, read_where, read_group, read_having, read_filters, read_block, read_all, read_intersect_words, read_set_word, read_set_words, read_term, read_query_line, read_direction, read_named_key, read_order, read_rows_only, read_limit, read_version, read_ordered, read_with_query, read_with, read_with_ordered, read_view_name, read_create, read_drop, read_refresh_word, read_refresh, read_value, read_values, read_run_inside, read_run, read_statement, read_ended, unary_at, ended_at}
use Rattle.sql_parser.specs.Script.{IsReadScript, max_script}
use Rattle.sql_parser.proofs.Levels.{is_read}
use Rattle.sql_templates.specs.Writable.{AreWritable}
use Rattle.app_run.specs.Trial.{trial_queries}
use Rattle.law_trials.proofs.Lexed.{lexed, lexed_is}

-- no byte was found
abbrev no_place : Option ℕ → Bool
no_place (Some place) = false
no_place None = true

-- the value can be put into a script
abbrev can_write : TemplateValue → Bool
can_write (value.Text text) = no_place (first_unprintable text)
can_write (value.Number number places) = fits number && nat_le places 18

-- a run with such values
abbrev pub is_run : Statement → Bool
is_run (Run number values) = list_all can_write values
is_run other = false

-- such statements were read
abbrev are_runs : Outcome Token (List Statement) → Bool
are_runs (Ok statements, rest) = list_all is_run statements
are_runs (Err refusal, rest) = false

-- such statements are read of the tokens, where there are some
abbrev read_runs : Option (List Token) → Bool
read_runs None = false
read_runs (Some ts) = are_runs (statements (ended_at 1023 64) (length ts) ts)

queries_read : read_runs (lexed 800 0 trial_queries) ≡ true
unfolding lexed is links statements read_name read_literal read_number read_digits read_span read_column_tail read_column read_multiply read_add read_product read_sum read_conjunction read_whole read_expr_list read_arm read_arms read_else read_case_body read_case read_date_text read_date read_precision read_interval read_extract_inside read_extract read_places read_substring_inside read_substring read_count_inside read_count read_aggregate_word read_aggregate read_call read_leaf read_parens_inside read_parens read_subquery read_exists read_operand read_unary_line read_comparison read_quantifier read_compared_query read_compared read_compare read_null read_between read_like read_in_inside read_in read_deny_test read_test read_predicate read_part_line read_alias read_item read_selection read_select read_names read_column_names read_table read_derived_alias read_derived read_from_item read_inner_words read_left_words read_join_words read_joined_item read_joined read_from read_where read_group read_having read_filters read_block read_all read_intersect_words read_set_word read_set_words read_term read_query_line read_direction read_named_key read_order read_rows_only read_limit read_version read_ordered read_with_query read_with read_with_ordered read_view_name read_create read_drop read_refresh_word read_refresh read_value read_values read_run_inside read_run read_statement read_ended unary_at
queries_read = refl

queries_short : nat_le (length trial_queries) max_script ≡ true
queries_short = refl

-- the statements of the script
pub record AreRuns : Type 0 where
  pub runs : List Statement
  pub read : IsReadScript trial_queries runs
  pub are : list_all is_run runs ≡ true

by_read : (ts : List Token) (o : Outcome Token (List Statement)) → lexed 800 0 trial_queries ≡ Some ts → statements (ended_at 1023 64) (length ts) ts ≡ o → are_runs o ≡ true → AreRuns
by_read ts (Ok ss, rest) e f g = record {
  runs = ss;
  read = record {
    short = leb-true _ _ queries_short;
    tokens = ts;
    lexes = lexed_is 800 0 trial_queries ts e;
    read = read_is (Ended 1023 64) (ended_at 1023 64) (is_read 1023 64) ts ss rest f;
  };
  are = g;
}
by_read ts (Err refusal, rest) e f g = cc

by_tokens : (o : Option (List Token)) → lexed 800 0 trial_queries ≡ o → read_runs o ≡ true → AreRuns
by_tokens None e g = cc
by_tokens (Some ts) e g = by_read ts (statements (ended_at 1023 64) (length ts) ts) e refl g

pub runs_read : AreRuns
runs_read = by_tokens (lexed 800 0 trial_queries) refl queries_read

none_found : (o : Option ℕ) → no_place o ≡ true → o ≡ None
none_found None e = refl
none_found (Some place) e = cc

pub writable : (values : List TemplateValue) → list_all can_write values ≡ true → AreWritable values
writable [] e = tt
writable (value.Text text ∷ values) e =
    let parts = and_parts (can_write (value.Text text)) (list_all can_write values) e in
    (none_found (first_unprintable text) parts.0, writable values parts.1)
writable (value.Number number places ∷ values) e =
    let parts = and_parts (can_write (value.Number number places)) (list_all can_write values) e in
    let both = and_parts (fits number) (nat_le places 18) parts.0 in
    ((both.0, leb-true places 18 both.1), writable values parts.1)
