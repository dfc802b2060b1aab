-- The sample tokens of each of the 22 templates are read, and the template with its values is no longer than a script.
use Rattle.std.proofs.Common.{◌≡◌, ℕ, zero, suc, ◌<◌, Bool, true, false, List, [], ◌∷◌, length, Option, Some, None, Result, Ok, Err, refl, arith}
use Rattle.std.specs.Prelude.{nat_le, slice_index_or}
use Rattle.std.specs.List.{list_all}
use Rattle.sql_grammar_laws.specs.declared.fault.SyntaxFault.{SyntaxFault}
use Rattle.sql_grammar_laws.specs.Readings.{links}
use Rattle.sql_grammar_laws.specs.Scripts.{statements}
use Rattle.sql_lexer.specs.Kinds.{is}
use Rattle.sql_lexer.specs.declared.token.Token.{Token}
use Rattle.sql_lexer.proofs.Truths.{and_left, and_right}
use Rattle.sql_parser_steps.specs.ExpressionReadings.{read_name, read_literal, read_number, read_digits, read_span, read_column_tail, read_column, read_multiply, read_add, read_product, read_sum, read_conjunction, read_whole, read_expr_list, read_arm, read_arms, read_else, read_case_body, read_case, read_date_text, read_date, read_precision, read_interval, read_extract_inside, read_extract, read_places, read_substring_inside, read_substring, read_count_inside, read_count, read_aggregate_word, read_aggregate, read_call, read_leaf, read_parens_inside, read_parens, read_subquery, read_exists, read_operand, read_unary_line, read_comparison, read_quantifier, read_compared_query, read_compared, read_compare, read_null, read_between, read_like, read_in_inside, read_in, read_deny_test, read_test, read_predicate, read_part_line}
use Rattle.sql_parser_steps.specs.Readings.{read_alias, read_item, read_selection, read_select, read_names, read_column_names, read_table, read_derived_alias, read_from_query, read_derived, read_lateral, read_from_item, read_inner_words, read_left_words, read_join_words, read_joined_item, read_joined, read_from, read_where, read_group, read_having, read_filters, read_block, read_all, read_intersect_words, read_set_word, read_set_words, read_term, read_query_line, read_direction, read_named_key, read_order, read_rows_only, read_limit, read_version, read_ordered, read_with_query, read_with, read_with_ordered, read_view_name, read_create, read_drop, read_refresh_word, read_refresh, read_value, read_values, read_run_inside, read_run, read_statement, read_ended, unary_at, ended_at}
use Rattle.sql_parser.specs.Script.{max_script}
use Rattle.sql_templates.specs.Cutting.{cut}
use Rattle.sql_templates.specs.Parts.{outside, sample_tokens}
use Rattle.sql_templates.specs.Templates.{Template, templates, no_template}
use Rattle.sql_templates.proofs.Short.{longest}

-- a value was read
abbrev pub is_value : {A : Type 0} → Result A SyntaxFault → Bool
is_value (Ok a) = true
is_value (Err r) = false

-- statements are read of these tokens
abbrev pub are_read : List Token → Bool
are_read ts = is_value (statements (ended_at 1023 64) (length ts) ts).0

-- statements are read of the tokens, where there are some
abbrev pub is_read_of : Option (List Token) → Bool
is_read_of None = false
is_read_of (Some ts) = are_read ts

-- statements are read of the template's sample tokens
abbrev pub is_sample_read : Template → Bool
is_sample_read t = is_read_of (sample_tokens t.kinds (outside t.text))

-- the template with its values is no longer than a script
abbrev pub is_short : Template → Bool
is_short t = nat_le (longest t.text) max_script

all_samples_read : list_all is_sample_read templates ≡ true
unfolding outside cut is links statements read_name read_literal read_number read_digits read_span read_column_tail read_column read_multiply read_add read_product read_sum read_conjunction read_whole read_expr_list read_arm read_arms read_else read_case_body read_case read_date_text read_date read_precision read_interval read_extract_inside read_extract read_places read_substring_inside read_substring read_count_inside read_count read_aggregate_word read_aggregate read_call read_leaf read_parens_inside read_parens read_subquery read_exists read_operand read_unary_line read_comparison read_quantifier read_compared_query read_compared read_compare read_null read_between read_like read_in_inside read_in read_deny_test read_test read_predicate read_part_line read_alias read_item read_selection read_select read_names read_column_names read_table read_derived_alias read_from_query read_derived read_lateral read_from_item read_inner_words read_left_words read_join_words read_joined_item read_joined read_from read_where read_group read_having read_filters read_block read_all read_intersect_words read_set_word read_set_words read_term read_query_line read_direction read_named_key read_order read_rows_only read_limit read_version read_ordered read_with_query read_with read_with_ordered read_view_name read_create read_drop read_refresh_word read_refresh read_value read_values read_run_inside read_run read_statement read_ended unary_at
all_samples_read = refl

all_short : list_all is_short templates ≡ true
all_short = refl

-- what holds of all holds of each
at_each : (p : Template → Bool) (ts : List Template) → list_all p ts ≡ true → (n : ℕ) → n < length ts → p (slice_index_or ts n no_template) ≡ true
at_each p [] h n lt = absurd (omega (arith, lt))
at_each p (t ∷ ts) h zero lt = and_left (p t) (list_all p ts) h
at_each p (t ∷ ts) h (suc n) lt = at_each p ts (and_right (p t) (list_all p ts) h) n (omega (arith, lt))

pub sample_read : (n : ℕ) → n < 22 → is_sample_read (slice_index_or templates n no_template) ≡ true
sample_read = at_each is_sample_read templates all_samples_read

pub template_short : (n : ℕ) → n < 22 → is_short (slice_index_or templates n no_template) ≡ true
template_short = at_each is_short templates all_short
