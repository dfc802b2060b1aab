-- Reading the grammar's lines of expressions from left to right, a definition for each.
use Rattle.std.specs.Prelude.{ℕ, List, [], ◌∷◌, Option, None}
use Rattle.sql_lexer.specs.declared.kind.Kind.TheVariants as k
use Rattle.sql_lexer.specs.declared.token.Token.{Token}
use Rattle.sql_ast.specs.declared.tree.Expr.{Expr}
use Rattle.sql_ast.specs.declared.tree.Expr.TheVariants as e
use Rattle.sql_ast.specs.declared.tree.Arm.{Arm}
use Rattle.sql_ast.specs.declared.words.Column.{Column}
use Rattle.sql_ast.specs.declared.words.Comparison.{Comparison}
use Rattle.sql_ast.specs.declared.words.Comparison.TheVariants as comparison
use Rattle.sql_ast.specs.declared.words.Quantifier.{Quantifier}
use Rattle.sql_ast.specs.declared.words.Quantifier.TheVariants as quantifier
use Rattle.sql_ast.specs.declared.words.Span.{Span}
use Rattle.sql_ast.specs.declared.words.Span.TheVariants as span
use Rattle.sql_ast.specs.declared.words.Aggregate.{Aggregate}
use Rattle.sql_ast.specs.declared.words.Aggregate.TheVariants as aggregate
use Rattle.sql_ast.specs.declared.words.Adding.{Adding}
use Rattle.sql_ast.specs.declared.words.Adding.TheVariants as adding
use Rattle.sql_ast.specs.declared.words.Multiplying.{Multiplying}
use Rattle.sql_ast.specs.declared.words.Multiplying.TheVariants as multiplying
use Rattle.sql_ast.specs.declared.tree.Block.{Block}
use Rattle.sql_parser_steps.specs.declared.test.Compared.{Compared}
use Rattle.sql_parser_steps.specs.declared.test.Compared.TheVariants as compared
use Rattle.sql_parser_steps.specs.declared.test.Test.{Test}
use Rattle.sql_parser_steps.specs.declared.test.Test.TheVariants as t
use Rattle.sql_lexer.specs.Kinds.{is}
use Rattle.sql_grammar_laws.specs.Kinds.{among}
use Rattle.sql_grammar_laws.specs.Readings.{Reading, one, opens, nothing, both, mapped, either, links}
use Rattle.sql_parser_steps.specs.Kinds.{kinds}
use Rattle.sql_parser_steps.specs.Values.{Name, text_of, count_of, number, text, is_count, is_digits}
use Rattle.sql_parser_steps.specs.Values.{first, second, pair, cons, constant, after_word, after_point}
use Rattle.sql_parser_steps.specs.Values.{column, negative, negation, factor, term, product, sum}
use Rattle.sql_parser_steps.specs.Values.{all_of, any_of, arm, case_of, date, interval, extract}
use Rattle.sql_parser_steps.specs.Values.{substring, distinct_count, between, like, in_list, in_query}
use Rattle.sql_parser_steps.specs.Values.{is_null, is_not_null, denied, tested}

-- a name
unfoldable pub read_name : Reading Token Name
read_name = mapped text_of (one (is k.Name))

-- a text
unfoldable pub read_literal : Reading Token Name
read_literal = mapped text_of (one (is k.Text))

-- a number without a point of at most 999999999
unfoldable pub read_number : Reading Token ℕ
read_number = mapped count_of (one is_count)

-- a text of one to six digits
unfoldable pub read_digits : Reading Token Name
read_digits = mapped text_of (one is_digits)

-- year, month or day
unfoldable pub read_span : Reading Token Span
read_span = either (is k.Year) (mapped (constant span.Year) (one (is k.Year)))
    (either (is k.Month) (mapped (constant span.Month) (one (is k.Month)))
    (mapped (constant span.Day) (one (is k.Day))))

-- a point and a name, where a point comes next
unfoldable pub read_column_tail : Reading Token (Option Name)
read_column_tail =
    either (is k.Point) (both after_point (one (is k.Point)) read_name) (nothing None)

-- a name, and perhaps a second one after a point
unfoldable pub read_column : Reading Token Column
read_column = both column read_name read_column_tail

-- * or /
unfoldable pub read_multiply : Reading Token Multiplying
read_multiply = either (is k.Star) (mapped (constant multiplying.Times) (one (is k.Star)))
    (mapped (constant multiplying.Divide) (one (is k.Slash)))

-- + or -
unfoldable pub read_add : Reading Token Adding
read_add = either (is k.Plus) (mapped (constant adding.Plus) (one (is k.Plus)))
    (mapped (constant adding.Minus) (one (is k.Minus)))

-- a unary part, then one more after each * or /
unfoldable pub read_product : ℕ → Reading Token Expr → Reading Token Expr
read_product wide unary =
    both product unary (links (among kinds (k.Star ∷ k.Slash ∷ [])) read_multiply factor unary wide)

-- a product, then one more after each + or -
unfoldable pub read_sum : ℕ → Reading Token Expr → Reading Token Expr
read_sum wide unary =
    both sum (read_product wide unary)
    (links (among kinds (k.Plus ∷ k.Minus ∷ [])) read_add term (read_product wide unary) wide)

-- a not-part, then one more after each AND
unfoldable pub read_conjunction : ℕ → Reading Token Expr → Reading Token Expr
read_conjunction wide part = both all_of part (links (is k.And) (one (is k.And)) second part wide)

-- an and-part, then one more after each OR: a whole expression
unfoldable pub read_whole : ℕ → Reading Token Expr → Reading Token Expr
read_whole wide part =
    both any_of (read_conjunction wide part)
    (links (is k.Or) (one (is k.Or)) second (read_conjunction wide part) wide)

-- an expression, then one more after each comma
unfoldable pub read_expr_list : ℕ → Reading Token Expr → Reading Token (List Expr)
read_expr_list wide part =
    both cons (read_whole wide part)
    (links (is k.Comma) (one (is k.Comma)) second (read_whole wide part) wide)

-- WHEN e THEN e
unfoldable pub read_arm : ℕ → Reading Token Expr → Reading Token Arm
read_arm wide part =
    both arm (both second (one (is k.When)) (read_whole wide part))
    (both second (one (is k.Then)) (read_whole wide part))

-- an arm, then one more for each WHEN that comes next
unfoldable pub read_arms : ℕ → Reading Token Expr → Reading Token (List Arm)
read_arms wide part =
    both cons (read_arm wide part)
    (links (is k.When) (nothing (tt {0})) second (read_arm wide part) wide)

-- ELSE and an expression, where ELSE comes next
unfoldable pub read_else : ℕ → Reading Token Expr → Reading Token (Option Expr)
read_else wide part =
    either (is k.Else) (both after_word (one (is k.Else)) (read_whole wide part)) (nothing None)

-- the arms of a CASE, then perhaps an ELSE
unfoldable pub read_case_body : ℕ → Reading Token Expr → Reading Token Expr
read_case_body wide part = both case_of (read_arms wide part) (read_else wide part)

-- CASE, which opens a level, its body one level further in, END
unfoldable pub read_case : ℕ → ℕ → Reading Token Expr → Reading Token Expr
read_case wide room part =
    both second (opens room (is k.Case)) (both first (read_case_body wide part) (one (is k.End)))

-- a text, or one between parentheses where such comes next
unfoldable pub read_date_text : ℕ → Reading Token Name
read_date_text room =
    either (is k.OpenParen)
    (both second (opens room (is k.OpenParen)) (both first read_literal (one (is k.CloseParen))))
    read_literal

-- DATE and its text
unfoldable pub read_date : ℕ → Reading Token Expr
read_date room = both date (one (is k.Date)) (read_date_text room)

-- a number between parentheses, where such comes next; it means nothing
unfoldable pub read_precision : ℕ → Reading Token (Unit {0})
read_precision room =
    either (is k.OpenParen)
    (mapped (constant (tt {0}))
    (both second (opens room (is k.OpenParen)) (both first read_number (one (is k.CloseParen)))))
    (nothing (tt {0}))

-- INTERVAL, a text of digits, a unit, perhaps a number between parentheses
unfoldable pub read_interval : ℕ → Reading Token Expr
read_interval room =
    both interval (both second (one (is k.Interval)) read_digits)
    (both first read_span (read_precision room))

-- year, month or day, FROM, an expression
unfoldable pub read_extract_inside : ℕ → Reading Token Expr → Reading Token Expr
read_extract_inside wide part =
    both extract read_span (both second (one (is k.From)) (read_whole wide part))

-- EXTRACT and, between parentheses, what it takes from what
unfoldable pub read_extract : ℕ → ℕ → Reading Token Expr → Reading Token Expr
read_extract wide room part =
    both second (one (is k.Extract))
    (both second (opens room (is k.OpenParen))
    (both first (read_extract_inside wide part) (one (is k.CloseParen))))

-- FROM N FOR N
unfoldable pub read_places : Reading Token (ℕ × ℕ)
read_places = both pair (both second (one (is k.From)) read_number)
    (both second (one (is k.For)) read_number)

-- an expression, then FROM N FOR N
unfoldable pub read_substring_inside : ℕ → Reading Token Expr → Reading Token Expr
read_substring_inside wide part = both substring (read_whole wide part) read_places

-- SUBSTRING and, between parentheses, which part of what
unfoldable pub read_substring : ℕ → ℕ → Reading Token Expr → Reading Token Expr
read_substring wide room part =
    both second (one (is k.Substring))
    (both second (opens room (is k.OpenParen))
    (both first (read_substring_inside wide part) (one (is k.CloseParen))))

-- a star, or DISTINCT and an expression, or an expression
unfoldable pub read_count_inside : ℕ → Reading Token Expr → Reading Token Expr
read_count_inside wide part =
    either (is k.Star) (mapped (constant e.CountRows) (one (is k.Star)))
    (either (is k.Distinct) (both distinct_count (one (is k.Distinct)) (read_whole wide part))
    (mapped e.Count (read_whole wide part)))

-- COUNT and, between parentheses, what it counts
unfoldable pub read_count : ℕ → ℕ → Reading Token Expr → Reading Token Expr
read_count wide room part =
    both second (one (is k.Count))
    (both second (opens room (is k.OpenParen))
    (both first (read_count_inside wide part) (one (is k.CloseParen))))

-- SUM, AVG, MIN or MAX
unfoldable pub read_aggregate_word : Reading Token Aggregate
read_aggregate_word =
    either (is k.Sum) (mapped (constant aggregate.Sum) (one (is k.Sum)))
    (either (is k.Avg) (mapped (constant aggregate.Avg) (one (is k.Avg)))
    (either (is k.Min) (mapped (constant aggregate.Min) (one (is k.Min)))
    (mapped (constant aggregate.Max) (one (is k.Max)))))

-- such a word and, between parentheses, an expression
unfoldable pub read_aggregate : ℕ → ℕ → Reading Token Expr → Reading Token Expr
read_aggregate wide room part =
    both e.Aggregate read_aggregate_word
    (both second (opens room (is k.OpenParen))
    (both first (read_whole wide part) (one (is k.CloseParen))))

-- EXTRACT, SUBSTRING, COUNT or an aggregate, told by the next token
unfoldable pub read_call : ℕ → ℕ → Reading Token Expr → Reading Token Expr
read_call wide room part =
    either (is k.Extract) (read_extract wide room part)
    (either (is k.Substring) (read_substring wide room part)
    (either (is k.Count) (read_count wide room part) (read_aggregate wide room part)))

-- a number, a text, a date, an interval or a column, told by the next token
unfoldable pub read_leaf : ℕ → Reading Token Expr
read_leaf room = either (is k.Number) (mapped number (one (is k.Number)))
    (either (is k.Text) (mapped text (one (is k.Text)))
    (either (is k.Date) (read_date room)
    (either (is k.Interval) (read_interval room) (mapped e.Column read_column))))

-- a query where SELECT comes next, else an expression
unfoldable pub read_parens_inside : ℕ → Reading Token Expr → Reading Token Block
    → Reading Token Expr
read_parens_inside wide part query =
    either (is k.Select) (mapped e.Scalar query) (read_whole wide part)

-- parentheses, which open a level, around a query or an expression one level further in
unfoldable pub read_parens : ℕ → ℕ → Reading Token Expr → Reading Token Block → Reading Token Expr
read_parens wide room part query =
    both second (opens room (is k.OpenParen))
    (both first (read_parens_inside wide part query) (one (is k.CloseParen)))

-- a query between parentheses, one level further in
unfoldable pub read_subquery : ℕ → Reading Token Block → Reading Token Block
read_subquery room query =
    both second (opens room (is k.OpenParen)) (both first query (one (is k.CloseParen)))

-- EXISTS and, between parentheses, a query
unfoldable pub read_exists : ℕ → Reading Token Block → Reading Token Expr
read_exists room query =
    both second (one (is k.Exists)) (mapped e.Exists (read_subquery room query))

-- Parentheses, EXISTS, a CASE, a call or a leaf, told by the next token. What they hold is read one
-- level further in.
unfoldable pub read_operand : ℕ → ℕ → Reading Token Expr → Reading Token Block → Reading Token Expr
read_operand wide room part query =
    either (is k.OpenParen) (read_parens wide room part query)
    (either (is k.Exists) (read_exists room query) (either (is k.Case) (read_case wide room part)
    (either (among kinds (k.Extract ∷ k.Substring ∷ k.Count ∷ k.Sum ∷ k.Avg ∷ k.Min ∷ k.Max ∷ []))
    (read_call wide room part) (read_leaf room))))

-- a minus, which opens a level, and a unary part one level further in; else an operand
unfoldable pub read_unary_line : ℕ → ℕ → Reading Token Expr → Reading Token Expr
    → Reading Token Block → Reading Token Expr
read_unary_line wide room inner part query =
    either (is k.Minus) (both negative (opens room (is k.Minus)) inner)
    (read_operand wide room part query)

-- =, <>, <, <=, > or >=
unfoldable pub read_comparison : Reading Token Comparison
read_comparison = either (is k.Equal) (mapped (constant comparison.Equal) (one (is k.Equal)))
    (either (is k.NotEqual) (mapped (constant comparison.NotEqual) (one (is k.NotEqual)))
    (either (is k.Less) (mapped (constant comparison.Less) (one (is k.Less)))
    (either (is k.LessOrEqual) (mapped (constant comparison.LessOrEqual) (one (is k.LessOrEqual)))
    (either (is k.Greater) (mapped (constant comparison.Greater) (one (is k.Greater)))
    (mapped (constant comparison.GreaterOrEqual) (one (is k.GreaterOrEqual)))))))

-- ANY, SOME or ALL, told by the next token
unfoldable pub read_quantifier : Reading Token Quantifier
read_quantifier = either (is k.Any) (mapped (constant quantifier.Any) (one (is k.Any)))
    (either (is k.Some) (mapped (constant quantifier.Any) (one (is k.Some)))
    (mapped (constant quantifier.All) (one (is k.All))))

-- such a word and, between parentheses, a query
unfoldable pub read_compared_query : ℕ → Reading Token Block → Reading Token Compared
read_compared_query room query = both compared.Query read_quantifier (read_subquery room query)

-- such a query where ANY, SOME or ALL comes next, else a sum
unfoldable pub read_compared : ℕ → ℕ → Reading Token Expr → Reading Token Block
    → Reading Token Compared
read_compared wide room unary query =
    either (among kinds (k.Any ∷ k.Some ∷ k.All ∷ [])) (read_compared_query room query)
    (mapped compared.Sum (read_sum wide unary))

-- a comparison, and what the sum before it is compared with
unfoldable pub read_compare : ℕ → ℕ → Reading Token Expr → Reading Token Block → Reading Token Test
read_compare wide room unary query =
    both t.Compare read_comparison (read_compared wide room unary query)

-- IS NULL or IS NOT NULL
unfoldable pub read_null : Reading Token Test
read_null = both second (one (is k.Is))
    (either (is k.Not) (both is_not_null (one (is k.Not)) (one (is k.Null)))
    (mapped is_null (one (is k.Null))))

-- BETWEEN, a sum, AND, a sum
unfoldable pub read_between : ℕ → Reading Token Expr → Reading Token Test
read_between wide unary =
    both second (one (is k.Between))
    (both between (read_sum wide unary) (both second (one (is k.And)) (read_sum wide unary)))

-- LIKE and a text
unfoldable pub read_like : Reading Token Test
read_like = both like (one (is k.Like)) read_literal

-- a query where SELECT comes next, else a list of expressions
unfoldable pub read_in_inside : ℕ → Reading Token Expr → Reading Token Block → Reading Token Test
read_in_inside wide part query =
    either (is k.Select) (mapped in_query query) (mapped in_list (read_expr_list wide part))

-- IN and, between parentheses, a query or a list of expressions
unfoldable pub read_in : ℕ → ℕ → Reading Token Expr → Reading Token Block → Reading Token Test
read_in wide room part query =
    both second (one (is k.In))
    (both second (opens room (is k.OpenParen))
    (both first (read_in_inside wide part query) (one (is k.CloseParen))))

-- what NOT may stand before: BETWEEN, LIKE or IN, told by the next token
unfoldable pub read_deny_test : ℕ → ℕ → Reading Token Expr → Reading Token Expr
    → Reading Token Block → Reading Token Test
read_deny_test wide room unary part query =
    either (is k.Between) (read_between wide unary)
    (either (is k.Like) read_like (read_in wide room part query))

-- what is asked of a sum, told by the next token; nothing, where none of these comes next
unfoldable pub read_test : ℕ → ℕ → Reading Token Expr → Reading Token Expr → Reading Token Block
    → Reading Token Test
read_test wide room unary part query =
    either (among kinds (k.Equal ∷ k.NotEqual ∷ k.Less ∷ k.LessOrEqual ∷ k.Greater
    ∷ k.GreaterOrEqual ∷ [])) (read_compare wide room unary query)
    (either (is k.Is) read_null
    (either (is k.Not) (both denied (one (is k.Not)) (read_deny_test wide room unary part query))
    (either (among kinds (k.Between ∷ k.Like ∷ k.In ∷ []))
    (read_deny_test wide room unary part query) (nothing t.Absent))))

-- a sum and what is asked of it
unfoldable pub read_predicate : ℕ → ℕ → Reading Token Expr → Reading Token Expr
    → Reading Token Block → Reading Token Expr
read_predicate wide room unary part query =
    both tested (read_sum wide unary) (read_test wide room unary part query)

-- NOT, which opens a level, and a not-part one level further in; else a predicate
unfoldable pub read_part_line : ℕ → ℕ → Reading Token Expr → Reading Token Expr
    → Reading Token Block → Reading Token Expr
read_part_line wide room unary part query =
    either (is k.Not) (both negation (opens room (is k.Not)) part)
    (read_predicate wide room unary part query)
