-- The laws of the lines that hold no expression and no query: what begins each, what may not come after it, and that its reading is right.
use Rattle.std.proofs.Common.{ℕ, true, false, refl, [], ◌∷◌, Some, None}
use Rattle.sql_lexer.specs.declared.kind.Kind.TheVariants as k
use Rattle.sql_ast.specs.declared.tree.Expr.TheVariants as e
use Rattle.sql_ast.specs.declared.words.Comparison.TheVariants as comparison
use Rattle.sql_ast.specs.declared.words.Quantifier.TheVariants as quantifier
use Rattle.sql_ast.specs.declared.words.SetOperator.TheVariants as set_operator
use Rattle.sql_ast.specs.declared.words.Span.TheVariants as span
use Rattle.sql_ast.specs.declared.words.Aggregate.TheVariants as aggregate
use Rattle.sql_ast.specs.declared.words.Adding.TheVariants as adding
use Rattle.sql_ast.specs.declared.words.Multiplying.TheVariants as multiplying
use Rattle.sql_ast.specs.declared.tree.FromItem.TheVariants as from_item
use Rattle.sql_ast.specs.declared.words.JoinKind.TheVariants as join_kind
use Rattle.sql_ast.specs.declared.statement.RefreshKind.TheVariants as refresh_kind
use Rattle.sql_ast.specs.declared.statement.Statement.TheVariants as statements
use Rattle.sql_lexer.specs.Kinds.{is}
use Rattle.sql_grammar_laws.proofs.Lawful.{Line, Tail, is_among, line_kind, line_then, line_then_tail, line_map, tail_empty, line_or, tail_or, line_opens, tail_links}
use Rattle.sql_parser_steps.specs.Kinds.{kinds}
use Rattle.sql_parser_steps.specs.Values.{text_of, count_of, number, text, first, second, pair, cons, constant, after_word, after_point, column, date, interval, like, is_null, is_not_null, named_key, text_value, number_value}
use Rattle.sql_parser.specs.Expressions.{NameLine, Literal, Number, Digits, SpanWord, ColumnTail, ColumnLine, MultiplyWord, AddWord, DateText, DateLine, Precision, IntervalLine, Places, AggregateWord, Leaf, ComparisonWord, QuantifierWord, NullLine, LikeLine}
use Rattle.sql_parser.specs.Grammar.{Alias, Names, ColumnNames, TableLine, DerivedAlias, InnerWords, LeftWords, JoinWords, GroupTail, AllWord, IntersectWords, SetWord, SetWords, Direction, KeyLine, OrderTail, RowsOnly, LimitTail, VersionTail, DropLine, RefreshWord, RefreshLine, ValueLine, ValueList, RunInside, RunLine}
use Rattle.sql_parser_steps.specs.ExpressionReadings.{read_name, read_literal, read_number, read_digits, read_span, read_column_tail, read_column, read_multiply, read_add, read_date_text, read_date, read_precision, read_interval, read_places, read_aggregate_word, read_leaf, read_comparison, read_quantifier, read_null, read_like}
use Rattle.sql_parser_steps.specs.Readings.{read_alias, read_names, read_column_names, read_table, read_derived_alias, read_inner_words, read_left_words, read_join_words, read_group, read_all, read_intersect_words, read_set_word, read_set_words, read_direction, read_named_key, read_order, read_rows_only, read_limit, read_version, read_drop, read_refresh_word, read_refresh, read_value, read_values, read_run_inside, read_run}
use Rattle.sql_parser.proofs.Samples.{line_count, line_digits}
use Rattle.sql_parser.proofs.KindLists.{span_words, multiply_words, add_words, comparison_words, aggregate_words, alias_words, direction_words, limit_words, inner_words, join_words, quantifier_words, set_words, refresh_words, value_words, leaf_first, on_unary, on_names, on_columns, on_keys, on_all}

-- ---- what holds no expression
module _ {P S : Type 0} where
  pub law-NameLine : Line kinds P S (k.Name ∷ []) [] NameLine read_name
  unfolding read_name
  law-NameLine = line_map text_of (line_kind kinds k.Name)

  pub law-Literal : Line kinds P S (k.Text ∷ []) [] Literal read_literal
  unfolding read_literal
  law-Literal = line_map text_of (line_kind kinds k.Text)

  pub law-Number : Line kinds P S (k.Number ∷ []) [] Number read_number
  unfolding read_number
  law-Number = line_map count_of line_count

  pub law-Digits : Line kinds P S (k.Text ∷ []) [] Digits read_digits
  unfolding read_digits
  law-Digits = line_map text_of line_digits

  pub law-SpanWord : Line kinds P S span_words [] SpanWord read_span
  unfolding read_span
  law-SpanWord = line_or {first = span_words} {on = []} (is k.Year) (is_among kinds k.Year) (line_map (constant span.Year) (line_kind kinds k.Year))
      (line_or {first = k.Month ∷ k.Day ∷ []} {on = []} (is k.Month) (is_among kinds k.Month) (line_map (constant span.Month) (line_kind kinds k.Month)) (line_map (constant span.Day) (line_kind kinds k.Day)) refl refl refl refl refl) refl refl refl refl refl

  pub law-ColumnTail : Tail kinds P S (k.Point ∷ []) (k.Point ∷ []) ColumnTail read_column_tail
  unfolding read_column_tail
  law-ColumnTail = tail_or {first = k.Point ∷ []} {on = k.Point ∷ []} (is k.Point) (is_among kinds k.Point) (line_then after_point (line_kind kinds k.Point) law-NameLine refl) (tail_empty None) refl refl refl refl refl refl

  pub law-ColumnLine : Line kinds P S (k.Name ∷ []) (k.Point ∷ []) ColumnLine read_column
  unfolding read_column
  law-ColumnLine = line_then_tail {on = k.Point ∷ []} column law-NameLine law-ColumnTail refl refl refl

  pub law-MultiplyWord : Line kinds P S multiply_words [] MultiplyWord read_multiply
  unfolding read_multiply
  law-MultiplyWord = line_or {first = multiply_words} {on = []} (is k.Star) (is_among kinds k.Star) (line_map (constant multiplying.Times) (line_kind kinds k.Star)) (line_map (constant multiplying.Divide) (line_kind kinds k.Slash)) refl refl refl refl refl

  pub law-AddWord : Line kinds P S add_words [] AddWord read_add
  unfolding read_add
  law-AddWord = line_or {first = add_words} {on = []} (is k.Plus) (is_among kinds k.Plus) (line_map (constant adding.Plus) (line_kind kinds k.Plus)) (line_map (constant adding.Minus) (line_kind kinds k.Minus)) refl refl refl refl refl

  pub law-AggregateWord : Line kinds P S aggregate_words [] AggregateWord read_aggregate_word
  unfolding read_aggregate_word
  law-AggregateWord = line_or {first = aggregate_words} {on = []} (is k.Sum) (is_among kinds k.Sum) (line_map (constant aggregate.Sum) (line_kind kinds k.Sum))
      (line_or {first = k.Avg ∷ k.Min ∷ k.Max ∷ []} {on = []} (is k.Avg) (is_among kinds k.Avg) (line_map (constant aggregate.Avg) (line_kind kinds k.Avg))
      (line_or {first = k.Min ∷ k.Max ∷ []} {on = []} (is k.Min) (is_among kinds k.Min) (line_map (constant aggregate.Min) (line_kind kinds k.Min)) (line_map (constant aggregate.Max) (line_kind kinds k.Max)) refl refl refl refl refl) refl refl refl refl refl) refl refl refl refl refl

  pub law-ComparisonWord : Line kinds P S comparison_words [] ComparisonWord read_comparison
  unfolding read_comparison
  law-ComparisonWord = line_or {first = comparison_words} {on = []} (is k.Equal) (is_among kinds k.Equal) (line_map (constant comparison.Equal) (line_kind kinds k.Equal))
      (line_or {first = k.NotEqual ∷ k.Less ∷ k.LessOrEqual ∷ k.Greater ∷ k.GreaterOrEqual ∷ []} {on = []} (is k.NotEqual) (is_among kinds k.NotEqual) (line_map (constant comparison.NotEqual) (line_kind kinds k.NotEqual))
      (line_or {first = k.Less ∷ k.LessOrEqual ∷ k.Greater ∷ k.GreaterOrEqual ∷ []} {on = []} (is k.Less) (is_among kinds k.Less) (line_map (constant comparison.Less) (line_kind kinds k.Less))
      (line_or {first = k.LessOrEqual ∷ k.Greater ∷ k.GreaterOrEqual ∷ []} {on = []} (is k.LessOrEqual) (is_among kinds k.LessOrEqual) (line_map (constant comparison.LessOrEqual) (line_kind kinds k.LessOrEqual))
      (line_or {first = k.Greater ∷ k.GreaterOrEqual ∷ []} {on = []} (is k.Greater) (is_among kinds k.Greater) (line_map (constant comparison.Greater) (line_kind kinds k.Greater)) (line_map (constant comparison.GreaterOrEqual) (line_kind kinds k.GreaterOrEqual)) refl refl refl refl refl) refl refl refl refl refl) refl refl refl refl refl) refl refl refl refl refl) refl refl refl refl refl

  pub law-Places : Line kinds P S (k.From ∷ []) [] Places read_places
  unfolding read_places
  law-Places = line_then pair (line_then second (line_kind kinds k.From) law-Number refl) (line_then second (line_kind kinds k.For) law-Number refl) refl

  pub law-NullLine : Line kinds P S (k.Is ∷ []) [] NullLine read_null
  unfolding read_null
  law-NullLine = line_then second (line_kind kinds k.Is)
      (line_or {first = k.Not ∷ k.Null ∷ []} {on = []} (is k.Not) (is_among kinds k.Not) (line_then is_not_null (line_kind kinds k.Not) (line_kind kinds k.Null) refl) (line_map is_null (line_kind kinds k.Null)) refl refl refl refl refl) refl

  pub law-LikeLine : Line kinds P S (k.Like ∷ []) [] LikeLine read_like
  unfolding read_like
  law-LikeLine = line_then like (line_kind kinds k.Like) law-Literal refl

  pub law-Alias : Tail kinds P S alias_words alias_words Alias read_alias
  unfolding read_alias
  law-Alias = tail_or {first = alias_words} {on = alias_words} (is k.As) (is_among kinds k.As) (line_then after_word (line_kind kinds k.As) law-NameLine refl)
      (tail_or {first = k.Name ∷ []} {on = k.Name ∷ []} (is k.Name) (is_among kinds k.Name) (line_map Some law-NameLine) (tail_empty None) refl refl refl refl refl refl) refl refl refl refl refl refl

  pub law-TableLine : Line kinds P S (k.Name ∷ []) alias_words TableLine read_table
  unfolding read_table
  law-TableLine = line_then_tail {on = alias_words} from_item.Table law-NameLine law-Alias refl refl refl

  pub law-DerivedAlias : Line kinds P S alias_words [] DerivedAlias read_derived_alias
  unfolding read_derived_alias
  law-DerivedAlias = line_or {first = alias_words} {on = []} (is k.As) (is_among kinds k.As) (line_then second (line_kind kinds k.As) law-NameLine refl) law-NameLine refl refl refl refl refl

  pub law-InnerWords : Line kinds P S inner_words [] InnerWords read_inner_words
  unfolding read_inner_words
  law-InnerWords = line_or {first = inner_words} {on = []} (is k.Join) (is_among kinds k.Join) (line_map (constant join_kind.Inner) (line_kind kinds k.Join))
      (line_map (constant join_kind.Inner) (line_then second (line_kind kinds k.Inner) (line_kind kinds k.Join) refl)) refl refl refl refl refl

  pub law-LeftWords : Line kinds P S (k.Left ∷ []) [] LeftWords read_left_words
  unfolding read_left_words
  law-LeftWords = line_map (constant join_kind.LeftOuter) (line_then second (line_kind kinds k.Left)
      (line_or {first = k.Outer ∷ k.Join ∷ []} {on = []} (is k.Outer) (is_among kinds k.Outer) (line_then second (line_kind kinds k.Outer) (line_kind kinds k.Join) refl) (line_kind kinds k.Join) refl refl refl refl refl) refl)

  pub law-JoinWords : Line kinds P S join_words [] JoinWords read_join_words
  unfolding read_join_words
  law-JoinWords = line_or {first = join_words} {on = []} (is k.Left) (is_among kinds k.Left) law-LeftWords law-InnerWords refl refl refl refl refl

  pub law-DropLine : Line kinds P S (k.Drop ∷ []) [] DropLine read_drop
  unfolding read_drop
  law-DropLine = line_then second (line_then second (line_kind kinds k.Drop) (line_kind kinds k.View) refl) (line_map statements.DropView law-NameLine) refl

  pub law-RefreshWord : Line kinds P S refresh_words [] RefreshWord read_refresh_word
  unfolding read_refresh_word
  law-RefreshWord = line_or {first = refresh_words} {on = []} (is k.Insert) (is_among kinds k.Insert) (line_map (constant refresh_kind.Insert) (line_kind kinds k.Insert)) (line_map (constant refresh_kind.Delete) (line_kind kinds k.Delete)) refl refl refl refl refl

  pub law-RefreshLine : Line kinds P S (k.Refresh ∷ []) [] RefreshLine read_refresh
  unfolding read_refresh
  law-RefreshLine = line_then second (line_kind kinds k.Refresh) (line_then statements.Refresh law-RefreshWord law-Number refl) refl

  pub law-ValueLine : Line kinds P S value_words [] ValueLine read_value
  unfolding read_value
  law-ValueLine = line_or {first = value_words} {on = []} (is k.Text) (is_among kinds k.Text) (line_map text_value (line_kind kinds k.Text)) (line_map number_value (line_kind kinds k.Number)) refl refl refl refl refl

  pub law-Direction : Tail kinds P S direction_words direction_words Direction read_direction
  unfolding read_direction
  law-Direction = tail_or {first = direction_words} {on = direction_words} (is k.Asc) (is_among kinds k.Asc) (line_map (constant false) (line_kind kinds k.Asc))
      (tail_or {first = k.Desc ∷ []} {on = k.Desc ∷ []} (is k.Desc) (is_among kinds k.Desc) (line_map (constant true) (line_kind kinds k.Desc)) (tail_empty false) refl refl refl refl refl refl) refl refl refl refl refl refl

  pub law-KeyLine : Line kinds P S (k.Name ∷ []) direction_words KeyLine read_named_key
  unfolding read_named_key
  law-KeyLine = line_then_tail {on = direction_words} named_key law-NameLine law-Direction refl refl refl

  pub law-RowsOnly : Line kinds P S (k.Rows ∷ []) [] RowsOnly read_rows_only
  unfolding read_rows_only
  law-RowsOnly = line_then second (line_kind kinds k.Rows) (line_kind kinds k.Only) refl

  pub law-LimitTail : Tail kinds P S limit_words limit_words LimitTail read_limit
  unfolding read_limit
  law-LimitTail = tail_or {first = limit_words} {on = limit_words} (is k.Limit) (is_among kinds k.Limit) (line_then after_word (line_kind kinds k.Limit) law-Number refl)
      (tail_or {first = k.Fetch ∷ []} {on = k.Fetch ∷ []} (is k.Fetch) (is_among kinds k.Fetch) (line_then after_word (line_then second (line_kind kinds k.Fetch) (line_kind kinds k.First) refl) (line_then first law-Number law-RowsOnly refl) refl) (tail_empty None) refl refl refl refl refl refl) refl refl refl refl refl refl

  pub law-VersionTail : Tail kinds P S (k.At ∷ []) (k.At ∷ []) VersionTail read_version
  unfolding read_version
  law-VersionTail = tail_or {first = k.At ∷ []} {on = k.At ∷ []} (is k.At) (is_among kinds k.At) (line_then after_word (line_then second (line_kind kinds k.At) (line_kind kinds k.Version) refl) law-Number refl) (tail_empty None) refl refl refl refl refl refl

  pub law-QuantifierWord : Line kinds P S quantifier_words [] QuantifierWord read_quantifier
  unfolding read_quantifier
  law-QuantifierWord = line_or {first = quantifier_words} {on = []} (is k.Any) (is_among kinds k.Any) (line_map (constant quantifier.Any) (line_kind kinds k.Any))
      (line_or {first = k.Some ∷ k.All ∷ []} {on = []} (is k.Some) (is_among kinds k.Some) (line_map (constant quantifier.Any) (line_kind kinds k.Some)) (line_map (constant quantifier.All) (line_kind kinds k.All)) refl refl refl refl refl) refl refl refl refl refl

  pub law-AllWord : Tail kinds P S (k.All ∷ []) on_all AllWord read_all
  unfolding read_all
  law-AllWord = tail_or {first = k.All ∷ []} {on = on_all} (is k.All) (is_among kinds k.All) (line_map (constant true) (line_kind kinds k.All)) (tail_empty false) refl refl refl refl refl refl

  pub law-IntersectWords : Line kinds P S (k.Intersect ∷ []) on_all IntersectWords read_intersect_words
  unfolding read_intersect_words
  law-IntersectWords = line_then_tail {on = on_all} pair (line_map (constant set_operator.Intersect) (line_kind kinds k.Intersect)) law-AllWord refl refl refl

  pub law-SetWord : Line kinds P S set_words [] SetWord read_set_word
  unfolding read_set_word
  law-SetWord = line_or {first = set_words} {on = []} (is k.Union) (is_among kinds k.Union) (line_map (constant set_operator.Union) (line_kind kinds k.Union)) (line_map (constant set_operator.Except) (line_kind kinds k.Except)) refl refl refl refl refl

  pub law-SetWords : Line kinds P S set_words on_all SetWords read_set_words
  unfolding read_set_words
  law-SetWords = line_then_tail {on = on_all} pair law-SetWord law-AllWord refl refl refl

-- ---- what holds no expression, but may open a level
module _ {P S : Type 0} (room : ℕ) where
  pub law-DateText : Line kinds P S (k.OpenParen ∷ k.Text ∷ []) [] (DateText room) (read_date_text room)
  unfolding read_date_text
  law-DateText = line_or {first = k.OpenParen ∷ k.Text ∷ []} {on = []} (is k.OpenParen) (is_among kinds k.OpenParen) (line_opens room k.OpenParen second (line_then first law-Literal (line_kind kinds k.CloseParen) refl)) law-Literal refl refl refl refl refl

  pub law-DateLine : Line kinds P S (k.Date ∷ []) [] (DateLine room) (read_date room)
  unfolding read_date
  law-DateLine = line_then date (line_kind kinds k.Date) law-DateText refl

  pub law-Precision : Tail kinds P S (k.OpenParen ∷ []) (k.OpenParen ∷ []) (Precision room) (read_precision room)
  unfolding read_precision
  law-Precision = tail_or {first = k.OpenParen ∷ []} {on = k.OpenParen ∷ []} (is k.OpenParen) (is_among kinds k.OpenParen) (line_map (constant (tt {0})) (line_opens room k.OpenParen second (line_then first law-Number (line_kind kinds k.CloseParen) refl))) (tail_empty (tt {0})) refl refl refl refl refl refl

  pub law-IntervalLine : Line kinds P S (k.Interval ∷ []) (k.OpenParen ∷ []) (IntervalLine room) (read_interval room)
  unfolding read_interval
  law-IntervalLine = line_then interval (line_then second (line_kind kinds k.Interval) law-Digits refl) (line_then_tail {on = k.OpenParen ∷ []} first law-SpanWord law-Precision refl refl refl) refl

  pub law-Leaf : Line kinds P S leaf_first on_unary (Leaf room) (read_leaf room)
  unfolding read_leaf
  law-Leaf = line_or {first = leaf_first} {on = on_unary} (is k.Number) (is_among kinds k.Number) (line_map number (line_kind kinds k.Number))
      (line_or {first = k.Text ∷ k.Date ∷ k.Interval ∷ k.Name ∷ []} {on = on_unary} (is k.Text) (is_among kinds k.Text) (line_map text (line_kind kinds k.Text))
      (line_or {first = k.Date ∷ k.Interval ∷ k.Name ∷ []} {on = on_unary} (is k.Date) (is_among kinds k.Date) law-DateLine
      (line_or {first = k.Interval ∷ k.Name ∷ []} {on = on_unary} (is k.Interval) (is_among kinds k.Interval) law-IntervalLine (line_map e.Column law-ColumnLine) refl refl refl refl refl) refl refl refl refl refl) refl refl refl refl refl) refl refl refl refl refl

-- ---- lists of what holds no expression
module _ {P S : Type 0} (wide : ℕ) where
  pub law-Names : Line kinds P S (k.Name ∷ []) on_names (Names wide) (read_names wide)
  unfolding read_names
  law-Names = line_then_tail {on = on_names} cons law-NameLine (tail_links {on = on_names} wide (is k.Comma) second (is_among kinds k.Comma) (line_kind kinds k.Comma) law-NameLine refl refl refl refl) refl refl refl

  pub law-ValueList : Line kinds P S value_words on_names (ValueList wide) (read_values wide)
  unfolding read_values
  law-ValueList = line_then_tail {on = on_names} cons law-ValueLine (tail_links {on = on_names} wide (is k.Comma) second (is_among kinds k.Comma) (line_kind kinds k.Comma) law-ValueLine refl refl refl refl) refl refl refl

  pub law-RunInside : Line kinds P S (k.CloseParen ∷ value_words) [] (RunInside wide) (read_run_inside wide)
  unfolding read_run_inside
  law-RunInside = line_or {first = k.CloseParen ∷ value_words} {on = []} (is k.CloseParen) (is_among kinds k.CloseParen) (line_map (constant []) (line_kind kinds k.CloseParen)) (line_then first law-ValueList (line_kind kinds k.CloseParen) refl) refl refl refl refl refl

  pub law-GroupTail : Tail kinds P S (k.Group ∷ []) (k.Group ∷ on_columns) (GroupTail wide) (read_group wide)
  unfolding read_group
  law-GroupTail = tail_or {first = k.Group ∷ []} {on = k.Group ∷ on_columns} (is k.Group) (is_among kinds k.Group) (line_then second (line_then second (line_kind kinds k.Group) (line_kind kinds k.By) refl) (line_then_tail {on = on_columns} cons law-ColumnLine (tail_links {on = on_columns} wide (is k.Comma) second (is_among kinds k.Comma) (line_kind kinds k.Comma) law-ColumnLine refl refl refl refl) refl refl refl) refl) (tail_empty []) refl refl refl refl refl refl

  pub law-OrderTail : Tail kinds P S (k.Order ∷ []) (k.Order ∷ on_keys) (OrderTail wide) (read_order wide)
  unfolding read_order
  law-OrderTail = tail_or {first = k.Order ∷ []} {on = k.Order ∷ on_keys} (is k.Order) (is_among kinds k.Order) (line_then second (line_then second (line_kind kinds k.Order) (line_kind kinds k.By) refl) (line_then_tail {on = on_keys} cons law-KeyLine (tail_links {on = on_keys} wide (is k.Comma) second (is_among kinds k.Comma) (line_kind kinds k.Comma) law-KeyLine refl refl refl refl) refl refl refl) refl) (tail_empty []) refl refl refl refl refl refl

-- ---- lists in parentheses of what holds no expression
module _ {P S : Type 0} (wide room : ℕ) where
  pub law-ColumnNames : Tail kinds P S (k.OpenParen ∷ []) (k.OpenParen ∷ []) (ColumnNames wide room) (read_column_names wide room)
  unfolding read_column_names
  law-ColumnNames = tail_or {first = k.OpenParen ∷ []} {on = k.OpenParen ∷ []} (is k.OpenParen) (is_among kinds k.OpenParen) (line_opens room k.OpenParen second (line_then first (law-Names wide) (line_kind kinds k.CloseParen) refl)) (tail_empty []) refl refl refl refl refl refl

  pub law-RunLine : Line kinds P S (k.Run ∷ []) [] (RunLine wide room) (read_run wide room)
  unfolding read_run
  law-RunLine = line_then second (line_kind kinds k.Run) (line_then statements.Run law-Number (line_opens room k.OpenParen second (law-RunInside wide)) refl) refl
