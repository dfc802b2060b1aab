-- Reading the grammar's lines of queries and statements from left to right, a definition for each.
use Rattle.std.specs.Prelude.{ℕ, zero, suc, Bool, true, false, List, [], ◌∷◌, Option, Some, None}
use Rattle.sql_lexer.specs.declared.kind.Kind.TheVariants as k
use Rattle.sql_lexer.specs.declared.token.Token.{Token}
use Rattle.sql_ast.specs.declared.tree.Expr.{Expr}
use Rattle.sql_ast.specs.declared.words.Column.{Column}
use Rattle.sql_ast.specs.declared.tree.Item.{Item}
use Rattle.sql_ast.specs.declared.tree.Selected.{Selected}
use Rattle.sql_ast.specs.declared.tree.Selected.TheVariants as selected
use Rattle.sql_ast.specs.declared.tree.FromItem.{FromItem}
use Rattle.sql_ast.specs.declared.tree.FromItem.TheVariants as from_item
use Rattle.sql_ast.specs.declared.tree.Clause.{Clause}
use Rattle.sql_ast.specs.declared.tree.Clause.TheVariants as clause
use Rattle.sql_ast.specs.declared.statement.NamedKey.{NamedKey}
use Rattle.sql_ast.specs.declared.statement.Query.{Query}
use Rattle.sql_ast.specs.declared.statement.Statement.{Statement}
use Rattle.sql_ast.specs.declared.words.JoinKind.{JoinKind}
use Rattle.sql_ast.specs.declared.words.JoinKind.TheVariants as join_kind
use Rattle.sql_ast.specs.declared.tree.Joined.{Joined}
use Rattle.sql_ast.specs.declared.tree.Block.{Block}
use Rattle.sql_ast.specs.declared.words.SetOperator.{SetOperator}
use Rattle.sql_ast.specs.declared.words.SetOperator.TheVariants as set_operator
use Rattle.sql_ast.specs.declared.statement.RefreshKind.{RefreshKind}
use Rattle.sql_ast.specs.declared.statement.RefreshKind.TheVariants as refresh_kind
use Rattle.sql_ast.specs.declared.statement.TemplateValue.{TemplateValue}
use Rattle.sql_ast.specs.declared.statement.Statement.TheVariants as statements
use Rattle.sql_ast.specs.declared.statement.WithQuery.{WithQuery}
use Rattle.sql_parser_steps.specs.declared.filters.Filters.{Filters}
use Rattle.sql_lexer.specs.Kinds.{is}
use Rattle.sql_grammar_laws.specs.Kinds.{among}
use Rattle.sql_grammar_laws.specs.Readings.{Reading, one, opens, nothing, never, both, mapped, either}
use Rattle.sql_grammar_laws.specs.Readings.{links}
use Rattle.sql_parser_steps.specs.Kinds.{kinds}
use Rattle.sql_parser_steps.specs.Values.{Name, first, second, pair, cons, constant, after_word, item}
use Rattle.sql_parser_steps.specs.Values.{distinct, plain_selection, derived, lateral, join, joined}
use Rattle.sql_parser_steps.specs.Values.{condition, filters, block, named_key, ordered, create_view, text_value}
use Rattle.sql_parser_steps.specs.Values.{number_value, with_query, under_with, set_part, combined}
use Rattle.sql_parser_steps.specs.ExpressionReadings.{read_name, read_number, read_column, read_whole}
use Rattle.sql_parser_steps.specs.ExpressionReadings.{read_subquery, read_unary_line, read_part_line}

-- AS and a name, or a name, or nothing, told by the next token
unfoldable pub read_alias : Reading Token (Option Name)
read_alias = either (is k.As) (both after_word (one (is k.As)) read_name)
    (either (is k.Name) (mapped Some read_name) (nothing None))

-- an expression and perhaps its alias
unfoldable pub read_item : ℕ → Reading Token Expr → Reading Token Item
read_item wide part = both item (read_whole wide part) read_alias

-- a star, or items with commas between them
unfoldable pub read_selection : ℕ → Reading Token Expr → Reading Token Selected
read_selection wide part =
    either (is k.Star) (mapped (constant selected.All) (one (is k.Star)))
    (mapped selected.Items
    (both cons (read_item wide part)
    (links (is k.Comma) (one (is k.Comma)) second (read_item wide part) wide)))

-- SELECT, perhaps DISTINCT, and what is selected
unfoldable pub read_select : ℕ → Reading Token Expr → Reading Token (Bool × Selected)
read_select wide part =
    both second (one (is k.Select))
    (either (is k.Distinct) (both distinct (one (is k.Distinct)) (read_selection wide part))
    (mapped plain_selection (read_selection wide part)))

-- names with commas between them
unfoldable pub read_names : ℕ → Reading Token (List Name)
read_names wide = both cons read_name (links (is k.Comma) (one (is k.Comma)) second read_name wide)

-- names between parentheses, where such come next
unfoldable pub read_column_names : ℕ → ℕ → Reading Token (List Name)
read_column_names wide room =
    either (is k.OpenParen)
    (both second (opens room (is k.OpenParen))
    (both first (read_names wide) (one (is k.CloseParen)))) (nothing [])

-- a table and perhaps its alias
unfoldable pub read_table : Reading Token FromItem
read_table = both from_item.Table read_name read_alias

-- a name, after AS where it comes next
unfoldable pub read_derived_alias : Reading Token Name
read_derived_alias = either (is k.As) (both second (one (is k.As)) read_name) read_name

-- a query between parentheses, its alias and perhaps the names of its columns
unfoldable pub read_from_query : ℕ → ℕ → Reading Token Block
    → Reading Token (Block × (Name × List Name))
read_from_query wide room query =
    both pair (read_subquery room query)
    (both pair read_derived_alias (read_column_names wide room))

-- such a query, as a derived table
unfoldable pub read_derived : ℕ → ℕ → Reading Token Block → Reading Token FromItem
read_derived wide room query = mapped derived (read_from_query wide room query)

-- LATERAL and such a query
unfoldable pub read_lateral : ℕ → ℕ → Reading Token Block → Reading Token FromItem
read_lateral wide room query =
    both lateral (one (is k.Lateral)) (read_from_query wide room query)

-- a derived table where a parenthesis comes next, a lateral item where LATERAL does, else a table
unfoldable pub read_from_item : ℕ → ℕ → Reading Token Block → Reading Token FromItem
read_from_item wide room query =
    either (is k.OpenParen) (read_derived wide room query)
    (either (is k.Lateral) (read_lateral wide room query) read_table)

-- JOIN or INNER JOIN, told by the next token
unfoldable pub read_inner_words : Reading Token JoinKind
read_inner_words =
    either (is k.Join) (mapped (constant join_kind.Inner) (one (is k.Join)))
    (mapped (constant join_kind.Inner) (both second (one (is k.Inner)) (one (is k.Join))))

-- LEFT OUTER JOIN or LEFT JOIN
unfoldable pub read_left_words : Reading Token JoinKind
read_left_words = mapped (constant join_kind.LeftOuter)
    (both second (one (is k.Left))
    (either (is k.Outer) (both second (one (is k.Outer)) (one (is k.Join))) (one (is k.Join))))

-- the words of a left join where LEFT comes next, else those of an inner one
unfoldable pub read_join_words : Reading Token JoinKind
read_join_words = either (is k.Left) read_left_words read_inner_words

-- an item, ON and an expression
unfoldable pub read_joined_item : ℕ → ℕ → Reading Token Expr → Reading Token Block
    → Reading Token (FromItem × Expr)
read_joined_item wide room part query =
    both pair (read_from_item wide room query) (both second (one (is k.On)) (read_whole wide part))

-- an item, then one more with its condition after each words of a join
unfoldable pub read_joined : ℕ → ℕ → Reading Token Expr → Reading Token Block → Reading Token Joined
read_joined wide room part query =
    both joined (read_from_item wide room query)
    (links (among kinds (k.Left ∷ k.Join ∷ k.Inner ∷ [])) read_join_words join
    (read_joined_item wide room part query) wide)

-- FROM and joined items with commas between them
unfoldable pub read_from : ℕ → ℕ → Reading Token Expr → Reading Token Block
    → Reading Token (List Joined)
read_from wide room part query =
    both second (one (is k.From))
    (both cons (read_joined wide room part query)
    (links (is k.Comma) (one (is k.Comma)) second (read_joined wide room part query) wide))

-- WHERE and an expression, where WHERE comes next
unfoldable pub read_where : ℕ → Reading Token Expr → Reading Token Clause
read_where wide part =
    either (is k.Where) (both condition (one (is k.Where)) (read_whole wide part))
    (nothing clause.Absent)

-- GROUP BY and columns with commas between them, where GROUP comes next
unfoldable pub read_group : ℕ → Reading Token (List Column)
read_group wide = either (is k.Group)
    (both second (both second (one (is k.Group)) (one (is k.By)))
    (both cons read_column (links (is k.Comma) (one (is k.Comma)) second read_column wide)))
    (nothing [])

-- HAVING and an expression, where HAVING comes next
unfoldable pub read_having : ℕ → Reading Token Expr → Reading Token Clause
read_having wide part =
    either (is k.Having) (both condition (one (is k.Having)) (read_whole wide part))
    (nothing clause.Absent)

-- perhaps WHERE, then perhaps GROUP BY, then perhaps HAVING
unfoldable pub read_filters : ℕ → Reading Token Expr → Reading Token Filters
read_filters wide part =
    both filters (read_where wide part) (both pair (read_group wide) (read_having wide part))

-- SELECT, FROM and the clauses after it
unfoldable pub read_block : ℕ → ℕ → Reading Token Expr → Reading Token Block → Reading Token Block
read_block wide room part query =
    both block (read_select wide part)
    (both pair (read_from wide room part query) (read_filters wide part))

-- ALL, where it comes next
unfoldable pub read_all : Reading Token Bool
read_all = either (is k.All) (mapped (constant true) (one (is k.All))) (nothing false)

-- INTERSECT and perhaps ALL
unfoldable pub read_intersect_words : Reading Token (SetOperator × Bool)
read_intersect_words =
    both pair (mapped (constant set_operator.Intersect) (one (is k.Intersect))) read_all

-- UNION or EXCEPT, told by the next token
unfoldable pub read_set_word : Reading Token SetOperator
read_set_word = either (is k.Union) (mapped (constant set_operator.Union) (one (is k.Union)))
    (mapped (constant set_operator.Except) (one (is k.Except)))

-- such a word and perhaps ALL
unfoldable pub read_set_words : Reading Token (SetOperator × Bool)
read_set_words = both pair read_set_word read_all

-- a SELECT with its clauses, then one more after each INTERSECT
unfoldable pub read_term : ℕ → ℕ → Reading Token Expr → Reading Token Block → Reading Token Block
read_term wide room part query =
    both combined (read_block wide room part query)
    (links (is k.Intersect) read_intersect_words set_part (read_block wide room part query) wide)

-- such a term, then one more after each UNION or EXCEPT
unfoldable pub read_query_line : ℕ → ℕ → Reading Token Expr → Reading Token Block
    → Reading Token Block
read_query_line wide room part query =
    both combined (read_term wide room part query)
    (links (among kinds (k.Union ∷ k.Except ∷ [])) read_set_words set_part
    (read_term wide room part query) wide)

-- ASC or DESC or nothing, which is ascending
unfoldable pub read_direction : Reading Token Bool
read_direction = either (is k.Asc) (mapped (constant false) (one (is k.Asc)))
    (either (is k.Desc) (mapped (constant true) (one (is k.Desc))) (nothing false))

-- a name and perhaps its direction
unfoldable pub read_named_key : Reading Token NamedKey
read_named_key = both named_key read_name read_direction

-- ORDER BY and keys with commas between them, where ORDER comes next
unfoldable pub read_order : ℕ → Reading Token (List NamedKey)
read_order wide = either (is k.Order)
    (both second (both second (one (is k.Order)) (one (is k.By)))
    (both cons read_named_key (links (is k.Comma) (one (is k.Comma)) second read_named_key wide)))
    (nothing [])

-- ROWS ONLY
unfoldable pub read_rows_only : Reading Token Token
read_rows_only = both second (one (is k.Rows)) (one (is k.Only))

-- LIMIT N, or FETCH FIRST N ROWS ONLY, or nothing, told by the next token
unfoldable pub read_limit : Reading Token (Option ℕ)
read_limit = either (is k.Limit) (both after_word (one (is k.Limit)) read_number)
    (either (is k.Fetch) (both after_word (both second (one (is k.Fetch)) (one (is k.First)))
    (both first read_number read_rows_only)) (nothing None))

-- AT VERSION N, where AT comes next
unfoldable pub read_version : Reading Token (Option ℕ)
read_version = either (is k.At)
    (both after_word (both second (one (is k.At)) (one (is k.Version))) read_number)
    (nothing None)

-- a query, its order, its row limit and its version
unfoldable pub read_ordered : ℕ → Reading Token Block → Reading Token Query
read_ordered wide query =
    both ordered query (both pair (read_order wide) (both pair read_limit read_version))

-- a name and perhaps the names of its columns, AS and a query between parentheses
unfoldable pub read_with_query : ℕ → ℕ → Reading Token Block → Reading Token WithQuery
read_with_query wide room inner =
    both with_query (both pair read_name (read_column_names wide room))
    (both second (one (is k.As)) (read_subquery room inner))

-- WITH and its queries with commas between them
unfoldable pub read_with : ℕ → ℕ → Reading Token Block → Reading Token (List WithQuery)
read_with wide room inner =
    both second (one (is k.With))
    (both cons (read_with_query wide room inner)
    (links (is k.Comma) (one (is k.Comma)) second (read_with_query wide room inner) wide))

-- the queries of WITH, and a query with all that may follow it
unfoldable pub read_with_ordered : ℕ → ℕ → Reading Token Block → Reading Token Block
    → Reading Token Statement
read_with_ordered wide room query inner =
    both under_with (read_with wide room inner) (read_ordered wide query)

-- CREATE VIEW, a name, and perhaps the names of its columns
unfoldable pub read_view_name : ℕ → ℕ → Reading Token (Name × List Name)
read_view_name wide room =
    both second (both second (one (is k.Create)) (one (is k.View)))
    (both pair read_name (read_column_names wide room))

-- such a view, AS and a query
unfoldable pub read_create : ℕ → ℕ → Reading Token Block → Reading Token Statement
read_create wide room query =
    both create_view (read_view_name wide room) (both second (one (is k.As)) query)

-- DROP VIEW and a name
unfoldable pub read_drop : Reading Token Statement
read_drop = both second (both second (one (is k.Drop)) (one (is k.View)))
    (mapped statements.DropView read_name)

-- INSERT or DELETE
unfoldable pub read_refresh_word : Reading Token RefreshKind
read_refresh_word =
    either (is k.Insert) (mapped (constant refresh_kind.Insert) (one (is k.Insert)))
    (mapped (constant refresh_kind.Delete) (one (is k.Delete)))

-- REFRESH, such a word and a number
unfoldable pub read_refresh : Reading Token Statement
read_refresh = both second (one (is k.Refresh))
    (both statements.Refresh read_refresh_word read_number)

-- a text, or else a number
unfoldable pub read_value : Reading Token TemplateValue
read_value = either (is k.Text) (mapped text_value (one (is k.Text)))
    (mapped number_value (one (is k.Number)))

-- values with commas between them
unfoldable pub read_values : ℕ → Reading Token (List TemplateValue)
read_values wide =
    both cons read_value (links (is k.Comma) (one (is k.Comma)) second read_value wide)

-- the closing parenthesis, or values before it
unfoldable pub read_run_inside : ℕ → Reading Token (List TemplateValue)
read_run_inside wide =
    either (is k.CloseParen) (mapped (constant []) (one (is k.CloseParen)))
    (both first (read_values wide) (one (is k.CloseParen)))

-- RUN, a number and, between parentheses, values
unfoldable pub read_run : ℕ → ℕ → Reading Token Statement
read_run wide room =
    both second (one (is k.Run))
    (both statements.Run read_number
    (both second (opens room (is k.OpenParen)) (read_run_inside wide)))

-- a statement, told by its first token; `inner` reads a query one level further in
unfoldable pub read_statement : ℕ → ℕ → Reading Token Block → Reading Token Block
    → Reading Token Statement
read_statement wide room query inner =
    either (is k.Select) (mapped statements.Query (read_ordered wide query))
    (either (is k.With) (read_with_ordered wide room query inner)
    (either (is k.Create) (read_create wide room query)
    (either (is k.Drop) read_drop (either (is k.Refresh) read_refresh (read_run wide room)))))

-- a statement and its semicolon
unfoldable pub read_ended : ℕ → ℕ → Reading Token Block → Reading Token Block
    → Reading Token Statement
read_ended wide room query inner =
    both first (read_statement wide room query inner) (one (is k.Semicolon))

unfoldable mutual
  -- a unary part, where `room` levels may still be opened; with no room, nothing is read further in
  pub unary_at : ℕ → ℕ → Reading Token Expr
  unary_at wide zero = read_unary_line wide zero never never never
  unary_at wide (suc room) =
      read_unary_line wide (suc room) (unary_at wide room) (part_at wide room) (query_at wide room)

  -- a not-part, likewise
  pub part_at : ℕ → ℕ → Reading Token Expr
  part_at wide zero =
      read_part_line wide zero (read_unary_line wide zero never never never) never never
  part_at wide (suc room) =
      read_part_line wide (suc room)
      (read_unary_line wide (suc room) (unary_at wide room) (part_at wide room)
      (query_at wide room)) (part_at wide room) (query_at wide room)

  -- a query, likewise
  pub query_at : ℕ → ℕ → Reading Token Block
  query_at wide zero =
      read_query_line wide zero
      (read_part_line wide zero (read_unary_line wide zero never never never) never never) never
  query_at wide (suc room) =
      read_query_line wide (suc room)
      (read_part_line wide (suc room) (read_unary_line wide (suc room) (unary_at wide room)
      (part_at wide room) (query_at wide room)) (part_at wide room) (query_at wide room))
      (query_at wide room)

-- what stands one level further in
abbrev pub inner_unary : ℕ → ℕ → Reading Token Expr
inner_unary wide zero = never
inner_unary wide (suc room) = unary_at wide room

-- likewise a not-part
abbrev pub inner_part : ℕ → ℕ → Reading Token Expr
inner_part wide zero = never
inner_part wide (suc room) = part_at wide room

-- likewise a query
abbrev pub inner_query : ℕ → ℕ → Reading Token Block
inner_query wide zero = never
inner_query wide (suc room) = query_at wide room

-- a statement with its semicolon, where `room` levels may be opened
abbrev pub ended_at : ℕ → ℕ → Reading Token Statement
ended_at wide room = read_ended wide room (query_at wide room) (inner_query wide room)
