-- What the parts of a line make together.
use Rattle.std.specs.Prelude.{ℕ, Bool, true, false, not, ◌&&◌, nat_le, ◌==◌, ℤ, pos, negsuc, List}
use Rattle.std.specs.Prelude.{[], ◌∷◌, length, Option, Some, None}
use Rattle.std.specs.List.{list_all}
use Rattle.std.specs.Char.{is_ascii_digit}
use Rattle.sql_lexer.specs.declared.kind.Kind.TheVariants as k
use Rattle.sql_lexer.specs.declared.token.Token.{Token}
use Rattle.sql_lexer.specs.declared.token.Content.{Content}
use Rattle.sql_lexer.specs.declared.token.Content.TheVariants as content
use Rattle.sql_ast.specs.declared.tree.Expr.{Expr}
use Rattle.sql_ast.specs.declared.tree.Expr.TheVariants as e
use Rattle.sql_ast.specs.declared.tree.Term.{Term, roll-Term}
use Rattle.sql_ast.specs.declared.tree.Factor.{Factor, roll-Factor}
use Rattle.sql_ast.specs.declared.tree.Arm.{Arm, roll-Arm}
use Rattle.sql_ast.specs.declared.words.Column.{Column}
use Rattle.sql_ast.specs.declared.words.Span.{Span}
use Rattle.sql_ast.specs.declared.words.Adding.{Adding}
use Rattle.sql_ast.specs.declared.words.Multiplying.{Multiplying}
use Rattle.sql_ast.specs.declared.words.JoinKind.{JoinKind}
use Rattle.sql_ast.specs.declared.tree.Item.{Item, roll-Item}
use Rattle.sql_ast.specs.declared.tree.Selected.{Selected}
use Rattle.sql_ast.specs.declared.tree.FromItem.{FromItem}
use Rattle.sql_ast.specs.declared.tree.FromItem.TheVariants as from_item
use Rattle.sql_ast.specs.declared.tree.Join.{Join, roll-Join}
use Rattle.sql_ast.specs.declared.tree.Joined.{Joined, roll-Joined}
use Rattle.sql_ast.specs.declared.tree.Select.{roll-Select}
use Rattle.sql_ast.specs.declared.tree.Block.{Block}
use Rattle.sql_ast.specs.declared.tree.Block.TheVariants as blocks
use Rattle.sql_ast.specs.declared.tree.SetPart.{SetPart, roll-SetPart}
use Rattle.sql_ast.specs.declared.words.SetOperator.{SetOperator}
use Rattle.sql_ast.specs.declared.tree.Clause.{Clause}
use Rattle.sql_ast.specs.declared.tree.Clause.TheVariants as clause
use Rattle.sql_ast.specs.declared.statement.NamedKey.{NamedKey}
use Rattle.sql_ast.specs.declared.statement.Query.{Query}
use Rattle.sql_ast.specs.declared.statement.TemplateValue.{TemplateValue}
use Rattle.sql_ast.specs.declared.statement.TemplateValue.TheVariants as template_value
use Rattle.sql_ast.specs.declared.statement.Statement.{Statement}
use Rattle.sql_ast.specs.declared.statement.Statement.TheVariants as statements
use Rattle.sql_ast.specs.declared.statement.WithQuery.{WithQuery}
use Rattle.sql_parser_steps.specs.declared.test.Compared.TheVariants as compared
use Rattle.sql_parser_steps.specs.declared.test.Test.{Test}
use Rattle.sql_parser_steps.specs.declared.test.Test.TheVariants as t
use Rattle.sql_parser_steps.specs.declared.filters.Filters.{Filters}
use Rattle.sql_lexer.specs.Kinds.{is}

-- a name in lower case, or a text, as its bytes
abbrev pub Name : Type 0
Name = List ℕ

-- ---- what a token holds

-- the bytes of a name or a text; none of anything else
abbrev pub content_text : Content → Name
content_text content.Nothing = []
content_text (content.Text bytes) = bytes
content_text (content.Number value places) = []

-- what a name or a text says
abbrev pub text_of : Token → Name
text_of token = content_text token.content

-- a number that is not negative; 0 for one that is
abbrev pub magnitude : ℤ → ℕ
magnitude (pos n) = n
magnitude (negsuc n) = 0

-- from 0 to 999999999
abbrev pub is_small : ℤ → Bool
is_small (pos n) = nat_le n 999999999
is_small (negsuc n) = false

-- a number, read without its point; 0 of anything else
abbrev pub content_count : Content → ℕ
content_count content.Nothing = 0
content_count (content.Text bytes) = 0
content_count (content.Number value places) = magnitude value

-- how many a number token counts
abbrev pub count_of : Token → ℕ
count_of token = content_count token.content

-- a number with its digits after the point; 0 of anything else
abbrev pub content_number : Content → Expr
content_number content.Nothing = e.Number (pos 0) 0
content_number (content.Text bytes) = e.Number (pos 0) 0
content_number (content.Number value places) = e.Number value places

-- a number token as an expression
abbrev pub number : Token → Expr
number token = content_number token.content

-- a text token as an expression
abbrev pub text : Token → Expr
text token = e.Text (text_of token)

-- a number without a point, from 0 to 999999999
abbrev pub is_small_whole : Content → Bool
is_small_whole content.Nothing = false
is_small_whole (content.Text bytes) = false
is_small_whole (content.Number value places) = places == 0 && is_small value

-- a number without a point, from 0 to 999999999
abbrev pub is_count : Token → Bool
is_count token = is k.Number token && is_small_whole token.content

-- digits only
abbrev pub all_digits : List ℕ → Bool
all_digits bytes = list_all is_ascii_digit bytes

-- a text of one to six digits
abbrev pub is_digits : Token → Bool
is_digits token = is k.Text token
    && ((nat_le 1 (length (text_of token)) && nat_le (length (text_of token)) 6)
    && all_digits (text_of token))

-- ---- of two values

-- the first of two values
abbrev pub first : {A B : Type 0} → A → B → A
first a b = a

-- the second of two values
abbrev pub second : {A B : Type 0} → A → B → B
second a b = b

-- both values
abbrev pub pair : {A B : Type 0} → A → B → A × B
pair a b = (a, b)

-- a value before the others
abbrev pub cons : {A : Type 0} → A → List A → List A
cons a others = a ∷ others

-- the same, whatever is read
abbrev pub constant : {A B : Type 0} → A → B → A
constant a b = a

-- the value after a word
abbrev pub after_word : {A B : Type 0} → A → B → Option B
after_word word b = Some b

-- the name after a point
abbrev pub after_point : Token → Name → Option Name
after_point point name = Some name

-- ---- expressions

-- a name alone is the column's, one before a point is the FROM item's
abbrev pub column : Name → Option Name → Column
column name None = record { item = None; name = name }
column item (Some name) = record { item = Some item; name = name }

-- a minus sign before a value
abbrev pub negative : Token → Expr → Expr
negative minus x = e.Negative x

-- NOT before a condition
abbrev pub negation : Token → Expr → Expr
negation word x = e.Not x

-- a factor after `*` or `/`
abbrev pub factor : Multiplying → Expr → Factor
factor operator x = roll-Factor (record { operator = operator; value = x })

-- a term after `+` or `-`
abbrev pub term : Adding → Expr → Term
term operator x = roll-Term (record { operator = operator; value = x })

-- a chain of one element is that element
abbrev pub product : Expr → List Factor → Expr
product x [] = x
product x (y ∷ ys) = e.Product x (y ∷ ys)

-- likewise for terms
abbrev pub sum : Expr → List Term → Expr
sum x [] = x
sum x (y ∷ ys) = e.Sum x (y ∷ ys)

-- likewise for conditions joined by AND
abbrev pub all_of : Expr → List Expr → Expr
all_of x [] = x
all_of x (y ∷ ys) = e.And x (y ∷ ys)

-- likewise for conditions joined by OR
abbrev pub any_of : Expr → List Expr → Expr
any_of x [] = x
any_of x (y ∷ ys) = e.Or x (y ∷ ys)

-- WHEN this condition THEN this value
abbrev pub arm : Expr → Expr → Arm
arm condition value = roll-Arm (record { condition = condition; value = value })

-- a CASE, with ELSE where a value stands after it
abbrev pub case_of : List Arm → Option Expr → Expr
case_of arms None = e.Case arms
case_of arms (Some x) = e.CaseElse arms x

-- DATE and its text, not read yet
abbrev pub date : Token → Name → Expr
date word bytes = e.Date bytes

-- an interval: a number of years, months or days
abbrev pub interval : Name → Span → Expr
interval digits unit = e.Interval digits unit

-- a part of a date
abbrev pub extract : Span → Expr → Expr
extract part x = e.Extract part x

-- part of a text: from which place on, and how many
abbrev pub substring : Expr → ℕ × ℕ → Expr
substring x places = e.Substring x places.0 places.1

-- how many different values
abbrev pub distinct_count : Token → Expr → Expr
distinct_count word x = e.CountDistinct x

-- ---- tests

-- between these two, not denied
abbrev pub between : Expr → Expr → Test
between low high = t.Between false low high

-- like this pattern, not denied
abbrev pub like : Token → Name → Test
like word pattern = t.Like false pattern

-- equal to one of these, not denied
abbrev pub in_list : List Expr → Test
in_list list = t.InList false list

-- equal to one of the query's values, not denied
abbrev pub in_query : Block → Test
in_query query = t.InQuery false query

-- `is null`
abbrev pub is_null : Token → Test
is_null word = t.IsNull false

-- `is not null`
abbrev pub is_not_null : Token → Token → Test
is_not_null word null = t.IsNull true

-- the test denied: true becomes false in its flag, and back
abbrev pub opposite : Test → Test
opposite t.Absent = t.Absent
opposite (t.Compare c x) = t.Compare c x
opposite (t.IsNull b) = t.IsNull (not b)
opposite (t.Between b low high) = t.Between (not b) low high
opposite (t.Like b pattern) = t.Like (not b) pattern
opposite (t.InList b list) = t.InList (not b) list
opposite (t.InQuery b query) = t.InQuery (not b) query

-- the test after a NOT
abbrev pub denied : Token → Test → Test
denied word test = opposite test

-- the condition, or its NOT
abbrev pub deny : Bool → Expr → Expr
deny true x = e.Not x
deny false x = x

-- what is asked of a value, as one condition; a denied test is NOT of the test itself
abbrev pub tested : Expr → Test → Expr
tested x t.Absent = x
tested x (t.Compare c (compared.Sum y)) = e.Compare c x y
tested x (t.Compare c (compared.Query q b)) = e.CompareQuery c q x b
tested x (t.IsNull b) = deny b (e.IsNull x)
tested x (t.Between b low high) = deny b (e.Between x low high)
tested x (t.Like b pattern) = deny b (e.Like x pattern)
tested x (t.InList b list) = deny b (e.InList x list)
tested x (t.InQuery b query) = deny b (e.InQuery x query)

-- ---- queries

-- a selected expression and its alias
abbrev pub item : Expr → Option Name → Item
item x alias = roll-Item (record { value = x; alias = alias })

-- what is selected, after DISTINCT
abbrev pub distinct : Token → Selected → Bool × Selected
distinct word s = (true, s)

-- what is selected, without DISTINCT
abbrev pub plain_selection : Selected → Bool × Selected
plain_selection s = (false, s)

-- a query in parentheses, its alias and the names of its columns
abbrev pub derived : Block × (Name × List Name) → FromItem
derived q = from_item.Derived q.0 q.1.0 q.1.1

-- such a query after LATERAL
abbrev pub lateral : Token → Block × (Name × List Name) → FromItem
lateral word q = from_item.Lateral q.0 q.1.0 q.1.1

-- an item joined to those before it, and the condition after ON
abbrev pub join : JoinKind → FromItem × Expr → Join
join kind joined = roll-Join (record { kind = kind; item = joined.0; condition = joined.1 })

-- an item, and those that are joined to it
abbrev pub joined : FromItem → List Join → Joined
joined first joins = roll-Joined (record { first = first; joins = joins })

-- WHERE or HAVING with its condition
abbrev pub condition : Token → Expr → Clause
condition word x = clause.Condition x

-- WHERE, GROUP BY and HAVING together
abbrev pub filters : Clause → List Column × Clause → Filters
filters c g = record { condition = c; group = g.0; having = g.1 }

-- a query of its clauses
abbrev pub block : Bool × Selected → List Joined × Filters → Block
block s f = blocks.Select (roll-Select
    (record {
      is_distinct = s.0;
      selected = s.1;
      from = f.0;
      condition = f.1.condition;
      group =
          f.1.group;
      having = f.1.having;
    }))

-- a query, and the set operation that joins it to those before it
abbrev pub set_part : SetOperator × Bool → Block → SetPart
set_part words query =
    roll-SetPart (record { operator = words.0; keeps_all = words.1; query = query })

-- a chain of one query is that query
abbrev pub combined : Block → List SetPart → Block
combined x [] = x
combined x (y ∷ ys) = blocks.Combined x (y ∷ ys)

-- ---- statements

-- an output column to order by, and whether it descends
abbrev pub named_key : Name → Bool → NamedKey
named_key column is_descending = record { column = column; is_descending = is_descending }

-- the query with its order, its row limit and its version
abbrev pub ordered : Block → List NamedKey × (Option ℕ × Option ℕ) → Query
ordered query o = record {
  with_queries = [];
  block = query;
  order = o.0;
  limit = o.1.0;
  version = o.1.1;
}

-- a query of WITH: its name, the names of its columns, and its query
abbrev pub with_query : Name × List Name → Block → WithQuery
with_query named query = record { name = named.0; columns = named.1; block = query }

-- the statement under the queries of WITH
abbrev pub under_with : List WithQuery → Query → Statement
under_with queries q = statements.Query (record q { with_queries = queries })

-- a view: its name, the names of its columns, and its query
abbrev pub create_view : Name × List Name → Block → Statement
create_view named query = statements.CreateView named.0 named.1 query

-- a text token as a template's value
abbrev pub text_value : Token → TemplateValue
text_value token = template_value.Text (text_of token)

-- a number with its digits after the point; 0 of anything else
abbrev pub content_value : Content → TemplateValue
content_value content.Nothing = template_value.Number (pos 0) 0
content_value (content.Text bytes) = template_value.Number (pos 0) 0
content_value (content.Number value places) = template_value.Number value places

-- a number token as a template's value
abbrev pub number_value : Token → TemplateValue
number_value token = content_value token.content
