-- The grammar of queries and statements, a definition for each line, above that of expressions.
-- `wide` is how many more elements a list may have than its first, `room` how many levels may still
-- be opened.
use Rattle.std.specs.Prelude.{ℕ, zero, suc, Bool, true, false, List, [], Option, Some, None}
use Rattle.sql_lexer.specs.declared.kind.Kind.TheVariants as k
use Rattle.sql_lexer.specs.declared.token.Token.{Token}
use Rattle.sql_ast.specs.declared.tree.Expr.{Expr}
use Rattle.sql_ast.specs.declared.words.Column.{Column}
use Rattle.sql_ast.specs.declared.tree.Item.{Item}
use Rattle.sql_ast.specs.declared.tree.Selected.{Selected}
use Rattle.sql_ast.specs.declared.tree.Selected.TheVariants as selected
use Rattle.sql_ast.specs.declared.tree.FromItem.{FromItem}
use Rattle.sql_ast.specs.declared.tree.FromItem.TheVariants as from_item
use Rattle.sql_ast.specs.declared.tree.Clause.{Clause}
use Rattle.sql_ast.specs.declared.tree.Clause.TheVariants as clause
use Rattle.sql_ast.specs.declared.statement.NamedKey.{NamedKey}
use Rattle.sql_ast.specs.declared.statement.Query.{Query as OrderedQuery}
use Rattle.sql_ast.specs.declared.statement.Statement.{Statement}
use Rattle.sql_ast.specs.declared.words.JoinKind.{JoinKind}
use Rattle.sql_ast.specs.declared.words.JoinKind.TheVariants as join_kind
use Rattle.sql_ast.specs.declared.tree.Joined.{Joined}
use Rattle.sql_ast.specs.declared.tree.Block.{Block}
use Rattle.sql_ast.specs.declared.words.SetOperator.{SetOperator}
use Rattle.sql_ast.specs.declared.words.SetOperator.TheVariants as set_operator
use Rattle.sql_ast.specs.declared.statement.RefreshKind.{RefreshKind}
use Rattle.sql_ast.specs.declared.statement.RefreshKind.TheVariants as refresh_kind
use Rattle.sql_ast.specs.declared.statement.TemplateValue.{TemplateValue}
use Rattle.sql_ast.specs.declared.statement.Statement.TheVariants as statements
use Rattle.sql_ast.specs.declared.statement.WithQuery.{WithQuery}
use Rattle.sql_parser_steps.specs.declared.filters.Filters.{Filters}
use Rattle.sql_lexer.specs.Kinds.{is}
use Rattle.sql_grammar_laws.specs.Lines.{Part, One, Opens, Empty, Never, Then, Or, Map, less, Links}
use Rattle.sql_parser_steps.specs.Values.{Name, first, second, pair, cons, constant, after_word, item}
use Rattle.sql_parser_steps.specs.Values.{distinct, plain_selection, derived, lateral, join, joined}
use Rattle.sql_parser_steps.specs.Values.{condition, filters, block, named_key, ordered, create_view, text_value}
use Rattle.sql_parser_steps.specs.Values.{number_value, with_query, under_with, set_part, combined}
use Rattle.sql_parser.specs.Expressions.{NameLine, Number, ColumnLine, Whole, Subquery, UnaryLine}
use Rattle.sql_parser.specs.Expressions.{PartLine}

-- [[as] name]
abbrev pub Alias : Part Token (Option Name)
Alias = Or (Then after_word (One (is k.As)) NameLine) (Or (Map Some NameLine) (Empty None))

-- e [[as] name]
abbrev pub ItemLine : ℕ → Part Token Expr → Part Token Item
ItemLine wide part = Then item (Whole wide part) Alias

-- "*" | item {"," item}
abbrev pub Selection : ℕ → Part Token Expr → Part Token Selected
Selection wide part =
    Or (Map (constant selected.All) (One (is k.Star)))
    (Map selected.Items
    (Then cons (ItemLine wide part) (Links (One (is k.Comma)) second (ItemLine wide part) wide)))

-- select [distinct] ..
abbrev pub SelectLine : ℕ → Part Token Expr → Part Token (Bool × Selected)
SelectLine wide part =
    Then second (One (is k.Select))
    (Or (Then distinct (One (is k.Distinct)) (Selection wide part))
    (Map plain_selection (Selection wide part)))

-- name {"," name}
abbrev pub Names : ℕ → Part Token (List Name)
Names wide = Then cons NameLine (Links (One (is k.Comma)) second NameLine wide)

-- ["(" name {"," name} ")"]
abbrev pub ColumnNames : ℕ → ℕ → Part Token (List Name)
ColumnNames wide room =
    Or (Then second (Opens room (is k.OpenParen)) (Then first (Names wide) (One (is k.CloseParen))))
    (Empty [])

-- name [[as] name]
abbrev pub TableLine : Part Token FromItem
TableLine = Then from_item.Table NameLine Alias

-- [as] name
abbrev pub DerivedAlias : Part Token Name
DerivedAlias = Or (Then second (One (is k.As)) NameLine) NameLine

-- "(" query ")" [as] name ["(" name {"," name} ")"]
abbrev pub FromQueryLine : ℕ → ℕ → Part Token Block → Part Token (Block × (Name × List Name))
FromQueryLine wide room query =
    Then pair (Subquery room query) (Then pair DerivedAlias (ColumnNames wide room))

-- such a query, as a derived table
abbrev pub DerivedLine : ℕ → ℕ → Part Token Block → Part Token FromItem
DerivedLine wide room query = Map derived (FromQueryLine wide room query)

-- lateral and such a query
abbrev pub LateralLine : ℕ → ℕ → Part Token Block → Part Token FromItem
LateralLine wide room query = Then lateral (One (is k.Lateral)) (FromQueryLine wide room query)

-- a derived table, a lateral item or a table
abbrev pub FromItemLine : ℕ → ℕ → Part Token Block → Part Token FromItem
FromItemLine wide room query =
    Or (DerivedLine wide room query) (Or (LateralLine wide room query) TableLine)

-- [inner] join
abbrev pub InnerWords : Part Token JoinKind
InnerWords = Or (Map (constant join_kind.Inner) (One (is k.Join)))
    (Map (constant join_kind.Inner) (Then second (One (is k.Inner)) (One (is k.Join))))

-- left [outer] join
abbrev pub LeftWords : Part Token JoinKind
LeftWords = Map (constant join_kind.LeftOuter)
    (Then second (One (is k.Left)) (Or (Then second (One (is k.Outer)) (One (is k.Join)))
    (One (is k.Join))))

-- [inner] join | left [outer] join
abbrev pub JoinWords : Part Token JoinKind
JoinWords = Or LeftWords InnerWords

-- an item and its condition: item on e
abbrev pub JoinedItem : ℕ → ℕ → Part Token Expr → Part Token Block → Part Token (FromItem × Expr)
JoinedItem wide room part query =
    Then pair (FromItemLine wide room query) (Then second (One (is k.On)) (Whole wide part))

-- item {([inner] join | left [outer] join) item on e}
abbrev pub JoinedLine : ℕ → ℕ → Part Token Expr → Part Token Block → Part Token Joined
JoinedLine wide room part query =
    Then joined (FromItemLine wide room query)
    (Links JoinWords join (JoinedItem wide room part query) wide)

-- from joined {"," joined}
abbrev pub FromLine : ℕ → ℕ → Part Token Expr → Part Token Block → Part Token (List Joined)
FromLine wide room part query =
    Then second (One (is k.From))
    (Then cons (JoinedLine wide room part query)
    (Links (One (is k.Comma)) second (JoinedLine wide room part query) wide))

-- [where e]
abbrev pub WhereTail : ℕ → Part Token Expr → Part Token Clause
WhereTail wide part = Or (Then condition (One (is k.Where)) (Whole wide part)) (Empty clause.Absent)

-- [group by column {"," column}]
abbrev pub GroupTail : ℕ → Part Token (List Column)
GroupTail wide = Or
    (Then second (Then second (One (is k.Group)) (One (is k.By)))
    (Then cons ColumnLine (Links (One (is k.Comma)) second ColumnLine wide))) (Empty [])

-- [having e]
abbrev pub HavingTail : ℕ → Part Token Expr → Part Token Clause
HavingTail wide part =
    Or (Then condition (One (is k.Having)) (Whole wide part)) (Empty clause.Absent)

-- [where ..] [group by ..] [having ..]
abbrev pub FiltersTail : ℕ → Part Token Expr → Part Token Filters
FiltersTail wide part =
    Then filters (WhereTail wide part) (Then pair (GroupTail wide) (HavingTail wide part))

-- select .. from .. [where ..] [group by ..] [having ..]
abbrev pub BlockLine : ℕ → ℕ → Part Token Expr → Part Token Block → Part Token Block
BlockLine wide room part query =
    Then block (SelectLine wide part)
    (Then pair (FromLine wide room part query) (FiltersTail wide part))

-- [all]
abbrev pub AllWord : Part Token Bool
AllWord = Or (Map (constant true) (One (is k.All))) (Empty false)

-- intersect [all]
abbrev pub IntersectWords : Part Token (SetOperator × Bool)
IntersectWords = Then pair (Map (constant set_operator.Intersect) (One (is k.Intersect))) AllWord

-- union | except
abbrev pub SetWord : Part Token SetOperator
SetWord = Or (Map (constant set_operator.Union) (One (is k.Union)))
    (Map (constant set_operator.Except) (One (is k.Except)))

-- (union | except) [all]
abbrev pub SetWords : Part Token (SetOperator × Bool)
SetWords = Then pair SetWord AllWord

-- select .. {intersect [all] select ..}
abbrev pub TermLine : ℕ → ℕ → Part Token Expr → Part Token Block → Part Token Block
TermLine wide room part query =
    Then combined (BlockLine wide room part query)
    (Links IntersectWords set_part (BlockLine wide room part query) wide)

-- term {(union | except) [all] term}
abbrev pub QueryLine : ℕ → ℕ → Part Token Expr → Part Token Block → Part Token Block
QueryLine wide room part query =
    Then combined (TermLine wide room part query)
    (Links SetWords set_part (TermLine wide room part query) wide)

-- [asc|desc]
abbrev pub Direction : Part Token Bool
Direction = Or (Map (constant false) (One (is k.Asc)))
    (Or (Map (constant true) (One (is k.Desc))) (Empty false))

-- name [asc|desc]
abbrev pub KeyLine : Part Token NamedKey
KeyLine = Then named_key NameLine Direction

-- [order by .. {"," ..}]
abbrev pub OrderTail : ℕ → Part Token (List NamedKey)
OrderTail wide = Or
    (Then second (Then second (One (is k.Order)) (One (is k.By)))
    (Then cons KeyLine (Links (One (is k.Comma)) second KeyLine wide))) (Empty [])

-- rows only
abbrev pub RowsOnly : Part Token Token
RowsOnly = Then second (One (is k.Rows)) (One (is k.Only))

-- [limit N | fetch first N rows only]
abbrev pub LimitTail : Part Token (Option ℕ)
LimitTail = Or (Then after_word (One (is k.Limit)) Number)
    (Or (Then after_word (Then second (One (is k.Fetch)) (One (is k.First)))
    (Then first Number RowsOnly)) (Empty None))

-- [at version N]
abbrev pub VersionTail : Part Token (Option ℕ)
VersionTail = Or
    (Then after_word (Then second (One (is k.At)) (One (is k.Version))) Number) (Empty None)

-- query [order by ..] [limit ..] [at version N]
abbrev pub OrderedLine : ℕ → Part Token Block → Part Token OrderedQuery
OrderedLine wide query =
    Then ordered query (Then pair (OrderTail wide) (Then pair LimitTail VersionTail))

-- name ["(" name {"," name} ")"] as "(" query ")"
abbrev pub WithQueryLine : ℕ → ℕ → Part Token Block → Part Token WithQuery
WithQueryLine wide room inner =
    Then with_query (Then pair NameLine (ColumnNames wide room))
    (Then second (One (is k.As)) (Subquery room inner))

-- with name .. as "(" query ")" {"," name .. as "(" query ")"}
abbrev pub WithLine : ℕ → ℕ → Part Token Block → Part Token (List WithQuery)
WithLine wide room inner =
    Then second (One (is k.With))
    (Then cons (WithQueryLine wide room inner)
    (Links (One (is k.Comma)) second (WithQueryLine wide room inner) wide))

-- with .. query [order by ..] [limit ..] [at version N]
abbrev pub WithOrderedLine : ℕ → ℕ → Part Token Block → Part Token Block → Part Token Statement
WithOrderedLine wide room query inner =
    Then under_with (WithLine wide room inner) (OrderedLine wide query)

-- create view name ["(" name {"," name} ")"] as query
abbrev pub CreateLine : ℕ → ℕ → Part Token Block → Part Token Statement
CreateLine wide room query =
    Then create_view (Then second (Then second (One (is k.Create)) (One (is k.View)))
    (Then pair NameLine (ColumnNames wide room))) (Then second (One (is k.As)) query)

-- drop view name
abbrev pub DropLine : Part Token Statement
DropLine = Then second (Then second (One (is k.Drop)) (One (is k.View)))
    (Map statements.DropView NameLine)

-- insert|delete
abbrev pub RefreshWord : Part Token RefreshKind
RefreshWord = Or (Map (constant refresh_kind.Insert) (One (is k.Insert)))
    (Map (constant refresh_kind.Delete) (One (is k.Delete)))

-- refresh (insert|delete) N
abbrev pub RefreshLine : Part Token Statement
RefreshLine = Then second (One (is k.Refresh)) (Then statements.Refresh RefreshWord Number)

-- T or a number
abbrev pub ValueLine : Part Token TemplateValue
ValueLine = Or (Map text_value (One (is k.Text))) (Map number_value (One (is k.Number)))

-- value {"," value}
abbrev pub ValueList : ℕ → Part Token (List TemplateValue)
ValueList wide = Then cons ValueLine (Links (One (is k.Comma)) second ValueLine wide)

-- [value {"," value}] ")"
abbrev pub RunInside : ℕ → Part Token (List TemplateValue)
RunInside wide = Or (Map (constant []) (One (is k.CloseParen)))
    (Then first (ValueList wide) (One (is k.CloseParen)))

-- run N "(" [value {"," value}] ")"
abbrev pub RunLine : ℕ → ℕ → Part Token Statement
RunLine wide room =
    Then second (One (is k.Run))
    (Then statements.Run Number (Then second (Opens room (is k.OpenParen)) (RunInside wide)))

-- a query with what may follow it, or such a one under WITH | create view .. | drop view ..
-- | refresh .. | run .. Between parentheses after WITH stands `inner`.
abbrev pub StatementLine : ℕ → ℕ → Part Token Block → Part Token Block → Part Token Statement
StatementLine wide room query inner =
    Or (Map statements.Query (OrderedLine wide query))
    (Or (WithOrderedLine wide room query inner)
    (Or (CreateLine wide room query) (Or DropLine (Or RefreshLine (RunLine wide room)))))

-- statement ";"
abbrev pub EndedLine : ℕ → ℕ → Part Token Block → Part Token Block → Part Token Statement
EndedLine wide room query inner =
    Then first (StatementLine wide room query inner) (One (is k.Semicolon))

-- The three parts that lead back to themselves. Of the three numbers, the first is how high the
-- text nests.
unfoldable mutual
  -- what `UnaryLine` says; one level further in, the same of a text that nests one less high
  pub Unary : ℕ → ℕ → ℕ → Part Token Expr
  Unary zero wide room = UnaryLine wide room Never Never Never
  Unary (suc h) wide room =
      UnaryLine wide room (Unary h wide (less room)) (NotPart h wide (less room))
      (Query h wide (less room))

  -- what `PartLine` says; one level further in, the same of a text that nests one less high
  pub NotPart : ℕ → ℕ → ℕ → Part Token Expr
  NotPart zero wide room = PartLine wide room (UnaryLine wide room Never Never Never) Never Never
  NotPart (suc h) wide room =
      PartLine wide room
      (UnaryLine wide room (Unary h wide (less room)) (NotPart h wide (less room))
      (Query h wide (less room))) (NotPart h wide (less room)) (Query h wide (less room))

  -- what `QueryLine` says; one level further in, the same of a text that nests one less high
  pub Query : ℕ → ℕ → ℕ → Part Token Block
  Query zero wide room =
      QueryLine wide room (PartLine wide room (UnaryLine wide room Never Never Never) Never Never)
      Never
  Query (suc h) wide room =
      QueryLine wide room
      (PartLine wide room (UnaryLine wide room (Unary h wide (less room))
      (NotPart h wide (less room)) (Query h wide (less room))) (NotPart h wide (less room))
      (Query h wide (less room)))
      (Query h wide (less room))

-- a query one level further in
abbrev pub InnerQuery : ℕ → ℕ → ℕ → Part Token Block
InnerQuery zero wide room = Never
InnerQuery (suc h) wide room = Query h wide (less room)

-- A statement with its semicolon, where `room` levels may be opened, and a list may have `wide`
-- elements after its first.
abbrev pub Ended : ℕ → ℕ → ℕ → Part Token Statement
Ended wide room h = EndedLine wide room (Query h wide room) (InnerQuery h wide room)
