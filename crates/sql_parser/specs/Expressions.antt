-- The grammar of expressions, a definition for each line. `wide` is how many more elements a list
-- may have than its first, `room` how many levels may still be opened.
use Rattle.std.specs.Prelude.{ℕ, List, Option, None}
use Rattle.sql_lexer.specs.declared.kind.Kind.TheVariants as k
use Rattle.sql_lexer.specs.declared.token.Token.{Token}
use Rattle.sql_ast.specs.declared.tree.Expr.{Expr}
use Rattle.sql_ast.specs.declared.tree.Expr.TheVariants as e
use Rattle.sql_ast.specs.declared.tree.Arm.{Arm}
use Rattle.sql_ast.specs.declared.words.Column.{Column}
use Rattle.sql_ast.specs.declared.words.Comparison.{Comparison}
use Rattle.sql_ast.specs.declared.words.Comparison.TheVariants as comparison
use Rattle.sql_ast.specs.declared.words.Quantifier.{Quantifier}
use Rattle.sql_ast.specs.declared.words.Quantifier.TheVariants as quantifier
use Rattle.sql_ast.specs.declared.words.Span.{Span}
use Rattle.sql_ast.specs.declared.words.Span.TheVariants as span
use Rattle.sql_ast.specs.declared.words.Aggregate.{Aggregate}
use Rattle.sql_ast.specs.declared.words.Aggregate.TheVariants as aggregate
use Rattle.sql_ast.specs.declared.words.Adding.{Adding}
use Rattle.sql_ast.specs.declared.words.Adding.TheVariants as adding
use Rattle.sql_ast.specs.declared.words.Multiplying.{Multiplying}
use Rattle.sql_ast.specs.declared.words.Multiplying.TheVariants as multiplying
use Rattle.sql_ast.specs.declared.tree.Block.{Block}
use Rattle.sql_parser_steps.specs.declared.test.Compared.{Compared}
use Rattle.sql_parser_steps.specs.declared.test.Compared.TheVariants as compared
use Rattle.sql_parser_steps.specs.declared.test.Test.{Test}
use Rattle.sql_parser_steps.specs.declared.test.Test.TheVariants as t
use Rattle.sql_lexer.specs.Kinds.{is}
use Rattle.sql_grammar_laws.specs.Lines.{Part, One, Opens, Empty, Then, Or, Map, Links}
use Rattle.sql_parser_steps.specs.Values.{Name, text_of, count_of, number, text, is_count, is_digits}
use Rattle.sql_parser_steps.specs.Values.{first, second, pair, cons, constant, after_word, after_point}
use Rattle.sql_parser_steps.specs.Values.{column, negative, negation, factor, term, product, sum}
use Rattle.sql_parser_steps.specs.Values.{all_of, any_of, arm, case_of, date, interval, extract}
use Rattle.sql_parser_steps.specs.Values.{substring, distinct_count, between, like, in_list, in_query}
use Rattle.sql_parser_steps.specs.Values.{is_null, is_not_null, denied, tested}

-- a name
abbrev pub NameLine : Part Token Name
NameLine = Map text_of (One (is k.Name))

-- a text
abbrev pub Literal : Part Token Name
Literal = Map text_of (One (is k.Text))

-- a number without a point of at most 999999999
abbrev pub Number : Part Token ℕ
Number = Map count_of (One is_count)

-- a text of one to six digits
abbrev pub Digits : Part Token Name
Digits = Map text_of (One is_digits)

-- year, month or day
abbrev pub SpanWord : Part Token Span
SpanWord = Or (Map (constant span.Year) (One (is k.Year)))
    (Or (Map (constant span.Month) (One (is k.Month))) (Map (constant span.Day) (One (is k.Day))))

-- ["." name]
abbrev pub ColumnTail : Part Token (Option Name)
ColumnTail = Or (Then after_point (One (is k.Point)) NameLine) (Empty None)

-- name ["." name]
abbrev pub ColumnLine : Part Token Column
ColumnLine = Then column NameLine ColumnTail

-- * or /
abbrev pub MultiplyWord : Part Token Multiplying
MultiplyWord = Or (Map (constant multiplying.Times) (One (is k.Star)))
    (Map (constant multiplying.Divide) (One (is k.Slash)))

-- + or -
abbrev pub AddWord : Part Token Adding
AddWord = Or (Map (constant adding.Plus) (One (is k.Plus)))
    (Map (constant adding.Minus) (One (is k.Minus)))

-- unary {(*|/) unary}
abbrev pub Product : ℕ → Part Token Expr → Part Token Expr
Product wide unary = Then product unary (Links MultiplyWord factor unary wide)

-- product {(+|-) product}
abbrev pub Sum : ℕ → Part Token Expr → Part Token Expr
Sum wide unary = Then sum (Product wide unary) (Links AddWord term (Product wide unary) wide)

-- not-part {and not-part}
abbrev pub Conjunction : ℕ → Part Token Expr → Part Token Expr
Conjunction wide part = Then all_of part (Links (One (is k.And)) second part wide)

-- and-part {or and-part}
abbrev pub Whole : ℕ → Part Token Expr → Part Token Expr
Whole wide part = Then any_of (Conjunction wide part)
    (Links (One (is k.Or)) second (Conjunction wide part) wide)

-- e {"," e}
abbrev pub ExprList : ℕ → Part Token Expr → Part Token (List Expr)
ExprList wide part =
    Then cons (Whole wide part) (Links (One (is k.Comma)) second (Whole wide part) wide)

-- when e then e
abbrev pub ArmLine : ℕ → Part Token Expr → Part Token Arm
ArmLine wide part =
    Then arm (Then second (One (is k.When)) (Whole wide part))
    (Then second (One (is k.Then)) (Whole wide part))

-- when e then e {when e then e}
abbrev pub Arms : ℕ → Part Token Expr → Part Token (List Arm)
Arms wide part = Then cons (ArmLine wide part)
    (Links (Empty (tt {0})) second (ArmLine wide part) wide)

-- [else e]
abbrev pub ElseTail : ℕ → Part Token Expr → Part Token (Option Expr)
ElseTail wide part = Or (Then after_word (One (is k.Else)) (Whole wide part)) (Empty None)

-- when e then e {when e then e} [else e]
abbrev pub CaseBody : ℕ → Part Token Expr → Part Token Expr
CaseBody wide part = Then case_of (Arms wide part) (ElseTail wide part)

-- case .. end
abbrev pub CaseLine : ℕ → ℕ → Part Token Expr → Part Token Expr
CaseLine wide room part =
    Then second (Opens room (is k.Case)) (Then first (CaseBody wide part) (One (is k.End)))

-- T | "(" T ")"
abbrev pub DateText : ℕ → Part Token Name
DateText room = Or
    (Then second (Opens room (is k.OpenParen)) (Then first Literal (One (is k.CloseParen)))) Literal

-- date T | date "(" T ")"
abbrev pub DateLine : ℕ → Part Token Expr
DateLine room = Then date (One (is k.Date)) (DateText room)

-- ["(" N ")"]
abbrev pub Precision : ℕ → Part Token (Unit {0})
Precision room = Or
    (Map (constant (tt {0}))
    (Then second (Opens room (is k.OpenParen)) (Then first Number (One (is k.CloseParen)))))
    (Empty (tt {0}))

-- interval T (day|month|year) ["(" N ")"]
abbrev pub IntervalLine : ℕ → Part Token Expr
IntervalLine room =
    Then interval (Then second (One (is k.Interval)) Digits) (Then first SpanWord (Precision room))

-- (year|month|day) from e
abbrev pub ExtractInside : ℕ → Part Token Expr → Part Token Expr
ExtractInside wide part = Then extract SpanWord (Then second (One (is k.From)) (Whole wide part))

-- extract "(" (year|month|day) from e ")"
abbrev pub ExtractLine : ℕ → ℕ → Part Token Expr → Part Token Expr
ExtractLine wide room part =
    Then second (One (is k.Extract))
    (Then second (Opens room (is k.OpenParen))
    (Then first (ExtractInside wide part) (One (is k.CloseParen))))

-- from N for N
abbrev pub Places : Part Token (ℕ × ℕ)
Places = Then pair (Then second (One (is k.From)) Number) (Then second (One (is k.For)) Number)

-- e from N for N
abbrev pub SubstringInside : ℕ → Part Token Expr → Part Token Expr
SubstringInside wide part = Then substring (Whole wide part) Places

-- substring "(" e from N for N ")"
abbrev pub SubstringLine : ℕ → ℕ → Part Token Expr → Part Token Expr
SubstringLine wide room part =
    Then second (One (is k.Substring))
    (Then second (Opens room (is k.OpenParen))
    (Then first (SubstringInside wide part) (One (is k.CloseParen))))

-- "*" | [distinct] e
abbrev pub CountInside : ℕ → Part Token Expr → Part Token Expr
CountInside wide part =
    Or (Map (constant e.CountRows) (One (is k.Star)))
    (Or (Then distinct_count (One (is k.Distinct)) (Whole wide part))
    (Map e.Count (Whole wide part)))

-- count "(" .. ")"
abbrev pub CountLine : ℕ → ℕ → Part Token Expr → Part Token Expr
CountLine wide room part =
    Then second (One (is k.Count))
    (Then second (Opens room (is k.OpenParen))
    (Then first (CountInside wide part) (One (is k.CloseParen))))

-- sum, avg, min or max
abbrev pub AggregateWord : Part Token Aggregate
AggregateWord = Or (Map (constant aggregate.Sum) (One (is k.Sum)))
    (Or (Map (constant aggregate.Avg) (One (is k.Avg)))
    (Or (Map (constant aggregate.Min) (One (is k.Min)))
    (Map (constant aggregate.Max) (One (is k.Max)))))

-- (sum|avg|min|max) "(" e ")"
abbrev pub AggregateLine : ℕ → ℕ → Part Token Expr → Part Token Expr
AggregateLine wide room part =
    Then e.Aggregate AggregateWord
    (Then second (Opens room (is k.OpenParen))
    (Then first (Whole wide part) (One (is k.CloseParen))))

-- extract, substring, count or an aggregate
abbrev pub Call : ℕ → ℕ → Part Token Expr → Part Token Expr
Call wide room part =
    Or (ExtractLine wide room part)
    (Or (SubstringLine wide room part)
    (Or (CountLine wide room part) (AggregateLine wide room part)))

-- what holds no expression: a number, a text, a date, an interval or a column
abbrev pub Leaf : ℕ → Part Token Expr
Leaf room = Or (Map number (One (is k.Number)))
    (Or (Map text (One (is k.Text)))
    (Or (DateLine room) (Or (IntervalLine room) (Map e.Column ColumnLine))))

-- query | e
abbrev pub ParensInside : ℕ → Part Token Expr → Part Token Block → Part Token Expr
ParensInside wide part query = Or (Map e.Scalar query) (Whole wide part)

-- "(" (query | e) ")"
abbrev pub Parens : ℕ → ℕ → Part Token Expr → Part Token Block → Part Token Expr
Parens wide room part query =
    Then second (Opens room (is k.OpenParen))
    (Then first (ParensInside wide part query) (One (is k.CloseParen)))

-- "(" query ")"
abbrev pub Subquery : ℕ → Part Token Block → Part Token Block
Subquery room query =
    Then second (Opens room (is k.OpenParen)) (Then first query (One (is k.CloseParen)))

-- exists "(" query ")"
abbrev pub ExistsLine : ℕ → Part Token Block → Part Token Expr
ExistsLine room query = Then second (One (is k.Exists)) (Map e.Exists (Subquery room query))

-- "(" (query | e) ")" | exists "(" query ")" | case .. end | a call | what holds no expression
abbrev pub Operand : ℕ → ℕ → Part Token Expr → Part Token Block → Part Token Expr
Operand wide room part query =
    Or (Parens wide room part query)
    (Or (ExistsLine room query)
    (Or (CaseLine wide room part) (Or (Call wide room part) (Leaf room))))

-- - unary | an operand
abbrev pub UnaryLine : ℕ → ℕ → Part Token Expr → Part Token Expr → Part Token Block
    → Part Token Expr
UnaryLine wide room inner part query =
    Or (Then negative (Opens room (is k.Minus)) inner) (Operand wide room part query)

-- = | <> | < | <= | > | >=
abbrev pub ComparisonWord : Part Token Comparison
ComparisonWord = Or (Map (constant comparison.Equal) (One (is k.Equal)))
    (Or (Map (constant comparison.NotEqual) (One (is k.NotEqual)))
    (Or (Map (constant comparison.Less) (One (is k.Less)))
    (Or (Map (constant comparison.LessOrEqual) (One (is k.LessOrEqual)))
    (Or (Map (constant comparison.Greater) (One (is k.Greater)))
    (Map (constant comparison.GreaterOrEqual) (One (is k.GreaterOrEqual)))))))

-- any | some | all
abbrev pub QuantifierWord : Part Token Quantifier
QuantifierWord = Or (Map (constant quantifier.Any) (One (is k.Any)))
    (Or (Map (constant quantifier.Any) (One (is k.Some)))
    (Map (constant quantifier.All) (One (is k.All))))

-- (any | some | all) "(" query ")"
abbrev pub ComparedQuery : ℕ → Part Token Block → Part Token Compared
ComparedQuery room query = Then compared.Query QuantifierWord (Subquery room query)

-- such a query, or a sum
abbrev pub ComparedLine : ℕ → ℕ → Part Token Expr → Part Token Block → Part Token Compared
ComparedLine wide room unary query =
    Or (ComparedQuery room query) (Map compared.Sum (Sum wide unary))

-- (= | <> | < | <= | > | >=) (sum | (any | some | all) "(" query ")")
abbrev pub CompareLine : ℕ → ℕ → Part Token Expr → Part Token Block → Part Token Test
CompareLine wide room unary query =
    Then t.Compare ComparisonWord (ComparedLine wide room unary query)

-- is [not] null
abbrev pub NullLine : Part Token Test
NullLine = Then second (One (is k.Is))
    (Or (Then is_not_null (One (is k.Not)) (One (is k.Null))) (Map is_null (One (is k.Null))))

-- between sum and sum
abbrev pub BetweenLine : ℕ → Part Token Expr → Part Token Test
BetweenLine wide unary =
    Then second (One (is k.Between))
    (Then between (Sum wide unary) (Then second (One (is k.And)) (Sum wide unary)))

-- like T
abbrev pub LikeLine : Part Token Test
LikeLine = Then like (One (is k.Like)) Literal

-- query | e {"," e}
abbrev pub InInside : ℕ → Part Token Expr → Part Token Block → Part Token Test
InInside wide part query = Or (Map in_query query) (Map in_list (ExprList wide part))

-- in "(" (query | e {"," e}) ")"
abbrev pub InLine : ℕ → ℕ → Part Token Expr → Part Token Block → Part Token Test
InLine wide room part query =
    Then second (One (is k.In))
    (Then second (Opens room (is k.OpenParen))
    (Then first (InInside wide part query) (One (is k.CloseParen))))

-- what a NOT may stand before
abbrev pub DenyTest : ℕ → ℕ → Part Token Expr → Part Token Expr → Part Token Block → Part Token Test
DenyTest wide room unary part query =
    Or (BetweenLine wide unary) (Or LikeLine (InLine wide room part query))

-- [a comparison | is [not] null | [not] between .. | [not] like .. | [not] in ..]
abbrev pub TestTail : ℕ → ℕ → Part Token Expr → Part Token Expr → Part Token Block → Part Token Test
TestTail wide room unary part query =
    Or (CompareLine wide room unary query)
    (Or NullLine (Or (Then denied (One (is k.Not)) (DenyTest wide room unary part query))
    (Or (DenyTest wide room unary part query) (Empty t.Absent))))

-- sum [test]
abbrev pub Predicate : ℕ → ℕ → Part Token Expr → Part Token Expr → Part Token Block
    → Part Token Expr
Predicate wide room unary part query =
    Then tested (Sum wide unary) (TestTail wide room unary part query)

-- not not-part | predicate
abbrev pub PartLine : ℕ → ℕ → Part Token Expr → Part Token Expr → Part Token Block → Part Token Expr
PartLine wide room unary part query =
    Or (Then negation (Opens room (is k.Not)) part) (Predicate wide room unary part query)
