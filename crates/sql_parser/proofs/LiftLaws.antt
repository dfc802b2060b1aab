-- Each line of the grammar with larger limits: its texts are the same, and pass none of them.
use Rattle.std.proofs.Common.{ℕ, zero, suc, ◌≤◌, true, false, arith, [], ◌∷◌, Some, None}
use Rattle.sql_lexer.specs.declared.kind.Kind.TheVariants as k
use Rattle.sql_lexer.specs.declared.token.Token.{Token}
use Rattle.sql_ast.specs.declared.tree.Expr.{Expr}
use Rattle.sql_ast.specs.declared.tree.Expr.TheVariants as e
use Rattle.sql_ast.specs.declared.words.Comparison.TheVariants as comparison
use Rattle.sql_ast.specs.declared.words.Quantifier.TheVariants as quantifier
use Rattle.sql_ast.specs.declared.words.SetOperator.TheVariants as set_operator
use Rattle.sql_ast.specs.declared.words.Span.TheVariants as span
use Rattle.sql_ast.specs.declared.words.Aggregate.TheVariants as aggregate
use Rattle.sql_ast.specs.declared.words.Adding.TheVariants as adding
use Rattle.sql_ast.specs.declared.words.Multiplying.TheVariants as multiplying
use Rattle.sql_ast.specs.declared.tree.Selected.TheVariants as selected
use Rattle.sql_ast.specs.declared.tree.FromItem.TheVariants as from_item
use Rattle.sql_ast.specs.declared.tree.Clause.TheVariants as clause
use Rattle.sql_ast.specs.declared.tree.Block.{Block}
use Rattle.sql_ast.specs.declared.words.JoinKind.TheVariants as join_kind
use Rattle.sql_ast.specs.declared.statement.RefreshKind.TheVariants as refresh_kind
use Rattle.sql_ast.specs.declared.statement.Statement.TheVariants as statements
use Rattle.sql_parser_steps.specs.declared.test.Compared.TheVariants as compared
use Rattle.sql_parser_steps.specs.declared.test.Test.TheVariants as t
use Rattle.sql_lexer.specs.Kinds.{is}
use Rattle.sql_grammar_laws.specs.Lines.{Part, Then, One}
use Rattle.sql_grammar_laws.specs.Readings.{Reading}
use Rattle.sql_grammar_laws.specs.Lifting.{Lifts}
use Rattle.sql_grammar_laws.proofs.Lift.{Lifts-one, Lifts-or, Lifts-map, Lifts-then, Lifts-empty, Lifts-list, Lifts-level, Below, below, always}
use Rattle.sql_grammar_laws.proofs.Lawful.{Line, Deeper, line_nonempty}
use Rattle.sql_parser_steps.specs.Kinds.{kinds}
use Rattle.sql_parser_steps.specs.Values.{text_of, count_of, number, text, is_count, is_digits, first, second, pair, cons, constant, after_word, after_point, column, negative, negation, factor, term, product, sum, all_of, any_of, arm, case_of, date, interval, extract, substring, distinct_count, between, like, in_list, in_query, is_null, is_not_null, denied, tested, item, distinct, plain_selection, derived, lateral, join, joined, condition, filters, block, named_key, ordered, create_view, text_value, number_value, with_query, under_with, set_part, combined}
use Rattle.sql_parser.specs.Expressions.{NameLine, Literal, Number, Digits, SpanWord, ColumnTail, ColumnLine, MultiplyWord, AddWord, Product, Sum, Conjunction, Whole, ExprList, ArmLine, Arms, ElseTail, CaseBody, CaseLine, DateText, DateLine, Precision, IntervalLine, ExtractInside, ExtractLine, Places, SubstringInside, SubstringLine, CountInside, CountLine, AggregateWord, AggregateLine, Call, Leaf, Parens, Subquery, ExistsLine, Operand, UnaryLine, ComparisonWord, QuantifierWord, ComparedQuery, CompareLine, NullLine, BetweenLine, LikeLine, InLine, DenyTest, TestTail, Predicate, PartLine}
use Rattle.sql_parser.specs.Grammar.{Alias, ItemLine, Selection, SelectLine, Names, ColumnNames, TableLine, DerivedAlias, FromQueryLine, FromItemLine, JoinWords, JoinedItem, JoinedLine, FromLine, WhereTail, GroupTail, HavingTail, FiltersTail, BlockLine, AllWord, IntersectWords, SetWords, TermLine, QueryLine, Direction, KeyLine, OrderTail, RowsOnly, LimitTail, VersionTail, OrderedLine, WithQueryLine, WithLine, WithOrderedLine, CreateLine, DropLine, RefreshLine, ValueLine, RunInside, RunLine, StatementLine, EndedLine}
use Rattle.sql_parser.proofs.WordLaws.{law-NameLine, law-ColumnLine, law-ValueLine, law-KeyLine}
use Rattle.sql_parser.proofs.LineLaws.{law-Product, law-Conjunction, law-Whole, law-ArmLine, law-ItemLine, law-JoinedItem, law-JoinedLine, law-BlockLine, law-TermLine, law-WithQueryLine}
use Rattle.sql_parser.proofs.KindLists.{unary_first, part_first, on_unary, on_part, on_query}

-- of two things that stand inside a level
below_both : {A B C : Type 0} {G G' : Part Token A} {H H' : Part Token B} {X X' : Part Token C} (n : ℕ) → ((m : ℕ) → m ≤ n → Lifts m G G' → Lifts m H H' → Lifts m X X') → Below n G G' → Below n H H' → Below n X X'
below_both zero f g h = tt
below_both (suc n) f g h = f n (omega arith) g h

-- ---- what holds no expression
module _ (n : ℕ) where
  pub lift-NameLine : Lifts n NameLine NameLine
  lift-NameLine = Lifts-map n text_of (Lifts-one n (is k.Name))

  pub lift-Literal : Lifts n Literal Literal
  lift-Literal = Lifts-map n text_of (Lifts-one n (is k.Text))

  pub lift-Number : Lifts n Number Number
  lift-Number = Lifts-map n count_of (Lifts-one n is_count)

  pub lift-Digits : Lifts n Digits Digits
  lift-Digits = Lifts-map n text_of (Lifts-one n is_digits)

  pub lift-SpanWord : Lifts n SpanWord SpanWord
  lift-SpanWord = Lifts-or n (Lifts-map n (constant span.Year) (Lifts-one n (is k.Year)))
      (Lifts-or n (Lifts-map n (constant span.Month) (Lifts-one n (is k.Month))) (Lifts-map n (constant span.Day) (Lifts-one n (is k.Day))))

  pub lift-ColumnTail : Lifts n ColumnTail ColumnTail
  lift-ColumnTail = Lifts-or n (Lifts-then n after_point (Lifts-one n (is k.Point)) lift-NameLine) (Lifts-empty n None)

  pub lift-ColumnLine : Lifts n ColumnLine ColumnLine
  lift-ColumnLine = Lifts-then n column lift-NameLine lift-ColumnTail

  pub lift-MultiplyWord : Lifts n MultiplyWord MultiplyWord
  lift-MultiplyWord = Lifts-or n (Lifts-map n (constant multiplying.Times) (Lifts-one n (is k.Star))) (Lifts-map n (constant multiplying.Divide) (Lifts-one n (is k.Slash)))

  pub lift-AddWord : Lifts n AddWord AddWord
  lift-AddWord = Lifts-or n (Lifts-map n (constant adding.Plus) (Lifts-one n (is k.Plus))) (Lifts-map n (constant adding.Minus) (Lifts-one n (is k.Minus)))

  pub lift-AggregateWord : Lifts n AggregateWord AggregateWord
  lift-AggregateWord = Lifts-or n (Lifts-map n (constant aggregate.Sum) (Lifts-one n (is k.Sum)))
      (Lifts-or n (Lifts-map n (constant aggregate.Avg) (Lifts-one n (is k.Avg)))
      (Lifts-or n (Lifts-map n (constant aggregate.Min) (Lifts-one n (is k.Min))) (Lifts-map n (constant aggregate.Max) (Lifts-one n (is k.Max)))))

  pub lift-ComparisonWord : Lifts n ComparisonWord ComparisonWord
  lift-ComparisonWord = Lifts-or n (Lifts-map n (constant comparison.Equal) (Lifts-one n (is k.Equal)))
      (Lifts-or n (Lifts-map n (constant comparison.NotEqual) (Lifts-one n (is k.NotEqual)))
      (Lifts-or n (Lifts-map n (constant comparison.Less) (Lifts-one n (is k.Less)))
      (Lifts-or n (Lifts-map n (constant comparison.LessOrEqual) (Lifts-one n (is k.LessOrEqual)))
      (Lifts-or n (Lifts-map n (constant comparison.Greater) (Lifts-one n (is k.Greater))) (Lifts-map n (constant comparison.GreaterOrEqual) (Lifts-one n (is k.GreaterOrEqual)))))))

  pub lift-Places : Lifts n Places Places
  lift-Places = Lifts-then n pair (Lifts-then n second (Lifts-one n (is k.From)) lift-Number) (Lifts-then n second (Lifts-one n (is k.For)) lift-Number)

  pub lift-NullLine : Lifts n NullLine NullLine
  lift-NullLine = Lifts-then n second (Lifts-one n (is k.Is))
      (Lifts-or n (Lifts-then n is_not_null (Lifts-one n (is k.Not)) (Lifts-one n (is k.Null))) (Lifts-map n is_null (Lifts-one n (is k.Null))))

  pub lift-LikeLine : Lifts n LikeLine LikeLine
  lift-LikeLine = Lifts-then n like (Lifts-one n (is k.Like)) lift-Literal

  pub lift-Alias : Lifts n Alias Alias
  lift-Alias = Lifts-or n (Lifts-then n after_word (Lifts-one n (is k.As)) lift-NameLine)
      (Lifts-or n (Lifts-map n Some lift-NameLine) (Lifts-empty n None))

  pub lift-TableLine : Lifts n TableLine TableLine
  lift-TableLine = Lifts-then n from_item.Table lift-NameLine lift-Alias

  pub lift-DerivedAlias : Lifts n DerivedAlias DerivedAlias
  lift-DerivedAlias = Lifts-or n (Lifts-then n second (Lifts-one n (is k.As)) lift-NameLine) lift-NameLine

  pub lift-JoinWords : Lifts n JoinWords JoinWords
  lift-JoinWords = Lifts-or n
      (Lifts-map n (constant join_kind.LeftOuter) (Lifts-then n second (Lifts-one n (is k.Left)) (Lifts-or n (Lifts-then n second (Lifts-one n (is k.Outer)) (Lifts-one n (is k.Join))) (Lifts-one n (is k.Join)))))
      (Lifts-or n (Lifts-map n (constant join_kind.Inner) (Lifts-one n (is k.Join))) (Lifts-map n (constant join_kind.Inner) (Lifts-then n second (Lifts-one n (is k.Inner)) (Lifts-one n (is k.Join)))))

  pub lift-DropLine : Lifts n DropLine DropLine
  lift-DropLine = Lifts-then n second (Lifts-then n second (Lifts-one n (is k.Drop)) (Lifts-one n (is k.View))) (Lifts-map n statements.DropView lift-NameLine)

  pub lift-RefreshLine : Lifts n RefreshLine RefreshLine
  lift-RefreshLine = Lifts-then n second (Lifts-one n (is k.Refresh))
      (Lifts-then n statements.Refresh (Lifts-or n (Lifts-map n (constant refresh_kind.Insert) (Lifts-one n (is k.Insert))) (Lifts-map n (constant refresh_kind.Delete) (Lifts-one n (is k.Delete)))) lift-Number)

  pub lift-ValueLine : Lifts n ValueLine ValueLine
  lift-ValueLine = Lifts-or n (Lifts-map n text_value (Lifts-one n (is k.Text))) (Lifts-map n number_value (Lifts-one n (is k.Number)))

  pub lift-Direction : Lifts n Direction Direction
  lift-Direction = Lifts-or n (Lifts-map n (constant false) (Lifts-one n (is k.Asc)))
      (Lifts-or n (Lifts-map n (constant true) (Lifts-one n (is k.Desc))) (Lifts-empty n false))

  pub lift-KeyLine : Lifts n KeyLine KeyLine
  lift-KeyLine = Lifts-then n named_key lift-NameLine lift-Direction

  pub lift-RowsOnly : Lifts n RowsOnly RowsOnly
  lift-RowsOnly = Lifts-then n second (Lifts-one n (is k.Rows)) (Lifts-one n (is k.Only))

  pub lift-LimitTail : Lifts n LimitTail LimitTail
  lift-LimitTail = Lifts-or n (Lifts-then n after_word (Lifts-one n (is k.Limit)) lift-Number)
      (Lifts-or n (Lifts-then n after_word (Lifts-then n second (Lifts-one n (is k.Fetch)) (Lifts-one n (is k.First))) (Lifts-then n first lift-Number lift-RowsOnly)) (Lifts-empty n None))

  pub lift-VersionTail : Lifts n VersionTail VersionTail
  lift-VersionTail = Lifts-or n (Lifts-then n after_word (Lifts-then n second (Lifts-one n (is k.At)) (Lifts-one n (is k.Version))) lift-Number) (Lifts-empty n None)

  pub lift-QuantifierWord : Lifts n QuantifierWord QuantifierWord
  lift-QuantifierWord = Lifts-or n (Lifts-map n (constant quantifier.Any) (Lifts-one n (is k.Any)))
      (Lifts-or n (Lifts-map n (constant quantifier.Any) (Lifts-one n (is k.Some))) (Lifts-map n (constant quantifier.All) (Lifts-one n (is k.All))))

  pub lift-AllWord : Lifts n AllWord AllWord
  lift-AllWord = Lifts-or n (Lifts-map n (constant true) (Lifts-one n (is k.All))) (Lifts-empty n false)

  pub lift-IntersectWords : Lifts n IntersectWords IntersectWords
  lift-IntersectWords = Lifts-then n pair (Lifts-map n (constant set_operator.Intersect) (Lifts-one n (is k.Intersect))) lift-AllWord

  pub lift-SetWords : Lifts n SetWords SetWords
  lift-SetWords = Lifts-then n pair
      (Lifts-or n (Lifts-map n (constant set_operator.Union) (Lifts-one n (is k.Union))) (Lifts-map n (constant set_operator.Except) (Lifts-one n (is k.Except)))) lift-AllWord

-- ---- what holds no expression, but may open a level
module _ (n room : ℕ) where
  pub lift-DateText : Lifts n (DateText room) (DateText n)
  lift-DateText = Lifts-or n (Lifts-level n room (is k.OpenParen) second (always n (λ m. (Lifts-then m first (lift-Literal m) (Lifts-one m (is k.CloseParen)))))) (lift-Literal n)

  pub lift-DateLine : Lifts n (DateLine room) (DateLine n)
  lift-DateLine = Lifts-then n date (Lifts-one n (is k.Date)) lift-DateText

  pub lift-Precision : Lifts n (Precision room) (Precision n)
  lift-Precision = Lifts-or n (Lifts-map n (constant (tt {0})) (Lifts-level n room (is k.OpenParen) second (always n (λ m. (Lifts-then m first (lift-Number m) (Lifts-one m (is k.CloseParen))))))) (Lifts-empty n (tt {0}))

  pub lift-IntervalLine : Lifts n (IntervalLine room) (IntervalLine n)
  lift-IntervalLine = Lifts-then n interval (Lifts-then n second (Lifts-one n (is k.Interval)) (lift-Digits n)) (Lifts-then n first (lift-SpanWord n) lift-Precision)

  pub lift-Leaf : Lifts n (Leaf room) (Leaf n)
  lift-Leaf = Lifts-or n (Lifts-map n number (Lifts-one n (is k.Number)))
      (Lifts-or n (Lifts-map n text (Lifts-one n (is k.Text)))
      (Lifts-or n lift-DateLine
      (Lifts-or n lift-IntervalLine (Lifts-map n e.Column (lift-ColumnLine n)))))

-- ---- lists of what holds no expression
module _ (n many : ℕ) (le : n ≤ many) (wide : ℕ) where
  pub lift-Names : Lifts n (Names wide) (Names many)
  lift-Names = Lifts-then n cons (lift-NameLine n) (Lifts-list n many second wide le (line_nonempty {P = Unit {0}} {S = Unit {0}} law-NameLine) (Lifts-one n (is k.Comma)) (lift-NameLine n))

  pub lift-RunInside : Lifts n (RunInside wide) (RunInside many)
  lift-RunInside = Lifts-or n (Lifts-map n (constant []) (Lifts-one n (is k.CloseParen)))
      (Lifts-then n first (Lifts-then n cons (lift-ValueLine n) (Lifts-list n many second wide le (line_nonempty {P = Unit {0}} {S = Unit {0}} law-ValueLine) (Lifts-one n (is k.Comma)) (lift-ValueLine n))) (Lifts-one n (is k.CloseParen)))

  pub lift-GroupTail : Lifts n (GroupTail wide) (GroupTail many)
  lift-GroupTail = Lifts-or n (Lifts-then n second (Lifts-then n second (Lifts-one n (is k.Group)) (Lifts-one n (is k.By))) (Lifts-then n cons (lift-ColumnLine n) (Lifts-list n many second wide le (line_nonempty {P = Unit {0}} {S = Unit {0}} law-ColumnLine) (Lifts-one n (is k.Comma)) (lift-ColumnLine n)))) (Lifts-empty n [])

  pub lift-OrderTail : Lifts n (OrderTail wide) (OrderTail many)
  lift-OrderTail = Lifts-or n (Lifts-then n second (Lifts-then n second (Lifts-one n (is k.Order)) (Lifts-one n (is k.By))) (Lifts-then n cons (lift-KeyLine n) (Lifts-list n many second wide le (line_nonempty {P = Unit {0}} {S = Unit {0}} law-KeyLine) (Lifts-one n (is k.Comma)) (lift-KeyLine n)))) (Lifts-empty n [])

-- ---- lists in parentheses of what holds no expression
module _ (n many : ℕ) (le : n ≤ many) (wide room : ℕ) where
  pub lift-ColumnNames : Lifts n (ColumnNames wide room) (ColumnNames many n)
  lift-ColumnNames = Lifts-or n (Lifts-level n room (is k.OpenParen) second (fewer n le)) (Lifts-empty n [])
    where
      fewer : (n : ℕ) → n ≤ many → Below n (Then first (Names wide) (One (is k.CloseParen))) (Then first (Names many) (One (is k.CloseParen)))
      fewer zero le = tt
      fewer (suc m) le = Lifts-then m first (lift-Names m many (omega arith) wide) (Lifts-one m (is k.CloseParen))

  pub lift-RunLine : Lifts n (RunLine wide room) (RunLine many n)
  lift-RunLine = Lifts-then n second (Lifts-one n (is k.Run)) (Lifts-then n statements.Run (lift-Number n) (Lifts-level n room (is k.OpenParen) second (fewer n le)))
    where
      fewer : (n : ℕ) → n ≤ many → Below n (RunInside wide) (RunInside many)
      fewer zero le = tt
      fewer (suc m) le = lift-RunInside m many (omega arith) wide

-- ---- sums
module _ {P S : Type 0} {U V : Part Token Expr} {u : Reading Token Expr}
    (n many : ℕ) (le : n ≤ many) (wide : ℕ) (law_unary : Line kinds P S unary_first on_unary U u) (lift_unary : Lifts n U V) where
  pub lift-Product : Lifts n (Product wide U) (Product many V)
  lift-Product = Lifts-then n product lift_unary (Lifts-list n many factor wide le (line_nonempty law_unary) (lift-MultiplyWord n) lift_unary)

  pub lift-Sum : Lifts n (Sum wide U) (Sum many V)
  lift-Sum = Lifts-then n sum lift-Product (Lifts-list n many term wide le (line_nonempty (law-Product wide law_unary)) (lift-AddWord n) lift-Product)

  pub lift-BetweenLine : Lifts n (BetweenLine wide U) (BetweenLine many V)
  lift-BetweenLine = Lifts-then n second (Lifts-one n (is k.Between)) (Lifts-then n between lift-Sum (Lifts-then n second (Lifts-one n (is k.And)) lift-Sum))

-- ---- conditions, and what holds them at the same level
module _ {P S : Type 0} {N M : Part Token Expr} {w : Reading Token Expr}
    (n many : ℕ) (le : n ≤ many) (wide : ℕ) (law_part : Line kinds P S part_first on_part N w) (lift_part : Lifts n N M) where
  pub lift-Conjunction : Lifts n (Conjunction wide N) (Conjunction many M)
  lift-Conjunction = Lifts-then n all_of lift_part (Lifts-list n many second wide le (line_nonempty law_part) (Lifts-one n (is k.And)) lift_part)

  pub lift-Whole : Lifts n (Whole wide N) (Whole many M)
  lift-Whole = Lifts-then n any_of lift-Conjunction (Lifts-list n many second wide le (line_nonempty (law-Conjunction wide law_part)) (Lifts-one n (is k.Or)) lift-Conjunction)

  pub lift-ExprList : Lifts n (ExprList wide N) (ExprList many M)
  lift-ExprList = Lifts-then n cons lift-Whole (Lifts-list n many second wide le (line_nonempty (law-Whole wide law_part)) (Lifts-one n (is k.Comma)) lift-Whole)

  pub lift-ArmLine : Lifts n (ArmLine wide N) (ArmLine many M)
  lift-ArmLine = Lifts-then n arm (Lifts-then n second (Lifts-one n (is k.When)) lift-Whole) (Lifts-then n second (Lifts-one n (is k.Then)) lift-Whole)

  pub lift-Arms : Lifts n (Arms wide N) (Arms many M)
  lift-Arms = Lifts-then n cons lift-ArmLine (Lifts-list n many second wide le (line_nonempty (law-ArmLine wide law_part)) (Lifts-empty n (tt {0})) lift-ArmLine)

  pub lift-ElseTail : Lifts n (ElseTail wide N) (ElseTail many M)
  lift-ElseTail = Lifts-or n (Lifts-then n after_word (Lifts-one n (is k.Else)) lift-Whole) (Lifts-empty n None)

  pub lift-CaseBody : Lifts n (CaseBody wide N) (CaseBody many M)
  lift-CaseBody = Lifts-then n case_of lift-Arms lift-ElseTail

  pub lift-ExtractInside : Lifts n (ExtractInside wide N) (ExtractInside many M)
  lift-ExtractInside = Lifts-then n extract (lift-SpanWord n) (Lifts-then n second (Lifts-one n (is k.From)) lift-Whole)

  pub lift-SubstringInside : Lifts n (SubstringInside wide N) (SubstringInside many M)
  lift-SubstringInside = Lifts-then n substring lift-Whole (lift-Places n)

  pub lift-CountInside : Lifts n (CountInside wide N) (CountInside many M)
  lift-CountInside = Lifts-or n (Lifts-map n (constant e.CountRows) (Lifts-one n (is k.Star)))
      (Lifts-or n (Lifts-then n distinct_count (Lifts-one n (is k.Distinct)) lift-Whole) (Lifts-map n e.Count lift-Whole))

  pub lift-ItemLine : Lifts n (ItemLine wide N) (ItemLine many M)
  lift-ItemLine = Lifts-then n item lift-Whole (lift-Alias n)

  pub lift-Selection : Lifts n (Selection wide N) (Selection many M)
  lift-Selection = Lifts-or n (Lifts-map n (constant selected.All) (Lifts-one n (is k.Star))) (Lifts-map n selected.Items (Lifts-then n cons lift-ItemLine (Lifts-list n many second wide le (line_nonempty (law-ItemLine wide law_part)) (Lifts-one n (is k.Comma)) lift-ItemLine)))

  pub lift-SelectLine : Lifts n (SelectLine wide N) (SelectLine many M)
  lift-SelectLine = Lifts-then n second (Lifts-one n (is k.Select))
      (Lifts-or n (Lifts-then n distinct (Lifts-one n (is k.Distinct)) lift-Selection) (Lifts-map n plain_selection lift-Selection))

  pub lift-WhereTail : Lifts n (WhereTail wide N) (WhereTail many M)
  lift-WhereTail = Lifts-or n (Lifts-then n condition (Lifts-one n (is k.Where)) lift-Whole) (Lifts-empty n clause.Absent)

  pub lift-HavingTail : Lifts n (HavingTail wide N) (HavingTail many M)
  lift-HavingTail = Lifts-or n (Lifts-then n condition (Lifts-one n (is k.Having)) lift-Whole) (Lifts-empty n clause.Absent)

  pub lift-FiltersTail : Lifts n (FiltersTail wide N) (FiltersTail many M)
  lift-FiltersTail = Lifts-then n filters lift-WhereTail (Lifts-then n pair (lift-GroupTail n many le wide) lift-HavingTail)

-- ---- what holds them one level further in
module _ {S : Type 0} {N M : Part Token Expr} {w : Reading Token Expr}
    (n many : ℕ) (le : n ≤ many) (wide room : ℕ) (law_part : Line kinds (Deeper room) S part_first on_part N w) (lift_part : Below n N M) where
  pub lift-CaseLine : Lifts n (CaseLine wide room N) (CaseLine many n M)
  lift-CaseLine = Lifts-level n room (is k.Case) second (below n (λ m lm h. (Lifts-then m first (lift-CaseBody m many (omega arith) wide law_part h) (Lifts-one m (is k.End)))) lift_part)

  pub lift-ExtractLine : Lifts n (ExtractLine wide room N) (ExtractLine many n M)
  lift-ExtractLine = Lifts-then n second (Lifts-one n (is k.Extract)) (Lifts-level n room (is k.OpenParen) second (below n (λ m lm h. (Lifts-then m first (lift-ExtractInside m many (omega arith) wide law_part h) (Lifts-one m (is k.CloseParen)))) lift_part))

  pub lift-SubstringLine : Lifts n (SubstringLine wide room N) (SubstringLine many n M)
  lift-SubstringLine = Lifts-then n second (Lifts-one n (is k.Substring)) (Lifts-level n room (is k.OpenParen) second (below n (λ m lm h. (Lifts-then m first (lift-SubstringInside m many (omega arith) wide law_part h) (Lifts-one m (is k.CloseParen)))) lift_part))

  pub lift-CountLine : Lifts n (CountLine wide room N) (CountLine many n M)
  lift-CountLine = Lifts-then n second (Lifts-one n (is k.Count)) (Lifts-level n room (is k.OpenParen) second (below n (λ m lm h. (Lifts-then m first (lift-CountInside m many (omega arith) wide law_part h) (Lifts-one m (is k.CloseParen)))) lift_part))

  pub lift-AggregateLine : Lifts n (AggregateLine wide room N) (AggregateLine many n M)
  lift-AggregateLine = Lifts-then n e.Aggregate (lift-AggregateWord n) (Lifts-level n room (is k.OpenParen) second (below n (λ m lm h. (Lifts-then m first (lift-Whole m many (omega arith) wide law_part h) (Lifts-one m (is k.CloseParen)))) lift_part))

  pub lift-Call : Lifts n (Call wide room N) (Call many n M)
  lift-Call = Lifts-or n lift-ExtractLine (Lifts-or n lift-SubstringLine (Lifts-or n lift-CountLine lift-AggregateLine))

-- ---- what holds queries one level further in
module _ {B C : Part Token Block} (n many : ℕ) (le : n ≤ many) (wide room : ℕ) (lift_query : Below n B C) where
  pub lift-Subquery : Lifts n (Subquery room B) (Subquery n C)
  lift-Subquery = Lifts-level n room (is k.OpenParen) second (below n (λ m lm h. (Lifts-then m first h (Lifts-one m (is k.CloseParen)))) lift_query)

  pub lift-ExistsLine : Lifts n (ExistsLine room B) (ExistsLine n C)
  lift-ExistsLine = Lifts-then n second (Lifts-one n (is k.Exists)) (Lifts-map n e.Exists lift-Subquery)

  pub lift-ComparedQuery : Lifts n (ComparedQuery room B) (ComparedQuery n C)
  lift-ComparedQuery = Lifts-then n compared.Query (lift-QuantifierWord n) lift-Subquery

  pub lift-FromQueryLine : Lifts n (FromQueryLine wide room B) (FromQueryLine many n C)
  lift-FromQueryLine = Lifts-then n pair lift-Subquery (Lifts-then n pair (lift-DerivedAlias n) (lift-ColumnNames n many le wide room))

  pub lift-FromItemLine : Lifts n (FromItemLine wide room B) (FromItemLine many n C)
  lift-FromItemLine = Lifts-or n (Lifts-map n derived lift-FromQueryLine)
      (Lifts-or n (Lifts-then n lateral (Lifts-one n (is k.Lateral)) lift-FromQueryLine) (lift-TableLine n))

-- ---- what holds sums, and queries one level further in
module _ {P S : Type 0} {U V : Part Token Expr} {u : Reading Token Expr} {B C : Part Token Block} (n many : ℕ) (le : n ≤ many) (wide room : ℕ)
    (law_unary : Line kinds P S unary_first on_unary U u) (lift_unary : Lifts n U V) (lift_query : Below n B C) where
  pub lift-CompareLine : Lifts n (CompareLine wide room U B) (CompareLine many n V C)
  lift-CompareLine = Lifts-then n t.Compare (lift-ComparisonWord n)
      (Lifts-or n (lift-ComparedQuery n many le wide room lift_query) (Lifts-map n compared.Sum (lift-Sum n many le wide law_unary lift_unary)))

-- ---- what holds both one level further in
module _ {S : Type 0} {N M : Part Token Expr} {w : Reading Token Expr} {B C : Part Token Block}
    (n many : ℕ) (le : n ≤ many) (wide room : ℕ) (law_part : Line kinds (Deeper room) S part_first on_part N w) (lift_part : Below n N M) (lift_query : Below n B C) where
  pub lift-Parens : Lifts n (Parens wide room N B) (Parens many n M C)
  lift-Parens = Lifts-level n room (is k.OpenParen) second
      (below_both n (λ m lm h g. Lifts-then m first (Lifts-or m (Lifts-map m e.Scalar g) (lift-Whole m many (omega arith) wide law_part h)) (Lifts-one m (is k.CloseParen))) lift_part lift_query)

  pub lift-InLine : Lifts n (InLine wide room N B) (InLine many n M C)
  lift-InLine = Lifts-then n second (Lifts-one n (is k.In)) (Lifts-level n room (is k.OpenParen) second
      (below_both n (λ m lm h g. Lifts-then m first (Lifts-or m (Lifts-map m in_query g) (Lifts-map m in_list (lift-ExprList m many (omega arith) wide law_part h))) (Lifts-one m (is k.CloseParen))) lift_part lift_query))

  pub lift-Operand : Lifts n (Operand wide room N B) (Operand many n M C)
  lift-Operand = Lifts-or n lift-Parens
      (Lifts-or n (lift-ExistsLine n many le wide room lift_query)
      (Lifts-or n (lift-CaseLine n many le wide room law_part lift_part)
      (Lifts-or n (lift-Call n many le wide room law_part lift_part) (lift-Leaf n room))))

-- ---- the three parts that lead back to themselves
module _ {S : Type 0} {U V : Part Token Expr} {N M : Part Token Expr} {w : Reading Token Expr} {B C : Part Token Block}
    (n many : ℕ) (le : n ≤ many) (wide room : ℕ) (law_part : Line kinds (Deeper room) S part_first on_part N w) (lift_unary : Below n U V) (lift_part : Below n N M) (lift_query : Below n B C) where
  pub lift-UnaryLine : Lifts n (UnaryLine wide room U N B) (UnaryLine many n V M C)
  lift-UnaryLine = Lifts-or n (Lifts-level n room (is k.Minus) negative (below n (λ m lm h. h) lift_unary)) (lift-Operand n many le wide room law_part lift_part lift_query)

module _ {P S : Type 0} {U V : Part Token Expr} {u : Reading Token Expr} {N M : Part Token Expr} {w : Reading Token Expr} {B C : Part Token Block}
    (n many : ℕ) (le : n ≤ many) (wide room : ℕ) (law_unary : Line kinds P S unary_first on_unary U u) (law_part : Line kinds (Deeper room) S part_first on_part N w)
    (lift_unary : Lifts n U V) (lift_part : Below n N M) (lift_query : Below n B C) where
  pub lift-DenyTest : Lifts n (DenyTest wide room U N B) (DenyTest many n V M C)
  lift-DenyTest = Lifts-or n (lift-BetweenLine n many le wide law_unary lift_unary)
      (Lifts-or n (lift-LikeLine n) (lift-InLine n many le wide room law_part lift_part lift_query))

  pub lift-TestTail : Lifts n (TestTail wide room U N B) (TestTail many n V M C)
  lift-TestTail = Lifts-or n (lift-CompareLine n many le wide room law_unary lift_unary lift_query)
      (Lifts-or n (lift-NullLine n)
      (Lifts-or n (Lifts-then n denied (Lifts-one n (is k.Not)) lift-DenyTest)
      (Lifts-or n lift-DenyTest (Lifts-empty n t.Absent))))

  pub lift-Predicate : Lifts n (Predicate wide room U N B) (Predicate many n V M C)
  lift-Predicate = Lifts-then n tested (lift-Sum n many le wide law_unary lift_unary) lift-TestTail

  pub lift-PartLine : Lifts n (PartLine wide room U N B) (PartLine many n V M C)
  lift-PartLine = Lifts-or n (Lifts-level n room (is k.Not) negation (below n (λ m lm h. h) lift_part)) lift-Predicate

module _ {P S : Type 0} {N M : Part Token Expr} {w : Reading Token Expr} {B C : Part Token Block} {b : Reading Token Block}
    (n many : ℕ) (le : n ≤ many) (wide room : ℕ) (law_part : Line kinds P S part_first on_part N w) (law_query : Line kinds (Deeper room) S (k.Select ∷ []) on_query B b)
    (lift_part : Lifts n N M) (lift_query : Below n B C) where
  pub lift-JoinedItem : Lifts n (JoinedItem wide room N B) (JoinedItem many n M C)
  lift-JoinedItem = Lifts-then n pair (lift-FromItemLine n many le wide room lift_query) (Lifts-then n second (Lifts-one n (is k.On)) (lift-Whole n many le wide law_part lift_part))

  pub lift-JoinedLine : Lifts n (JoinedLine wide room N B) (JoinedLine many n M C)
  lift-JoinedLine = Lifts-then n joined (lift-FromItemLine n many le wide room lift_query)
      (Lifts-list n many join wide le (line_nonempty (law-JoinedItem wide room law_part law_query)) (lift-JoinWords n) lift-JoinedItem)

  pub lift-FromLine : Lifts n (FromLine wide room N B) (FromLine many n M C)
  lift-FromLine = Lifts-then n second (Lifts-one n (is k.From))
      (Lifts-then n cons lift-JoinedLine (Lifts-list n many second wide le (line_nonempty (law-JoinedLine wide room law_part law_query)) (Lifts-one n (is k.Comma)) lift-JoinedLine))

  pub lift-BlockLine : Lifts n (BlockLine wide room N B) (BlockLine many n M C)
  lift-BlockLine = Lifts-then n block (lift-SelectLine n many le wide law_part lift_part) (Lifts-then n pair lift-FromLine (lift-FiltersTail n many le wide law_part lift_part))

  pub lift-TermLine : Lifts n (TermLine wide room N B) (TermLine many n M C)
  lift-TermLine = Lifts-then n combined lift-BlockLine (Lifts-list n many set_part wide le (line_nonempty (law-BlockLine wide room law_part law_query)) (lift-IntersectWords n) lift-BlockLine)

  pub lift-QueryLine : Lifts n (QueryLine wide room N B) (QueryLine many n M C)
  lift-QueryLine = Lifts-then n combined lift-TermLine (Lifts-list n many set_part wide le (line_nonempty (law-TermLine wide room law_part law_query)) (lift-SetWords n) lift-TermLine)

-- ---- statements
module _ {B B' : Part Token Block} (n many : ℕ) (le : n ≤ many) (wide room : ℕ) (lift_query : Lifts n B B') where
  pub lift-OrderedLine : Lifts n (OrderedLine wide B) (OrderedLine many B')
  lift-OrderedLine = Lifts-then n ordered lift_query (Lifts-then n pair (lift-OrderTail n many le wide) (Lifts-then n pair (lift-LimitTail n) (lift-VersionTail n)))

  pub lift-CreateLine : Lifts n (CreateLine wide room B) (CreateLine many n B')
  lift-CreateLine = Lifts-then n create_view
      (Lifts-then n second (Lifts-then n second (Lifts-one n (is k.Create)) (Lifts-one n (is k.View))) (Lifts-then n pair (lift-NameLine n) (lift-ColumnNames n many le wide room)))
      (Lifts-then n second (Lifts-one n (is k.As)) lift_query)

module _ {P S : Type 0} {B B' C C' : Part Token Block} {b d : Reading Token Block} (n many : ℕ) (le : n ≤ many) (wide room : ℕ)
    (law_query : Line kinds P S (k.Select ∷ []) on_query B b) (law_inner : Line kinds (Deeper room) S (k.Select ∷ []) on_query C d)
    (lift_query : Lifts n B B') (lift_inner : Below n C C') where
  pub lift-WithQueryLine : Lifts n (WithQueryLine wide room C) (WithQueryLine many n C')
  lift-WithQueryLine = Lifts-then n with_query (Lifts-then n pair (lift-NameLine n) (lift-ColumnNames n many le wide room))
      (Lifts-then n second (Lifts-one n (is k.As)) (lift-Subquery n many le wide room lift_inner))

  pub lift-WithLine : Lifts n (WithLine wide room C) (WithLine many n C')
  lift-WithLine = Lifts-then n second (Lifts-one n (is k.With))
      (Lifts-then n cons lift-WithQueryLine (Lifts-list n many second wide le (line_nonempty (law-WithQueryLine wide room law_query law_inner)) (Lifts-one n (is k.Comma)) lift-WithQueryLine))

  pub lift-WithOrderedLine : Lifts n (WithOrderedLine wide room B C) (WithOrderedLine many n B' C')
  lift-WithOrderedLine = Lifts-then n under_with lift-WithLine (lift-OrderedLine n many le wide room lift_query)

  pub lift-StatementLine : Lifts n (StatementLine wide room B C) (StatementLine many n B' C')
  lift-StatementLine = Lifts-or n (Lifts-map n statements.Query (lift-OrderedLine n many le wide room lift_query))
      (Lifts-or n lift-WithOrderedLine (Lifts-or n (lift-CreateLine n many le wide room lift_query) (Lifts-or n (lift-DropLine n) (Lifts-or n (lift-RefreshLine n) (lift-RunLine n many le wide room)))))

  pub lift-EndedLine : Lifts n (EndedLine wide room B C) (EndedLine many n B' C')
  lift-EndedLine = Lifts-then n first lift-StatementLine (Lifts-one n (is k.Semicolon))
