-- The laws of the lines that hold expressions or queries: what begins each, what may not come after it, and that its reading is right.
use Rattle.std.proofs.Common.{ℕ, refl, [], ◌∷◌, None}
use Rattle.sql_lexer.specs.declared.kind.Kind.TheVariants as k
use Rattle.sql_lexer.specs.declared.token.Token.{Token}
use Rattle.sql_ast.specs.declared.tree.Expr.{Expr}
use Rattle.sql_ast.specs.declared.tree.Expr.TheVariants as e
use Rattle.sql_ast.specs.declared.tree.Selected.TheVariants as selected
use Rattle.sql_ast.specs.declared.tree.Clause.TheVariants as clause
use Rattle.sql_ast.specs.declared.tree.Block.{Block}
use Rattle.sql_ast.specs.declared.statement.Statement.TheVariants as statements
use Rattle.sql_parser_steps.specs.declared.test.Compared.TheVariants as compared
use Rattle.sql_parser_steps.specs.declared.test.Test.TheVariants as t
use Rattle.sql_lexer.specs.Kinds.{is}
use Rattle.sql_grammar_laws.specs.Kinds.{among}
use Rattle.sql_grammar_laws.specs.Lines.{Part}
use Rattle.sql_grammar_laws.specs.Readings.{Reading}
use Rattle.sql_grammar_laws.proofs.Lawful.{Line, Tail, Deeper, is_among, line_kind, line_then, line_then_tail, tail_then, line_map, tail_empty, line_or, tail_or, line_opens, tail_links, tail_repeats}
use Rattle.sql_parser_steps.specs.Kinds.{kinds}
use Rattle.sql_parser_steps.specs.Values.{first, second, pair, cons, constant, after_word, negative, negation, factor, term, product, sum, all_of, any_of, arm, case_of, extract, substring, distinct_count, between, in_list, in_query, denied, tested, item, distinct, plain_selection, derived, lateral, join, joined, condition, filters, block, ordered, create_view, with_query, under_with, set_part, combined}
use Rattle.sql_parser.specs.Expressions.{Product, Sum, Conjunction, Whole, ExprList, ArmLine, Arms, ElseTail, CaseBody, CaseLine, ExtractInside, ExtractLine, SubstringInside, SubstringLine, CountInside, CountLine, AggregateLine, Call, ParensInside, Parens, Subquery, ExistsLine, Operand, UnaryLine, ComparedQuery, ComparedLine, CompareLine, BetweenLine, InInside, InLine, DenyTest, TestTail, Predicate, PartLine}
use Rattle.sql_parser.specs.Grammar.{ItemLine, Selection, SelectLine, FromQueryLine, DerivedLine, LateralLine, FromItemLine, JoinedItem, JoinedLine, FromLine, WhereTail, HavingTail, FiltersTail, BlockLine, TermLine, QueryLine, OrderedLine, WithQueryLine, WithLine, WithOrderedLine, CreateLine, StatementLine, EndedLine}
use Rattle.sql_parser_steps.specs.ExpressionReadings.{read_product, read_sum, read_conjunction, read_whole, read_expr_list, read_arm, read_arms, read_else, read_case_body, read_case, read_extract_inside, read_extract, read_substring_inside, read_substring, read_count_inside, read_count, read_aggregate, read_call, read_parens_inside, read_parens, read_subquery, read_exists, read_operand, read_unary_line, read_compared_query, read_compared, read_compare, read_between, read_in_inside, read_in, read_deny_test, read_test, read_predicate, read_part_line}
use Rattle.sql_parser_steps.specs.Readings.{read_item, read_selection, read_select, read_from_query, read_derived, read_lateral, read_from_item, read_joined_item, read_joined, read_from, read_where, read_having, read_filters, read_block, read_term, read_query_line, read_ordered, read_with_query, read_with, read_with_ordered, read_view_name, read_create, read_statement, read_ended}
use Rattle.sql_parser.proofs.KindLists.{span_words, multiply_words, add_words, comparison_words, denied_words, aggregate_words, call_words, join_words, quantifier_words, set_words, tail_words, statement_words, test_words, called_first, operand_first, unary_first, compared_first, part_first, selection_first, inside_first, from_query_first, item_first, filters_first, on_unary, on_product, on_sum, on_denied, on_part, on_conjunction, on_whole, on_list, on_arms, on_item, on_items, on_names, on_from_query, on_from_item, on_joined, on_from, on_filters, on_block, on_term, on_query, on_limits, on_statement}
use Rattle.sql_parser.proofs.WordLaws.{law-NameLine, law-SpanWord, law-MultiplyWord, law-AddWord, law-AggregateWord, law-ComparisonWord, law-Places, law-NullLine, law-LikeLine, law-Alias, law-TableLine, law-DerivedAlias, law-JoinWords, law-DropLine, law-RefreshLine, law-LimitTail, law-VersionTail, law-QuantifierWord, law-IntersectWords, law-SetWords, law-Leaf, law-GroupTail, law-OrderTail, law-ColumnNames, law-RunLine}

-- ---- sums
module _ {P S : Type 0} {U : Part Token Expr} {u : Reading Token Expr} (wide : ℕ) (unary : Line kinds P S unary_first on_unary U u) where
  pub law-Product : Line kinds P S unary_first on_product (Product wide U) (read_product wide u)
  unfolding read_product
  law-Product = line_then_tail {on = on_product} product unary (tail_links {on = on_product} wide (among kinds multiply_words) factor (λ t. refl) law-MultiplyWord unary refl refl refl refl) refl refl refl

  pub law-Sum : Line kinds P S unary_first on_sum (Sum wide U) (read_sum wide u)
  unfolding read_sum
  law-Sum = line_then_tail {on = on_sum} sum law-Product (tail_links {on = on_sum} wide (among kinds add_words) term (λ t. refl) law-AddWord law-Product refl refl refl refl) refl refl refl

  pub law-BetweenLine : Line kinds P S (k.Between ∷ []) on_sum (BetweenLine wide U) (read_between wide u)
  unfolding read_between
  law-BetweenLine = line_then second (line_kind kinds k.Between) (line_then between law-Sum (line_then second (line_kind kinds k.And) law-Sum refl) refl) refl

-- ---- conditions, and what holds them at the same level
module _ {P S : Type 0} {N : Part Token Expr} {n : Reading Token Expr} (wide : ℕ) (part : Line kinds P S part_first on_part N n) where
  pub law-Conjunction : Line kinds P S part_first on_conjunction (Conjunction wide N) (read_conjunction wide n)
  unfolding read_conjunction
  law-Conjunction = line_then_tail {on = on_conjunction} all_of part (tail_links {on = on_conjunction} wide (is k.And) second (is_among kinds k.And) (line_kind kinds k.And) part refl refl refl refl) refl refl refl

  pub law-Whole : Line kinds P S part_first on_whole (Whole wide N) (read_whole wide n)
  unfolding read_whole
  law-Whole = line_then_tail {on = on_whole} any_of law-Conjunction (tail_links {on = on_whole} wide (is k.Or) second (is_among kinds k.Or) (line_kind kinds k.Or) law-Conjunction refl refl refl refl) refl refl refl

  pub law-ExprList : Line kinds P S part_first on_list (ExprList wide N) (read_expr_list wide n)
  unfolding read_expr_list
  law-ExprList = line_then_tail {on = on_list} cons law-Whole (tail_links {on = on_list} wide (is k.Comma) second (is_among kinds k.Comma) (line_kind kinds k.Comma) law-Whole refl refl refl refl) refl refl refl

  pub law-ArmLine : Line kinds P S (k.When ∷ []) on_whole (ArmLine wide N) (read_arm wide n)
  unfolding read_arm
  law-ArmLine = line_then arm (line_then second (line_kind kinds k.When) law-Whole refl) (line_then second (line_kind kinds k.Then) law-Whole refl) refl

  pub law-Arms : Line kinds P S (k.When ∷ []) on_arms (Arms wide N) (read_arms wide n)
  unfolding read_arms
  law-Arms = line_then_tail {on = on_arms} cons law-ArmLine (tail_repeats {on = on_arms} wide (is k.When) second (is_among kinds k.When) law-ArmLine refl refl refl) refl refl refl

  pub law-ElseTail : Tail kinds P S (k.Else ∷ []) (k.Else ∷ on_whole) (ElseTail wide N) (read_else wide n)
  unfolding read_else
  law-ElseTail = tail_or {first = k.Else ∷ []} {on = k.Else ∷ on_whole} (is k.Else) (is_among kinds k.Else) (line_then after_word (line_kind kinds k.Else) law-Whole refl) (tail_empty None) refl refl refl refl refl refl

  pub law-CaseBody : Line kinds P S (k.When ∷ []) (k.Else ∷ on_arms) (CaseBody wide N) (read_case_body wide n)
  unfolding read_case_body
  law-CaseBody = line_then_tail {on = k.Else ∷ on_arms} case_of law-Arms law-ElseTail refl refl refl

  pub law-ExtractInside : Line kinds P S span_words on_whole (ExtractInside wide N) (read_extract_inside wide n)
  unfolding read_extract_inside
  law-ExtractInside = line_then extract law-SpanWord (line_then second (line_kind kinds k.From) law-Whole refl) refl

  pub law-SubstringInside : Line kinds P S part_first [] (SubstringInside wide N) (read_substring_inside wide n)
  unfolding read_substring_inside
  law-SubstringInside = line_then substring law-Whole law-Places refl

  pub law-CountInside : Line kinds P S (k.Distinct ∷ selection_first) on_whole (CountInside wide N) (read_count_inside wide n)
  unfolding read_count_inside
  law-CountInside = line_or {first = k.Distinct ∷ selection_first} {on = on_whole} (is k.Star) (is_among kinds k.Star) (line_map (constant e.CountRows) (line_kind kinds k.Star))
      (line_or {first = k.Distinct ∷ part_first} {on = on_whole} (is k.Distinct) (is_among kinds k.Distinct) (line_then distinct_count (line_kind kinds k.Distinct) law-Whole refl) (line_map e.Count law-Whole) refl refl refl refl refl) refl refl refl refl refl

  pub law-ItemLine : Line kinds P S part_first on_item (ItemLine wide N) (read_item wide n)
  unfolding read_item
  law-ItemLine = line_then_tail {on = on_item} item law-Whole law-Alias refl refl refl

  pub law-Selection : Line kinds P S selection_first on_items (Selection wide N) (read_selection wide n)
  unfolding read_selection
  law-Selection = line_or {first = selection_first} {on = on_items} (is k.Star) (is_among kinds k.Star) (line_map (constant selected.All) (line_kind kinds k.Star)) (line_map selected.Items (line_then_tail {on = on_items} cons law-ItemLine (tail_links {on = on_items} wide (is k.Comma) second (is_among kinds k.Comma) (line_kind kinds k.Comma) law-ItemLine refl refl refl refl) refl refl refl)) refl refl refl refl refl

  pub law-SelectLine : Line kinds P S (k.Select ∷ []) on_items (SelectLine wide N) (read_select wide n)
  unfolding read_select
  law-SelectLine = line_then second (line_kind kinds k.Select)
      (line_or {first = k.Distinct ∷ selection_first} {on = on_items} (is k.Distinct) (is_among kinds k.Distinct) (line_then distinct (line_kind kinds k.Distinct) law-Selection refl) (line_map plain_selection law-Selection) refl refl refl refl refl) refl

  pub law-WhereTail : Tail kinds P S (k.Where ∷ []) (k.Where ∷ on_whole) (WhereTail wide N) (read_where wide n)
  unfolding read_where
  law-WhereTail = tail_or {first = k.Where ∷ []} {on = k.Where ∷ on_whole} (is k.Where) (is_among kinds k.Where) (line_then condition (line_kind kinds k.Where) law-Whole refl) (tail_empty clause.Absent) refl refl refl refl refl refl

  pub law-HavingTail : Tail kinds P S (k.Having ∷ []) (k.Having ∷ on_whole) (HavingTail wide N) (read_having wide n)
  unfolding read_having
  law-HavingTail = tail_or {first = k.Having ∷ []} {on = k.Having ∷ on_whole} (is k.Having) (is_among kinds k.Having) (line_then condition (line_kind kinds k.Having) law-Whole refl) (tail_empty clause.Absent) refl refl refl refl refl refl

  pub law-FiltersTail : Tail kinds P S filters_first on_filters (FiltersTail wide N) (read_filters wide n)
  unfolding read_filters
  law-FiltersTail = tail_then {first = filters_first} {on = on_filters} filters law-WhereTail (tail_then {first = k.Group ∷ k.Having ∷ []} {on = k.Group ∷ k.Having ∷ on_list} pair (law-GroupTail wide) law-HavingTail refl refl refl refl refl) refl refl refl refl refl

-- ---- what holds them one level further in
module _ {P S : Type 0} {N : Part Token Expr} {n : Reading Token Expr}
    (wide room : ℕ) (part : Line kinds (Deeper room) S part_first on_part N n) where
  pub law-CaseLine : Line kinds P S (k.Case ∷ []) [] (CaseLine wide room N) (read_case wide room n)
  unfolding read_case
  law-CaseLine = line_opens room k.Case second (line_then first (law-CaseBody wide part) (line_kind kinds k.End) refl)

  pub law-ExtractLine : Line kinds P S (k.Extract ∷ []) [] (ExtractLine wide room N) (read_extract wide room n)
  unfolding read_extract
  law-ExtractLine = line_then second (line_kind kinds k.Extract) (line_opens room k.OpenParen second (line_then first (law-ExtractInside wide part) (line_kind kinds k.CloseParen) refl)) refl

  pub law-SubstringLine : Line kinds P S (k.Substring ∷ []) [] (SubstringLine wide room N) (read_substring wide room n)
  unfolding read_substring
  law-SubstringLine = line_then second (line_kind kinds k.Substring) (line_opens room k.OpenParen second (line_then first (law-SubstringInside wide part) (line_kind kinds k.CloseParen) refl)) refl

  pub law-CountLine : Line kinds P S (k.Count ∷ []) [] (CountLine wide room N) (read_count wide room n)
  unfolding read_count
  law-CountLine = line_then second (line_kind kinds k.Count) (line_opens room k.OpenParen second (line_then first (law-CountInside wide part) (line_kind kinds k.CloseParen) refl)) refl

  pub law-AggregateLine : Line kinds P S aggregate_words [] (AggregateLine wide room N) (read_aggregate wide room n)
  unfolding read_aggregate
  law-AggregateLine = line_then e.Aggregate law-AggregateWord (line_opens room k.OpenParen second (line_then first (law-Whole wide part) (line_kind kinds k.CloseParen) refl)) refl

  pub law-Call : Line kinds P S call_words [] (Call wide room N) (read_call wide room n)
  unfolding read_call
  law-Call = line_or {first = call_words} {on = []} (is k.Extract) (is_among kinds k.Extract) law-ExtractLine
      (line_or {first = k.Substring ∷ k.Count ∷ aggregate_words} {on = []} (is k.Substring) (is_among kinds k.Substring) law-SubstringLine
      (line_or {first = k.Count ∷ aggregate_words} {on = []} (is k.Count) (is_among kinds k.Count) law-CountLine law-AggregateLine refl refl refl refl refl) refl refl refl refl refl) refl refl refl refl refl

-- ---- what holds queries one level further in
module _ {P S : Type 0} {B : Part Token Block} {b : Reading Token Block}
    (wide room : ℕ) (query : Line kinds (Deeper room) S (k.Select ∷ []) on_query B b) where
  pub law-Subquery : Line kinds P S (k.OpenParen ∷ []) [] (Subquery room B) (read_subquery room b)
  unfolding read_subquery
  law-Subquery = line_opens room k.OpenParen second (line_then first query (line_kind kinds k.CloseParen) refl)

  pub law-ExistsLine : Line kinds P S (k.Exists ∷ []) [] (ExistsLine room B) (read_exists room b)
  unfolding read_exists
  law-ExistsLine = line_then second (line_kind kinds k.Exists) (line_map e.Exists law-Subquery) refl

  pub law-ComparedQuery : Line kinds P S quantifier_words [] (ComparedQuery room B) (read_compared_query room b)
  unfolding read_compared_query
  law-ComparedQuery = line_then compared.Query law-QuantifierWord law-Subquery refl

  pub law-FromQueryLine : Line kinds P S from_query_first on_from_query (FromQueryLine wide room B) (read_from_query wide room b)
  unfolding read_from_query
  law-FromQueryLine = line_then pair law-Subquery (line_then_tail {on = on_from_query} pair law-DerivedAlias (law-ColumnNames wide room) refl refl refl) refl

  pub law-DerivedLine : Line kinds P S from_query_first on_from_query (DerivedLine wide room B) (read_derived wide room b)
  unfolding read_derived
  law-DerivedLine = line_map derived law-FromQueryLine

  pub law-LateralLine : Line kinds P S (k.Lateral ∷ []) on_from_query (LateralLine wide room B) (read_lateral wide room b)
  unfolding read_lateral
  law-LateralLine = line_then lateral (line_kind kinds k.Lateral) law-FromQueryLine refl

  pub law-FromItemLine : Line kinds P S item_first on_from_item (FromItemLine wide room B) (read_from_item wide room b)
  unfolding read_from_item
  law-FromItemLine = line_or {first = item_first} {on = on_from_item} (is k.OpenParen) (is_among kinds k.OpenParen) law-DerivedLine
      (line_or {first = k.Lateral ∷ k.Name ∷ []} {on = on_from_item} (is k.Lateral) (is_among kinds k.Lateral) law-LateralLine law-TableLine refl refl refl refl refl) refl refl refl refl refl

-- ---- what holds both at one level
module _ {P S : Type 0} {N : Part Token Expr} {n : Reading Token Expr} {B : Part Token Block} {b : Reading Token Block}
    (wide : ℕ) (part : Line kinds P S part_first on_part N n) (query : Line kinds P S (k.Select ∷ []) on_query B b) where
  law-ParensInside : Line kinds P S inside_first on_query (ParensInside wide N B) (read_parens_inside wide n b)
  unfolding read_parens_inside
  law-ParensInside = line_or {first = inside_first} {on = on_query} (is k.Select) (is_among kinds k.Select) (line_map e.Scalar query) (law-Whole wide part) refl refl refl refl refl

  law-InInside : Line kinds P S inside_first on_query (InInside wide N B) (read_in_inside wide n b)
  unfolding read_in_inside
  law-InInside = line_or {first = inside_first} {on = on_query} (is k.Select) (is_among kinds k.Select) (line_map in_query query) (line_map in_list (law-ExprList wide part)) refl refl refl refl refl

-- ---- what holds both one level further in
module _ {P S : Type 0} {N : Part Token Expr} {n : Reading Token Expr} {B : Part Token Block} {b : Reading Token Block}
    (wide room : ℕ) (part : Line kinds (Deeper room) S part_first on_part N n) (query : Line kinds (Deeper room) S (k.Select ∷ []) on_query B b) where
  pub law-Parens : Line kinds P S (k.OpenParen ∷ []) [] (Parens wide room N B) (read_parens wide room n b)
  unfolding read_parens
  law-Parens = line_opens room k.OpenParen second (line_then first (law-ParensInside wide part query) (line_kind kinds k.CloseParen) refl)

  pub law-InLine : Line kinds P S (k.In ∷ []) [] (InLine wide room N B) (read_in wide room n b)
  unfolding read_in
  law-InLine = line_then second (line_kind kinds k.In) (line_opens room k.OpenParen second (line_then first (law-InInside wide part query) (line_kind kinds k.CloseParen) refl)) refl

  pub law-Operand : Line kinds P S operand_first on_unary (Operand wide room N B) (read_operand wide room n b)
  unfolding read_operand
  law-Operand = line_or {first = operand_first} {on = on_unary} (is k.OpenParen) (is_among kinds k.OpenParen) law-Parens
      (line_or {first = k.Exists ∷ k.Case ∷ called_first} {on = on_unary} (is k.Exists) (is_among kinds k.Exists) (law-ExistsLine wide room query)
      (line_or {first = k.Case ∷ called_first} {on = on_unary} (is k.Case) (is_among kinds k.Case) (law-CaseLine wide room part)
      (line_or {first = called_first} {on = on_unary} (among kinds call_words) (λ t. refl) (law-Call wide room part) (law-Leaf room) refl refl refl refl refl) refl refl refl refl refl) refl refl refl refl refl) refl refl refl refl refl

-- ---- the three parts that lead back to themselves
module _ {P S : Type 0} {U : Part Token Expr} {u : Reading Token Expr} {N : Part Token Expr} {n : Reading Token Expr} {B : Part Token Block} {b : Reading Token Block}
    (wide room : ℕ) (unary : Line kinds (Deeper room) S unary_first on_unary U u) (part : Line kinds (Deeper room) S part_first on_part N n)
    (query : Line kinds (Deeper room) S (k.Select ∷ []) on_query B b) where
  pub law-UnaryLine : Line kinds P S unary_first on_unary (UnaryLine wide room U N B) (read_unary_line wide room u n b)
  unfolding read_unary_line
  law-UnaryLine = line_or {first = unary_first} {on = on_unary} (is k.Minus) (is_among kinds k.Minus) (line_opens room k.Minus negative unary) (law-Operand wide room part query) refl refl refl refl refl

module _ {P S : Type 0} {U : Part Token Expr} {u : Reading Token Expr} {N : Part Token Expr} {n : Reading Token Expr} {B : Part Token Block} {b : Reading Token Block}
    (wide room : ℕ) (unary : Line kinds P S unary_first on_unary U u) (part : Line kinds (Deeper room) S part_first on_part N n)
    (query : Line kinds (Deeper room) S (k.Select ∷ []) on_query B b) where
  pub law-ComparedLine : Line kinds P S compared_first on_sum (ComparedLine wide room U B) (read_compared wide room u b)
  unfolding read_compared
  law-ComparedLine = line_or {first = compared_first} {on = on_sum} (among kinds quantifier_words) (λ t. refl) (law-ComparedQuery wide room query) (line_map compared.Sum (law-Sum wide unary)) refl refl refl refl refl

  pub law-CompareLine : Line kinds P S comparison_words on_sum (CompareLine wide room U B) (read_compare wide room u b)
  unfolding read_compare
  law-CompareLine = line_then t.Compare law-ComparisonWord law-ComparedLine refl

  pub law-DenyTest : Line kinds P S denied_words on_sum (DenyTest wide room U N B) (read_deny_test wide room u n b)
  unfolding read_deny_test
  law-DenyTest = line_or {first = denied_words} {on = on_sum} (is k.Between) (is_among kinds k.Between) (law-BetweenLine wide unary)
      (line_or {first = k.Like ∷ k.In ∷ []} {on = []} (is k.Like) (is_among kinds k.Like) law-LikeLine (law-InLine wide room part query) refl refl refl refl refl) refl refl refl refl refl

  pub law-TestTail : Tail kinds P S test_words on_part (TestTail wide room U N B) (read_test wide room u n b)
  unfolding read_test
  law-TestTail = tail_or {first = test_words} {on = on_part} (among kinds comparison_words) (λ t. refl) law-CompareLine
      (tail_or {first = k.Is ∷ k.Not ∷ denied_words} {on = k.Is ∷ k.Not ∷ on_denied} (is k.Is) (is_among kinds k.Is) law-NullLine
      (tail_or {first = k.Not ∷ denied_words} {on = k.Not ∷ on_denied} (is k.Not) (is_among kinds k.Not) (line_then denied (line_kind kinds k.Not) law-DenyTest refl)
      (tail_or {first = denied_words} {on = on_denied} (among kinds denied_words) (λ t. refl) law-DenyTest (tail_empty t.Absent) refl refl refl refl refl refl) refl refl refl refl refl refl) refl refl refl refl refl refl) refl refl refl refl refl refl

  pub law-Predicate : Line kinds P S unary_first on_part (Predicate wide room U N B) (read_predicate wide room u n b)
  unfolding read_predicate
  law-Predicate = line_then_tail {on = on_part} tested (law-Sum wide unary) law-TestTail refl refl refl

  pub law-PartLine : Line kinds P S part_first on_part (PartLine wide room U N B) (read_part_line wide room u n b)
  unfolding read_part_line
  law-PartLine = line_or {first = part_first} {on = on_part} (is k.Not) (is_among kinds k.Not) (line_opens room k.Not negation part) law-Predicate refl refl refl refl refl

module _ {P S : Type 0} {N : Part Token Expr} {n : Reading Token Expr} {B : Part Token Block} {b : Reading Token Block}
    (wide room : ℕ) (part : Line kinds P S part_first on_part N n) (query : Line kinds (Deeper room) S (k.Select ∷ []) on_query B b) where
  pub law-JoinedItem : Line kinds P S item_first on_whole (JoinedItem wide room N B) (read_joined_item wide room n b)
  unfolding read_joined_item
  law-JoinedItem = line_then pair (law-FromItemLine wide room query) (line_then second (line_kind kinds k.On) (law-Whole wide part) refl) refl

  pub law-JoinedLine : Line kinds P S item_first on_joined (JoinedLine wide room N B) (read_joined wide room n b)
  unfolding read_joined
  law-JoinedLine = line_then_tail {on = on_joined} joined (law-FromItemLine wide room query) (tail_links {on = on_joined} wide (among kinds join_words) join (λ t. refl) law-JoinWords law-JoinedItem refl refl refl refl) refl refl refl

  pub law-FromLine : Line kinds P S (k.From ∷ []) on_from (FromLine wide room N B) (read_from wide room n b)
  unfolding read_from
  law-FromLine = line_then second (line_kind kinds k.From) (line_then_tail {on = on_from} cons law-JoinedLine (tail_links {on = on_from} wide (is k.Comma) second (is_among kinds k.Comma) (line_kind kinds k.Comma) law-JoinedLine refl refl refl refl) refl refl refl) refl

  pub law-BlockLine : Line kinds P S (k.Select ∷ []) on_block (BlockLine wide room N B) (read_block wide room n b)
  unfolding read_block
  law-BlockLine = line_then block (law-SelectLine wide part) (line_then_tail {on = on_block} pair law-FromLine (law-FiltersTail wide part) refl refl refl) refl

  pub law-TermLine : Line kinds P S (k.Select ∷ []) on_term (TermLine wide room N B) (read_term wide room n b)
  unfolding read_term
  law-TermLine = line_then_tail {on = on_term} combined law-BlockLine (tail_links {on = on_term} wide (is k.Intersect) set_part (is_among kinds k.Intersect) law-IntersectWords law-BlockLine refl refl refl refl) refl refl refl

  pub law-QueryLine : Line kinds P S (k.Select ∷ []) on_query (QueryLine wide room N B) (read_query_line wide room n b)
  unfolding read_query_line
  law-QueryLine = line_then_tail {on = on_query} combined law-TermLine (tail_links {on = on_query} wide (among kinds set_words) set_part (λ t. refl) law-SetWords law-TermLine refl refl refl refl) refl refl refl

-- ---- statements
module _ {P S : Type 0} {B C : Part Token Block} {b d : Reading Token Block}
    (wide room : ℕ) (query : Line kinds P S (k.Select ∷ []) on_query B b) (inner : Line kinds (Deeper room) S (k.Select ∷ []) on_query C d) where
  pub law-OrderedLine : Line kinds P S (k.Select ∷ []) on_statement (OrderedLine wide B) (read_ordered wide b)
  unfolding read_ordered
  law-OrderedLine = line_then_tail {on = on_statement} ordered query
      (tail_then {first = k.Order ∷ tail_words} {on = on_limits} pair (law-OrderTail wide)
      (tail_then {first = tail_words} {on = tail_words} pair law-LimitTail law-VersionTail refl refl refl refl refl) refl refl refl refl refl) refl refl refl

  pub law-WithQueryLine : Line kinds P S (k.Name ∷ []) [] (WithQueryLine wide room C) (read_with_query wide room d)
  unfolding read_with_query
  law-WithQueryLine = line_then with_query (line_then_tail {on = k.OpenParen ∷ []} pair law-NameLine (law-ColumnNames wide room) refl refl refl)
      (line_then second (line_kind kinds k.As) (law-Subquery wide room inner) refl) refl

  pub law-WithLine : Line kinds P S (k.With ∷ []) on_names (WithLine wide room C) (read_with wide room d)
  unfolding read_with
  law-WithLine = line_then second (line_kind kinds k.With) (line_then_tail {on = on_names} cons law-WithQueryLine (tail_links {on = on_names} wide (is k.Comma) second (is_among kinds k.Comma) (line_kind kinds k.Comma) law-WithQueryLine refl refl refl refl) refl refl refl) refl

  pub law-WithOrderedLine : Line kinds P S (k.With ∷ []) on_statement (WithOrderedLine wide room B C) (read_with_ordered wide room b d)
  unfolding read_with_ordered
  law-WithOrderedLine = line_then under_with law-WithLine law-OrderedLine refl

  pub law-CreateLine : Line kinds P S (k.Create ∷ []) on_query (CreateLine wide room B) (read_create wide room b)
  unfolding read_create read_view_name
  law-CreateLine = line_then create_view
      (line_then second (line_then second (line_kind kinds k.Create) (line_kind kinds k.View) refl) (line_then_tail {on = k.OpenParen ∷ []} pair law-NameLine (law-ColumnNames wide room) refl refl refl) refl)
      (line_then second (line_kind kinds k.As) query refl) refl

  pub law-StatementLine : Line kinds P S statement_words on_statement (StatementLine wide room B C) (read_statement wide room b d)
  unfolding read_statement
  law-StatementLine = line_or {first = statement_words} {on = on_statement} (is k.Select) (is_among kinds k.Select) (line_map statements.Query law-OrderedLine)
      (line_or {first = k.With ∷ k.Create ∷ k.Drop ∷ k.Refresh ∷ k.Run ∷ []} {on = on_statement} (is k.With) (is_among kinds k.With) law-WithOrderedLine
      (line_or {first = k.Create ∷ k.Drop ∷ k.Refresh ∷ k.Run ∷ []} {on = on_statement} (is k.Create) (is_among kinds k.Create) law-CreateLine
      (line_or {first = k.Drop ∷ k.Refresh ∷ k.Run ∷ []} {on = on_statement} (is k.Drop) (is_among kinds k.Drop) law-DropLine
      (line_or {first = k.Refresh ∷ k.Run ∷ []} {on = on_statement} (is k.Refresh) (is_among kinds k.Refresh) law-RefreshLine (law-RunLine wide room) refl refl refl refl refl) refl refl refl refl refl) refl refl refl refl refl) refl refl refl refl refl) refl refl refl refl refl

  pub law-EndedLine : Line kinds P S statement_words [] (EndedLine wide room B C) (read_ended wide room b d)
  unfolding read_ended
  law-EndedLine = line_then first law-StatementLine (line_kind kinds k.Semicolon) refl
