-- The kinds of tokens that lines begin with, and those that go on with them.
use Rattle.std.proofs.Common.{List, [], ◌∷◌}
use Rattle.sql_lexer.specs.declared.kind.Kind.{Kind}
use Rattle.sql_lexer.specs.declared.kind.Kind.TheVariants as k

-- ---- the words of a line

abbrev pub span_words : List Kind
span_words = k.Year ∷ k.Month ∷ k.Day ∷ []

abbrev pub multiply_words : List Kind
multiply_words = k.Star ∷ k.Slash ∷ []

abbrev pub add_words : List Kind
add_words = k.Plus ∷ k.Minus ∷ []

abbrev pub comparison_words : List Kind
comparison_words = k.Equal ∷ k.NotEqual ∷ k.Less ∷ k.LessOrEqual ∷ k.Greater ∷ k.GreaterOrEqual ∷ []

abbrev pub denied_words : List Kind
denied_words = k.Between ∷ k.Like ∷ k.In ∷ []

abbrev pub aggregate_words : List Kind
aggregate_words = k.Sum ∷ k.Avg ∷ k.Min ∷ k.Max ∷ []

abbrev pub call_words : List Kind
call_words = k.Extract ∷ k.Substring ∷ k.Count ∷ aggregate_words

abbrev pub alias_words : List Kind
alias_words = k.As ∷ k.Name ∷ []

abbrev pub direction_words : List Kind
direction_words = k.Asc ∷ k.Desc ∷ []

abbrev pub limit_words : List Kind
limit_words = k.Limit ∷ k.Fetch ∷ []

abbrev pub inner_words : List Kind
inner_words = k.Join ∷ k.Inner ∷ []

abbrev pub join_words : List Kind
join_words = k.Left ∷ inner_words

abbrev pub quantifier_words : List Kind
quantifier_words = k.Any ∷ k.Some ∷ k.All ∷ []

abbrev pub set_words : List Kind
set_words = k.Union ∷ k.Except ∷ []

abbrev pub refresh_words : List Kind
refresh_words = k.Insert ∷ k.Delete ∷ []

abbrev pub value_words : List Kind
value_words = k.Text ∷ k.Number ∷ []

abbrev pub tail_words : List Kind
tail_words = k.Limit ∷ k.Fetch ∷ k.At ∷ []

abbrev pub statement_words : List Kind
statement_words = k.Select ∷ k.With ∷ k.Create ∷ k.Drop ∷ k.Refresh ∷ k.Run ∷ []

abbrev pub test_words : List Kind
test_words = k.Equal ∷ k.NotEqual ∷ k.Less ∷ k.LessOrEqual ∷ k.Greater ∷ k.GreaterOrEqual ∷ k.Is ∷ k.Not ∷ denied_words

-- ---- what lines begin with

abbrev pub leaf_first : List Kind
leaf_first = k.Number ∷ k.Text ∷ k.Date ∷ k.Interval ∷ k.Name ∷ []

abbrev pub called_first : List Kind
called_first = k.Extract ∷ k.Substring ∷ k.Count ∷ k.Sum ∷ k.Avg ∷ k.Min ∷ k.Max ∷ leaf_first

abbrev pub operand_first : List Kind
operand_first = k.OpenParen ∷ k.Exists ∷ k.Case ∷ called_first

abbrev pub unary_first : List Kind
unary_first = k.Minus ∷ operand_first

abbrev pub compared_first : List Kind
compared_first = k.Any ∷ k.Some ∷ k.All ∷ unary_first

abbrev pub part_first : List Kind
part_first = k.Not ∷ unary_first

abbrev pub selection_first : List Kind
selection_first = k.Star ∷ part_first

abbrev pub inside_first : List Kind
inside_first = k.Select ∷ part_first

abbrev pub from_query_first : List Kind
from_query_first = k.OpenParen ∷ []

abbrev pub item_first : List Kind
item_first = k.OpenParen ∷ k.Lateral ∷ k.Name ∷ []

abbrev pub filters_first : List Kind
filters_first = k.Where ∷ k.Group ∷ k.Having ∷ []

-- ---- what goes on with a line: each line adds to those of its last part

abbrev pub on_unary : List Kind
on_unary = k.OpenParen ∷ k.Point ∷ []

abbrev pub on_product : List Kind
on_product = k.Star ∷ k.Slash ∷ on_unary

abbrev pub on_sum : List Kind
on_sum = k.Plus ∷ k.Minus ∷ on_product

abbrev pub on_denied : List Kind
on_denied = k.Between ∷ k.Like ∷ k.In ∷ on_sum

abbrev pub on_part : List Kind
on_part = k.Equal ∷ k.NotEqual ∷ k.Less ∷ k.LessOrEqual ∷ k.Greater ∷ k.GreaterOrEqual ∷ k.Is ∷ k.Not ∷ on_denied

abbrev pub on_conjunction : List Kind
on_conjunction = k.And ∷ on_part

abbrev pub on_whole : List Kind
on_whole = k.Or ∷ on_conjunction

abbrev pub on_list : List Kind
on_list = k.Comma ∷ on_whole

abbrev pub on_arms : List Kind
on_arms = k.When ∷ on_whole

abbrev pub on_item : List Kind
on_item = k.As ∷ k.Name ∷ on_whole

abbrev pub on_items : List Kind
on_items = k.Comma ∷ on_item

abbrev pub on_names : List Kind
on_names = k.Comma ∷ []

abbrev pub on_from_query : List Kind
on_from_query = k.OpenParen ∷ []

abbrev pub on_from_item : List Kind
on_from_item = k.OpenParen ∷ alias_words

abbrev pub on_joined : List Kind
on_joined = k.Left ∷ k.Join ∷ k.Inner ∷ k.As ∷ k.Name ∷ on_whole

abbrev pub on_from : List Kind
on_from = k.Comma ∷ on_joined

abbrev pub on_columns : List Kind
on_columns = k.Comma ∷ k.Point ∷ []

abbrev pub on_keys : List Kind
on_keys = k.Comma ∷ direction_words

abbrev pub on_filters : List Kind
on_filters = k.Where ∷ k.Group ∷ k.Having ∷ on_list

abbrev pub on_block : List Kind
on_block = k.Left ∷ k.Join ∷ k.Inner ∷ k.As ∷ k.Name ∷ on_filters

abbrev pub on_all : List Kind
on_all = k.All ∷ []

abbrev pub on_term : List Kind
on_term = k.Intersect ∷ on_block

abbrev pub on_query : List Kind
on_query = k.Union ∷ k.Except ∷ on_term

abbrev pub on_limits : List Kind
on_limits = k.Order ∷ k.Limit ∷ k.Fetch ∷ k.At ∷ on_keys

abbrev pub on_statement : List Kind
on_statement = k.Order ∷ k.Asc ∷ k.Desc ∷ k.Limit ∷ k.Fetch ∷ k.At ∷ on_query
