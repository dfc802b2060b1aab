use Rattle.std.proofs.Common.{rules, arith, refl}
use Rattle.std.proofs.lemmas.Grind.{common_steps}
use Rattle.sql_binder.proofs.Opened.{meaning_Number, meaning_Text, meaning_Date, meaning_Interval}
use Rattle.sql_binder.proofs.Opened.{meaning_Column, meaning_CountRows, meaning_Negative}
use Rattle.sql_binder.proofs.Opened.{meaning_Sum, meaning_Product, meaning_Compare, meaning_IsNull}
use Rattle.sql_binder.proofs.Opened.{meaning_Between, meaning_Like, meaning_InList, meaning_InQuery}
use Rattle.sql_binder.proofs.Opened.{meaning_Exists, meaning_Scalar, meaning_Not, meaning_And}
use Rattle.sql_binder.proofs.Opened.{meaning_Or, meaning_Case, meaning_CaseElse, meaning_Extract}
use Rattle.sql_binder.proofs.Opened.{meaning_Substring, meaning_Count, meaning_CountDistinct}
use Rattle.sql_binder.proofs.Opened.{meaning_Aggregate, meaning_CompareQuery}
use Rattle.sql_binder.proofs.Sized.{a_of_Aggregate, a_of_And, a_of_Between, a_of_Compare}
use Rattle.sql_binder.proofs.Sized.{a_of_Count, a_of_CountDistinct, a_of_Extract, a_of_InList}
use Rattle.sql_binder.proofs.Sized.{a_of_InQuery, a_of_IsNull, a_of_Like, a_of_Negative, a_of_Not}
use Rattle.sql_binder.proofs.Sized.{a_of_Or, a_of_Product, a_of_Substring, a_of_Sum, arms_of_Case}
use Rattle.sql_binder.proofs.Sized.{arms_of_CaseElse, b_of_Compare, factors_of_Product}
use Rattle.sql_binder.proofs.Sized.{high_of_Between, list_of_InList, low_of_Between}
use Rattle.sql_binder.proofs.Sized.{other_of_CaseElse, q_of_Exists, q_of_InQuery, q_of_Scalar}
use Rattle.sql_binder.proofs.Sized.{rest_of_And, rest_of_Or, terms_of_Sum, a_of_CompareQuery, q_of_CompareQuery}
use Rattle.sql_binder.proofs.Smaller.{expr_below, block_below, each_expr, each_term, each_factor}
use Rattle.sql_binder.proofs.Smaller.{each_arm}
use Rattle.sql_binder.proofs.subqueries.QueryBinder.expr.Goals as goal

pub negative-requires : goal.negative-requires
negative-requires g c = expr_below c.requires _ (a_of_Negative _ _ c.in-Negative.is)

pub returns-in-Negative : goal.returns-in-Negative
returns-in-Negative g c = rw (c.in-Negative.is, meaning_Negative) c.negative.ensures

pub sum-requires : goal.sum-requires
sum-requires g c = record {
  first = expr_below c.requires _ (a_of_Sum _ _ _ c.in-Sum.is);
  rest = rw c.as_slice.ensures (each_term c.requires _ (terms_of_Sum _ _ _ c.in-Sum.is));
}

pub returns-in-Sum : goal.returns-in-Sum
returns-in-Sum g c = rw (c.in-Sum.is, meaning_Sum, ← c.as_slice.ensures) c.sum.ensures

pub product-requires : goal.product-requires
product-requires g c = record {
  first =
      expr_below c.requires _ (a_of_Product _ _ _ c.in-Product.is);
  rest = rw c.as_slice-in-Product.ensures
      (each_factor c.requires _ (factors_of_Product _ _ _ c.in-Product.is));
}

pub returns-in-Product : goal.returns-in-Product
returns-in-Product g c =
    rw (c.in-Product.is, meaning_Product, ← c.as_slice-in-Product.ensures) c.product.ensures

pub compare-requires : goal.compare-requires
compare-requires g c = record {
  left =
      expr_below c.requires _ (a_of_Compare _ _ _ _ c.in-Compare.is);
  right = expr_below c.requires _ (b_of_Compare _ _ _ _ c.in-Compare.is);
}

pub returns-in-Compare : goal.returns-in-Compare
returns-in-Compare g c = rw (c.in-Compare.is, meaning_Compare) c.compare.ensures

pub null_test-requires : goal.null_test-requires
null_test-requires g c = expr_below c.requires _ (a_of_IsNull _ _ c.in-IsNull.is)

pub returns-in-IsNull : goal.returns-in-IsNull
returns-in-IsNull g c = rw (c.in-IsNull.is, meaning_IsNull) c.null_test.ensures

pub between-requires : goal.between-requires
between-requires g c = record {
  value =
      expr_below c.requires _ (a_of_Between _ _ _ _ c.in-Between.is);
  low = expr_below c.requires _ (low_of_Between _ _ _ _ c.in-Between.is);
  high = expr_below c.requires _ (high_of_Between _ _ _ _ c.in-Between.is);
}

pub returns-in-Between : goal.returns-in-Between
returns-in-Between g c = rw (c.in-Between.is, meaning_Between) c.between.ensures

pub like-requires : goal.like-requires
like-requires g c = expr_below c.requires _ (a_of_Like _ _ _ c.in-Like.is)

pub returns-in-Like : goal.returns-in-Like
returns-in-Like g c = rw (c.in-Like.is, meaning_Like) c.like.ensures

pub in_list-requires : goal.in_list-requires
in_list-requires g c = record {
  value = expr_below c.requires _ (a_of_InList _ _ _ c.in-InList.is);
  list = rw c.as_slice-in-InList.ensures
      (each_expr c.requires _ (list_of_InList _ _ _ c.in-InList.is));
}

pub returns-in-InList : goal.returns-in-InList
returns-in-InList g c = rw (c.in-InList.is, meaning_InList, ← c.as_slice-in-InList.ensures)
    c.in_list.ensures

pub in_query-requires : goal.in_query-requires
in_query-requires g c = record {
  left =
      expr_below c.requires _ (a_of_InQuery _ _ _ c.in-InQuery.is);
  query = block_below c.requires _ (q_of_InQuery _ _ _ c.in-InQuery.is);
}

pub returns-in-InQuery : goal.returns-in-InQuery
returns-in-InQuery g c = rw (c.in-InQuery.is, meaning_InQuery) c.in_query.ensures

pub compare_query-requires : goal.compare_query-requires
compare_query-requires g c = record {
  left =
      expr_below c.requires _ (a_of_CompareQuery _ _ _ _ _ c.in-CompareQuery.is);
  query = block_below c.requires _ (q_of_CompareQuery _ _ _ _ _ c.in-CompareQuery.is);
}

pub returns-in-CompareQuery : goal.returns-in-CompareQuery
returns-in-CompareQuery g c = rw (c.in-CompareQuery.is, meaning_CompareQuery)
    c.compare_query.ensures

pub exists-requires : goal.exists-requires
exists-requires g c = block_below c.requires _ (q_of_Exists _ _ c.in-Exists.is)

pub returns-in-Exists : goal.returns-in-Exists
returns-in-Exists g c = rw (c.in-Exists.is, meaning_Exists) c.exists.ensures

pub scalar-requires : goal.scalar-requires
scalar-requires g c = block_below c.requires _ (q_of_Scalar _ _ c.in-Scalar.is)

pub returns-in-Scalar : goal.returns-in-Scalar
returns-in-Scalar g c = rw (c.in-Scalar.is, meaning_Scalar) c.scalar.ensures

pub not-requires : goal.not-requires
not-requires g c = expr_below c.requires _ (a_of_Not _ _ c.in-Not.is)

pub returns-in-Not : goal.returns-in-Not
returns-in-Not g c = rw (c.in-Not.is, meaning_Not) c.not.ensures

pub and-requires : goal.and-requires
and-requires g c = record {
  first = expr_below c.requires _ (a_of_And _ _ _ c.in-And.is);
  rest = rw c.as_slice-in-And.ensures (each_expr c.requires _ (rest_of_And _ _ _ c.in-And.is));
}

pub returns-in-And : goal.returns-in-And
returns-in-And g c = rw (c.in-And.is, meaning_And, ← c.as_slice-in-And.ensures) c.and.ensures

pub or-requires : goal.or-requires
or-requires g c = record {
  first = expr_below c.requires _ (a_of_Or _ _ _ c.in-Or.is);
  rest = rw c.as_slice-in-Or.ensures (each_expr c.requires _ (rest_of_Or _ _ _ c.in-Or.is));
}

pub returns-in-Or : goal.returns-in-Or
returns-in-Or g c = rw (c.in-Or.is, meaning_Or, ← c.as_slice-in-Or.ensures) c.or.ensures

pub case-requires : goal.case-requires
case-requires g c = rw c.as_slice-in-Case.ensures
    (each_arm c.requires _ (arms_of_Case _ _ c.in-Case.is))

pub returns-in-Case : goal.returns-in-Case
returns-in-Case g c = rw (c.in-Case.is, meaning_Case, ← c.as_slice-in-Case.ensures) c.case.ensures

pub case_else-requires : goal.case_else-requires
case_else-requires g c =
    record {
      arms = rw c.as_slice-in-CaseElse.ensures
          (each_arm c.requires _ (arms_of_CaseElse _ _ _ c.in-CaseElse.is));
      other = expr_below c.requires _ (other_of_CaseElse _ _ _ c.in-CaseElse.is);
    }

pub returns-in-CaseElse : goal.returns-in-CaseElse
returns-in-CaseElse g c =
    rw (c.in-CaseElse.is, meaning_CaseElse, ← c.as_slice-in-CaseElse.ensures) c.case_else.ensures

pub extract-requires : goal.extract-requires
extract-requires g c = expr_below c.requires _ (a_of_Extract _ _ _ c.in-Extract.is)

pub returns-in-Extract : goal.returns-in-Extract
returns-in-Extract g c = rw (c.in-Extract.is, meaning_Extract) c.extract.ensures

pub substring-requires : goal.substring-requires
substring-requires g c = expr_below c.requires _ (a_of_Substring _ _ _ _ c.in-Substring.is)

pub returns-in-Substring : goal.returns-in-Substring
returns-in-Substring g c = rw (c.in-Substring.is, meaning_Substring) c.substring.ensures

pub count-requires : goal.count-requires
count-requires g c = expr_below c.requires _ (a_of_Count _ _ c.in-Count.is)

pub returns-in-Count : goal.returns-in-Count
returns-in-Count g c = rw (c.in-Count.is, meaning_Count) c.count.ensures

pub count_distinct-requires : goal.count_distinct-requires
count_distinct-requires g c = expr_below c.requires _ (a_of_CountDistinct _ _ c.in-CountDistinct.is)

pub returns-in-CountDistinct : goal.returns-in-CountDistinct
returns-in-CountDistinct g c =
    rw (c.in-CountDistinct.is, meaning_CountDistinct) c.count_distinct.ensures

pub aggregate-requires : goal.aggregate-requires
aggregate-requires g c = expr_below c.requires _ (a_of_Aggregate _ _ _ c.in-Aggregate.is)

pub returns-in-Aggregate : goal.returns-in-Aggregate
returns-in-Aggregate g c = rw (c.in-Aggregate.is, meaning_Aggregate) c.aggregate.ensures

pub returns-in_ok-t-in-Number : goal.returns-in_ok-t-in-Number
returns-in_ok-t-in-Number g c =
    rw (c.in-Number.is, meaning_Number) (first_of (search rules, grind (arith, common_steps)))

pub returns-in_err-t-in-Number : goal.returns-in_err-t-in-Number
returns-in_err-t-in-Number g c =
    rw (c.in-Number.is, meaning_Number) (first_of (search rules, grind (arith, common_steps)))

pub returns-in_ok-t-in-Text : goal.returns-in_ok-t-in-Text
returns-in_ok-t-in-Text g c =
    rw (c.in-Text.is, meaning_Text) (first_of (search rules, grind (arith, common_steps)))

pub returns-in_err-t-in-Text : goal.returns-in_err-t-in-Text
returns-in_err-t-in-Text g c =
    rw (c.in-Text.is, meaning_Text) (first_of (search rules, grind (arith, common_steps)))

pub returns-in_ok-t-in-Date : goal.returns-in_ok-t-in-Date
returns-in_ok-t-in-Date g c =
    rw (c.in-Date.is, meaning_Date) (first_of (search rules, grind (arith, common_steps)))

pub returns-in_err-t-in-Date : goal.returns-in_err-t-in-Date
returns-in_err-t-in-Date g c =
    rw (c.in-Date.is, meaning_Date) (first_of (search rules, grind (arith, common_steps)))

pub returns-in-Interval : goal.returns-in-Interval
returns-in-Interval g c = rw (c.in-Interval.is, meaning_Interval) refl

pub returns-in-Column : goal.returns-in-Column
returns-in-Column g c = rw (c.in-Column.is, meaning_Column) c.column.ensures

pub returns-in-CountRows : goal.returns-in-CountRows
returns-in-CountRows g c = rw (c.in-CountRows.is, meaning_CountRows) c.count_rows.ensures
