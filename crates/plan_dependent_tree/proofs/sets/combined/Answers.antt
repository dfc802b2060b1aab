use Rattle.std.proofs.Common.{◌≡◌, ◌++◌, length, refl, rules, ap, ◌∙◌, subst}
use Rattle.sql_bound_query.specs.Meaning.{left_columns, right_columns}
use Rattle.expr_conditions.specs.Ranks.{columns_from}
use Rattle.plan_dependent_tree.specs.SetGrowth.{ReadsOf}
use Rattle.plan_dependent_tree.proofs.sets.combined.Goals as goal

pub returns : goal.returns
returns c =
    let columns = c.args.columns.now in
    let start = c.args.start in
    let count : c.in_ok-width.width ≡ length columns = search rules in
    record {
      lefts = c.in_ok-exprs.exprs;
      rights = c.in_ok-exprs-2.exprs;
      left_reads = subst (λ ps. ReadsOf ps (left_columns columns) c.in_ok-exprs.exprs)
          (c.as_slice.ensures ∙ c.in_ok-places.ensures
          ∙ ap (λ ps. ps ++ columns_from start c.args.left.width) c.new.ensures)
          c.in_ok-exprs.ensures;
      right_reads = subst (λ ps. ReadsOf ps (right_columns columns) c.in_ok-exprs-2.exprs)
          (c.as_slice-2.ensures ∙ c.in_ok-places-2.ensures
          ∙ ap (λ ps. ps ++ columns_from start c.args.right.width) c.new-3.ensures)
          c.in_ok-exprs-2.ensures;
      is = rw (c.in_ok-tree.ensures, c.in_ok-left.ensures, c.in_ok-right.ensures) refl;
      count = count;
    }
