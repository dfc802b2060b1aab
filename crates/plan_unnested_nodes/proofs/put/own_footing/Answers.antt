use Rattle.std.proofs.Common.{◌∙◌, sym, ap}
use Rattle.plan_unnested_nodes.specs.declared.footing.FootingRows.TheVariants.{Due}
use Rattle.plan_unnested_nodes.proofs.Sides.{none_of, some_of, own_none, own_due}
use Rattle.plan_unnested_nodes.proofs.put.own_footing.Goals as goal

pub returns-then-is_empty : goal.returns-then-is_empty
returns-then-is_empty c =
    own_none c.args.builder.now.nodes c.args.outer c.args.columns.now c.one.result (none_of c.args.columns.now (sym c.is_empty.ensures ∙ c.if-is_empty.true))
    c.one.ensures.rows c.one.ensures.unchanged

pub returns : goal.returns
returns c =
    own_due c.args.builder.now.nodes c.args.outer c.args.columns.now _ (some_of c.args.columns.now (sym c.is_empty.ensures ∙ c.if-is_empty.false)) c.requires
    (ap (Due c.args.outer) c.in_ok-columns.ensures)
    c.in_ok-unchanged.ensures
