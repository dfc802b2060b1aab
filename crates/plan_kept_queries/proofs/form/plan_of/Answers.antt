use Rattle.std.proofs.Common.{sym, subst, ◌∙◌}
use Rattle.plan_kept_queries.specs.Forms.{IsFound, IsKeptPlan, is_kept_block}
use Rattle.plan_kept_queries.proofs.FormsOpened.{limited, ordered, plain}
use Rattle.plan_kept_queries.proofs.form.plan_of.Goals as goal

pub returns-then-len-gt0 : goal.returns-then-len-gt0
returns-then-len-gt0 c = ordered c.args.q.now c.len.result c.len.ensures c.if-len-gt0.true

pub returns-then-is_some : goal.returns-then-is_some
returns-then-is_some c = limited c.args.q.now (sym c.is_some.ensures ∙ c.if-is_some.true)

pub returns : goal.returns
returns c =
    subst (λ b. IsFound b (IsKeptPlan c.args.q.now.block) c.plan_of_block.result)
    (sym (plain c.args.q.now c.len.result c.len.ensures c.if-len-gt0.false (sym c.is_some.ensures ∙ c.if-is_some.false)))
    (subst (λ q. IsFound (is_kept_block q) (IsKeptPlan q) c.plan_of_block.result) c.get.ensures c.plan_of_block.ensures)
