use Rattle.std.proofs.Common.{subst, sym}
use Rattle.app_sessions.proofs.Expanded.{Expanding, expanding_more}
use Rattle.app_sessions.proofs.expansion.expand.Goals as goal

pub left-preserved : goal.left-preserved
left-preserved c =
    let (more, one, is) = c.in_ok-put_steps.ensures in
    subst (λ steps. Expanding c.args.statements c.pop.new.self steps) (sym is)
    (expanding_more c.args.statements c.pop.new.self c.in-Some.statement c.left.steps more (subst (λ l. Expanding c.args.statements l c.left.steps) c.in-Some.ensures c.left.invariant) one)
