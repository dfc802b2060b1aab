use Rattle.plan_predicate_sinking.proofs.Apart.{serves_kept, serves_scan}
use Rattle.plan_predicate_sinking.proofs.joined.may_be_closed.Goals as goal

pub returns-in-Scan : goal.returns-in-Scan
returns-in-Scan c = serves_scan c.args.n c.args.input.now _ c.in-Scan.is

pub returns-in-Kept : goal.returns-in-Kept
returns-in-Kept c = serves_kept c.args.n c.args.input.now _ _ c.in-Kept.is
