use Rattle.std.proofs.lemmas.Option.{IfSome_then}
use Rattle.base_row_laws.specs.Bags.{SameBag}
use Rattle.base_schema.specs.State.{State, table_rows}
use Rattle.plan_algebra.specs.KeptPlans.{query_rows}
use Rattle.store_versions.specs.Trials.{tables_of}
use Rattle.store_versions.proofs.scan.DirectoryTables.kept.Goals as goal

pub returns-clause-rows : goal.returns-clause-rows
returns-clause-rows g c =
    IfSome_then c.in_ok-found.found
    {P = λ bag. (state : State) → g.A.Attachment.is_right c.attachment.result.now state → SameBag bag.rows (query_rows c.args.plan.now (table_rows state c.args.plan.now.table))}
    c.in_ok-found.ensures.rows (λ bag holds. holds (tables_of c.args.self.now) c.attachment.ensures)
