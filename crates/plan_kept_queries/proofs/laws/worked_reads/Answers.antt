use Rattle.plan_kept_queries.proofs.ScanCases.{read_cases}
use Rattle.plan_kept_queries.proofs.laws.worked_reads.Goals as goal

pub returns : goal.returns
returns c = read_cases
