use Rattle.base_row_laws.proofs.Trees.{without_fill}
use Rattle.base_row_laws.proofs.domain_laws.total_without_fill.Goals as goal

pub returns : goal.returns
returns g c = λ same is aggregates xs. without_fill same is aggregates xs
