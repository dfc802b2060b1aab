use Rattle.std.proofs.Common.{◌∙◌, ap, map}
use Rattle.base_row_laws.specs.Ranked.{Ranked, Relation}
use Rattle.base_value.specs.declared.value.Value.{Value}
use Rattle.base_columns.proofs.WiderRows.{relation-ranks}
use Rattle.base_columns.proofs.batch.Batch.standings.Goals as goal

pub returns : goal.returns
returns c =
    relation-ranks c.self.inside.columns.items c.self.inside.standings ∙ ap (λ (r : Relation Value). map (λ (x : Ranked Value). x.standing) r.rows) c.self.view_is
