use Rattle.std.proofs.Common.{subst, sym, ◌∙◌}
use Rattle.std.specs.List.{All}
use Rattle.std.proofs.lemmas.List.Elements.{All-push}
use Rattle.base_columns.specs.Lists.{one_list}
use Rattle.base_schema.specs.Kinds.{RowsAreOf}
use Rattle.store_versions.specs.Segments.{AreJoined}
use Rattle.store_versions.proofs.Neighbours.{kinds-more, rows-joined}
use Rattle.store_versions.proofs.compacted.joined_tables.Goals as goal

pub loop-name-preserved : goal.loop-name-preserved
loop-name-preserved c = record {
  rows = rows-joined (λ segments. one_list segments.items) c.args.state.now
      c.loop-name.tables.items c.push.new.self.items c.in_ok-segments.segments c.args.names.now
      c.loop-name.name-index _ c.loop-name-test.true c.in_ok-push.ensures.items
      c.loop-name.invariant.rows (c.in_ok-segments.ensures.rows ∙ c.parts.ensures.rows);
  joined = subst (All (λ segments. AreJoined segments.items)) (sym c.in_ok-push.ensures.items)
      (All-push (λ segments. AreJoined segments.items) c.loop-name.tables.items
      c.in_ok-segments.segments c.loop-name.invariant.joined c.in_ok-segments.ensures.joined);
  kinds = kinds-more c.args.state.now c.args.names.now c.loop-name.name-index _
      c.loop-name-test.true c.loop-name.invariant.kinds
      (subst (RowsAreOf _) c.parts.ensures.rows c.parts.ensures.kinds);
}
