use Rattle.std.proofs.Common.{sym}
use Rattle.base_columns.proofs.Kept.{relation-all_kept}
use Rattle.base_columns.proofs.batch.Batch.keep.Goals as goal

pub returns-then-are_all_true-clause-rows : goal.returns-then-are_all_true-clause-rows
returns-then-are_all_true-clause-rows c f e =
    relation-all_kept c.args.self c.self.inside.columns.items c.self.inside.standings c.args.truths.now f (sym c.self.view_is) c.requires.long (c.are_all_true.ensures c.if-are_all_true.true) e
