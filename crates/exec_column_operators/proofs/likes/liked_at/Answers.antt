use Rattle.std.proofs.Common.{slice_index_or}
use Rattle.base_value.specs.declared.value.Value.TheVariants.{Null}
use Rattle.exec_column_operators.proofs.PlainParts.{unlike_value}
use Rattle.exec_column_operators.proofs.likes.liked_at.Goals as goal

pub returns-then-is_none : goal.returns-then-is_none
returns-then-is_none c =
    unlike_value c.args.pattern.now c.args.finder.now c.in-Some.text.now (slice_index_or c.args.a.now c.args.i Null) c.find.result
    c.in-Some.ensures.value c.requires.part c.find.ensures c.if-is_none.ensures
