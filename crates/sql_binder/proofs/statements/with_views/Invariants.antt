use Rattle.std.proofs.Common.{◌≡◌, [], length}
use Rattle.sql_binder.specs.Binding.{with_views_from}
use Rattle.sql_binder.proofs.statements.with_views.Given as goal

abbrev pub invariant-queries : goal.invariant-queries
invariant-queries l =
    with_views_from [] l.queries l.session ≡ with_views_from l.done l.left l.session

abbrev pub decreases-queries : goal.decreases-queries
decreases-queries l = length l.left
