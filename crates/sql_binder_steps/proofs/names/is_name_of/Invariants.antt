use Rattle.std.proofs.Common.{◌≡◌, length}
use Rattle.std.specs.List.{list_any}
use Rattle.std.specs.Str.{bytes_eq}
use Rattle.sql_binder_steps.specs.declared.view.View.{View}
use Rattle.sql_binder_steps.proofs.names.is_name_of.Given as goal

abbrev pub invariant-views : goal.invariant-views
invariant-views l = list_any (λ (v : View). bytes_eq v.name l.name) l.fn.views ≡ list_any (λ (v : View). bytes_eq v.name l.name) l.views

abbrev pub decreases-views : goal.decreases-views
decreases-views l = length l.views
