use Rattle.std.proofs.Common.{◌≡◌, length}
use Rattle.store_kept_views.proofs.bag.forms_of.Given as goal

abbrev pub invariant-loop-value : goal.invariant-loop-value
invariant-loop-value l = length l.forms.items ≡ l.value-index
