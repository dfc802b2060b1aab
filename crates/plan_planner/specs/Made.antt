-- What making a view answers.
use Rattle.std.specs.Prelude.{◌≡◌, ℕ, List, [], ◌∷◌, ◌++◌, Result, Ok, Err, Some}
use Rattle.sql_ast.specs.declared.tree.Block.{Block}
use Rattle.sql_binder.specs.Binding.{bound_view}
use Rattle.sql_binder_steps.specs.declared.fault.BindFault.{BindFault}
use Rattle.sql_binder_steps.specs.declared.view.View.{View}
use Rattle.sql_binder_steps.specs.Steps.{Checked, Gives, Name, and_then}

-- the view of that number whose rows are kept, bound over no other
abbrev pub kept_view : ℕ → Name → Block → Checked View
kept_view number name q =
    and_then (bound_view name [] q []) (λ v. Ok (record v { kept = Some number }))

-- The bound view stands after the others; one that is refused, as its binding is, leaves them, and
-- so does one for which memory ran out.
abbrev pub Makes : Checked View → List View → List View → Result (Unit {0}) BindFault → Type 0
Makes said old new (Ok done) = (view : View) × (said ≡ Ok view) × (new ≡ old ++ view ∷ [])
Makes said old new (Err why) = Gives said (Err why) × (new ≡ old)
