-- The views of a session.
use Rattle.std.specs.Prelude.{ℕ, List, [], ◌∷◌, ◌++◌, Bool, ◌||◌, is_some, Option, None, Some}
use Rattle.std.specs.Prelude.{Result, Ok, Err, if◌then◌else◌, position, remove}
use Rattle.std.specs.Str.{bytes_eq}
use Rattle.base_refusals.specs.declared.statement.Refusal.{Refusal}
use Rattle.base_refusals.specs.declared.statement.Refusal.TheVariants.{Bind, ViewExists}
use Rattle.sql_ast.specs.declared.statement.Statement.{Statement}
use Rattle.sql_ast.specs.declared.statement.Statement.TheVariants.{CreateView, DropView}
use Rattle.sql_ast.specs.declared.tree.Block.{Block}
use Rattle.sql_binder.specs.Binding.{bound_view}
use Rattle.sql_binder_steps.specs.Steps.{Checked, Name}
use Rattle.sql_binder_steps.specs.declared.view.View.{View}
use Rattle.base_schema.specs.Tables.{table_of}

-- the place of the first view of that name, counted from 0
abbrev pub place_of_view : Name → List View → Option ℕ
place_of_view name views = position (λ v. bytes_eq v.name name) views

-- a view has the name
abbrev pub is_view : Name → List View → Bool
is_view name views = is_some (place_of_view name views)

-- a table or a view has the name
abbrev pub is_taken : Name → List View → Bool
is_taken name views = is_some (table_of name) || is_view name views

-- a bound view, or why a query is not bound, as a statement's refusal
abbrev pub view_or_refusal : Checked View → Result View Refusal
view_or_refusal (Ok view) = Ok view
view_or_refusal (Err why) = Err (Bind why)

-- the view that is made, or why none is: first a name that is taken, then what its query is refused
-- for
abbrev pub made_view : Name → List Name → Block → List View → Result View Refusal
made_view name names q views =
    if is_taken name views then Err ViewExists else view_or_refusal (bound_view name names q views)

-- the views with one that is made; a refused one leaves them
abbrev pub with_made : List View → Result View Refusal → List View
with_made views (Ok view) = views ++ view ∷ []
with_made views (Err refusal) = views

-- the views without the one at a place, where there is one
abbrev pub without_place : Option ℕ → List View → List View
without_place None views = views
without_place (Some place) views = remove views place

-- the views without the first one of that name
abbrev pub without_view : Name → List View → List View
without_view name views = without_place (place_of_view name views) views

-- the views after a statement
abbrev pub views_after : List View → Statement → List View
views_after views (CreateView name names q) = with_made views (made_view name names q views)
views_after views (DropView name) = without_view name views
views_after views other = views
