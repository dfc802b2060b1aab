-- Small facts that the code's arms ask for.
use Rattle.std.proofs.Common.{◌≡◌, ◌+◌, List, [], ◌∷◌, ◌++◌, suc, length, map, refl, sym, ap, arith}
use Rattle.std.proofs.Common.{Bool, true, false, if◌then◌else◌, Option, Some, None}
use Rattle.std.specs.Str.{bytes_eq}
use Rattle.expr_scalar.specs.declared.expr.Expr.{Expr}
use Rattle.sql_binder_steps.specs.declared.from.NamedItem.{NamedItem}
use Rattle.sql_binder_steps.specs.declared.scope.Level.{Level}
use Rattle.sql_binder_steps.specs.declared.view.View.{View}
use Rattle.sql_binder_steps.specs.Names.{Around, level_of}
use Rattle.sql_binder_steps.specs.Parts.{view_item, view_named}
use Rattle.sql_binder_steps.specs.Steps.{Name}
use Rattle.sql_binder_steps.specs.Values.{branches}

pub branches_of_none : (whens gives : List Expr) → gives ≡ [] → branches whens gives ≡ []
branches_of_none [] gives e = refl
branches_of_none (w ∷ whens) [] e = refl
branches_of_none (w ∷ whens) (g ∷ gives) e = cc

levels_length : (ls : List Level) → length (map level_of ls) ≡ length ls
levels_length [] = refl
levels_length (l ∷ ls) = ap (λ n. suc n) (levels_length ls)

-- one level more than there are queries around
pub one_more : (ls : List Level) (l : Around) (outer : List Around) → map level_of ls ≡ l ∷ outer
    → length ls ≡ length outer + 1
one_more ls l outer e =
    let a = levels_length ls in
    let b : length (map level_of ls) ≡ suc (length outer) = ap length e in
    omega (arith, a, b)

front_step : (b : Bool) (w i : NamedItem) (y z : Option NamedItem)
    → (let x : Option NamedItem = if b then Some w else y in Some i ≡ x)
    → (Some i ≡ y → z ≡ Some i) → (let x : Option NamedItem = if b then Some w else z in x ≡ Some i)
front_step true w i y z h next = sym h
front_step false w i y z h next = next h

-- the first view of a name where one stands in front
pub named_in_front : (name : Name) (i : NamedItem) (front behind : List View)
    → Some i ≡ view_named name front → view_named name (front ++ behind) ≡ Some i
named_in_front name i [] behind h = cc
named_in_front name i (v ∷ front) behind h =
    front_step (bytes_eq v.name name) (view_item v) i (view_named name front)
    (view_named name (front ++ behind)) h (λ e. named_in_front name i front behind e)

behind_step : (b : Bool) (w : NamedItem) (y z o : Option NamedItem)
    → (let x : Option NamedItem = if b then Some w else y in None ≡ x)
    → (None ≡ y → z ≡ o) → (let x : Option NamedItem = if b then Some w else z in x ≡ o)
behind_step true w y z o h next = cc
behind_step false w y z o h next = next h

-- and where none does
pub named_behind : (name : Name) (front behind : List View) → None ≡ view_named name front
    → view_named name (front ++ behind) ≡ view_named name behind
named_behind name [] behind h = refl
named_behind name (v ∷ front) behind h =
    behind_step (bytes_eq v.name name) (view_item v) (view_named name front)
    (view_named name (front ++ behind)) (view_named name behind) h
    (λ e. named_behind name front behind e)
