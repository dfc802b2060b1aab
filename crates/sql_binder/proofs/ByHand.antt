-- Small facts for the goals that are answered by hand.
use Rattle.std.proofs.Common.{◌≡◌, ℕ, ◌≤◌, List, [], ◌∷◌, length, map, get_or, refl, sym}
use Rattle.std.proofs.Common.{subst, arith}
use Rattle.std.specs.Prelude.{None, true}
use Rattle.base_row_laws.specs.Bags.{Each}
use Rattle.sql_binder_steps.specs.declared.scope.Level.{Level}
use Rattle.sql_binder_steps.specs.declared.scope.ScopeColumn.{ScopeColumn}
use Rattle.sql_binder_steps.specs.Names.{Sight, level_of}
use Rattle.sql_binder_steps.specs.Parts.{hiding}
use Rattle.sql_binder_steps.proofs.Small.{one_more}

-- what holds of each item of a list holds of its first
pub each_head : {X : Type 0} (P : X → Type 0) (xs : List X) (x : X) → 1 ≤ length xs
    → x ≡ get_or xs 0 x → Each P xs → P x
each_head P [] x h e p = absurd (omega (arith, h))
each_head P (y ∷ ys) x h e p = subst P (sym e) p.0

-- the sight of a derived table, as its code makes it
pub hides : (sight : Sight) (left : List ScopeColumn) (ls slice : List Level) (n : ℕ)
    → map level_of ls ≡ record { columns = left; keys = None } ∷ sight.levels
    → slice ≡ ls → n ≡ length slice
    → (let x : Sight = record {
      views = sight.views;
      levels = map level_of slice;
      hidden = n;
      takes_subqueries = true;
    } in x ≡ hiding sight left)
unfolding hiding
hides sight left ls slice n e same is =
    let many = one_more ls (record { columns = left; keys = None }) sight.levels e in
    rw (is, same, many, e) refl
