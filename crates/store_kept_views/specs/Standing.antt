-- What a table of groups stands for.
use Rattle.std.specs.Prelude.{◌≡◌, List, [], ◌++◌, map}
use Rattle.std.specs.Prelude.{Bool, cond, Option, Some, None}
use Rattle.std.specs.List.{filter}
use Rattle.std.specs.Option.{is_some}
use Rattle.base_row_laws.specs.Ranked.{Ranked}
use Rattle.base_row_laws.specs.Bags.{has}
use Rattle.base_value.specs.declared.value.Value.{Value}
use Rattle.plan_algebra.specs.declared.kept_plan.KeptAggregate.{KeptAggregate}
use Rattle.plan_algebra.specs.declared.kept_plan.KeptPlan.{KeptPlan}
use Rattle.plan_algebra.specs.KeptPlans.{item_of, selected, key_of}
use Rattle.store_groups.specs.Entries.{Entries, group_at, same_key}
use Rattle.store_groups.specs.Groups.{Group}
use Rattle.store_state.specs.Moves.{IsMoved}
use Rattle.store_kept_views.specs.RowGroups.{group_of}

-- the rows of a key
abbrev pub rows_at : KeptPlan → List Value → List (Ranked Value) → List (Ranked Value)
rows_at p q ys = filter (λ y. same_key (key_of p y.values) q) ys

-- the group of a key's rows, if there are any
unfoldable pub made_at : KeptPlan → List Value → List (Ranked Value) → Option Group
made_at p q ys = cond (has same_key q (map (λ y. key_of p y.values) ys))
    (Some (group_of p.aggregates (rows_at p q ys))) None

-- the groups are those of the rows
abbrev pub StandsFor : KeptPlan → Entries → List (List Value) → Type 0
StandsFor p es rows = (q : List Value) → group_at es q ≡ made_at p q (selected p rows)

-- the key is one of those that are made anew
abbrev pub is_stale : Entries → List Value → Bool
is_stale stale q = is_some (group_at stale q)

-- the groups of the keys that are made anew are those of some rows, the others those of others
abbrev pub StandsBy : KeptPlan → Entries → Entries → List (Ranked Value) → List (Ranked Value)
    → Type 0
StandsBy p es stale xs ys = (q : List Value)
    → group_at es q ≡ cond (is_stale stale q) (made_at p q xs) (made_at p q ys)

-- rows are among those that a table stands for
pub record CanTakeAll (p : KeptPlan) (es stale : Entries) (ys : List (Ranked Value)) : Type 0 where
  pub left : List (Ranked Value)
  pub stands : StandsBy p es stale [] (ys ++ left)

-- a table stands for some rows
pub record CanAdd (p : KeptPlan) (es stale : Entries) : Type 0 where
  pub anew : List (Ranked Value)
  pub others : List (Ranked Value)
  pub stands : StandsBy p es stale anew others

-- the arguments of the aggregates in a row
abbrev pub arguments_in : List KeptAggregate → List Value → List Value
arguments_in ags row = map (λ a. (item_of a).0 row) ags

-- a table stands for rows, which are moved to others
pub record CanMove (p : KeptPlan) (es : Entries) (added removed rows : List (List Value)) : Type 0
  where
    pub old : List (List Value)
    pub moved : IsMoved old added removed rows
    pub stands : StandsFor p es old
