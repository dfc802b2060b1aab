-- The arms of the lowering, as the code reads each tree.
use Rattle.std.proofs.Common.{◌≡◌, ℕ, ◌+◌, ◌≤◌, List, [], ◌++◌, map, sym, ◌∙◌, ap, subst, arith}
use Rattle.std.specs.List.{range_with_len}
use Rattle.base_row_laws.specs.Matched.{side_matched}
use Rattle.base_row_laws.specs.Trees.{side_width}
use Rattle.expr_scalar.specs.declared.expr.Expr.{Expr}
use Rattle.expr_scalar.specs.declared.expr.Expr.TheVariants.{Column}
use Rattle.base_set_rows.specs.declared.kind.SetOperation.{SetOperation}
use Rattle.base_schema.specs.declared.table.TableName.{TableName}
use Rattle.plan_algebra.specs.declared.kept_plan.KeptPlan.{KeptPlan}
use Rattle.plan_algebra.specs.declared.aggregate.Aggregate.{Aggregate}
use Rattle.plan_algebra.specs.declared.node.Node.{Node}
use Rattle.plan_algebra.specs.declared.node.Node.TheVariants as node
use Rattle.plan_algebra.specs.declared.tree.DepTree.{DepTree}
use Rattle.plan_algebra.specs.declared.tree.DepTree.TheVariants as t
use Rattle.plan_algebra.specs.declared.tree.DepTree.TheOpen as o
use Rattle.plan_algebra.specs.declared.tree.Side.{Side}
use Rattle.plan_algebra.specs.declared.tree.Side.TheVariants.{Closed, Shared, Dependent}
use Rattle.plan_algebra.specs.Trees.{TreeMeaning, tree_step, tree_meaning, width_of, side_of, combined}
use Rattle.std.proofs.lemmas.Bool.{ne_eqb}
use Rattle.plan_algebra.specs.Plans.{plan_width}
use Rattle.plan_algebra.proofs.Opened.{meaning_Scan, meaning_Kept, meaning_Select, meaning_Project, meaning_Join, meaning_Outer, meaning_Mark, meaning_Single, meaning_Group, meaning_Distinct, meaning_Set, left_is}
use Rattle.plan_unnested_nodes.specs.declared.footing.Footing.{Footing}
use Rattle.plan_unnested_nodes.specs.declared.footing.FootingRows.TheVariants.{One}
use Rattle.plan_unnested_nodes.specs.declared.domain.DomainRows.{DomainRows}
use Rattle.plan_unnested_nodes.specs.Footings.{footing_width, IsFooting, Settles}
use Rattle.plan_unnested_nodes.specs.Growth.{IsPut}
use Rattle.plan_unnested_nodes.specs.Lowerings.{Lowers, LowersRight, LowersSides, IsOwnFooting, IsGrouped, IsTotal}
use Rattle.plan_unnested_nodes.proofs.Arms.{select_lowers, project_lowers, distinct_lowers}
use Rattle.plan_unnesting.proofs.Both.{sides, join_lowers, outer_lowers, mark_lowers, single_lowers, set_lowers, set_wide}
use Rattle.plan_unnesting.proofs.Groups.{group_lowers, total_put}
use Rattle.plan_unnested_nodes.proofs.Sides.{shared_right, closed_right, own_right}

means : {before new : List Node} {m k : TreeMeaning} {f g : Footing} {id : ℕ} → m ≡ k → Lowers before new k f g id → Lowers before new m f g id
means {before = before} {new = new} {f = f} {g = g} {id = id} e l = subst (λ k. Lowers before new k f g id) (sym e) l

read_as : {before new : List Node} {seen input : DepTree} {f g : Footing} {id : ℕ} → seen ≡ input → Lowers before new (tree_meaning seen) f g id → Lowers before new (tree_meaning input) f g id
read_as {before = before} {new = new} {f = f} {g = g} {id = id} e l = subst (λ y. Lowers before new (tree_meaning y) f g id) e l

read_right : {before new : List Node} {seen input : DepTree} {side : Side} {f g : Footing} {outer id : ℕ} → seen ≡ input → LowersRight before new (tree_meaning seen) side f g outer id
    → LowersRight before new (tree_meaning input) side f g outer id
read_right {before = before} {new = new} {side = side} {f = f} {g = g} {outer = outer} {id = id} e l = subst (λ y. LowersRight before new (tree_meaning y) side f g outer id) e l

pub scan_arm : {before new : List Node} {tree : DepTree} {table : TableName} {f g : Footing} {id : ℕ} → tree ≡ t.Scan table
    → Lowers before new (tree_step (o.Scan table)) f g id → Lowers before new (tree_meaning tree) f g id
scan_arm {table = table} is l = means (ap tree_meaning is ∙ meaning_Scan table) l

pub kept_arm : {before new : List Node} {tree : DepTree} {number : ℕ} {plan : KeptPlan} {f g : Footing} {id : ℕ} → tree ≡ t.Kept number plan
    → Lowers before new (tree_step (o.Kept number plan)) f g id → Lowers before new (tree_meaning tree) f g id
kept_arm {number = number} {plan = plan} is l = means (ap tree_meaning is ∙ meaning_Kept number plan) l

pub select_arm : {before old new : List Node} {tree input seen : DepTree} {condition read : Expr} {f g : Footing} {rows id : ℕ} → tree ≡ t.Select input condition → seen ≡ input
    → Lowers before old (tree_meaning seen) f g rows → read ≡ condition → IsPut old new (node.Select rows read) id → Lowers before new (tree_meaning tree) f g id
select_arm {before = before} {old = old} {new = new} {input = input} {condition = condition} {f = f} {g = g} {rows = rows} {id = id} is e l r p =
    means (ap tree_meaning is ∙ meaning_Select input condition)
    (select_lowers before old new (tree_meaning input) f g rows id condition (read_as e l) (subst (λ c. IsPut old new (node.Select rows c) id) r p))

pub selection_arm : {before new : List Node} {tree input seen : DepTree} {table : TableName} {condition read : Expr} {f g : Footing} {id : ℕ}
    → tree ≡ t.Select input condition → seen ≡ input → seen ≡ t.Scan table → read ≡ condition → Lowers before new (tree_step (o.Select (tree_step (o.Scan table)) read)) f g id
    → Lowers before new (tree_meaning tree) f g id
selection_arm {before = before} {new = new} {input = input} {table = table} {condition = condition} {f = f} {g = g} {id = id} is e s r l =
    means (ap tree_meaning is ∙ meaning_Select input condition ∙ ap (λ m. tree_step (o.Select m condition)) (ap tree_meaning (sym e ∙ s) ∙ meaning_Scan table))
    (subst (λ c. Lowers before new (tree_step (o.Select (tree_step (o.Scan table)) c)) f g id) r l)

pub project_arm : {before old new : List Node} {tree input seen : DepTree} {es read : List Expr} {f g : Footing} {rows w id : ℕ} → tree ≡ t.Project input es → seen ≡ input
    → Lowers before old (tree_meaning seen) f g rows → w ≡ footing_width f.rows → read ≡ es → IsPut old new (node.Project rows (map Column (range_with_len 0 w) ++ read)) id
    → Lowers before new (tree_meaning tree) f g id
project_arm {before = before} {old = old} {new = new} {input = input} {es = es} {read = read} {f = f} {g = g} {rows = rows} {id = id} is e l w r p =
    means (ap tree_meaning is ∙ meaning_Project input es)
    (project_lowers before old new (tree_meaning input) f g rows id es (read_as e l)
    (subst (λ c. IsPut old new (node.Project rows (map Column (range_with_len 0 (footing_width f.rows)) ++ c)) id) r
    (subst (λ n. IsPut old new (node.Project rows (map Column (range_with_len 0 n) ++ read)) id) w p)))

pub distinct_arm : {before old new : List Node} {tree input seen : DepTree} {f g : Footing} {rows id : ℕ} → tree ≡ t.Distinct input → seen ≡ input
    → Lowers before old (tree_meaning seen) f g rows → IsPut old new (node.Distinct rows) id → Lowers before new (tree_meaning tree) f g id
distinct_arm {before = before} {old = old} {new = new} {input = input} {f = f} {g = g} {rows = rows} {id = id} is e l p =
    means (ap tree_meaning is ∙ meaning_Distinct input) (distinct_lowers before old new (tree_meaning input) f g rows id (read_as e l) p)

pub group_arm : {before old new : List Node} {tree input seen : DepTree} {by columns : List ℕ} {aggregates read : List Aggregate} {f g : Footing} {rows w id : ℕ} → (columns ≡ [] → ⊥)
    → tree ≡ t.Group input by aggregates → w ≡ footing_width f.rows → seen ≡ input → Lowers before old (tree_meaning seen) f g rows → columns ≡ by → read ≡ aggregates
    → IsGrouped old new rows w columns read id → Lowers before new (tree_meaning tree) f g id
group_arm {before = before} {old = old} {new = new} {input = input} {by = by} {columns = columns} {aggregates = aggregates} {read = read} {f = f} {g = g} {rows = rows} {id = id} some is w e l c r p =
    means (ap tree_meaning is ∙ meaning_Group input by aggregates)
    (group_lowers before old new (tree_meaning input) f g rows id by aggregates (λ none. some (c ∙ none)) (read_as e l)
    (subst (λ a. IsGrouped old new rows (footing_width f.rows) by a id) r
    (subst (λ b. IsGrouped old new rows (footing_width f.rows) b read id) c
    (subst (λ n. IsGrouped old new rows n columns read id) w p))))

pub total_arm : {before mid old new : List Node} {tree input seen : DepTree} {by columns : List ℕ} {aggregates read : List Aggregate} {f g h : Footing} {r : DomainRows} {rows id : ℕ}
    → columns ≡ [] → tree ≡ t.Group input by aggregates → Settles before mid f g r → seen ≡ input → Lowers mid old (tree_meaning seen) g h rows → columns ≡ by → read ≡ aggregates
    → IsTotal old new rows read r id → Lowers before new (tree_meaning tree) f h id
total_arm {old = old} {new = new} {input = input} {by = by} {aggregates = aggregates} {r = r} {rows = rows} {id = id} none is s e l c a p =
    means (ap tree_meaning is ∙ meaning_Group input by aggregates ∙ ap (λ b. tree_step (o.Group (tree_meaning input) b aggregates)) (sym c ∙ none))
    (total_put aggregates s (read_as e l) (subst (λ x. IsTotal old new rows x r id) a p))

-- two sides, as the code reads them
seen_sides : {before a c : List Node} {left right seen_left seen_right : DepTree} {side : Side} {f g h : Footing} {outer rows : ℕ}
    → seen_left ≡ left → Lowers before a (tree_meaning seen_left) f g outer → seen_right ≡ right
    → LowersRight a c (tree_meaning seen_right) side g h outer rows → LowersSides before c (tree_meaning left) (tree_meaning right) side f h outer rows
seen_sides {before = before} {a = a} {c = c} {left = left} {right = right} {side = side} {f = f} {g = g} {h = h} {outer = outer} {rows = rows} e l i r =
    sides before a c (tree_meaning left) (tree_meaning right) side f g h outer rows (read_as e l) (read_right i r)

pub join_arm : {before a c new : List Node} {tree left right seen_left seen_right : DepTree} {side : Side} {on read : Expr} {f g h : Footing} {outer rows w id : ℕ}
    → tree ≡ t.Join left right side on → w ≡ footing_width f.rows → seen_left ≡ left → Lowers before a (tree_meaning seen_left) f g outer → seen_right ≡ right
    → LowersRight a c (tree_meaning seen_right) side g h outer rows → read ≡ on → IsPut c new (node.Join outer rows (side_matched (side_of side) w) read) id
    → Lowers before new (tree_meaning tree) f h id
join_arm {before = before} {c = c} {new = new} {left = left} {right = right} {side = side} {on = on} {read = read} {f = f} {h = h} {outer = outer} {rows = rows} {id = id} is w e l i r q p =
    means (ap tree_meaning is ∙ meaning_Join left right side on)
    (join_lowers before c new (tree_meaning left) (tree_meaning right) side f h outer rows id on (seen_sides e l i r)
    (subst (λ x. IsPut c new (node.Join outer rows (side_matched (side_of side) (footing_width f.rows)) x) id) q
    (subst (λ n. IsPut c new (node.Join outer rows (side_matched (side_of side) n) read) id) w p)))

pub outer_arm : {before a c new : List Node} {tree left right seen_left seen_right wide : DepTree} {side : Side} {on read : Expr} {f g h : Footing} {outer rows w nulls id : ℕ}
    → tree ≡ t.Outer left right side on → w ≡ footing_width f.rows → seen_left ≡ left → Lowers before a (tree_meaning seen_left) f g outer → seen_right ≡ right
    → LowersRight a c (tree_meaning seen_right) side g h outer rows → wide ≡ right → nulls ≡ width_of wide → read ≡ on
    → IsPut c new (node.Outer outer rows (side_matched (side_of side) w) nulls read) id → Lowers before new (tree_meaning tree) f h id
unfolding width_of
outer_arm {before = before} {c = c} {new = new} {left = left} {right = right} {side = side} {on = on} {read = read} {f = f} {h = h} {outer = outer} {rows = rows} {nulls = nulls} {id = id} is w e l i r v k q p =
    means (ap tree_meaning is ∙ meaning_Outer left right side on)
    (outer_lowers before c new (tree_meaning left) (tree_meaning right) side f h outer rows nulls id on (seen_sides e l i r)
    (k ∙ ap (λ y. (tree_meaning y).width) v)
    (subst (λ x. IsPut c new (node.Outer outer rows (side_matched (side_of side) (footing_width f.rows)) nulls x) id) q
    (subst (λ n. IsPut c new (node.Outer outer rows (side_matched (side_of side) n) nulls read) id) w p)))

pub mark_arm : {before a c new : List Node} {tree left right seen_left seen_right : DepTree} {side : Side} {on read : Expr} {f g h : Footing} {outer rows w id : ℕ}
    → tree ≡ t.Mark left right side on → w ≡ footing_width f.rows → seen_left ≡ left → Lowers before a (tree_meaning seen_left) f g outer → seen_right ≡ right
    → LowersRight a c (tree_meaning seen_right) side g h outer rows → read ≡ on → IsPut c new (node.Mark outer rows (side_matched (side_of side) w) read) id
    → Lowers before new (tree_meaning tree) f h id
mark_arm {before = before} {c = c} {new = new} {left = left} {right = right} {side = side} {on = on} {read = read} {f = f} {h = h} {outer = outer} {rows = rows} {id = id} is w e l i r q p =
    means (ap tree_meaning is ∙ meaning_Mark left right side on)
    (mark_lowers before c new (tree_meaning left) (tree_meaning right) side f h outer rows id on (seen_sides e l i r)
    (subst (λ x. IsPut c new (node.Mark outer rows (side_matched (side_of side) (footing_width f.rows)) x) id) q
    (subst (λ n. IsPut c new (node.Mark outer rows (side_matched (side_of side) n) read) id) w p)))

pub single_arm : {before a c new : List Node} {tree left right seen_left seen_right : DepTree} {side : Side} {f g h : Footing} {outer rows w column id : ℕ}
    → tree ≡ t.Single left right side column → w ≡ footing_width f.rows → seen_left ≡ left → Lowers before a (tree_meaning seen_left) f g outer → seen_right ≡ right
    → LowersRight a c (tree_meaning seen_right) side g h outer rows → IsPut c new (node.Single outer rows (side_matched (side_of side) w) column) id
    → Lowers before new (tree_meaning tree) f h id
single_arm {before = before} {c = c} {new = new} {left = left} {right = right} {side = side} {f = f} {h = h} {outer = outer} {rows = rows} {column = column} {id = id} is w e l i r p =
    means (ap tree_meaning is ∙ meaning_Single left right side column)
    (single_lowers before c new (tree_meaning left) (tree_meaning right) side f h outer rows id column (seen_sides e l i r)
    (subst (λ n. IsPut c new (node.Single outer rows (side_matched (side_of side) n) column) id) w p))

-- the right side of an outer join has as many columns of its own as there are nulls
pub outer_wide : {before a c : List Node} {right seen_right wide : DepTree} {m : TreeMeaning} {side : Side} {f g h : Footing} {outer rows w nulls : ℕ} → w ≡ footing_width f.rows
    → Lowers before a m f g outer → seen_right ≡ right → LowersRight a c (tree_meaning seen_right) side g h outer rows → wide ≡ right → nulls ≡ width_of wide
    → plan_width c rows ≡ side_width (side_of side) w + nulls
unfolding width_of
outer_wide {seen_right = seen} {side = side} {g = g} {w = w} {nulls = nulls} e l i r v k =
    r.width ∙ ap (λ n. side_width (side_of side) n + (tree_meaning seen).width) (l.same.width ∙ sym e)
    ∙ ap (λ y. side_width (side_of side) w + (tree_meaning y).width) (i ∙ sym v) ∙ ap (λ n. side_width (side_of side) w + n) (sym k)

-- a right side is wide enough for the pairs that match it
pub right_wide : {before a c : List Node} {m k : TreeMeaning} {side : Side} {f g h : Footing} {outer rows w : ℕ} → w ≡ footing_width f.rows → Lowers before a m f g outer
    → LowersRight a c k side g h outer rows → side_width (side_of side) w ≤ plan_width c rows
right_wide {side = side} e l r =
    let z = r.width in let s = ap (λ n. side_width (side_of side) n) (e ∙ sym l.same.width) in omega (arith, z, s)

-- the right side of each kind, as the code reads it
pub shared_arm : {before new : List Node} {right seen : DepTree} {side : Side} {f g : Footing} {id : ℕ} (outer : ℕ) → side ≡ Shared → seen ≡ right → Lowers before new (tree_meaning seen) f g id
    → LowersRight before new (tree_meaning right) side f g outer id
shared_arm {before = before} {new = new} {right = right} {f = f} {g = g} {id = id} outer is e l =
    subst (λ s. LowersRight before new (tree_meaning right) s f g outer id) (sym is) (shared_right outer (read_as e l))

pub closed_arm : {before new : List Node} {right seen : DepTree} {side : Side} {first last : Footing} {id : ℕ} (f : Footing) (outer : ℕ) → IsFooting before f.rows → side ≡ Closed → seen ≡ right
    → first.rows ≡ One → first.unchanged ≡ [] → Lowers before new (tree_meaning seen) first last id → LowersRight before new (tree_meaning right) side f f outer id
closed_arm {before = before} {new = new} {right = right} {id = id} f outer within is e one none l =
    subst (λ s. LowersRight before new (tree_meaning right) s f f outer id) (sym is) (closed_right f outer within one none (read_as e l))

pub own_arm : {before new : List Node} {right seen : DepTree} {side : Side} {cs read : List ℕ} {first last : Footing} {id : ℕ} (f : Footing) (outer : ℕ) → IsFooting before f.rows → side ≡ Dependent cs
    → read ≡ cs → seen ≡ right → IsOwnFooting before outer read first → Lowers before new (tree_meaning seen) first last id → LowersRight before new (tree_meaning right) side f f outer id
own_arm {before = before} {new = new} {right = right} {read = read} {id = id} f outer within is c e own l =
    subst (λ s. LowersRight before new (tree_meaning right) s f f outer id) (sym (is ∙ ap (λ (l : List ℕ). Dependent l) (sym c))) (own_right f outer within own (read_as e l))

-- the sides of a set operation
set_sides : {before a c : List Node} {left right seen other : DepTree} {f g h : Footing} {outer rows : ℕ} → seen ≡ left → Lowers before a (tree_meaning seen) f g outer → other ≡ right
    → Lowers a c (tree_meaning other) g h rows → LowersSides before c (tree_meaning left) (tree_meaning right) Shared f h outer rows
set_sides {before = before} {a = a} {c = c} {left = left} {right = right} {f = f} {g = g} {h = h} {outer = outer} {rows = rows} e l x r =
    sides before a c (tree_meaning left) (tree_meaning right) Shared f g h outer rows (read_as e l) (shared_right outer (read_as x r))

even_sides : {left right seen other : DepTree} {v w : ℕ} → seen ≡ left → v ≡ width_of seen → other ≡ right → w ≡ width_of other → v ≡ w → (tree_meaning left).width ≡ (tree_meaning right).width
unfolding width_of
even_sides e v x w s = ap width_of (sym e) ∙ sym v ∙ s ∙ w ∙ ap width_of x

-- of trees of one width
pub set_put : {before a c new : List Node} {left right seen seen' other other' : DepTree} {operation : SetOperation} {f g h : Footing} {v w outer rows id : ℕ}
    → seen ≡ left → v ≡ width_of seen → other ≡ right → w ≡ width_of other → v ≡ w → seen' ≡ left → Lowers before a (tree_meaning seen') f g outer → other' ≡ right
    → Lowers a c (tree_meaning other') g h rows → IsPut c new (node.Set outer rows operation) id → Lowers before new (combined operation (tree_meaning left) (tree_meaning right)) f h id
set_put {before = before} {c = c} {new = new} {left = left} {right = right} {operation = operation} {f = f} {h = h} {outer = outer} {rows = rows} {id = id} e v x w s e' l x' r p =
    set_lowers before c new (tree_meaning left) (tree_meaning right) operation f h outer rows id (even_sides e v x w s) (set_sides e' l x' r) p

-- both sides are then of one width
pub set_even : {before a c : List Node} {left right seen seen' other other' : DepTree} {f g h : Footing} {v w outer rows : ℕ}
    → seen ≡ left → v ≡ width_of seen → other ≡ right → w ≡ width_of other → v ≡ w → seen' ≡ left → Lowers before a (tree_meaning seen') f g outer → other' ≡ right
    → Lowers a c (tree_meaning other') g h rows → plan_width c outer ≡ plan_width c rows
set_even e v x w s e' l x' r = set_wide (even_sides e v x w s) (set_sides e' l x' r)

-- of trees of different widths
pub set_left : {before new : List Node} {left right seen seen' other : DepTree} {f g : Footing} {v w id : ℕ} (operation : SetOperation)
    → seen ≡ left → v ≡ width_of seen → other ≡ right → w ≡ width_of other → (v ≡ w → ⊥) → seen' ≡ left → Lowers before new (tree_meaning seen') f g id
    → Lowers before new (combined operation (tree_meaning left) (tree_meaning right)) f g id
unfolding width_of
set_left {left = left} {right = right} operation e v x w ne e' l =
    means (left_is operation (tree_meaning left) (tree_meaning right) (ne_eqb (width_of left) (width_of right) (λ s. ne (v ∙ ap width_of e ∙ s ∙ sym (w ∙ ap width_of x))))) (read_as e' l)

pub set_arm : {before new : List Node} {tree : DepTree} {f g : Footing} {id : ℕ} (left right : DepTree) (operation : SetOperation) → tree ≡ t.Set left right operation
    → Lowers before new (combined operation (tree_meaning left) (tree_meaning right)) f g id → Lowers before new (tree_meaning tree) f g id
set_arm left right operation is l = means (ap tree_meaning is ∙ meaning_Set left right operation) l
