-- Groups under each row of a domain.
use Rattle.std.proofs.Common.{◌≡◌, ℕ, zero, suc, ◌+◌, ◌<◌, List, [], ◌∷◌, ◌++◌, map, refl, sym, ◌∙◌, ap, subst, arith, length, take}
use Rattle.std.proofs.Common.{inl, inr}
use Rattle.std.specs.List.{All, range_with_len}
use Rattle.std.proofs.lemmas.List.{append-nil, length-append, length-map}
use Rattle.std.proofs.lemmas.List.Elements.{All-head}
use Rattle.std.proofs.lemmas.List.FromFn.{length-range_with_len}
use Rattle.base_row_laws.specs.Ranked.{Ranked, ranked, true_rank}
use Rattle.base_row_laws.specs.Rows.{columns}
use Rattle.base_row_laws.specs.Operators.{project, total, group_by, fill, or_else, partners}
use Rattle.base_row_laws.specs.Domains.{IsDomain, Answers}
use Rattle.base_row_laws.proofs.Lists.{flat_map-ext_each}
use Rattle.base_row_laws.proofs.Trees.{total_alone, without_fill, group_step, total_step}
use Rattle.base_value.specs.declared.value.Value.{Value}
use Rattle.base_value.specs.declared.value.Value.TheVariants.{Null}
use Rattle.base_value.specs.Value.{same_value}
use Rattle.base_value.proofs.Identity.{value_identity}
use Rattle.expr_scalar.specs.declared.expr.Expr.TheVariants.{Column}
use Rattle.expr_scalar.specs.Meaning.{values}
use Rattle.expr_conditions.specs.Ranks.{columns_from}
use Rattle.plan_algebra.specs.declared.aggregate.Aggregate.{Aggregate}
use Rattle.plan_algebra.specs.declared.node.Node.{Node}
use Rattle.plan_algebra.specs.declared.node.Node.TheVariants as node
use Rattle.plan_algebra.specs.declared.tree.DepTree.TheOpen as t
use Rattle.plan_algebra.specs.Aggregates.{aggregates_of}
use Rattle.plan_algebra.specs.Trees.{TreeMeaning, tree_step, keys_under, aggregates_under, groups_under}
use Rattle.plan_algebra.specs.Plans.{groups, plan_rows, plan_width}
use Rattle.plan_algebra.proofs.NoRows.{aggregates_bag, length-aggregates_of}
use Rattle.plan_unnested_nodes.specs.declared.domain.DomainRows.{DomainRows}
use Rattle.plan_unnested_nodes.specs.declared.domain.DomainRows.TheVariants as domain
use Rattle.plan_unnested_nodes.specs.declared.footing.Footing.{Footing}
use Rattle.plan_unnested_nodes.specs.declared.footing.FootingRows.TheVariants.{One, Node as AtNode}
use Rattle.plan_unnested_nodes.specs.Domains.{IsInPlan}
use Rattle.plan_unnested_nodes.specs.Footings.{footing_width, footing_rows, as_footing, IsFooting, Settles}
use Rattle.plan_unnested_nodes.specs.Growth.{IsPut}
use Rattle.plan_unnested_nodes.specs.Lowerings.{Lowers, IsFilled, IsGrouped, IsTotal, with_again}
use Rattle.plan_unnested_nodes.proofs.Grown.{same_plan, grown_length, put_more, kept_rows, kept_width, put_rows}
use Rattle.plan_unnested_nodes.proofs.Kept.{same_later, settled_first}
use Rattle.plan_unnested_nodes.proofs.Wide.{over_wide, grouped_wide, keyed_wide, groups_some}
use Rattle.plan_unnested_nodes.proofs.Arms.{puts}
use Rattle.plan_unnested_nodes.proofs.Regrouped.{regrouped_wide}

-- by columns of their own
some_groups : (c : ℕ) (cs : List ℕ) (aggregates : List Aggregate) (n : ℕ) (ds xs : List (Ranked Value)) (L : List Value → List (Ranked Value)) → IsDomain same_value n ds → Answers same_value ds xs L
    → Answers same_value ds (groups (range_with_len 0 n ++ c ∷ cs) aggregates xs) (λ d. groups_under (c ∷ cs) aggregates d (L d))
unfolding keys_under aggregates_under
some_groups c cs aggregates n ds xs L dom a =
    let A = aggregates_of aggregates in
    over_wide n ds xs (groups (range_with_len 0 n ++ c ∷ cs) aggregates xs) (group_by same_value (λ x. take n x ++ columns Null (c ∷ cs) x) A xs) L
    (λ d. groups_under (c ∷ cs) aggregates d (L d)) dom a
    (λ w. groups_some (range_with_len 0 n) c cs aggregates xs ∙ grouped_wide n (c ∷ cs) A xs w)
    (group_step same_value value_identity (columns Null (c ∷ cs)) A (aggregates_bag aggregates) n ds xs L dom a)

-- the same by columns of the domain, each grouped by once
some_again : (c : ℕ) (cs : List ℕ) (aggregates : List Aggregate) (n : ℕ)
    (ds xs : List (Ranked Value)) (L : List Value → List (Ranked Value))
    → IsDomain same_value n ds → Answers same_value ds xs L → All (λ b. b < n) (c ∷ cs)
    → Answers same_value ds
    (project (values (map Column (with_again n (c ∷ cs) (length aggregates))))
    (groups (range_with_len 0 n) aggregates xs))
    (λ d. groups_under (c ∷ cs) aggregates d (L d))
unfolding keys_under aggregates_under
some_again c cs aggregates zero ds xs L dom a below =
    let none = All-head (λ b. b < zero) c cs below in absurd (omega (arith, none))
some_again c cs aggregates (suc n) ds xs L dom a below =
    let A = aggregates_of aggregates in
    over_wide (suc n) ds xs
    (project (values (map Column (with_again (suc n) (c ∷ cs) (length aggregates))))
    (groups (range_with_len 0 (suc n)) aggregates xs))
    (group_by same_value (λ x. take (suc n) x ++ columns Null (c ∷ cs) x) A xs) L
    (λ d. groups_under (c ∷ cs) aggregates d (L d)) dom a
    (λ w. regrouped_wide (suc n) (c ∷ cs) aggregates xs below w)
    (group_step same_value value_identity (columns Null (c ∷ cs)) A (aggregates_bag aggregates)
    (suc n) ds xs L dom a)

-- a fill over the one group of all rows, where the domain has no columns
fill_total : (A : List (Ranked Value) → List Value) (ds xs : List (Ranked Value)) → IsDomain same_value 0 ds
    → fill same_value (A []) ds (total A xs) ≡ fill same_value (A []) ds (group_by same_value (λ t. []) A xs)
fill_total A ds xs dom =
    let gs = group_by same_value (λ t. []) A xs in
    let F : List (Ranked Value) → List Value → List (Ranked Value) = λ g e. or_else (partners same_value e g) (ranked (e ++ A []) true_rank) in
    let one : F gs [] ≡ total A xs = sym (append-nil (F gs [])) ∙ without_fill same_value value_identity A xs in
    flat_map-ext_each (λ e. length e.values ≡ 0) (λ e. F (total A xs) e.values) (λ e. F gs e.values) ds dom.widths
    (λ e w. same e.values w one)
  where
    same : (v : List Value) → length v ≡ 0 → or_else (partners same_value [] (group_by same_value (λ t. []) A xs)) (ranked ([] ++ A []) true_rank) ≡ total A xs
        → or_else (partners same_value v (total A xs)) (ranked (v ++ A []) true_rank) ≡ or_else (partners same_value v (group_by same_value (λ t. []) A xs)) (ranked (v ++ A []) true_rank)
    same [] w e = sym e
    same (x ∷ v) w e = absurd (omega arith)

-- without columns of their own, over a domain
total_groups : (aggregates : List Aggregate) (n : ℕ) (ds xs : List (Ranked Value)) (L : List Value → List (Ranked Value)) → IsDomain same_value n ds → Answers same_value ds xs L
    → Answers same_value ds (fill same_value (aggregates_of aggregates []) ds (groups (range_with_len 0 n) aggregates xs)) (λ d. groups_under [] aggregates d (L d))
unfolding aggregates_under
total_groups aggregates zero ds xs L dom a =
    let A = aggregates_of aggregates in
    subst (λ l. Answers same_value ds l (λ d. groups_under [] aggregates d (L d))) (sym (fill_total A ds xs dom))
    (total_step same_value value_identity A (aggregates_bag aggregates) 0 ds xs L dom a)
total_groups aggregates (suc n) ds xs L dom a =
    let A = aggregates_of aggregates in
    over_wide (suc n) ds xs (fill same_value (A []) ds (groups (range_with_len 0 (suc n)) aggregates xs)) (fill same_value (A []) ds (group_by same_value (λ x. take (suc n) x) A xs)) L
    (λ d. groups_under [] aggregates d (L d)) dom a
    (λ w. ap (fill same_value (A []) ds) (keyed_wide (suc n) A xs w))
    (total_step same_value value_identity A (aggregates_bag aggregates) (suc n) ds xs L dom a)

group_width : (n : ℕ) (by : List ℕ) (aggregates : List Aggregate) → length (range_with_len 0 n ++ by) + length aggregates ≡ n + (length by + length aggregates)
group_width n by aggregates = let a = length-append (range_with_len 0 n) by in let b = length-range_with_len 0 n in omega (arith, a, b)

-- over the one row
total_alone_lowers : (before old new : List Node) (m : TreeMeaning) (f g : Footing) (rows id : ℕ) (aggregates : List Aggregate) → f.rows ≡ One
    → Lowers before old m f g rows → IsPut old new (node.Group rows [] aggregates) id → Lowers before new (tree_step (t.Group m [] aggregates)) f g id
unfolding aggregates_under plan_rows plan_width
total_alone_lowers before old new m f g rows id aggregates e l p =
    puts before old new m.scans l.most (tree_step (t.Group m [] aggregates)) f g id (node.Group rows [] aggregates) l.plan l.same p (append-nil m.scans) (let d = l.few in omega arith)
    (let z = ap footing_width e in omega (arith, z))
    (λ db h. subst (λ r. Answers same_value (footing_rows db before r) (groups [] aggregates (plan_rows db old rows)) ((tree_step (t.Group m [] aggregates)).rows db)) (sym e)
    (total_alone same_value value_identity (aggregates_of aggregates) (plan_rows db old rows) (m.rows db) (aggregates_bag aggregates)
    (subst (λ r. Answers same_value (footing_rows db before r) (plan_rows db old rows) (m.rows db)) e (l.answers db h))))

-- by columns of their own
group_some : (before old new : List Node) (m : TreeMeaning) (f g : Footing) (rows id c : ℕ) (cs : List ℕ) (aggregates : List Aggregate)
    → Lowers before old m f g rows → IsPut old new (node.Group rows (range_with_len 0 (footing_width f.rows) ++ c ∷ cs) aggregates) id
    → Lowers before new (tree_step (t.Group m (c ∷ cs) aggregates)) f g id
unfolding plan_rows plan_width
group_some before old new m f g rows id c cs aggregates l p =
    let n = footing_width f.rows in
    puts before old new m.scans l.most (tree_step (t.Group m (c ∷ cs) aggregates)) f g id (node.Group rows (range_with_len 0 n ++ c ∷ cs) aggregates) l.plan l.same p
    (append-nil m.scans) (let d = l.few in omega arith) (group_width n (c ∷ cs) aggregates)
    (λ db h. some_groups c cs aggregates n (footing_rows db before f.rows) (plan_rows db old rows) (m.rows db) h.is_domain (l.answers db h))

-- by columns of the domain
again_width : (n : ℕ) (by : List ℕ) (m : ℕ)
    → length (map Column (with_again n by m)) ≡ n + (length by + m)
again_width n by m =
    let one = length-map (with_again n by m) Column in
    let two = length-append (columns_from 0 n ++ by) (columns_from n m) in
    let three = length-append (columns_from 0 n) by in
    let four = run_long 0 n in
    let five = run_long n m in
    omega (arith, one, two, three, four, five)
  where
    run_long : (k n : ℕ) → length (columns_from k n) ≡ n
    run_long k zero = refl
    run_long k (suc n) = ap suc (run_long (suc k) n)

group_again : (before old new : List Node) (m : TreeMeaning) (f g : Footing) (rows id c : ℕ)
    (cs : List ℕ) (aggregates : List Aggregate) → Lowers before old m f g rows
    → All (λ b. b < footing_width f.rows) (c ∷ cs)
    → IsPut (old ++ node.Group rows (range_with_len 0 (footing_width f.rows)) aggregates ∷ []) new
    (node.Project (length old)
    (map Column (with_again (footing_width f.rows) (c ∷ cs) (length aggregates)))) id
    → Lowers before new (tree_step (t.Group m (c ∷ cs) aggregates)) f g id
unfolding plan_rows plan_width
group_again before old new m f g rows id c cs aggregates l below p =
    let n = footing_width f.rows in
    let group = node.Group rows (range_with_len 0 n) aggregates in
    let list = map Column (with_again n (c ∷ cs) (length aggregates)) in
    let mid = old ++ group ∷ [] in
    let q : IsPut old mid group (length old) = record { number = refl; nodes = refl } in
    let more = put_more l.plan q in
    puts before mid new (m.scans ++ []) (l.most + 0) (tree_step (t.Group m (c ∷ cs) aggregates)) f g
    id (node.Project (length old) list) more (same_later l.same (put_more (same_plan old) q)) p
    (append-nil (m.scans ++ []) ∙ append-nil m.scans) (let z = l.few in omega arith)
    (again_width n (c ∷ cs) (length aggregates))
    (λ db h.
    let xs = plan_rows db old rows in
    let ds = footing_rows db before f.rows in
    let here : plan_rows db mid (length old) ≡ groups (range_with_len 0 n) aggregates xs =
    put_rows db q in
    subst (λ z. Answers same_value ds (project (values list) z)
    ((tree_step (t.Group m (c ∷ cs) aggregates)).rows db)) (sym here)
    (some_again c cs aggregates n ds xs (m.rows db) h.is_domain (l.answers db h) below))

pub group_lowers : (before old new : List Node) (m : TreeMeaning) (f g : Footing) (rows id : ℕ) (by : List ℕ) (aggregates : List Aggregate) → (by ≡ [] → ⊥)
    → Lowers before old m f g rows → IsGrouped old new rows (footing_width f.rows) by aggregates id
    → Lowers before new (tree_step (t.Group m by aggregates)) f g id
group_lowers before old new m f g rows id [] aggregates some l p = absurd (some refl)
group_lowers before old new m f g rows id (c ∷ cs) aggregates some l (inl p) = group_some before old new m f g rows id c cs aggregates l p
group_lowers before old new m f g rows id (c ∷ cs) aggregates some l (inr p) = group_again before old new m f g rows id c cs aggregates l p.0 p.1

-- over a node, without
total_filled : (before old new : List Node) (m : TreeMeaning) (f g : Footing) (rows d width id : ℕ) (aggregates : List Aggregate) → f.rows ≡ AtNode d width → IsFooting before f.rows
    → Lowers before old m f g rows → IsFilled old new rows aggregates d width id → Lowers before new (tree_step (t.Group m [] aggregates)) f g id
unfolding plan_rows plan_width
total_filled before old new m f g rows d width id aggregates e within l p =
    let A = aggregates_of aggregates in
    let group = node.Group rows (range_with_len 0 width) aggregates in
    let mid = old ++ group ∷ [] in
    let q : IsPut old mid group (length old) = record { number = refl; nodes = refl } in
    let more = put_more l.plan q in
    let there : IsFooting before (AtNode d width) = subst (IsFooting before) e within in
    let dw : plan_width mid d ≡ width = kept_width d more there.0 ∙ there.1 in
    let wide = length-aggregates_of aggregates [] in
    puts before mid new (m.scans ++ []) (l.most + 0) (tree_step (t.Group m [] aggregates)) f g id (node.Fill (length old) d (A [])) more
    (same_later l.same (put_more (same_plan old) q)) p
    (append-nil (m.scans ++ []) ∙ append-nil m.scans) (let z = l.few in omega arith)
    (let z = ap footing_width e in omega (arith, dw, wide, z))
    (λ db h.
    let kept : plan_rows db mid d ≡ plan_rows db before d = kept_rows db d more there.0 in
    let xs = plan_rows db old rows in
    let here : plan_rows db mid (length old) ≡ groups (range_with_len 0 width) aggregates xs = put_rows db q in
    let ds = plan_rows db before d in
    let dom : IsDomain same_value width ds = subst (λ r. IsDomain same_value (footing_width r) (footing_rows db before r)) e h.is_domain in
    let a : Answers same_value ds xs (m.rows db) = subst (λ r. Answers same_value (footing_rows db before r) xs (m.rows db)) e (l.answers db h) in
    let M : List Value → List (Ranked Value) = (tree_step (t.Group m [] aggregates)).rows db in
    subst (λ r. Answers same_value (footing_rows db before r) (fill same_value (A []) (plan_rows db mid d) (plan_rows db mid (length old))) M) (sym e)
    (subst (λ z. Answers same_value ds (fill same_value (A []) z (plan_rows db mid (length old))) M) (sym kept)
    (subst (λ z. Answers same_value ds (fill same_value (A []) ds z) M) (sym here)
    (total_groups aggregates width ds xs (m.rows db) dom a))))

total_lowers : (before old new : List Node) (m : TreeMeaning) (f g : Footing) (r : DomainRows) (rows id : ℕ) (aggregates : List Aggregate) → f.rows ≡ as_footing r → IsFooting before f.rows
    → Lowers before old m f g rows → IsTotal old new rows aggregates r id → Lowers before new (tree_step (t.Group m [] aggregates)) f g id
total_lowers before old new m f g domain.One rows id aggregates e w l p = total_alone_lowers before old new m f g rows id aggregates e l p
total_lowers before old new m f g (domain.Node d width) rows id aggregates e w l p = total_filled before old new m f g rows d width id aggregates e w l p

-- over rows that were settled
pub total_put : {before mid old new : List Node} {m : TreeMeaning} {f g h : Footing} {r : DomainRows} {rows id : ℕ} (aggregates : List Aggregate) → Settles before mid f g r
    → Lowers mid old m g h rows → IsTotal old new rows aggregates r id → Lowers before new (tree_step (t.Group m [] aggregates)) f h id
total_put {mid = mid} {old = old} {new = new} {m = m} {g = g} {h = h} {r = r} {rows = rows} {id = id} aggregates s l p =
    settled_first s (total_lowers mid old new m g h r rows id aggregates s.settled s.same.in_plan l p)

-- the domain of a total stays in the plan
pub total_in_plan : {mid old : List Node} {m : TreeMeaning} {g h : Footing} {rows : ℕ} (r : DomainRows) → IsInPlan mid r → Lowers mid old m g h rows → IsInPlan old r
total_in_plan domain.One w l = tt
total_in_plan (domain.Node d width) w l = (let k = grown_length l.plan in let z = w.0 in omega arith, kept_width d l.plan w.0 ∙ w.1)
