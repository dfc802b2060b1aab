-- Each kind of tree: the node that is put for it answers its loops, where its inputs answer theirs.
use Rattle.std.proofs.Common.{◌≡◌, ℕ, ◌+◌, ◌≤◌, List, [], ◌∷◌, ◌++◌, map, refl, sym, ◌∙◌, ap, subst, arith, inl, length}
use Rattle.std.specs.Prelude.{min}
use Rattle.std.specs.List.{range_with_len, flat_map}
use Rattle.std.proofs.lemmas.List.{append-nil, length-append, length-map}
use Rattle.std.proofs.lemmas.List.FromFn.{length-range_with_len}
use Rattle.base_row_laws.specs.Ranked.{Ranked, ranked, true_rank}
use Rattle.base_row_laws.specs.Rows.{scanned, unit_row}
use Rattle.base_row_laws.specs.Operators.{select, pair, join_loop}
use Rattle.base_row_laws.specs.Domains.{IsDomain, Answers}
use Rattle.base_row_laws.specs.Matched.{inner_matched}
use Rattle.base_row_laws.specs.Trees.Side.{Closed as ClosedKind}
use Rattle.base_row_laws.proofs.Domains.{domain_alone}
use Rattle.base_row_laws.proofs.Sides.{inner_side}
use Rattle.base_row_laws.proofs.Trees.{closed_meets, select_step, project_step, distinct_step}
use Rattle.base_value.specs.declared.value.Value.{Value}
use Rattle.base_value.specs.declared.value.Value.TheVariants.{Null}
use Rattle.base_value.specs.Value.{same_value}
use Rattle.base_value.proofs.Identity.{value_identity}
use Rattle.expr_scalar.specs.declared.expr.Expr.{Expr}
use Rattle.expr_scalar.specs.declared.expr.Expr.TheVariants.{Column, All}
use Rattle.expr_scalar.specs.Meaning.{truths, values}
use Rattle.expr_scalar.proofs.Opened.{truth_All}
use Rattle.base_schema.specs.declared.table.TableName.{TableName}
use Rattle.plan_algebra.specs.Trees.{Occurrence}
use Rattle.base_schema.specs.Tables.{kinds_of}
use Rattle.base_value.specs.Truth.{truth_rank}
use Rattle.plan_algebra.specs.declared.node.Node.{Node}
use Rattle.plan_algebra.specs.declared.node.Node.TheVariants as node
use Rattle.plan_algebra.specs.declared.tree.DepTree.TheOpen as t
use Rattle.expr_conditions.specs.Ranks.{rank_of, says}
use Rattle.plan_algebra.specs.Trees.{Database, TreeMeaning, tree_step, listed}
use Rattle.plan_algebra.specs.Plans.{made_from, node_rows, node_width, plan_rows, plan_width, scan_of, is_domain}
use Rattle.plan_unnested_nodes.specs.declared.domain.DomainRows.{DomainRows}
use Rattle.plan_unnested_nodes.specs.declared.domain.DomainRows.TheVariants as domain
use Rattle.plan_unnested_nodes.specs.declared.footing.Footing.{Footing}
use Rattle.plan_unnested_nodes.specs.declared.footing.FootingRows.TheVariants.{One, Node as AtNode}
use Rattle.plan_unnested_nodes.specs.Footings.{footing_width, footing_rows, is_due, as_footing, IsFooting, FootingHolds, SameFooting, Settles}
use Rattle.plan_unnested_nodes.specs.Growth.{Grows, IsPut}
use Rattle.plan_unnested_nodes.specs.Lowerings.{Lowers, IsScanned, IsSelection}
use Rattle.plan_unnested_nodes.proofs.Grown.{grows_as, same_plan, put_more, kept_rows, kept_width, put_rows, put_width, put_last}
use Rattle.plan_unnested_nodes.proofs.Kept.{same_footing, same_later, settled_first}
use Rattle.plan_unnested_nodes.proofs.Owned.{rank_within}
use Rattle.plan_unnested_nodes.proofs.Wide.{over_wide, projected_wide}

-- one node more
pub puts : (before old new : List Node) (tables : List Occurrence) (most : ℕ) (k : TreeMeaning) (f g : Footing) (id : ℕ) (n : Node)
    → Grows before old tables most → SameFooting before old f g → IsPut old new n id → tables ++ scan_of n ≡ k.scans
    → most + is_domain n + is_due g.rows ≤ k.domains + is_due f.rows
    → node_width (made_from node_width [] old) n ≡ footing_width f.rows + k.width
    → ((db : Database) → FootingHolds db before f → Answers same_value (footing_rows db before f.rows) (node_rows db (made_from (node_rows db) [] old) n) (k.rows db))
    → Lowers before new k f g id
puts before old new tables most k f g id n more same p s d w a = record {
  most = most + is_domain n;
  plan = grows_as (put_more more p) s (omega arith);
  few = d;
  same = same_later same (put_more (same_plan old) p);
  last = put_last p;
  width = put_width p ∙ w;
  answers = λ db h. subst (λ xs. Answers same_value (footing_rows db before f.rows) xs (k.rows db)) (sym (put_rows db p)) (a db h);
}

pub select_lowers : (before old new : List Node) (m : TreeMeaning) (f g : Footing) (rows id : ℕ) (e : Expr)
    → Lowers before old m f g rows → IsPut old new (node.Select rows e) id → Lowers before new (tree_step (t.Select m e)) f g id
unfolding says plan_rows plan_width
select_lowers before old new m f g rows id e l p =
    puts before old new m.scans l.most (tree_step (t.Select m e)) f g id (node.Select rows e) l.plan l.same p (append-nil m.scans) (let d = l.few in omega arith) l.width
    (λ db h. select_step same_value value_identity (rank_of e) (footing_rows db before f.rows) (plan_rows db old rows) (m.rows db) (l.answers db h))

pub distinct_lowers : (before old new : List Node) (m : TreeMeaning) (f g : Footing) (rows id : ℕ)
    → Lowers before old m f g rows → IsPut old new (node.Distinct rows) id → Lowers before new (tree_step (t.Distinct m)) f g id
unfolding plan_rows plan_width
distinct_lowers before old new m f g rows id l p =
    puts before old new m.scans l.most (tree_step (t.Distinct m)) f g id (node.Distinct rows) l.plan l.same p (append-nil m.scans) (let d = l.few in omega arith) l.width
    (λ db h. distinct_step same_value value_identity (footing_rows db before f.rows) (plan_rows db old rows) (m.rows db) (l.answers db h))

pub project_lowers : (before old new : List Node) (m : TreeMeaning) (f g : Footing) (rows id : ℕ) (es : List Expr)
    → Lowers before old m f g rows → IsPut old new (node.Project rows (map Column (range_with_len 0 (footing_width f.rows)) ++ es)) id
    → Lowers before new (tree_step (t.Project m es)) f g id
unfolding listed plan_rows plan_width
project_lowers before old new m f g rows id es l p =
    let n = footing_width f.rows in let cs = map Column (range_with_len 0 n) in
    let w : length (cs ++ es) ≡ n + length es = length-append cs es ∙ ap (λ k. k + length es) (length-map (range_with_len 0 n) Column ∙ length-range_with_len 0 n) in
    puts before old new m.scans l.most (tree_step (t.Project m es)) f g id (node.Project rows (cs ++ es)) l.plan l.same p (append-nil m.scans) (let d = l.few in omega arith) w
    (λ db h.
    let ds = footing_rows db before f.rows in let xs = plan_rows db old rows in
    over_wide n ds xs _ _ (m.rows db) ((tree_step (t.Project m es)).rows db) h.is_domain (l.answers db h) (projected_wide n es xs)
    (project_step same_value value_identity (values es) n ds xs (m.rows db) h.is_domain (l.answers db h)))

-- A table under each row of a domain.
pub always : (row : List Value) → rank_of (All []) row ≡ 5
unfolding rank_of truths
always row = ap truth_rank (truth_All [] row)

whole_table : (c : List Value → ℕ) → ((row : List Value) → c row ≡ 5) → (rows : List (List Value))
    → flat_map (λ r. pair c (λ x y. x ++ y) (ranked [] true_rank) r) (scanned rows) ≡ scanned rows
whole_table c e [] = refl
whole_table c e (r ∷ rows) = rw (e r, whole_table c e rows) refl

table_loop : (c : List Value → ℕ) → ((row : List Value) → c row ≡ 5) → (rows : List (List Value)) → join_loop c unit_row (λ l. scanned rows) ≡ scanned rows
table_loop c e rows = append-nil (flat_map (λ r. pair c (λ x y. x ++ y) (ranked [] true_rank) r) (scanned rows)) ∙ whole_table c e rows

scan_over : (n : ℕ) (ds : List (Ranked Value)) (rows : List (List Value)) → IsDomain same_value n ds
    → Answers same_value ds (inner_matched same_value Null [] (rank_of (All [])) ds (scanned rows)) (λ d. scanned rows)
scan_over n ds rows dom =
    let all : Answers same_value ds (inner_matched same_value Null [] (rank_of (All [])) ds (scanned rows)) (λ d. join_loop (λ t. rank_of (All []) (d ++ t)) unit_row (λ l. scanned rows)) =
    inner_side same_value value_identity Null ClosedKind (rank_of (All [])) n ds ds (scanned rows) (λ d. unit_row) (λ d. scanned rows) dom
    (domain_alone same_value value_identity n ds dom) (closed_meets same_value value_identity (scanned rows), tt) in
    subst (λ (M : List Value → List (Ranked Value)). Answers same_value ds (inner_matched same_value Null [] (rank_of (All [])) ds (scanned rows)) M)
    (λ i d. table_loop (λ t. rank_of (All []) (d ++ t)) (λ t. always (d ++ t)) rows i) all

scan_alone : (before new : List Node) (table : TableName) (f : Footing) (id : ℕ) → f.rows ≡ One → IsFooting before f.rows
    → IsPut before new (node.Scan table) id → Lowers before new (tree_step (t.Scan table)) f f id
unfolding plan_rows plan_width
scan_alone before new table f id e within p =
    puts before before new [] 0 (tree_step (t.Scan table)) f f id (node.Scan table) (same_plan before) (same_footing f (same_plan before) within) p refl (omega arith)
    (let z = ap footing_width e in omega arith)
    (λ db h. subst (λ r. Answers same_value (footing_rows db before r) (scanned (db table)) (λ d. scanned (db table))) (sym e)
    (closed_meets same_value value_identity (scanned (db table)), tt))

-- rows that a condition keeps, under each row of a domain
kept_table : (c : List Value → ℕ) → ((row : List Value) → c row ≤ true_rank) → (xs : List (Ranked Value))
    → flat_map (λ r. pair c (λ x y. x ++ y) (ranked [] true_rank) r) xs ≡ select c xs
kept_table c le [] = refl
kept_table c le (x ∷ xs) =
    let l = le x.values in
    let e : min (min true_rank x.standing) (c x.values) ≡ min x.standing (c x.values) = omega (arith, l) in
    rw (e, kept_table c le xs) refl

kept_loop : (c : List Value → ℕ) → ((row : List Value) → c row ≤ true_rank) → (xs : List (Ranked Value)) → join_loop c unit_row (λ l. xs) ≡ select c xs
kept_loop c le xs = append-nil (flat_map (λ r. pair c (λ x y. x ++ y) (ranked [] true_rank) r) xs) ∙ kept_table c le xs

pub selection_over : (n : ℕ) (ds xs : List (Ranked Value)) (c : Expr) → IsDomain same_value n ds
    → Answers same_value ds (inner_matched same_value Null [] (rank_of c) ds xs) (λ d. select (λ t. rank_of c (d ++ t)) xs)
selection_over n ds xs c dom =
    let all : Answers same_value ds (inner_matched same_value Null [] (rank_of c) ds xs) (λ d. join_loop (λ t. rank_of c (d ++ t)) unit_row (λ l. xs)) =
    inner_side same_value value_identity Null ClosedKind (rank_of c) n ds ds xs (λ d. unit_row) (λ d. xs) dom
    (domain_alone same_value value_identity n ds dom) (closed_meets same_value value_identity xs, tt) in
    subst (λ (M : List Value → List (Ranked Value)). Answers same_value ds (inner_matched same_value Null [] (rank_of c) ds xs) M)
    (λ i d. kept_loop (λ t. rank_of c (d ++ t)) (λ t. rank_within c (d ++ t)) xs i) all

-- a table joined with a domain under a condition, where its rows are those of a meaning
joined_scan : (before new : List Node) (table : TableName) (c : Expr) (k : TreeMeaning) (f : Footing) (d width id : ℕ) → f.rows ≡ AtNode d width → IsFooting before f.rows
    → IsPut (before ++ node.Scan table ∷ []) new (node.Join d (length before) [] c) id → inl table ∷ [] ≡ k.scans → k.width ≡ length (kinds_of table)
    → ((db : Database) (ds : List (Ranked Value)) → IsDomain same_value width ds
    → Answers same_value ds (inner_matched same_value Null [] (rank_of c) ds (scanned (db table))) (k.rows db))
    → Lowers before new k f f id
unfolding plan_rows plan_width
joined_scan before new table c k f d width id e within p scans wide over =
    let mid = before ++ node.Scan table ∷ [] in
    let q : IsPut before mid (node.Scan table) (length before) = record { number = refl; nodes = refl } in
    let g = put_more (same_plan before) q in
    let there : IsFooting before (AtNode d width) = subst (IsFooting before) e within in
    let dw : plan_width mid d ≡ width = kept_width d g there.0 ∙ there.1 in
    let sw = put_width q in
    puts before mid new (inl table ∷ []) 0 k f f id (node.Join d (length before) [] c) g (same_footing f g within) p scans (omega arith)
    (let z = ap footing_width e in omega (arith, dw, sw, z, wide))
    (λ db h.
    let kept : plan_rows db mid d ≡ plan_rows db before d = kept_rows db d g there.0 in
    let here : plan_rows db mid (length before) ≡ scanned (db table) = put_rows db q in
    let ds = plan_rows db before d in
    let dom : IsDomain same_value width ds = subst (λ r. IsDomain same_value (footing_width r) (footing_rows db before r)) e h.is_domain in
    let xs : (List (Ranked Value) × List (Ranked Value)) → List (Ranked Value) = λ p. inner_matched same_value Null [] (rank_of c) p.0 p.1 in
    subst (λ r. Answers same_value (footing_rows db before r) (xs (plan_rows db mid d, plan_rows db mid (length before))) (k.rows db)) (sym e)
    (subst (λ l. Answers same_value ds (xs (l, plan_rows db mid (length before))) (k.rows db)) (sym kept)
    (subst (λ l. Answers same_value ds (xs (ds, l)) (k.rows db)) (sym here) (over db ds dom))))

scan_joined : (before new : List Node) (table : TableName) (f : Footing) (d width id : ℕ) → f.rows ≡ AtNode d width → IsFooting before f.rows
    → IsPut (before ++ node.Scan table ∷ []) new (node.Join d (length before) [] (All [])) id → Lowers before new (tree_step (t.Scan table)) f f id
scan_joined before new table f d width id e within p =
    joined_scan before new table (All []) (tree_step (t.Scan table)) f d width id e within p refl refl (λ db ds dom. scan_over width ds (db table) dom)

selection_joined : (before new : List Node) (table : TableName) (c : Expr) (f : Footing) (d width id : ℕ) → f.rows ≡ AtNode d width → IsFooting before f.rows
    → IsPut (before ++ node.Scan table ∷ []) new (node.Join d (length before) [] c) id → Lowers before new (tree_step (t.Select (tree_step (t.Scan table)) c)) f f id
unfolding says
selection_joined before new table c f d width id e within p =
    joined_scan before new table c (tree_step (t.Select (tree_step (t.Scan table)) c)) f d width id e within p refl refl (λ db ds dom. selection_over width ds (scanned (db table)) c dom)

selection_alone : (before new : List Node) (table : TableName) (c : Expr) (f : Footing) (id : ℕ) → f.rows ≡ One → IsFooting before f.rows
    → IsPut (before ++ node.Scan table ∷ []) new (node.Select (length before) c) id → Lowers before new (tree_step (t.Select (tree_step (t.Scan table)) c)) f f id
selection_alone before new table c f id e within p =
    let mid = before ++ node.Scan table ∷ [] in
    let q : IsPut before mid (node.Scan table) (length before) = record { number = refl; nodes = refl } in
    select_lowers before mid new (tree_step (t.Scan table)) f f (length before) id c (scan_alone before mid table f (length before) e within q) p

selection_lowers : (before new : List Node) (table : TableName) (c : Expr) (f : Footing) (r : DomainRows) (id : ℕ) → f.rows ≡ as_footing r → IsFooting before f.rows
    → IsSelection before new table c r id → Lowers before new (tree_step (t.Select (tree_step (t.Scan table)) c)) f f id
selection_lowers before new table c f domain.One id e w q = selection_alone before new table c f id e w q
selection_lowers before new table c f (domain.Node d width) id e w q = selection_joined before new table c f d width id e w q

scan_lowers : (before new : List Node) (table : TableName) (f : Footing) (r : DomainRows) (id : ℕ) → f.rows ≡ as_footing r → IsFooting before f.rows
    → IsScanned before new table r id → Lowers before new (tree_step (t.Scan table)) f f id
scan_lowers before new table f domain.One id e w q = scan_alone before new table f id e w q
scan_lowers before new table f (domain.Node d width) id e w q = scan_joined before new table f d width id e w q

-- a table under each row that was settled
pub scan_put : {before mid new : List Node} {table : TableName} {f g : Footing} {r : DomainRows} {id : ℕ} → Settles before mid f g r → IsScanned mid new table r id
    → Lowers before new (tree_step (t.Scan table)) f g id
scan_put {mid = mid} {new = new} {table = table} {g = g} {r = r} {id = id} s p = settled_first s (scan_lowers mid new table g r id s.settled s.same.in_plan p)

-- and its rows that a condition keeps
pub selection_put : {before mid new : List Node} {table : TableName} (c : Expr) {f g : Footing} {r : DomainRows} {id : ℕ} → Settles before mid f g r → IsSelection mid new table c r id
    → Lowers before new (tree_step (t.Select (tree_step (t.Scan table)) c)) f g id
selection_put {mid = mid} {new = new} {table = table} c {g = g} {r = r} {id = id} s p = settled_first s (selection_lowers mid new table c g r id s.settled s.same.in_plan p)
