-- The nodes of rows without a domain.
use Rattle.std.proofs.Common.{◌≡◌, ℕ, ◌+◌, List, [], ◌∷◌, ◌++◌, refl, sym, ◌∙◌, ap, subst, arith, length}
use Rattle.std.specs.Prelude.{true, min, IsTrue, replicate}
use Rattle.std.specs.List.{filter, flat_map}
use Rattle.std.proofs.lemmas.List.{length-append, length-map, length-replicate}
use Rattle.base_row_laws.specs.Ranked.{Ranked, ranked, true_rank}
use Rattle.base_row_laws.specs.Bags.{SameBag, Each}
use Rattle.base_row_laws.specs.Rows.{scanned}
use Rattle.base_row_laws.specs.Operators.{select, project, join, pair, or_else, outer_loop}
use Rattle.base_row_laws.specs.Matched.{without_from, outer_matched}
use Rattle.base_row_laws.specs.MoveLaws.{OfLeft}
use Rattle.base_row_laws.proofs.Bags.{SameBag-refl, SameBag-sym, SameBag-trans}
use Rattle.base_row_laws.proofs.Lists.{Each-all, Each-weaker, flat_map-ext_each}
use Rattle.base_row_laws.proofs.AtHand.{select_at_hand, join_at_hand, outer_at_hand}
use Rattle.base_row_laws.proofs.Moves.{select_twice, select_into_join, select_below_left, select_below_outer}
use Rattle.base_row_laws.proofs.Pairs.{Agree, inner_of_none, outer_agrees}
use Rattle.base_value.specs.declared.value.Value.{Value}
use Rattle.base_value.specs.declared.value.Value.TheVariants.{Null}
use Rattle.base_value.specs.Value.{same_value}
use Rattle.base_schema.specs.declared.table.TableName.{TableName}
use Rattle.base_schema.specs.Tables.{kinds_of}
use Rattle.expr_scalar.specs.declared.expr.Expr.{Expr}
use Rattle.expr_scalar.specs.declared.expr.Expr.TheVariants as e
use Rattle.expr_scalar.specs.Meaning.{value, values}
use Rattle.expr_conditions.specs.Ranks.{rank_of, all_rank, says}
use Rattle.expr_conditions.proofs.Ranks.{rank_All, all_rank-le}
use Rattle.plan_algebra.specs.declared.node.Node.{Node}
use Rattle.plan_algebra.specs.declared.node.Node.TheVariants as node
use Rattle.plan_algebra.specs.declared.tree.DepTree.TheOpen as t
use Rattle.plan_algebra.specs.Trees.{Database, HasKinds, tree_step, listed}
use Rattle.plan_algebra.specs.Plans.{plan_rows, plan_width, is_formed}
use Rattle.plan_algebra.proofs.Widths.{rows_are_wide}
use Rattle.plan_unnested_nodes.specs.declared.from_rows.Apart.{Apart}
use Rattle.plan_unnested_nodes.specs.Growth.{IsPut}
use Rattle.plan_unnested_nodes.specs.FromRows.{GivesApart, AreOwn, IsGrown, AreOwnAndRest, IsOwnCondition, KeepsRows, SelectsApart, JoinsApart, OutersApart}
use Rattle.plan_unnested_nodes.proofs.Grown.{same_plan, put_more, put_rows, put_width, put_last}
use Rattle.plan_unnested_nodes.proofs.Owned.{rank_within}

pub same_list : {X : Type 0} {xs ys : List X} → xs ≡ ys → SameBag xs ys
same_list {xs = xs} e = subst (λ l. SameBag xs l) e (SameBag-refl xs)

-- each row of a node is as wide as the node
pub rows_wide : (db : Database) (nodes : List Node) (i w : ℕ) → IsTrue (is_formed nodes) → HasKinds db → plan_width nodes i ≡ w → Each (λ x. length x.values ≡ w) (plan_rows db nodes i)
rows_wide db nodes i w formed kinds is = subst (λ n. Each (λ x. length x.values ≡ n) (plan_rows db nodes i)) is (rows_are_wide db nodes i kinds formed)

-- a table
all_scanned : (c : List Value → ℕ) → ((row : List Value) → c row ≡ true_rank) → (rows : List (List Value)) → select c (scanned rows) ≡ scanned rows
all_scanned c e [] = refl
all_scanned c e (r ∷ rows) = rw (e r, all_scanned c e rows) refl

pub scan_apart : {before new : List Node} {table : TableName} (part : Apart) (n : ℕ) → IsPut before new (node.Scan table) part.rows → part.width ≡ length (kinds_of table) → part.conditions ≡ []
    → GivesApart before new (tree_step (t.Scan table)) n part
unfolding plan_width plan_rows
scan_apart {before = before} {new = new} {table = table} part n p w none = record {
  most = 0;
  plan = put_more (same_plan before) p;
  few = omega arith;
  last = put_last p;
  wide = put_width p ∙ sym w;
  width = w;
  rows = λ db k d ld.
      same_list (ap (select (λ t. all_rank part.conditions (d ++ t))) (put_rows db p)
      ∙ all_scanned (λ t. all_rank part.conditions (d ++ t)) (λ t. ap (λ es. all_rank es (d ++ t)) none) (db table));
}

-- columns of a table
all_listed : (c : List Value → ℕ) (f g : List Value → List Value)
    → ((row : List Value) → c row ≡ true_rank) → ((row : List Value) → f row ≡ g row)
    → (rows : List (List Value)) → select c (project f (scanned rows)) ≡ project g (scanned rows)
all_listed c f g e s [] = refl
all_listed c f g e s (r ∷ rows) =
    rw (e (f r)) (ap (λ v. ranked v true_rank ∷ select c (project f (scanned rows))) (s r)
    ∙ ap (λ l. ranked (g r) true_rank ∷ l) (all_listed c f g e s rows))

own_long : (n : ℕ) (es own : List Expr) → AreOwn n es own → length own ≡ length es
unfolding values
own_long n es own a =
    let row : List Value = replicate n Null in
    sym (length-map own (λ e. value e [])) ∙ ap length (a.gives row [] (length-replicate n Null))
    ∙ length-map es (λ e. value e (row ++ []))

pub list_apart : {before mid new : List Node} {table : TableName} {own : List Expr} {scan : ℕ}
    (part : Apart) (n : ℕ) (es : List Expr) → AreOwn n es own
    → IsPut before mid (node.Scan table) scan → IsPut mid new (node.Project scan own) part.rows
    → part.width ≡ length own → part.conditions ≡ []
    → GivesApart before new (tree_step (t.Project (tree_step (t.Scan table)) es)) n part
unfolding plan_width plan_rows listed
list_apart {before = before} {table = table} {own = own} part n es is q p w none = record {
  most = 0;
  plan = put_more (put_more (same_plan before) q) p;
  few = omega arith;
  last = put_last p;
  wide = put_width p ∙ sym w;
  width = w ∙ own_long n es own is;
  rows = λ db k d ld.
      let C : List Value → ℕ = λ t. all_rank part.conditions (d ++ t) in
      same_list (ap (select C) (put_rows db p ∙ ap (project (values own)) (put_rows db q))
      ∙ all_listed C (values own) (λ t. values es (d ++ t))
      (λ t. ap (λ es. all_rank es (d ++ t)) none) (λ t. is.gives d t ld) (db table));
}

-- the rows that no conditions keep are all
pub kept_none : (nodes : List Node) (rows : ℕ) (conditions : List Expr) → conditions ≡ [] → length nodes ≡ rows + 1 → KeepsRows nodes nodes rows conditions rows
kept_none nodes rows conditions none last = record {
  plan = same_plan nodes;
  last = last;
  width = refl;
  rows = λ db c le.
      same_list (select_at_hand c (λ t. min (all_rank conditions t) (c t)) (plan_rows db nodes rows)
      (Each-all (λ x. c x.values ≡ min (all_rank conditions x.values) (c x.values)) (plan_rows db nodes rows)
      (λ x. let l = le x.values in let z = ap (λ es. all_rank es x.values) none in omega (arith, l, z))));
}

pub kept_some : (old new : List Node) (rows : ℕ) (conditions : List Expr) (c : Expr) (id : ℕ) → c ≡ e.All conditions → IsPut old new (node.Select rows c) id → KeepsRows old new rows conditions id
unfolding plan_width plan_rows
kept_some old new rows conditions c id is p = record {
  plan = put_more (same_plan old) p;
  last = put_last p;
  width = put_width p;
  rows = λ db q le.
      let X = plan_rows db old rows in
      SameBag-trans (same_list (ap (select q) (put_rows db p)))
      (SameBag-trans (select_twice (rank_of c) q X)
      (same_list (select_at_hand (λ t. min (rank_of c t) (q t)) (λ t. min (all_rank conditions t) (q t)) X
      (Each-all (λ x. min (rank_of c x.values) (q x.values) ≡ min (all_rank conditions x.values) (q x.values)) X
      (λ x. ap (λ k. min k (q x.values)) (ap (λ o. rank_of o x.values) is ∙ rank_All conditions x.values))))));
}

-- the rows that a condition keeps
pub selects_apart : (old new : List Node) (n : ℕ) (part next : Apart) (c : Expr) (covered : List Expr) → IsTrue (is_formed old) → plan_width old part.rows ≡ part.width
    → AreOwnAndRest n part.width part.conditions c covered next.conditions → KeepsRows old new part.rows covered next.rows → next.width ≡ part.width → SelectsApart old new n part c next
unfolding says
selects_apart old new n part next c covered formed wide split kept width = record {
  plan = kept.plan;
  last = kept.last;
  wide = kept.width ∙ wide ∙ sym width;
  width = width;
  rows = λ db k d ld.
      let X = plan_rows db old part.rows in
      let E : List Value → ℕ = λ t. all_rank next.conditions (d ++ t) in
      let P : List Value → ℕ = λ t. all_rank part.conditions (d ++ t) in
      let C : List Value → ℕ = λ t. rank_of c (d ++ t) in
      SameBag-trans (kept.rows db E (λ t. all_rank-le next.conditions (d ++ t)))
      (SameBag-trans (same_list (select_at_hand (λ t. min (all_rank covered t) (E t)) (λ t. min (P t) (C t)) X
      (Each-weaker (λ x. length x.values ≡ part.width) (λ x. min (all_rank covered x.values) (E x.values) ≡ min (P x.values) (C x.values)) X
      (λ x l. split.says d x.values ld l) (rows_wide db old part.rows part.width formed k wide))))
      (SameBag-sym (select_twice P C X)));
}

-- a condition that does not read the domain
pub own_says : {n w : ℕ} {old covered rest seen : List Expr} {c : Expr} → old ≡ [] → AreOwnAndRest n w old c covered rest → rest ≡ [] → seen ≡ covered → IsOwnCondition n w c seen
own_says {n = n} {w = w} {old = old} {covered = covered} {rest = rest} {c = c} none split empty same = subst (IsOwnCondition n w c) (sym same) (record {
  says = λ d t ld lt.
      let a = split.says d t ld lt in
      let b = ap (λ es. all_rank es (d ++ t)) empty in
      let z = ap (λ es. all_rank es (d ++ t)) none in
      let l = all_rank-le covered t in
      let m = rank_within c (d ++ t) in
      omega (arith, a, b, z, l, m);
})

-- the rows joined with others
pub joins_apart : (old new : List Node) (n : ℕ) (part next : Apart) (right more : ℕ) (c on : Expr) (grown covered : List Expr) → IsTrue (is_formed old) → plan_width old part.rows ≡ part.width
    → plan_width old right ≡ more → IsGrown n part.width part.conditions grown → next.width ≡ part.width + more → AreOwnAndRest n next.width grown c covered next.conditions → on ≡ e.All covered
    → IsPut old new (node.Join part.rows right [] on) next.rows → JoinsApart old new n part right more c next
unfolding says plan_width plan_rows
joins_apart old new n part next right more c on grown covered formed wide others g width split is p = record {
  plan = put_more (same_plan old) p;
  last = put_last p;
  wide = let z = put_width p in omega (arith, z, wide, others, width);
  width = width;
  rows = λ db k d ld.
      let X = plan_rows db old part.rows in
      let Y = plan_rows db old right in
      let K : List Value → ℕ = rank_of on in
      let E : List Value → ℕ = λ t. all_rank next.conditions (d ++ t) in
      let G : List Value → ℕ = λ t. all_rank grown (d ++ t) in
      let P : List Value → ℕ = λ t. all_rank part.conditions (d ++ t) in
      let C : List Value → ℕ = λ t. rank_of c (d ++ t) in
      let wx : Each (λ x. length x.values ≡ part.width) X = rows_wide db old part.rows part.width formed k wide in
      let wy : Each (λ y. length y.values ≡ more) Y = rows_wide db old right more formed k others in
      let here : plan_rows db new next.rows ≡ join K X Y = put_rows db p ∙ inner_of_none same_value Null K X Y in
      let long : (l r : List Value) → length l ≡ part.width → length r ≡ more → length (l ++ r) ≡ next.width = λ l r a b. let z = length-append l r in omega (arith, z, a, b, width) in
      SameBag-trans (same_list (ap (select E) here))
      (SameBag-trans (select_into_join K E X (λ l. Y))
      (SameBag-trans (same_list (join_at_hand (λ r. min (K r) (E r)) (λ r. min (C r) (G r)) X (λ l. Y)
      (Each-weaker (λ x. length x.values ≡ part.width) (λ x. Each (λ y. min (K (x.values ++ y.values)) (E (x.values ++ y.values)) ≡ min (C (x.values ++ y.values)) (G (x.values ++ y.values))) Y) X
      (λ x lx. Each-weaker (λ y. length y.values ≡ more) (λ y. min (K (x.values ++ y.values)) (E (x.values ++ y.values)) ≡ min (C (x.values ++ y.values)) (G (x.values ++ y.values))) Y
      (λ y ly.
      let row = x.values ++ y.values in
      let a : rank_of on row ≡ all_rank covered row = ap (λ o. rank_of o row) is ∙ rank_All covered row in
      ap (λ m. min m (E row)) a ∙ split.says d row ld (long x.values y.values lx ly) ∙ turned (G row) (C row)) wy) wx)))
      (SameBag-trans (SameBag-sym (select_into_join C G X (λ l. Y)))
      (select_below_left C G P X (λ l. Y)
      (Each-weaker (λ x. length x.values ≡ part.width) (OfLeft G P) X (λ x lx r. g.says d x.values r ld lx) wx)))));
}
  where
    turned : (a b : ℕ) → min a b ≡ min b a
    turned a b = omega arith

-- a left outer join without matched columns
all_kept : {X : Type 0} (xs : List X) → filter (λ x. true) xs ≡ xs
all_kept [] = refl
all_kept (x ∷ xs) = ap (λ l. x ∷ l) (all_kept xs)

none_out : (i : ℕ) (y : List Value) → without_from [] i y ≡ y
none_out i [] = refl
none_out i (v ∷ vs) = ap (λ l. v ∷ l) (none_out (i + 1) vs)

outer_of_none : (nulls : List Value) (c : List Value → ℕ) (xs ys : List (Ranked Value)) → outer_matched same_value Null [] nulls c xs ys ≡ outer_loop nulls c xs (λ l. ys)
outer_of_none nulls c xs ys =
    outer_agrees same_value Null [] (λ x. []) nulls c xs ys (Each-all (Agree same_value Null [] (λ x. []) ys) xs (λ x. record { same_partners = refl; same_rest = λ y. none_out 0 y }))
    ∙ flat_map-ext_each (λ x. Unit {0}) (λ x. or_else (flat_map (λ y. pair c (λ a b. a ++ b) x y) (filter (λ y. true) ys)) (ranked (x.values ++ nulls) x.standing))
    (λ x. or_else (flat_map (λ y. pair c (λ a b. a ++ b) x y) ys) (ranked (x.values ++ nulls) x.standing)) xs (Each-all (λ x. Unit {0}) xs (λ x. tt))
    (λ x u. ap (λ l. or_else (flat_map (λ y. pair c (λ a b. a ++ b) x y) l) (ranked (x.values ++ nulls) x.standing)) (all_kept ys))

-- the rows joined with others, and those without a partner
pub outers_apart : (old new : List Node) (n : ℕ) (part next : Apart) (right more : ℕ) (c on : Expr) (own : List Expr) → IsTrue (is_formed old) → plan_width old part.rows ≡ part.width
    → plan_width old right ≡ more → IsGrown n part.width part.conditions next.conditions → next.width ≡ part.width + more → IsOwnCondition n (part.width + more) c own → on ≡ e.All own
    → IsPut old new (node.Outer part.rows right [] more on) next.rows → OutersApart old new n part right more c next
unfolding says plan_width plan_rows
outers_apart old new n part next right more c on own formed wide others g width q is p = record {
  plan = put_more (same_plan old) p;
  last = put_last p;
  wide = let z = put_width p in omega (arith, z, wide, width);
  width = width;
  rows = λ db k d ld.
      let X = plan_rows db old part.rows in
      let Y = plan_rows db old right in
      let nulls : List Value = replicate more Null in
      let K : List Value → ℕ = rank_of on in
      let G : List Value → ℕ = λ t. all_rank next.conditions (d ++ t) in
      let P : List Value → ℕ = λ t. all_rank part.conditions (d ++ t) in
      let C : List Value → ℕ = λ t. rank_of c (d ++ t) in
      let wx : Each (λ x. length x.values ≡ part.width) X = rows_wide db old part.rows part.width formed k wide in
      let wy : Each (λ y. length y.values ≡ more) Y = rows_wide db old right more formed k others in
      let long : (l r : List Value) → length l ≡ part.width → length r ≡ more → length (l ++ r) ≡ part.width + more = λ l r a b. let z = length-append l r in omega (arith, z, a, b) in
      let said : outer_loop nulls K X (λ l. Y) ≡ outer_loop nulls C X (λ l. Y) =
      outer_at_hand nulls K C X (λ l. Y)
      (Each-weaker (λ x. length x.values ≡ part.width) (λ x. Each (λ y. K (x.values ++ y.values) ≡ C (x.values ++ y.values)) Y) X
      (λ x lx. Each-weaker (λ y. length y.values ≡ more) (λ y. K (x.values ++ y.values) ≡ C (x.values ++ y.values)) Y
      (λ y ly.
      let row = x.values ++ y.values in
      ap (λ o. rank_of o row) is ∙ rank_All own row ∙ q.says d row ld (long x.values y.values lx ly)) wy) wx) in
      let here : plan_rows db new next.rows ≡ outer_loop nulls C X (λ l. Y) = put_rows db p ∙ outer_of_none nulls K X Y ∙ said in
      SameBag-trans (same_list (ap (select G) here))
      (select_below_outer C G P nulls X (λ l. Y)
      (Each-weaker (λ x. length x.values ≡ part.width) (OfLeft G P) X (λ x lx r. g.says d x.values r ld lx) wx));
}
