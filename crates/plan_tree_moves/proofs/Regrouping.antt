-- Groups over some columns of their rows.
use Rattle.std.proofs.Common.{◌≡◌, ℕ, ◌+◌, ◌<◌, ◌≤◌, List, [], ◌∷◌, ◌++◌, map, refl, sym, ◌∙◌, ap}
use Rattle.std.proofs.Common.{subst, arith, suc, length, take, get_or, slice_index_or, Some}
use Rattle.std.specs.Prelude.{slice_get}
use Rattle.std.specs.List.{filter}
use Rattle.std.proofs.lemmas.List.{map-append, length-append, take_more, take_all}
use Rattle.base_row_laws.specs.Ranked.{Ranked, ranked, true_rank}
use Rattle.base_row_laws.specs.Bags.{each_once}
use Rattle.base_row_laws.specs.Rows.{after, same_row, columns}
use Rattle.base_row_laws.specs.Operators.{group_by, least}
use Rattle.base_row_laws.proofs.Bags.{SameBag-refl}
use Rattle.base_row_laws.proofs.Lists.{map-map, map-ext, filter-map, filter-agree, Each-all}
use Rattle.base_row_laws.proofs.Groups.{bottom-map}
use Rattle.base_row_laws.proofs.AtHand.{project_at_hand}
use Rattle.base_value.specs.declared.value.Value.{Value}
use Rattle.base_value.specs.declared.value.Value.TheVariants.{Null}
use Rattle.base_value.specs.Value.{same_value}
use Rattle.expr_scalar.specs.declared.expr.Expr.{Expr}
use Rattle.expr_scalar.specs.declared.expr.Expr.TheVariants as e
use Rattle.expr_scalar.specs.Rename.{gathered, IsRenamed}
use Rattle.expr_scalar.specs.Used.{used}
use Rattle.expr_scalar.proofs.Uses.{used_columns_decide_lem}
use Rattle.expr_aggregates.specs.declared.function.AggregateFunction.{AggregateFunction}
use Rattle.plan_algebra.specs.declared.aggregate.Aggregate.{Aggregate}
use Rattle.plan_algebra.specs.declared.aggregate.Aggregate.TheVariants.{CountRows, Of}
use Rattle.plan_algebra.specs.declared.tree.DepTree.{DepTree}
use Rattle.plan_algebra.specs.declared.tree.DepTree.TheVariants as t
use Rattle.plan_algebra.specs.Aggregates.{aggregates_of, argument_and_function}
use Rattle.plan_algebra.specs.Trees.{tree_rows, listed, keys_under, aggregates_under, groups_under}
use Rattle.plan_algebra.proofs.Opened.{rows_Project, scans_Project, width_Group, rows_Group, scans_Group}
use Rattle.plan_predicate_sinking.specs.Arranged.{SameRows}
use Rattle.plan_predicate_sinking.specs.Narrow.{IsFound, whole_columns}
use Rattle.plan_tree_moves.specs.Regroup.{KeysMove, AggregateMoves, AggregatesMove}
use Rattle.plan_predicate_sinking.proofs.Narrowing.{at_place, found_row, listed_after, kept_row}
use Rattle.plan_predicate_sinking.proofs.SameNodes.{alike}
use Rattle.plan_predicate_sinking.proofs.Scans.{same_list}

-- what is read
pub keys_none : (whole keys : List ℕ) → keys ≡ [] → KeysMove whole [] keys
keys_none whole keys is =
    record { reads = λ row. ap (λ l. columns Null l (gathered whole row)) is; count = ap length is }

pub keys_more : (whole by keys now : List ℕ) (i place : ℕ) → i < length by
    → KeysMove whole (take i by) keys → slice_get whole place ≡ Some (get_or by i 0)
    → now ≡ keys ++ place ∷ [] → KeysMove whole (take (i + 1) by) now
keys_more whole by keys now i place lt before there push =
    let c = get_or by i 0 in
    let next : take (i + 1) by ≡ take i by ++ c ∷ [] = take_more by i 0 lt in
    record {
      reads = λ row.
          let g = gathered whole row in
          ap (λ l. columns Null l g) push
          ∙ map-append (λ k. slice_index_or g k Null) keys (place ∷ [])
          ∙ ap (λ l. l ++ slice_index_or g place Null ∷ []) (before.reads row)
          ∙ ap (λ v. columns Null (take i by) row ++ v ∷ []) (at_place whole row place c there)
          ∙ sym (map-append (λ k. slice_index_or row k Null) (take i by) (c ∷ []))
          ∙ ap (λ l. columns Null l row) (sym next);
      count = ap length push ∙ length-append keys (place ∷ []) ∙ ap (λ m. m + 1) before.count
          ∙ sym (length-append (take i by) (c ∷ [])) ∙ ap length (sym next);
    }

pub keys_end : (whole by keys : List ℕ) (i : ℕ) → length by ≤ i → KeysMove whole (take i by) keys
    → KeysMove whole by keys
keys_end whole by keys i le all = subst (λ l. KeysMove whole l keys) (take_all i by le) all

pub aggregates_end : (whole : List ℕ) (xs all : List Aggregate) (i : ℕ) → length xs ≤ i
    → AggregatesMove whole (take i xs) all → AggregatesMove whole xs all
aggregates_end whole xs all i le m = subst (λ l. AggregatesMove whole l all) (take_all i xs le) m

pub renamed_boxed : {p : List ℕ} {x new boxed : Expr} → boxed ≡ new → IsRenamed p x new
    → IsRenamed p x boxed
renamed_boxed {p} {x} {new} {boxed} i r = subst (λ y. IsRenamed p x y) (sym i) r

pub count_moves : (whole : List ℕ) (a new : Aggregate) → a ≡ CountRows → new ≡ CountRows
    → AggregateMoves whole a new
count_moves whole a new is made =
    subst (λ y. AggregateMoves whole y new) (sym is)
    (subst (λ y. AggregateMoves whole CountRows y) (sym made)
    (record { reads = λ row. refl; same = refl }))

pub of_moves : (whole places : List ℕ) (a new : Aggregate) (function : AggregateFunction)
    (scale : ℕ) (x seen x1 boxed : Expr) → a ≡ Of function scale x → seen ≡ x
    → IsFound places whole seen → x1 ≡ x → IsRenamed places x1 boxed → new ≡ Of function scale boxed
    → AggregateMoves whole a new
of_moves whole places a new function scale x seen x1 boxed is i found i1 ren made =
    let f : IsFound places whole x = subst (λ y. IsFound places whole y) i found in
    let r : IsRenamed places x boxed = subst (λ y. IsRenamed places y boxed) i1 ren in
    subst (λ y. AggregateMoves whole y new) (sym is)
    (subst (λ y. AggregateMoves whole (Of function scale x) y) (sym made)
    (record {
      reads = λ row. r.value (gathered whole row)
          ∙ (used_columns_decide_lem x (gathered places (gathered whole row)) row
          (found_row places whole row (used x) f)).0;
      same = refl;
    }))

pub aggregates_none : (whole : List ℕ) (all : List Aggregate) → all ≡ []
    → AggregatesMove whole [] all
aggregates_none whole all is = subst (λ l. AggregatesMove whole [] l) (sym is) tt

pub aggregates_more : (whole : List ℕ) (xs all now : List Aggregate) (i : ℕ) (x new : Aggregate)
    → i < length xs → x ≡ get_or xs i x → AggregatesMove whole (take i xs) all
    → AggregateMoves whole x new → now ≡ all ++ new ∷ []
    → AggregatesMove whole (take (i + 1) xs) now
aggregates_more whole xs all now i x new lt is before one push =
    subst (λ l. AggregatesMove whole l now)
    (sym (take_more xs i x lt ∙ ap (λ y. take i xs ++ y ∷ []) (sym is)))
    (subst (λ l. AggregatesMove whole (take i xs ++ x ∷ []) l) (sym push)
    (put (take i xs) all before))
  where
    put : (us vs : List Aggregate) → AggregatesMove whole us vs
        → AggregatesMove whole (us ++ x ∷ []) (vs ++ new ∷ [])
    put [] [] m = (one, tt)
    put [] (v ∷ vs) m = elim m [ ]
    put (u ∷ us) [] m = elim m [ ]
    put (u ∷ us) (v ∷ vs) m = (m.0, put us vs m.1)

count_kept : (whole : List ℕ) (xs ys : List Aggregate) → AggregatesMove whole xs ys
    → length xs ≡ length ys
count_kept whole [] [] m = refl
count_kept whole [] (y ∷ ys) m = elim m [ ]
count_kept whole (x ∷ xs) [] m = elim m [ ]
count_kept whole (x ∷ xs) (y ∷ ys) m = ap suc (count_kept whole xs ys m.1)

module _ (n : ℕ) (own whole : List ℕ) (d : List Value) (ld : length d ≡ n)
    (is : whole ≡ whole_columns n own) where
  abbrev g : List Value → List Value
  g x = gathered own x

  abbrev P : Ranked Value → Ranked Value
  P x = ranked (g x.values) x.standing

  row : (x : List Value) → d ++ g x ≡ gathered whole (d ++ x)
  row x = sym (ap (λ l. gathered l (d ++ x)) is ∙ kept_row n own d x ld)

  argument : (x y : Aggregate) → AggregateMoves whole x y → (zs : List (Ranked Value))
      → map (λ (z : Ranked Value). (argument_and_function y).0 z.values) (map (after d) (map P zs))
      ≡ map (λ (z : Ranked Value). (argument_and_function x).0 z.values) (map (after d) zs)
  argument x y m [] = refl
  argument x y m (z ∷ zs) =
      ap (λ v. v ∷ map (λ (z : Ranked Value). (argument_and_function y).0 z.values)
      (map (after d) (map P zs)))
      (ap (argument_and_function y).0 (row z.values) ∙ m.reads (d ++ z.values))
      ∙ ap (λ l. (argument_and_function x).0 (d ++ z.values) ∷ l) (argument x y m zs)

  aggregates_same : (xs ys : List Aggregate) → AggregatesMove whole xs ys
      → (zs : List (Ranked Value)) → aggregates_under ys d (map P zs) ≡ aggregates_under xs d zs
  unfolding aggregates_under aggregates_of
  aggregates_same [] [] m zs = refl
  aggregates_same [] (y ∷ ys) m zs = elim m [ ]
  aggregates_same (x ∷ xs) [] m zs = elim m [ ]
  aggregates_same (x ∷ xs) (y ∷ ys) m zs =
      ap (λ l. (argument_and_function y).1 l ∷ aggregates_under ys d (map P zs))
      (argument x y m.0 zs)
      ∙ ap (λ f. f (map (λ (z : Ranked Value). (argument_and_function x).0 z.values)
      (map (after d) zs)) ∷ aggregates_under ys d (map P zs)) m.0.same
      ∙ ap (λ l. (argument_and_function x).1
      (map (λ (z : Ranked Value). (argument_and_function x).0 z.values) (map (after d) zs)) ∷ l)
      (aggregates_same xs ys m.1 zs)

  keys_same : (by keys : List ℕ) → KeysMove whole by keys → (x : List Value)
      → keys_under keys d (g x) ≡ keys_under by d x
  unfolding keys_under
  keys_same by keys m x = ap (columns Null keys) (row x) ∙ m.reads (d ++ x)

  least_same : (zs : List (Ranked Value)) → least (map P zs) ≡ least zs
  least_same zs = bottom-map true_rank (λ (z : Ranked Value). z.standing) P zs

  classes_same : (k j : List Value → List Value) (A B : List (Ranked Value) → List Value)
      → ((x : List Value) → j (g x) ≡ k x) → ((zs : List (Ranked Value)) → B (map P zs) ≡ A zs)
      → (xs : List (Ranked Value))
      → group_by same_value j B (map P xs) ≡ group_by same_value k A xs
  classes_same k j A B key aggs xs =
      let sr = same_row same_value in
      let F : List Value → Ranked Value = λ q. let ys =
      filter (λ (x : Ranked Value). sr (j x.values) q) (map P xs) in
      ranked (q ++ B ys) (least ys) in
      let G : List Value → Ranked Value = λ q. let ys =
      filter (λ (x : Ranked Value). sr (k x.values) q) xs in ranked (q ++ A ys) (least ys) in
      ap (λ l. map F (each_once sr l))
      (map-map (λ (x : Ranked Value). j x.values) P xs
      ∙ map-ext (λ (x : Ranked Value). j (g x.values)) (λ (x : Ranked Value). k x.values) xs
      (λ x. key x.values))
      ∙ map-ext F G (each_once sr (map (λ (x : Ranked Value). k x.values) xs))
      (λ q.
      let ys = filter (λ (x : Ranked Value). sr (k x.values) q) xs in
      let part : filter (λ (x : Ranked Value). sr (j x.values) q) (map P xs) ≡ map P ys =
      filter-map (λ (x : Ranked Value). sr (j x.values) q) P xs
      ∙ ap (map P) (filter-agree (λ (x : Ranked Value). sr (j (g x.values)) q)
      (λ (x : Ranked Value). sr (k x.values) q) xs (λ x. ap (λ v. sr v q) (key x.values))) in
      ap (λ l. ranked (q ++ B l) (least l)) part
      ∙ ap (λ v. ranked (q ++ v) (least (map P ys))) (aggs ys)
      ∙ ap (λ m. ranked (q ++ A ys) m) (least_same ys))

  groups_same : (by keys : List ℕ) (xs ys : List Aggregate) → KeysMove whole by keys
      → AggregatesMove whole xs ys → (zs : List (Ranked Value))
      → groups_under keys ys d (map P zs) ≡ groups_under by xs d zs
  groups_same [] [] xs ys k m zs =
      ap (λ v. ranked v (least (map P zs)) ∷ []) (aggregates_same xs ys m zs)
      ∙ ap (λ s. ranked (aggregates_under xs d zs) s ∷ []) (least_same zs)
  groups_same [] (c ∷ cs) xs ys k m zs = let h = k.count in absurd (none_some (length cs) h)
    where
      none_some : (a : ℕ) → suc a ≡ 0 → ⊥
      none_some a h = omega (arith, h)
  groups_same (b ∷ bs) [] xs ys k m zs = let h = k.count in absurd (none_some (length bs) h)
    where
      none_some : (a : ℕ) → 0 ≡ suc a → ⊥
      none_some a h = omega (arith, h)
  groups_same (b ∷ bs) (c ∷ cs) xs ys k m zs =
      classes_same (keys_under (b ∷ bs) d) (keys_under (c ∷ cs) d) (aggregates_under xs d)
      (aggregates_under ys d) (λ x. keys_same (b ∷ bs) (c ∷ cs) k x)
      (λ l. aggregates_same xs ys m l) zs

pub regrouped : (n : ℕ) (own whole by keys : List ℕ) (xs ys : List Aggregate) (list : List Expr)
    → whole ≡ whole_columns n own → list ≡ map (λ c. e.Column (n + c)) own → KeysMove whole by keys
    → AggregatesMove whole xs ys
    → (a : DepTree) → SameRows n (t.Group a by xs) (t.Group (t.Project a list) keys ys)
regrouped n own whole by keys xs ys list is cols k m a = record {
  scans = same_list (scans_Group a by xs ∙ sym (scans_Project a list)
      ∙ sym (scans_Group (t.Project a list) keys ys));
  width = width_Group a by xs ∙ ap (λ c. c + length xs) (sym k.count)
      ∙ ap (λ c. length keys + c) (count_kept whole xs ys m)
      ∙ sym (width_Group (t.Project a list) keys ys);
  rows = λ db d kinds ld.
      let A = tree_rows a db d in
      let projected : tree_rows (t.Project a list) db d ≡ map (P n own whole d ld is) A =
      rows_Project a list db d ∙ project_at_hand (listed list d) (gathered own) A
      (Each-all (λ x. listed list d x.values ≡ gathered own x.values) A
      (λ x. ap (λ l. listed l d x.values) cols ∙ listed_after n own d x.values ld)) in
      alike (rows_Group a by xs db d ∙ sym (groups_same n own whole d ld is by keys xs ys k m A))
      (rows_Group (t.Project a list) keys ys db d ∙ ap (groups_under keys ys d) projected)
      (SameBag-refl (groups_under keys ys d (map (P n own whole d ld is) A)));
}
