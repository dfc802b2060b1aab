-- The steps of the code to groups under an outer join.
use Rattle.std.proofs.Common.{◌≡◌, ℕ, ◌+◌, ◌<◌, ◌≤◌, List, [], ◌∷◌, ◌++◌, map, refl, sym, ◌∙◌, ap}
use Rattle.std.proofs.Common.{subst, arith, length, take}
use Rattle.std.proofs.lemmas.List.Elements.{All-head, All-tail}
use Rattle.std.specs.Prelude.{min, replicate}
use Rattle.std.specs.List.{All}
use Rattle.std.proofs.lemmas.List.{length-append, length-map}
use Rattle.std.proofs.lemmas.List.{map-append}
use Rattle.base_row_laws.specs.Ranked.{Ranked, true_rank}
use Rattle.base_row_laws.specs.Bags.{SameBag}
use Rattle.base_row_laws.specs.Operators.{select, join_loop}
use Rattle.base_row_laws.proofs.Bags.{SameBag-refl, SameBag-sym, SameBag-trans}
use Rattle.base_row_laws.proofs.Lists.{Each-all}
use Rattle.base_row_laws.proofs.Alike.{select_alike}
use Rattle.base_row_laws.proofs.AtHand.{select_at_hand}
use Rattle.base_row_laws.proofs.Moves.{select_into_join}
use Rattle.base_row_laws.proofs.Standings.{select_true}
use Rattle.base_value.specs.Truth.{truth_rank}
use Rattle.base_value.specs.declared.truth.Fault.TheVariants.{TooManyRows, DivideByZero}
use Rattle.base_value.specs.declared.truth.Fault.TheVariants.{NumberRange}
use Rattle.base_value.specs.declared.truth.Standing.TheVariants.{AtFault, AtTrue}
use Rattle.base_value.specs.declared.truth.Truth.{Truth}
use Rattle.base_value.specs.declared.truth.Truth.TheVariants.{False, Unknown, Stands as Standing}
use Rattle.base_value.specs.declared.value.Value.{Value}
use Rattle.base_value.specs.declared.value.Value.TheVariants.{Null}
use Rattle.expr_scalar.specs.declared.expr.Expr.{Expr}
use Rattle.expr_scalar.specs.declared.expr.Expr.TheVariants as e
use Rattle.expr_scalar.specs.Meaning.{value, values, truth}
use Rattle.expr_scalar.specs.Rename.{gathered, IsRenamed}
use Rattle.expr_conditions.specs.Ranks.{columns_from, rank_of, says, AreRenamed}
use Rattle.expr_conditions.proofs.Gather.{gather_at}
use Rattle.plan_algebra.specs.declared.aggregate.Aggregate.{Aggregate}
use Rattle.plan_algebra.specs.declared.tree.DepTree.{DepTree}
use Rattle.plan_algebra.specs.declared.tree.DepTree.TheVariants as t
use Rattle.plan_algebra.specs.declared.tree.Side.{Side}
use Rattle.plan_algebra.specs.declared.tree.Side.TheVariants.{Dependent}
use Rattle.plan_algebra.specs.Aggregates.{aggregates_of}
use Rattle.plan_algebra.specs.Trees.{width_of, tree_rows, scans_of, right_row}
use Rattle.plan_algebra.specs.Trees.{listed}
use Rattle.plan_algebra.proofs.NoRows.{length-aggregates_of}
use Rattle.plan_algebra.proofs.Opened.{width_Select, width_Join}
use Rattle.plan_algebra.proofs.Opened.{rows_Select, rows_Join}
use Rattle.plan_algebra.proofs.Opened.{scans_Select, scans_Join}
use Rattle.plan_predicate_sinking.specs.Arranged.{SameRows}
use Rattle.plan_predicate_sinking.proofs.Conditions.{renamed_length}
use Rattle.plan_predicate_sinking.proofs.Good.{tree_is_good, length-columns_from}
use Rattle.plan_predicate_sinking.proofs.Narrowing.{listed_after, every_end}
use Rattle.plan_predicate_sinking.proofs.Scans.{as_bags}
use Rattle.plan_join_order.specs.Laterals.{AreNull, IsListAbove, IsKept}
use Rattle.plan_join_order.proofs.LateralRows.{join_under}
use Rattle.plan_join_order.proofs.Laterals.{always, true_says, project_arm, select_arm, groups_arm}

-- aggregates of no rows that are all null
all_null : (vs : List Value) → All (λ v. v ≡ Null) vs → vs ≡ replicate (length vs) Null
all_null [] all = refl
all_null (v ∷ vs) all =
    ap (λ x. x ∷ vs) (All-head (λ v. v ≡ Null) v vs all)
    ∙ ap (λ l. Null ∷ l) (all_null vs (All-tail (λ v. v ≡ Null) v vs all))

pub null_end : (aggregates : List Aggregate) (vs seen : List Value) (i : ℕ)
    → vs ≡ aggregates_of aggregates [] → seen ≡ vs → length seen ≤ i
    → All (λ v. v ≡ Null) (take i seen) → AreNull aggregates
null_end aggregates vs seen i is same le all =
    let whole : All (λ v. v ≡ Null) (aggregates_of aggregates []) =
    subst (λ l. All (λ v. v ≡ Null) l) (same ∙ is) (every_end (λ v. v ≡ Null) seen i le all) in
    record {
      values = all_null (aggregates_of aggregates []) whole
          ∙ ap (λ m. replicate m Null) (length-aggregates_of aggregates []);
    }

-- the lists and conditions as the code makes them
pub list_made : (n w : ℕ) (places own : List ℕ) (es start more list : List Expr)
    → own ≡ columns_from 0 w → start ≡ map (λ c. e.Column (n + c)) own → AreRenamed places es more
    → list ≡ start ++ more → IsListAbove n w places es list
unfolding listed values
list_made n w places own es start more list run first ren is = record {
  count = ap length is ∙ length-append start more ∙ ap (λ m. m + length more) (ap length first
      ∙ length-map own (λ c. e.Column (n + c)) ∙ ap length run ∙ length-columns_from 0 w)
      ∙ ap (λ m. w + m) (renamed_length places es more ren);
  reads = λ d l t ld ll.
      let row = d ++ (l ++ t) in
      let here : listed start d (l ++ t) ≡ l =
      ap (λ y. listed y d (l ++ t)) first ∙ listed_after n own d (l ++ t) ld
      ∙ ap (λ y. gathered y (l ++ t)) run ∙ gather_at 0 w (l ++ t) [] l t refl refl ll in
      ap (λ y. values y row) is ∙ map-append (λ y. value y row) start more
      ∙ ap (λ y. y ++ values more row) here ∙ ap (λ y. l ++ y) (ren.values row);
}

pub groups_made : (n : ℕ) (l input new rows G : DepTree) (columns seen own : List ℕ)
    (aggregates : List Aggregate) (list : List Expr) (first after more : ℕ) (on : Expr)
    → 0 < length columns → AreNull aggregates → first ≡ width_of l → more ≡ length aggregates
    → after ≡ first + 1 → own ≡ columns_from 0 first ++ columns_from after more
    → list ≡ map (λ c. e.Column (n + c)) own → G ≡ t.Group input (0 ∷ []) aggregates
    → on ≡ e.All [] → seen ≡ columns → rows ≡ t.Outer l G (Dependent seen) on
    → new ≡ t.Project rows list
    → SameRows n (t.Join l (t.Group input [] aggregates) (Dependent columns) (e.All [])) new
groups_made n l input new rows G [] seen own aggregates list first after more on some null =
    λ a b c d x g o s r p.
    absurd (none some)
  where
    none : 0 < 0 → ⊥
    none h = omega (arith, h)
groups_made n l input new rows G (c ∷ cs) seen own aggregates list first after more on some null =
    λ wide long next run is group true same outer made.
    let k = length aggregates in
    let w = width_of l in
    let whole : own ≡ columns_from 0 w ++ columns_from (w + 1) k =
    run ∙ ap (λ m. columns_from 0 m ++ columns_from after more) wide
    ∙ ap (λ m. columns_from 0 w ++ columns_from m more) (next ∙ ap (λ m. m + 1) wide)
    ∙ ap (λ m. columns_from 0 w ++ columns_from (w + 1) m) long in
    let tree : new ≡ t.Project (t.Outer l (t.Group input (0 ∷ []) aggregates) (Dependent (c ∷ cs))
    (e.All [])) list =
    made ∙ ap (λ y. t.Project y list) (outer
    ∙ ap (λ y. t.Outer l y (Dependent seen) on) group
    ∙ ap (λ y. t.Outer l (t.Group input (0 ∷ []) aggregates) (Dependent y) on) same
    ∙ ap (λ y. t.Outer l (t.Group input (0 ∷ []) aggregates) (Dependent (c ∷ cs)) y) true) in
    subst (λ y. SameRows n
    (t.Join l (t.Group input [] aggregates) (Dependent (c ∷ cs)) (e.All [])) y) (sym tree)
    (groups_arm n l input c cs aggregates null list (is ∙ ap (map (λ c. e.Column (n + c))) whole))

pub kept_all : (on : Expr) (rows new : DepTree) → on ≡ e.All [] → new ≡ rows → IsKept on rows new
kept_all on rows new is same = record {
  scans = ap scans_of same;
  width = ap width_of same;
  rows = λ db d k.
      let X = tree_rows rows db d in
      let all : select (says on d) X ≡ X =
      select_at_hand (says on d) always X (Each-all (λ x. says on d x.values ≡ true_rank) X
      (λ x. ap (λ c. says c d x.values) is ∙ true_says d x.values))
      ∙ select_true X (tree_is_good rows db d k).stands in
      subst (λ y. SameBag (tree_rows y db d) (select (says on d) X)) (sym same)
      (subst (λ y. SameBag X y) (sym all) (SameBag-refl X));
}

pub kept_some : (on : Expr) (rows new : DepTree) → new ≡ t.Select rows on → IsKept on rows new
kept_some on rows new is = record {
  scans = ap scans_of is ∙ scans_Select rows on;
  width = ap width_of is ∙ width_Select rows on;
  rows = λ db d k.
      subst (λ y. SameBag y (select (says on d) (tree_rows rows db d)))
      (sym (ap (λ y. tree_rows y db d) is ∙ rows_Select rows on db d))
      (SameBag-refl (select (says on d) (tree_rows rows db d)));
}

rank_within : (c : Expr) (row : List Value) → rank_of c row ≤ true_rank
unfolding rank_of
rank_within c row = go (truth c row)
  where
    go : (t : Truth) → truth_rank t ≤ true_rank
    go False = omega arith
    go Unknown = omega arith
    go (Standing AtTrue) = omega arith
    go (Standing (AtFault TooManyRows)) = omega arith
    go (Standing (AtFault DivideByZero)) = omega arith
    go (Standing (AtFault NumberRange)) = omega arith

below_true : (c : Expr) (d r : List Value) → min true_rank (says c d r) ≡ says c d r
unfolding says
below_true c d r = let h = rank_within c (d ++ r) in omega (arith, h)

pub join_kept : (n : ℕ) (l r rows new : DepTree) (s : Side) (on : Expr)
    → SameRows n (t.Join l r s (e.All [])) rows → IsKept on rows new
    → SameRows n (t.Join l r s on) new
join_kept n l r rows new s on same kept = record {
  scans = as_bags (scans_Join l r s on ∙ sym (scans_Join l r s (e.All []))) kept.scans same.scans;
  width = width_Join l r s on ∙ sym (width_Join l r s (e.All [])) ∙ same.width ∙ sym kept.width;
  rows = λ db d k ld.
      let L = tree_rows l db d in
      let R : List Value → List (Ranked Value) = λ x. tree_rows r db (right_row s d x) in
      let X = join_loop (says (e.All []) d) L R in
      let C = says on d in
      let whole : tree_rows (t.Join l r s on) db d
      ≡ join_loop (λ z. min (says (e.All []) d z) (C z)) L R =
      rows_Join l r s on db d
      ∙ sym (join_under (λ z. min (says (e.All []) d z) (C z)) C L R R
      (λ z. ap (λ m. min m (C z)) (true_says d z) ∙ below_true on d z) (λ x. refl)) in
      subst (λ y. SameBag y (tree_rows new db d)) (sym whole)
      (SameBag-trans (SameBag-sym (select_into_join (says (e.All []) d) C L R))
      (SameBag-trans
      (select_alike C X (tree_rows rows db d)
      (subst (λ y. SameBag y (tree_rows rows db d)) (rows_Join l r s (e.All []) db d)
      (same.rows db d k ld)))
      (SameBag-sym (kept.rows db d k))));
}

-- a right side under a select list or a selection, as the code reads it
pub project_made : (n : ℕ) (l r input rows new : DepTree) (cs places read : List ℕ)
    (es es1 list : List Expr) (first more : ℕ) → All (λ c. c < n + width_of l) cs
    → r ≡ t.Project input es → first ≡ width_of l → more ≡ width_of input
    → places ≡ cs ++ columns_from (n + first) more → read ≡ places → es1 ≡ es
    → IsListAbove n first read es1 list
    → SameRows n (t.Join l input (Dependent cs) (e.All [])) rows → new ≡ t.Project rows list
    → SameRows n (t.Join l r (Dependent cs) (e.All [])) new
project_made n l r input rows new cs places read es es1 list first more below is wide long at same
    again above s made =
    let w = width_of l in
    let whole : read ≡ cs ++ columns_from (n + w) (width_of input) =
    same ∙ at ∙ ap (λ m. cs ++ columns_from (n + m) more) wide
    ∙ ap (λ m. cs ++ columns_from (n + w) m) long in
    let list_is : IsListAbove n w read es list =
    subst (λ m. IsListAbove n m read es list) wide
    (subst (λ y. IsListAbove n first read y list) again above) in
    subst (λ y. SameRows n (t.Join l y (Dependent cs) (e.All [])) new) (sym is)
    (subst (λ y. SameRows n (t.Join l (t.Project input es) (Dependent cs) (e.All [])) y) (sym made)
    (project_arm n l input cs below rows es list read whole list_is s))

pub select_made : (n : ℕ) (l r input rows new : DepTree) (cs places read : List ℕ)
    (c c1 above above1 : Expr) (first more : ℕ) → All (λ c. c < n + width_of l) cs
    → r ≡ t.Select input c → first ≡ width_of l → more ≡ width_of input
    → places ≡ cs ++ columns_from (n + first) more → read ≡ places → c1 ≡ c
    → IsRenamed read c1 above → above1 ≡ above
    → SameRows n (t.Join l input (Dependent cs) (e.All [])) rows → new ≡ t.Select rows above1
    → SameRows n (t.Join l r (Dependent cs) (e.All [])) new
select_made n l r input rows new cs places read c c1 above above1 first more below is wide long at
    same again ren boxed s made =
    let w = width_of l in
    let whole : read ≡ cs ++ columns_from (n + w) (width_of input) =
    same ∙ at ∙ ap (λ m. cs ++ columns_from (n + m) more) wide
    ∙ ap (λ m. cs ++ columns_from (n + w) m) long in
    subst (λ y. SameRows n (t.Join l y (Dependent cs) (e.All [])) new) (sym is)
    (subst (λ y. SameRows n (t.Join l (t.Select input c) (Dependent cs) (e.All [])) y)
    (sym (made ∙ ap (λ y. t.Select rows y) boxed))
    (select_arm n l input cs below rows c above read whole
    (subst (λ y. IsRenamed read y above) again ren) s))

pub lateral_made : (n : ℕ) (l r rows new : DepTree) (s : Side) (cs seen : List ℕ) (on : Expr)
    → s ≡ Dependent cs → seen ≡ cs → SameRows n (t.Join l r (Dependent seen) (e.All [])) rows
    → IsKept on rows new → SameRows n (t.Join l r s on) new
lateral_made n l r rows new s cs seen on is same made kept =
    subst (λ y. SameRows n (t.Join l r y on) new) (sym is)
    (join_kept n l r rows new (Dependent cs) on
    (subst (λ y. SameRows n (t.Join l r (Dependent y) (e.All [])) rows) same made) kept)
