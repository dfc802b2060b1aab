-- A lateral join with aggregates that stand without GROUP BY has the rows of groups under an outer
-- join.
use Rattle.std.proofs.Common.{◌≡◌, ℕ, ◌+◌, ◌<◌, List, [], ◌∷◌, ◌++◌, map, refl, sym, ◌∙◌, ap}
use Rattle.std.proofs.Common.{subst, arith, suc, length, slice_index_or}
use Rattle.std.specs.Prelude.{replicate}
use Rattle.std.specs.List.{All}
use Rattle.std.proofs.lemmas.List.{append_assoc, append-nil, length-append, length-map}
use Rattle.std.proofs.lemmas.List.{length-replicate}
use Rattle.base_row_laws.specs.Ranked.{Ranked, true_rank}
use Rattle.base_row_laws.specs.Bags.{SameBag, Each}
use Rattle.base_row_laws.specs.Operators.{select, project, join_loop, outer_loop, group_by, total}
use Rattle.base_row_laws.specs.StandingLaws.{Stands}
use Rattle.base_row_laws.proofs.Bags.{SameBag-refl, SameBag-sym, SameBag-trans}
use Rattle.base_row_laws.proofs.Lists.{Each-all, Each-weaker}
use Rattle.base_row_laws.proofs.Alike.{select_alike, project_alike}
use Rattle.base_row_laws.proofs.AtHand.{project_at_hand}
use Rattle.base_value.specs.declared.value.Value.{Value}
use Rattle.base_value.specs.declared.value.Value.TheVariants.{Null}
use Rattle.base_value.specs.Value.{same_value}
use Rattle.base_value.proofs.Identity.{value_identity}
use Rattle.expr_scalar.specs.declared.expr.Expr.{Expr}
use Rattle.expr_scalar.specs.declared.expr.Expr.TheVariants as e
use Rattle.expr_scalar.specs.Meaning.{values}
use Rattle.expr_scalar.specs.Rename.{gathered, IsRenamed}
use Rattle.expr_conditions.specs.Ranks.{columns_from, rank_of, says}
use Rattle.expr_conditions.proofs.Ranks.{rank_All, rank_renamed}
use Rattle.expr_conditions.proofs.Gather.{gather_append, gather_at}
use Rattle.plan_algebra.specs.declared.aggregate.Aggregate.{Aggregate}
use Rattle.plan_algebra.specs.declared.tree.DepTree.{DepTree}
use Rattle.plan_algebra.specs.declared.tree.DepTree.TheVariants as t
use Rattle.plan_algebra.specs.declared.tree.Side.{Side}
use Rattle.plan_algebra.specs.declared.tree.Side.TheVariants.{Dependent}
use Rattle.plan_algebra.specs.Trees.{Database, HasKinds, width_of, tree_rows, scans_of, right_row}
use Rattle.plan_algebra.specs.Trees.{listed, keys_under, aggregates_under}
use Rattle.plan_algebra.proofs.NoRows.{length-aggregates_of}
use Rattle.plan_algebra.proofs.Opened.{width_Select, width_Project, width_Join, width_Group}
use Rattle.plan_algebra.proofs.Opened.{rows_Select, rows_Project, rows_Join, rows_Outer, rows_Group}
use Rattle.plan_algebra.proofs.Opened.{scans_Select, scans_Project, scans_Join, scans_Outer}
use Rattle.plan_algebra.proofs.Opened.{scans_Group}
use Rattle.plan_predicate_sinking.specs.Arranged.{SameRows}
use Rattle.plan_predicate_sinking.proofs.Good.{tree_is_good, length-columns_from}
use Rattle.plan_predicate_sinking.proofs.Narrowing.{before, listed_after}
use Rattle.plan_predicate_sinking.proofs.SameNodes.{alike}
use Rattle.plan_predicate_sinking.proofs.Scans.{as_bags, same_list}
use Rattle.plan_join_order.specs.Laterals.{AreNull, IsListAbove}
use Rattle.plan_join_order.proofs.LateralRows.{join_under, outer_under, project_above, select_above}
use Rattle.plan_join_order.proofs.LateralRows.{total_above, IsOneGroup}

-- the condition that is true of all rows
abbrev pub always : List Value → ℕ
always r = true_rank

pub true_says : (d r : List Value) → says (e.All []) d r ≡ true_rank
unfolding says
true_says d r = rank_All [] (d ++ r)

-- the domain row of a right side that depends on these columns
row_is : (cs : List ℕ) (d x : List Value) → right_row (Dependent cs) d x ≡ gathered cs (d ++ x)
unfolding right_row gathered
row_is [] d x = refl
row_is (c ∷ cs) d x = refl

-- that row and the right side's own, out of the joined row
places_row : (n w k : ℕ) (cs : List ℕ) (d l r : List Value) → length d ≡ n → length l ≡ w
    → length r ≡ k → All (λ c. c < n + w) cs
    → gathered (cs ++ columns_from (n + w) k) (d ++ (l ++ r)) ≡ gathered cs (d ++ l) ++ r
places_row n w k cs d l r ld ll lr below =
    let z = d ++ (l ++ r) in
    let run = columns_from (n + w) k in
    let long : length (d ++ l) ≡ n + w =
    length-append d l ∙ ap (λ m. m + length l) ld ∙ ap (λ m. n + m) ll in
    gather_append cs run z
    ∙ ap (λ y. gathered cs y ++ gathered run z) (sym (append_assoc d l r))
    ∙ ap (λ y. y ++ gathered run z) (before cs (d ++ l) r (n + w) long below)
    ∙ ap (λ y. gathered cs (d ++ l) ++ y)
    (gather_at (n + w) k z (d ++ l) r []
    (sym (append_assoc d l r) ∙ ap (λ y. (d ++ l) ++ y) (sym (append-nil r))) long lr)

-- a row without the column that stands between two parts
without_one : (w k : ℕ) (x y : List Value) (v : Value) → length x ≡ w → length y ≡ k
    → gathered (columns_from 0 w ++ columns_from (w + 1) k) (x ++ (v ∷ y)) ≡ x ++ y
without_one w k x y v lx ly =
    let z = x ++ (v ∷ y) in
    let run = columns_from (w + 1) k in
    let long : length (x ++ v ∷ []) ≡ w + 1 = length-append x (v ∷ []) ∙ ap (λ m. m + 1) lx in
    gather_append (columns_from 0 w) run z
    ∙ ap (λ u. u ++ gathered run z) (gather_at 0 w z [] x (v ∷ y) refl refl lx)
    ∙ ap (λ u. x ++ u)
    (gather_at (w + 1) k z (x ++ v ∷ []) y []
    (sym (append_assoc x (v ∷ []) y) ∙ ap (λ u. (x ++ v ∷ []) ++ u) (sym (append-nil y))) long ly)

module _ (n : ℕ) (l input : DepTree) (cs : List ℕ) (below : All (λ c. c < n + width_of l) cs) where
  abbrev w : ℕ
  w = width_of l

  abbrev under : Database → List Value → List Value → List (Ranked Value)
  under db d x = tree_rows input db (gathered cs (d ++ x))

  -- the rows of the join with a right side that makes F of the input's rows
  rows_over : (r : DepTree) (F : List Value → List (Ranked Value) → List (Ranked Value))
      (db : Database) → ((x : List Value) → tree_rows r db x ≡ F x (tree_rows input db x))
      → (d : List Value) → tree_rows (t.Join l r (Dependent cs) (e.All [])) db d
      ≡ join_loop (λ r. true_rank) (tree_rows l db d)
      (λ x. F (gathered cs (d ++ x)) (under db d x))
  rows_over r F db is d =
      rows_Join l r (Dependent cs) (e.All []) db d
      ∙ join_under (says (e.All []) d) always (tree_rows l db d)
      (λ x. tree_rows r db (right_row (Dependent cs) d x))
      (λ x. F (gathered cs (d ++ x)) (under db d x)) (true_says d)
      (λ x. ap (tree_rows r db) (row_is cs d x) ∙ is (gathered cs (d ++ x)))

  -- the places out of the joined rows at hand
  at_places : (db : Database) (d : List Value) → HasKinds db → length d ≡ n
      → (P : List Value → List Value → Type 0)
      → ((x r : List Value) → length x ≡ w
      → gathered (cs ++ columns_from (n + w) (width_of input)) (d ++ (x ++ r))
      ≡ gathered cs (d ++ x) ++ r → P x r)
      → Each (λ x. Each (λ r. P x.values r.values) (under db d x.values)) (tree_rows l db d)
  at_places db d k ld P tells =
      Each-weaker (λ x. length x.values ≡ w)
      (λ x. Each (λ r. P x.values r.values) (under db d x.values)) (tree_rows l db d)
      (λ x lx. Each-weaker (λ r. length r.values ≡ width_of input) (λ r. P x.values r.values)
      (under db d x.values)
      (λ r lr. tells x.values r.values lx
      (places_row n w (width_of input) cs d x.values r.values ld lx lr below))
      (tree_is_good input db (gathered cs (d ++ x.values)) k).wide)
      (tree_is_good l db d k).wide

  pub project_arm : (rows : DepTree) (es list : List Expr) (places : List ℕ)
      → places ≡ cs ++ columns_from (n + w) (width_of input) → IsListAbove n w places es list
      → SameRows n (t.Join l input (Dependent cs) (e.All [])) rows
      → SameRows n (t.Join l (t.Project input es) (Dependent cs) (e.All [])) (t.Project rows list)
  unfolding listed
  project_arm rows es list places is above s =
      let P = t.Project input es in
      let S = Dependent cs in
      let T = e.All [] in
      record {
        scans = as_bags (scans_Join l P S T ∙ ap (λ k. scans_of l ++ k) (scans_Project input es)
            ∙ sym (scans_Join l input S T)) (scans_Project rows list) s.scans;
        width = width_Join l P S T ∙ ap (λ k. w + k) (width_Project input es) ∙ sym above.count
            ∙ sym (width_Project rows list);
        rows = λ db d k ld.
            let L = tree_rows l db d in
            let g = listed list d in
            let F : List Value → List Value → List Value = λ x. listed es (gathered cs (d ++ x)) in
            let inner : tree_rows (t.Join l input S T) db d
            ≡ join_loop (λ r. true_rank) L (under db d) =
            rows_over input (λ x us. us) db (λ x. refl) d in
            let whole : tree_rows (t.Join l P S T) db d
            ≡ project g (join_loop (λ r. true_rank) L (under db d)) =
            rows_over P (λ x us. project (listed es x) us) db (rows_Project input es db) d
            ∙ project_above g F L (under db d)
            (at_places db d k ld (λ x r. g (x ++ r) ≡ x ++ F x r)
            (λ x r lx at. above.reads d x r ld lx
            ∙ ap (λ p. x ++ values es (gathered p (d ++ (x ++ r)))) is
            ∙ ap (λ y. x ++ values es y) at)) in
            alike (whole ∙ ap (project g) (sym inner)) (rows_Project rows list db d)
            (project_alike g (tree_rows (t.Join l input S T) db d) (tree_rows rows db d)
            (s.rows db d k ld));
      }

  pub select_arm : (rows : DepTree) (c above : Expr) (places : List ℕ)
      → places ≡ cs ++ columns_from (n + w) (width_of input) → IsRenamed places c above
      → SameRows n (t.Join l input (Dependent cs) (e.All [])) rows
      → SameRows n (t.Join l (t.Select input c) (Dependent cs) (e.All [])) (t.Select rows above)
  unfolding says
  select_arm rows c above places is ren s =
      let P = t.Select input c in
      let S = Dependent cs in
      let T = e.All [] in
      record {
        scans = as_bags (scans_Join l P S T ∙ ap (λ k. scans_of l ++ k) (scans_Select input c)
            ∙ sym (scans_Join l input S T)) (scans_Select rows above) s.scans;
        width = width_Join l P S T ∙ ap (λ k. w + k) (width_Select input c)
            ∙ sym (width_Join l input S T) ∙ s.width ∙ sym (width_Select rows above);
        rows = λ db d k ld.
            let L = tree_rows l db d in
            let E = says above d in
            let p : List Value → List Value → ℕ = λ x. says c (gathered cs (d ++ x)) in
            let X = join_loop (λ r. true_rank) L (under db d) in
            let inner : tree_rows (t.Join l input S T) db d ≡ X =
            rows_over input (λ x us. us) db (λ x. refl) d in
            let whole : tree_rows (t.Join l P S T) db d
            ≡ join_loop (λ r. true_rank) L (λ x. select (p x) (under db d x)) =
            rows_over P (λ x us. select (says c x) us) db (rows_Select input c db) d in
            alike whole (rows_Select rows above db d)
            (SameBag-trans
            (SameBag-sym (select_above E p L (under db d)
            (at_places db d k ld (λ x r. E (x ++ r) ≡ p x r)
            (λ x r lx at. rank_renamed places c above (d ++ (x ++ r)) ren
            ∙ ap (λ q. rank_of c (gathered q (d ++ (x ++ r)))) is ∙ ap (rank_of c) at))))
            (select_alike E X (tree_rows rows db d)
            (subst (λ y. SameBag y (tree_rows rows db d)) inner (s.rows db d k ld))));
      }

length-under : (aggregates : List Aggregate) (d : List Value) (us : List (Ranked Value))
    → length (aggregates_under aggregates d us) ≡ length aggregates
unfolding aggregates_under
length-under aggregates d us = length-aggregates_of aggregates _

none_under : (aggregates : List Aggregate) (d : List Value) → AreNull aggregates
    → aggregates_under aggregates d [] ≡ replicate (length aggregates) Null
unfolding aggregates_under
none_under aggregates d null = null.values

-- the first column of the domain row is the same for all rows under a left row
first_key : (c : ℕ) (cs : List ℕ) (y r : List Value)
    → keys_under (0 ∷ []) (gathered (c ∷ cs) y) r ≡ slice_index_or y c Null ∷ []
unfolding keys_under gathered
first_key c cs y r = refl

-- the groups under an outer join
module _ (n : ℕ) (l input : DepTree) (c : ℕ) (cs : List ℕ) (aggregates : List Aggregate)
    (null : AreNull aggregates) where
  abbrev S : Side
  S = Dependent (c ∷ cs)

  abbrev T : Expr
  T = e.All []

  abbrev k : ℕ
  k = length aggregates

  abbrev G : DepTree
  G = t.Group input (0 ∷ []) aggregates

  abbrev own : List ℕ
  own = columns_from 0 (width_of l) ++ columns_from (width_of l + 1) k

  abbrev at : List Value → List Value → List Value
  at d x = gathered (c ∷ cs) (d ++ x)

  abbrev A : List Value → List Value → List (Ranked Value) → List Value
  A d x = aggregates_under aggregates (at d x)

  abbrev key : List Value → List Value → List Value → List Value
  key d x = keys_under (0 ∷ []) (at d x)

  abbrev nulls : List Value
  nulls = Null ∷ replicate k Null

  one_group : (d x : List Value) → length x ≡ width_of l
      → IsOneGroup (key d x) (A d x) nulls (gathered own) x
  one_group d x lx = record {
    first = slice_index_or (d ++ x) c Null ∷ [];
    same_key = λ r. first_key c cs (d ++ x) r;
    of_group = λ us. without_one (width_of l) k x (A d x us) (slice_index_or (d ++ x) c Null) lx
        (length-under aggregates (at d x) us);
    of_none = without_one (width_of l) k x (replicate k Null) Null lx (length-replicate k Null)
        ∙ ap (λ y. x ++ y) (sym (none_under aggregates (at d x) null));
  }

  rows_under : (r : DepTree) (F : List Value → List (Ranked Value)) (db : Database)
      → ((x : List Value) → tree_rows r db x ≡ F x) → (d x : List Value)
      → tree_rows r db (right_row S d x) ≡ F (at d x)
  rows_under r F db is d x = ap (tree_rows r db) (row_is (c ∷ cs) d x) ∙ is (at d x)

  -- (a sum of numbers that are not written does not compute)
  nulls_are : replicate (length {A = ℕ} (0 ∷ []) + k) Null ≡ nulls
  nulls_are = ap (λ m. replicate m Null) (one_more k)
    where
      one_more : (m : ℕ) → 1 + m ≡ suc m
      one_more m = omega arith

  outer_rows : (db : Database) (d : List Value) → tree_rows (t.Outer l G S T) db d
      ≡ outer_loop nulls (λ r. true_rank) (tree_rows l db d)
      (λ x. group_by same_value (key d x) (A d x) (tree_rows input db (at d x)))
  outer_rows db d =
      rows_Outer l G S T db d
      ∙ ap (λ m. outer_loop (replicate m Null) (says T d) (tree_rows l db d)
      (λ x. tree_rows G db (right_row S d x))) (width_Group input (0 ∷ []) aggregates)
      ∙ ap (λ y. outer_loop y (says T d) (tree_rows l db d)
      (λ x. tree_rows G db (right_row S d x))) nulls_are
      ∙ outer_under nulls (says T d) always (tree_rows l db d)
      (λ x. tree_rows G db (right_row S d x))
      (λ x. group_by same_value (key d x) (A d x) (tree_rows input db (at d x))) (true_says d)
      (rows_under G (λ x. group_by same_value (keys_under (0 ∷ []) x)
      (aggregates_under aggregates x) (tree_rows input db x)) db
      (rows_Group input (0 ∷ []) aggregates db) d)

  total_rows : (db : Database) (d : List Value)
      → tree_rows (t.Join l (t.Group input [] aggregates) S T) db d
      ≡ join_loop (λ r. true_rank) (tree_rows l db d)
      (λ x. total (A d x) (tree_rows input db (at d x)))
  total_rows db d =
      rows_Join l (t.Group input [] aggregates) S T db d
      ∙ join_under (says T d) always (tree_rows l db d)
      (λ x. tree_rows (t.Group input [] aggregates) db (right_row S d x))
      (λ x. total (A d x) (tree_rows input db (at d x))) (true_says d)
      (rows_under (t.Group input [] aggregates)
      (λ x. total (aggregates_under aggregates x) (tree_rows input db x)) db
      (rows_Group input [] aggregates db) d)

  pub groups_arm : (list : List Expr) → list ≡ map (λ c. e.Column (n + c)) own
      → SameRows n (t.Join l (t.Group input [] aggregates) S T) (t.Project (t.Outer l G S T) list)
  groups_arm list is = record {
    scans = same_list (scans_Join l (t.Group input [] aggregates) S T
        ∙ ap (λ y. scans_of l ++ y) (scans_Group input [] aggregates)
        ∙ ap (λ y. scans_of l ++ y) (sym (scans_Group input (0 ∷ []) aggregates))
        ∙ sym (scans_Outer l G S T) ∙ sym (scans_Project (t.Outer l G S T) list));
    width = width_Join l (t.Group input [] aggregates) S T
        ∙ ap (λ m. width_of l + m) (width_Group input [] aggregates ∙ none_more k)
        ∙ sym (width_Project (t.Outer l G S T) list ∙ ap length is
        ∙ length-map own (λ c. e.Column (n + c))
        ∙ length-append (columns_from 0 (width_of l)) (columns_from (width_of l + 1) k)
        ∙ ap (λ m. m + length (columns_from (width_of l + 1) k))
        (length-columns_from 0 (width_of l))
        ∙ ap (λ m. width_of l + m) (length-columns_from (width_of l + 1) k));
    rows = λ db d kinds ld.
        let L = tree_rows l db d in
        let I : List Value → List (Ranked Value) = λ x. tree_rows input db (at d x) in
        let good = tree_is_good l db d kinds in
        let O = outer_loop nulls (λ r. true_rank) L
        (λ x. group_by same_value (key d x) (A d x) (I x)) in
        let moved : join_loop (λ r. true_rank) L (λ x. total (A d x) (I x))
        ≡ project (gathered own) O =
        total_above same_value value_identity (key d) (A d) nulls (gathered own) L I good.stands
        (Each-all (λ x. Each Stands (I x.values)) L
        (λ x. (tree_is_good input db (at d x.values) kinds).stands))
        (Each-weaker (λ x. length x.values ≡ width_of l)
        (λ x. IsOneGroup (key d x.values) (A d x.values) nulls (gathered own) x.values) L
        (λ x lx. one_group d x.values lx) good.wide) in
        let made : tree_rows (t.Project (t.Outer l G S T) list) db d ≡ project (gathered own) O =
        rows_Project (t.Outer l G S T) list db d
        ∙ ap (project (listed list d)) (outer_rows db d)
        ∙ project_at_hand (listed list d) (gathered own) O
        (Each-all (λ x. listed list d x.values ≡ gathered own x.values) O
        (λ x. ap (λ y. listed y d x.values) is ∙ listed_after n own d x.values ld)) in
        alike (total_rows db d ∙ moved) made (SameBag-refl (project (gathered own) O));
  }
    where
      none_more : (m : ℕ) → 0 + m ≡ m
      none_more m = omega arith
