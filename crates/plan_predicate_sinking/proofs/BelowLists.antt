-- A selection above a select list, groups or DISTINCT is one below it, where it reads no computed
-- column.
use Rattle.std.proofs.Common.{◌≡◌, ℕ, ◌+◌, ◌-◌, ◌<◌, ◌≤◌, List, [], ◌∷◌, ◌++◌, refl, sym, ◌∙◌, ap}
use Rattle.std.proofs.Common.{subst, arith, zero, suc, length, take, get_or, slice_index_or, Some}
use Rattle.std.proofs.Common.{◌==◌, false, inl, inr}
use Rattle.std.proofs.lemmas.Bool.{cases_Bool, eqb-true}
use Rattle.std.specs.Prelude.{min, slice_get}
use Rattle.std.specs.List.{All}
use Rattle.std.proofs.lemmas.List.{append-nil, length-map, take_more, take_all, get_or_append_left}
use Rattle.std.proofs.lemmas.List.{get_or-append-add}
use Rattle.std.proofs.lemmas.List.Elements.{All-append, All-nil, All-cons, All-head, All-tail}
use Rattle.base_row_laws.specs.Bags.{SameBag}
use Rattle.base_row_laws.specs.Operators.{select, project, distinct}
use Rattle.base_row_laws.proofs.Bags.{SameBag-refl, SameBag-sym, SameBag-trans}
use Rattle.base_row_laws.proofs.Lists.{Each-all}
use Rattle.base_row_laws.proofs.Alike.{project_alike}
use Rattle.base_row_laws.proofs.AtHand.{select_at_hand}
use Rattle.base_row_laws.proofs.Moves.{select_twice, select_through_project}
use Rattle.base_row_laws.proofs.Below.{select_below_distinct}
use Rattle.base_value.specs.Truth.{truth_rank}
use Rattle.base_value.specs.Value.{same_value}
use Rattle.base_value.specs.declared.value.Value.{Value}
use Rattle.base_value.specs.declared.value.Value.TheVariants.{Null}
use Rattle.base_value.proofs.Identity.{value_identity}
use Rattle.expr_scalar.specs.declared.expr.Expr.{Expr}
use Rattle.expr_scalar.specs.declared.expr.Expr.TheVariants as e
use Rattle.expr_scalar.specs.Meaning.{value, values}
use Rattle.expr_scalar.specs.Rename.{gathered, IsRenamed}
use Rattle.expr_scalar.specs.Used.{used}
use Rattle.expr_scalar.proofs.Opened.{value_Column}
use Rattle.expr_scalar.proofs.Uses.{used_columns_decide_lem}
use Rattle.expr_conditions.specs.Ranks.{rank_of, all_rank, all_say, says, ReadsBelow}
use Rattle.expr_conditions.proofs.Ranks.{all_rank-push, rank_renamed}
use Rattle.plan_algebra.specs.declared.tree.DepTree.{DepTree}
use Rattle.plan_algebra.specs.declared.tree.DepTree.TheVariants as t
use Rattle.plan_algebra.specs.Trees.{tree_rows, listed, width_of, scans_of}
use Rattle.plan_algebra.proofs.Opened.{width_Select, width_Project, width_Distinct, rows_Select}
use Rattle.plan_algebra.proofs.Opened.{rows_Project, rows_Distinct, scans_Select, scans_Project}
use Rattle.plan_algebra.proofs.Opened.{scans_Distinct, width_Set, rows_Set, scans_Set, rows_uneven}
use Rattle.plan_algebra.proofs.Opened.{scans_uneven}
use Rattle.base_set_rows.specs.declared.kind.SetOperation.{SetOperation}
use Rattle.base_set_rows.specs.SetOperations.{set_rows}
use Rattle.base_set_rows.proofs.Operations.{select_below_set_rows}
use Rattle.plan_predicate_sinking.specs.Arranged.{SameRows}
use Rattle.plan_predicate_sinking.specs.Below.{IsPlaceBelow, IsReadBelow, IsMovable, AreLowered, PutLowered}
use Rattle.plan_predicate_sinking.specs.Selected.{IsSelected}
use Rattle.plan_predicate_sinking.specs.Sink.{Sinks}
use Rattle.plan_predicate_sinking.proofs.Conditions.{all_is}
use Rattle.plan_predicate_sinking.proofs.Good.{tree_is_good}
use Rattle.plan_predicate_sinking.proofs.Narrowing.{at_place}
use Rattle.plan_predicate_sinking.proofs.SameNodes.{alike, same_project, same_distinct, same_set}
use Rattle.plan_predicate_sinking.proofs.Scans.{same_list}
use Rattle.plan_predicate_sinking.proofs.Sinking.{trans, sunk_over, split_none}

-- where columns stand
pub place_of_domain : (n : ℕ) (es : List Expr) (column : ℕ) → column < n
    → IsPlaceBelow n es column column
place_of_domain n es column lt = record {
  within = omega (arith, lt);
  reads = λ d r v ld.
      let h : column < length d = subst (λ m. column < m) (sym ld) lt in
      get_or_append_left d r Null column h
      ∙ sym (get_or_append_left d (listed es d r ++ v) Null column h);
}

at_list : (es : List Expr) (row : List Value) (i : ℕ) (x : Expr) → i < length es
    → slice_index_or (values es row) i Null ≡ value (get_or es i x) row
unfolding values
at_list [] row i x h = absurd (omega (arith, h))
at_list (y ∷ es) row zero x h = refl
at_list (y ∷ es) row (suc i) x h = at_list es row i x (omega (arith, h))

length_values : (es : List Expr) (row : List Value) → length (values es row) ≡ length es
unfolding values
length_values es row = length-map es (λ x. value x row)

pub place_of_list : (n : ℕ) (es : List Expr) (column i place : ℕ) (x : Expr) → x ≡ get_or es i x
    → i < length es → n ≤ column → i ≡ column - n → x ≡ e.Column place
    → IsPlaceBelow n es column place
unfolding listed
place_of_list n es column i place x there w le is made =
    let column_is : column ≡ n + i = omega (arith, is, le) in
    record {
      within = omega (arith, w, column_is);
      reads = λ d r v ld.
          let row = d ++ r in
          let F = values es row in
          let lt : i < length F = subst (λ m. i < m) (sym (length_values es row)) w in
          sym (ap (λ m. slice_index_or (d ++ (F ++ v)) m Null)
          (column_is ∙ ap (λ m. m + i) (sym ld))
          ∙ get_or-append-add d (F ++ v) i Null ∙ get_or_append_left F v Null i lt
          ∙ at_list es row i x w
          ∙ ap (λ y. value y row) (sym there ∙ made) ∙ value_Column place row);
    }

pub read_below : (n : ℕ) (es : List Expr) (places : List ℕ) (column place : ℕ)
    → IsPlaceBelow n es column place → slice_get places column ≡ Some place
    → IsReadBelow n es places column
read_below n es places column place p there = record {
  within = p.within;
  reads = λ d r v ld. at_place places (d ++ r) column place there ∙ p.reads d r v ld;
}

-- what conditions say of the row below
module _ (n : ℕ) (es : List Expr) (places : List ℕ) (d r v : List Value) (ld : length d ≡ n) where
  read_row : (cs : List ℕ) → All (IsReadBelow n es places) cs
      → gathered cs (gathered places (d ++ r)) ≡ gathered cs (d ++ (listed es d r ++ v))
  unfolding gathered
  read_row [] all = refl
  read_row (c ∷ cs) all =
      let one : IsReadBelow n es places c = All-head (IsReadBelow n es places) c cs all in
      ap (λ y. y ∷ gathered cs (gathered places (d ++ r))) (one.reads d r v ld)
      ∙ ap (λ l. slice_index_or (d ++ (listed es d r ++ v)) c Null ∷ l)
      (read_row cs (All-tail (IsReadBelow n es places) c cs all))

  moved_rank : (c new : Expr) → IsMovable n es places c → IsRenamed places c new
      → rank_of new (d ++ r) ≡ rank_of c (d ++ (listed es d r ++ v))
  unfolding rank_of
  moved_rank c new m ren =
      rank_renamed places c new (d ++ r) ren
      ∙ ap truth_rank ((used_columns_decide_lem c (gathered places (d ++ r))
      (d ++ (listed es d r ++ v)) (read_row (used c) m)).1)

pub lowered_none : (n : ℕ) (es below above : List Expr) → below ≡ [] → above ≡ []
    → AreLowered n es [] below above
lowered_none n es below above empty none =
    subst (λ l. AreLowered n es [] l above) (sym empty)
    (subst (λ l. AreLowered n es [] [] l) (sym none)
    (record { moved = []; split = split_none (n + length es); reads = λ d r v ld. refl }))

pub put_lower : (n : ℕ) (es : List Expr) (places : List ℕ) (c new : Expr)
    (below now above : List Expr) → IsMovable n es places c → IsRenamed places c new
    → now ≡ below ++ new ∷ [] → PutLowered n es c below now above above
put_lower n es places c new below now above m ren push = record {
  more = λ conditions l. record {
    moved = l.moved ++ c ∷ [];
    split = record {
      says = λ row.
          ap (λ k. min k (all_rank above row)) (all_rank-push l.moved c row)
          ∙ swap (all_rank l.moved row) (rank_of c row) (all_rank above row)
          ∙ ap (λ k. min k (rank_of c row)) (l.split.says row)
          ∙ sym (all_rank-push conditions c row);
      within = All-append (ReadsBelow (n + length es)) l.moved (c ∷ []) l.split.within
          (All-cons (ReadsBelow (n + length es)) c [] (λ j q b. (m j q b).within)
          (All-nil (ReadsBelow (n + length es))));
    };
    reads = λ d r v ld.
        let row = d ++ (listed es d r ++ v) in
        ap (λ k. all_rank k (d ++ r)) push ∙ all_rank-push below new (d ++ r)
        ∙ ap (λ k. min k (rank_of new (d ++ r))) (l.reads d r v ld)
        ∙ ap (λ k. min (all_rank l.moved row) k) (moved_rank n es places d r v ld c new m ren)
        ∙ sym (all_rank-push l.moved c row);
  };
}
  where
    swap : (a b c : ℕ) → min (min a b) c ≡ min (min a c) b
    swap a b c = omega arith

pub put_higher : (n : ℕ) (es : List Expr) (c new : Expr) (below above then : List Expr) → new ≡ c
    → then ≡ above ++ new ∷ [] → PutLowered n es c below below above then
put_higher n es c new below above then is push = record {
  more = λ conditions l. record {
    moved = l.moved;
    split = record {
      says = λ row.
          ap (λ k. min (all_rank l.moved row) (all_rank k row)) push
          ∙ ap (λ k. min (all_rank l.moved row) k) (all_rank-push above new row)
          ∙ ap (λ y. min (all_rank l.moved row) (min (all_rank above row) (rank_of y row))) is
          ∙ assoc (all_rank l.moved row) (all_rank above row) (rank_of c row)
          ∙ ap (λ k. min k (rank_of c row)) (l.split.says row)
          ∙ sym (all_rank-push conditions c row);
      within = l.split.within;
    };
    reads = l.reads;
  };
}
  where
    assoc : (a b c : ℕ) → min a (min b c) ≡ min (min a b) c
    assoc a b c = omega arith

pub lowered_more : (n : ℕ) (es conditions below now above then : List Expr) (i : ℕ) (x : Expr)
    → i < length conditions → x ≡ get_or conditions i x
    → AreLowered n es (take i conditions) below above → PutLowered n es x below now above then
    → AreLowered n es (take (i + 1) conditions) now then
lowered_more n es conditions below now above then i x lt is before put =
    subst (λ l. AreLowered n es l now then)
    (sym (take_more conditions i x lt ∙ ap (λ y. take i conditions ++ y ∷ []) (sym is)))
    (put.more (take i conditions) before)

pub lowered_end : (n : ℕ) (es conditions below above : List Expr) (i : ℕ) → length conditions ≤ i
    → AreLowered n es (take i conditions) below above → AreLowered n es conditions below above
lowered_end n es conditions below above i le all =
    subst (λ l. AreLowered n es l below above) (take_all i conditions le) all

-- a select list
pub list_law : (n : ℕ) (a : DepTree) (es conditions below above : List Expr)
    → AreLowered n es conditions below above
    → SameRows n (t.Select (t.Project a es) (e.All conditions))
    (t.Select (t.Project (t.Select a (e.All below)) es) (e.All above))
unfolding all_say
list_law n a es conditions below above l = record {
  scans = same_list (scans_Select (t.Project a es) (e.All conditions) ∙ scans_Project a es
      ∙ sym (scans_Select a (e.All below))
      ∙ sym (scans_Project (t.Select a (e.All below)) es)
      ∙ sym (scans_Select (t.Project (t.Select a (e.All below)) es) (e.All above)));
  width = width_Select (t.Project a es) (e.All conditions) ∙ width_Project a es
      ∙ sym (width_Project (t.Select a (e.All below)) es)
      ∙ sym (width_Select (t.Project (t.Select a (e.All below)) es) (e.All above));
  rows = λ db d k ld.
      let T = tree_rows a db d in
      let F = listed es d in
      let P = says (e.All conditions) d in
      let B = says (e.All below) d in
      let A = says (e.All above) d in
      let C : List Value → ℕ = λ r. A (F r) in
      let S = select B T in
      let at : (r : List Value) → P (F r) ≡ min (B r) (C r) =
      λ r. sym (all_is conditions d (F r)) ∙ sym (l.split.says (d ++ F r))
      ∙ ap (λ m. min m (all_rank above (d ++ F r)))
      (ap (λ q. all_rank l.moved (d ++ q)) (sym (append-nil (F r))) ∙ sym (l.reads d r [] ld)
      ∙ all_is below d r)
      ∙ ap (λ m. min (B r) m) (all_is above d (F r)) in
      let through : SameBag (select P (project F T)) (project F (select (λ r. min (B r) (C r)) T)) =
      subst (λ xs. SameBag (select P (project F T)) (project F xs))
      (select_at_hand (λ r. P (F r)) (λ r. min (B r) (C r)) T
      (Each-all (λ x. P (F x.values) ≡ min (B x.values) (C x.values)) T (λ x. at x.values)))
      (select_through_project P F T) in
      let parted : SameBag (project F (select (λ r. min (B r) (C r)) T)) (project F (select C S)) =
      project_alike F (select (λ r. min (B r) (C r)) T) (select C S)
      (SameBag-sym (select_twice B C T)) in
      alike (rows_Select (t.Project a es) (e.All conditions) db d
      ∙ ap (select P) (rows_Project a es db d))
      (rows_Select (t.Project (t.Select a (e.All below)) es) (e.All above) db d
      ∙ ap (select A) (rows_Project (t.Select a (e.All below)) es db d
      ∙ ap (project F) (rows_Select a (e.All below) db d)))
      (SameBag-trans through (SameBag-trans parted (SameBag-sym (select_through_project A F S))));
}

pub sunk_list : (n : ℕ) (tree a a1 child made new : DepTree)
    (es es1 es2 conditions seen below above : List Expr) → tree ≡ t.Project a es → es1 ≡ es
    → seen ≡ conditions → AreLowered n es1 seen below above
    → a1 ≡ a → Sinks n a1 below child → es2 ≡ es → made ≡ t.Project child es2
    → IsSelected made above new → Sinks n tree conditions new
sunk_list n tree a a1 child made new es es1 es2 conditions seen below above is ie ic l ia s ie2
    made_is sel =
    let low : AreLowered n es conditions below above =
    subst (λ k. AreLowered n k conditions below above) ie
    (subst (λ k. AreLowered n es1 k below above) ic l) in
    let B = t.Select a (e.All below) in
    let same : SameRows n (t.Project B es) made =
    subst (λ y. SameRows n (t.Project B es) y)
    (sym (made_is ∙ ap (λ (k : List Expr). t.Project child k) ie2))
    (same_project n B child es (subst (λ y. Sinks n y below child) ia s)) in
    subst (λ y. Sinks n y conditions new) (sym is)
    (trans n (t.Select (t.Project a es) (e.All conditions))
    (t.Select (t.Project B es) (e.All above)) new (list_law n a es conditions below above low)
    (sunk_over n (t.Project B es) made new above same sel))

-- identical rows once
distinct_law : (n : ℕ) (a : DepTree) (conditions : List Expr)
    → SameRows n (t.Select (t.Distinct a) (e.All conditions))
    (t.Distinct (t.Select a (e.All conditions)))
distinct_law n a conditions = record {
  scans = same_list (scans_Select (t.Distinct a) (e.All conditions) ∙ scans_Distinct a
      ∙ sym (scans_Select a (e.All conditions))
      ∙ sym (scans_Distinct (t.Select a (e.All conditions))));
  width = width_Select (t.Distinct a) (e.All conditions) ∙ width_Distinct a
      ∙ sym (width_Select a (e.All conditions))
      ∙ sym (width_Distinct (t.Select a (e.All conditions)));
  rows = λ db d k ld.
      let T = tree_rows a db d in
      let P = says (e.All conditions) d in
      alike (rows_Select (t.Distinct a) (e.All conditions) db d
      ∙ ap (select P) (rows_Distinct a db d))
      (rows_Distinct (t.Select a (e.All conditions)) db d
      ∙ ap (distinct same_value) (rows_Select a (e.All conditions) db d))
      (select_below_distinct same_value value_identity P T (tree_is_good a db d k).stands);
}

pub sunk_distinct : (n : ℕ) (tree a a1 child made : DepTree) (conditions : List Expr)
    → tree ≡ t.Distinct a → a1 ≡ a → Sinks n a1 conditions child → made ≡ t.Distinct child
    → Sinks n tree conditions made
sunk_distinct n tree a a1 child made conditions is ia s made_is =
    let S = t.Select a (e.All conditions) in
    subst (λ y. Sinks n y conditions made) (sym is)
    (subst (λ y. Sinks n (t.Distinct a) conditions y) (sym made_is)
    (trans n (t.Select (t.Distinct a) (e.All conditions)) (t.Distinct S) (t.Distinct child)
    (distinct_law n a conditions)
    (same_distinct n S child (subst (λ y. Sinks n y conditions child) ia s))))

-- Conditions on what a set operation gives are conditions on both its sides.
set_law : (n : ℕ) (a b : DepTree) (operation : SetOperation) (conditions : List Expr)
    → SameRows n (t.Select (t.Set a b operation) (e.All conditions))
    (t.Set (t.Select a (e.All conditions)) (t.Select b (e.All conditions)) operation)
set_law n a b operation conditions =
    let all = e.All conditions in
    let A = t.Select a all in
    let B = t.Select b all in
    let wide = width_Select (t.Set a b operation) all ∙ width_Set a b operation
    ∙ sym (width_Select a all) ∙ sym (width_Set A B operation) in
    elim (cases_Bool (width_of a == width_of b)) [
      | inl even ↦
          let i : width_of a ≡ width_of b = eqb-true (width_of a) (width_of b) even in
          let j : width_of A ≡ width_of B = width_Select a all ∙ i ∙ sym (width_Select b all) in
          record {
            scans = same_list (scans_Select (t.Set a b operation) all ∙ scans_Set a b operation i
                ∙ sym (scans_Set A B operation j ∙ ap (λ l. l ++ scans_of B) (scans_Select a all)
                ∙ ap (λ l. scans_of a ++ l) (scans_Select b all)));
            width = wide;
            rows = λ db d k ld.
                let P = says all d in
                let T = tree_rows a db d in
                let U = tree_rows b db d in
                alike (rows_Select (t.Set a b operation) all db d
                ∙ ap (select P) (rows_Set a b operation db d i))
                (rows_Set A B operation db d j
                ∙ ap (λ l. set_rows same_value operation l (tree_rows B db d))
                (rows_Select a all db d)
                ∙ ap (λ l. set_rows same_value operation (select P T) l) (rows_Select b all db d))
                (select_below_set_rows same_value value_identity operation P T U
                (tree_is_good a db d k).stands (tree_is_good b db d k).stands);
          }
      | inr uneven ↦
          let f : (width_of A == width_of B) ≡ false =
          ap (λ w. w == width_of B) (width_Select a all) ∙ ap (λ w. width_of a == w)
          (width_Select b all) ∙ uneven in
          record {
            scans = same_list (scans_Select (t.Set a b operation) all
                ∙ scans_uneven a b operation uneven
                ∙ sym (scans_uneven A B operation f ∙ scans_Select a all));
            width = wide;
            rows = λ db d k ld. alike (rows_Select (t.Set a b operation) all db d
                ∙ ap (select (says all d)) (rows_uneven a b operation db d uneven))
                (rows_uneven A B operation db d f ∙ rows_Select a all db d)
                (SameBag-refl (select (says all d) (tree_rows a db d)));
          }
    ]

pub sunk_set : (n : ℕ) (tree a a1 b b1 child other made : DepTree) (operation : SetOperation)
    (conditions same : List Expr) → tree ≡ t.Set a b operation → a1 ≡ a
    → Sinks n a1 conditions child → b1 ≡ b → same ≡ conditions → Sinks n b1 same other
    → made ≡ t.Set child other operation → Sinks n tree conditions made
sunk_set n tree a a1 b b1 child other made operation conditions same is ia s ib ic u made_is =
    let A = t.Select a (e.All conditions) in
    let B = t.Select b (e.All conditions) in
    subst (λ y. Sinks n y conditions made) (sym is)
    (subst (λ y. Sinks n (t.Set a b operation) conditions y) (sym made_is)
    (trans n (t.Select (t.Set a b operation) (e.All conditions)) (t.Set A B operation)
    (t.Set child other operation) (set_law n a b operation conditions)
    (same_set n A child B other operation (subst (λ y. Sinks n y conditions child) ia s)
    (subst (λ y. Sinks n y conditions other) ib (subst (λ cs. Sinks n b1 cs other) ic u)))))
