-- Conditions on the right input of a join alone are a selection of it.
use Rattle.std.proofs.Common.{◌≡◌, ℕ, ◌+◌, ◌-◌, ◌<◌, ◌≤◌, Bool, true, false, List, [], ◌∷◌, ◌++◌}
use Rattle.std.proofs.Common.{refl, sym, ◌∙◌, ap, subst, arith, length, take, get_or, drop}
use Rattle.std.proofs.Common.{slice_index_or, inl, inr, ◌⊎◌}
use Rattle.std.specs.Prelude.{min}
use Rattle.std.specs.List.{All}
use Rattle.std.proofs.lemmas.List.{append_assoc, append-nil, length-append, length-map, take_more}
use Rattle.std.proofs.lemmas.List.{take_all, get_or_append_left, get_or-append-add}
use Rattle.std.proofs.lemmas.List.Elements.{All-append, All-nil, All-cons, All-head, All-tail}
use Rattle.base_row_laws.specs.Ranked.{Ranked, true_rank}
use Rattle.base_row_laws.specs.Bags.{SameBag, Each}
use Rattle.base_row_laws.specs.Operators.{select, join}
use Rattle.base_row_laws.proofs.Bags.{SameBag-refl, SameBag-sym, SameBag-trans}
use Rattle.base_row_laws.proofs.Lists.{Each-all, Each-weaker}
use Rattle.base_row_laws.proofs.Rows.{drop-append}
use Rattle.base_row_laws.proofs.Alike.{join_loop_alike}
use Rattle.base_row_laws.proofs.AtHand.{select_at_hand, join_at_hand}
use Rattle.base_row_laws.proofs.Moves.{select_into_join, select_below_right}
use Rattle.base_row_laws.proofs.Standings.{select_true}
use Rattle.base_value.specs.Truth.{truth_rank}
use Rattle.base_value.specs.declared.value.Value.{Value}
use Rattle.base_value.specs.declared.value.Value.TheVariants.{Null}
use Rattle.base_schema.specs.declared.table.TableName.{TableName}
use Rattle.plan_algebra.specs.declared.kept_plan.KeptPlan.{KeptPlan}
use Rattle.expr_scalar.specs.declared.expr.Expr.{Expr}
use Rattle.expr_scalar.specs.declared.expr.Expr.TheVariants as e
use Rattle.expr_scalar.specs.Rename.{gathered, IsRenamed}
use Rattle.expr_scalar.specs.Used.{used}
use Rattle.expr_scalar.proofs.Uses.{used_columns_decide_lem}
use Rattle.expr_conditions.specs.Ranks.{columns_from, rank_of, says, all_rank, all_say}
use Rattle.expr_conditions.proofs.Ranks.{all_rank-push, rank_renamed}
use Rattle.expr_conditions.proofs.Gather.{gather_append, gather_at}
use Rattle.plan_algebra.specs.declared.tree.DepTree.{DepTree}
use Rattle.plan_algebra.specs.declared.tree.DepTree.TheVariants as t
use Rattle.plan_algebra.specs.declared.tree.Side.{Side}
use Rattle.plan_algebra.specs.declared.tree.Side.TheVariants.{Shared}
use Rattle.plan_algebra.specs.Trees.{Database, width_of, tree_rows, scans_of, right_row}
use Rattle.plan_algebra.proofs.Opened.{width_Join, rows_Join, width_Select, rows_Select, scans_Select}
use Rattle.plan_algebra.proofs.Opened.{scans_Join, rows_Scan, rows_Kept}
use Rattle.plan_predicate_sinking.specs.Arranged.{SameRows}
use Rattle.plan_predicate_sinking.specs.Own.{own_side, own_row, other_row, own_width, SideServes, ReadsOwn}
use Rattle.plan_predicate_sinking.specs.Own.{own_places, IsApart, PutApart}
use Rattle.plan_predicate_sinking.specs.Selected.{IsSelected}
use Rattle.plan_predicate_sinking.proofs.Conditions.{all_is, shared_join}
use Rattle.plan_predicate_sinking.proofs.Good.{tree_is_good, length-columns_from}
use Rattle.plan_predicate_sinking.proofs.Scans.{same_list}

-- rows that differ in the columns between only
module _ (n a high : ℕ) (d u v w : List Value) where
  same_columns : (cs : List ℕ) → length d ≡ n → length u ≡ a → length v ≡ a
      → All (λ c. (c < n) ⊎ ((n + a ≤ c) × (c < high))) cs
      → gathered cs (d ++ (u ++ w)) ≡ gathered cs (d ++ (v ++ w))
  unfolding gathered
  same_columns [] ld lu lv all = refl
  same_columns (c ∷ cs) ld lu lv all =
      let here : slice_index_or (d ++ (u ++ w)) c Null ≡ slice_index_or (d ++ (v ++ w)) c Null =
      one (All-head (λ c. (c < n) ⊎ ((n + a ≤ c) × (c < high))) c cs all) in
      ap (λ y. y ∷ gathered cs (d ++ (u ++ w))) here
      ∙ ap (λ l. slice_index_or (d ++ (v ++ w)) c Null ∷ l)
      (same_columns cs ld lu lv (All-tail (λ c. (c < n) ⊎ ((n + a ≤ c) × (c < high))) c cs all))
    where
      far : (s : List Value) → length s ≡ a → n + a ≤ c
          → slice_index_or (d ++ (s ++ w)) c Null ≡ slice_index_or w (c - (n + a)) Null
      far s ls h =
          let l : length (d ++ s) ≡ n + a = length-append d s ∙ omega (arith, ld, ls) in
          let k : c ≡ length (d ++ s) + (c - (n + a)) = omega (arith, l, h) in
          ap (λ r. slice_index_or r c Null) (sym (append_assoc d s w))
          ∙ ap (λ m. slice_index_or ((d ++ s) ++ w) m Null) k
          ∙ get_or-append-add (d ++ s) w (c - (n + a)) Null

      one : (c < n) ⊎ ((n + a ≤ c) × (c < high))
          → slice_index_or (d ++ (u ++ w)) c Null ≡ slice_index_or (d ++ (v ++ w)) c Null
      one h = elim h [
        | inl k ↦ let b : c < length d = omega (arith, k, ld) in
            get_or_append_left d (u ++ w) Null c b ∙ sym (get_or_append_left d (v ++ w) Null c b)
        | inr k ↦ far u lu k.0 ∙ sym (far v lv k.0)
      ]

  same_rank : (x : Expr) → length d ≡ n → length u ≡ a → length v ≡ a → ReadsOwn n (n + a) high x
      → rank_of x (d ++ (u ++ w)) ≡ rank_of x (d ++ (v ++ w))
  unfolding rank_of
  same_rank x ld lu lv own =
      ap truth_rank ((used_columns_decide_lem x (d ++ (u ++ w)) (d ++ (v ++ w))
      (same_columns (used x) ld lu lv own)).1)

length-gathered : (ps : List ℕ) (r : List Value) → length (gathered ps r) ≡ length ps
unfolding gathered
length-gathered ps r = length-map ps _

-- a condition on the right input alone, over its own columns
own_rank : (n a x high : ℕ) (c new : Expr) (d u w : List Value) → length d ≡ n → length u ≡ a
    → length w ≡ x → ReadsOwn n (n + a) high c → IsRenamed (own_places n a x) c new
    → rank_of new (d ++ w) ≡ rank_of c (d ++ (u ++ w))
own_rank n a x high c new d u w ld lu lw own r =
    let row = d ++ w in
    let J = gathered (columns_from 0 a) row in
    let e0 : gathered (columns_from 0 n) row ≡ d = gather_at 0 n row [] d w refl refl ld in
    let e2 : gathered (columns_from n x) row ≡ w =
    gather_at n x row d w [] (ap (λ l. d ++ l) (sym (append-nil w))) ld lw in
    let all : gathered (own_places n a x) row ≡ d ++ (J ++ w) =
    gather_append (columns_from 0 n) (columns_from 0 a ++ columns_from n x) row
    ∙ ap (λ l. l ++ gathered (columns_from 0 a ++ columns_from n x) row) e0
    ∙ ap (λ l. d ++ l) (gather_append (columns_from 0 a) (columns_from n x) row
    ∙ ap (λ l. J ++ l) e2) in
    rank_renamed (own_places n a x) c new row r ∙ ap (rank_of c) all
    ∙ same_rank n a high d J u w c ld
    (length-gathered (columns_from 0 a) row ∙ length-columns_from 0 a) lu own

-- the domain row of a side, and the rest of the left one's
cut_row : (closed : Bool) (d s : List Value)
    → own_row closed d ++ (other_row closed d ++ s) ≡ d ++ s
cut_row true d s = refl
cut_row false d s = refl

own_length : (closed : Bool) (d : List Value)
    → length (own_row closed d) ≡ own_width closed (length d)
own_length true d = refl
own_length false d = refl

cut_length : (closed : Bool) (d : List Value)
    → length (own_row closed d) + length (other_row closed d) ≡ length d
cut_length true d = zero_first (length d)
  where
    zero_first : (m : ℕ) → 0 + m ≡ m
    zero_first m = omega arith
cut_length false d = zero_last (length d)
  where
    zero_last : (m : ℕ) → m + 0 ≡ m
    zero_last m = omega arith

own_says : (closed : Bool) (n a x m low high : ℕ) (c new : Expr) (d u w : List Value)
    → m ≡ own_width closed n → low ≡ n + a → length d ≡ n → length u ≡ a → length w ≡ x
    → ReadsOwn m low high c → IsRenamed (own_places m (low - m) x) c new
    → rank_of new (own_row closed d ++ w) ≡ rank_of c (d ++ (u ++ w))
own_says closed n a x m low high c new d u w is l ld lu lw reads r =
    let D = own_row closed d in
    let U = other_row closed d ++ u in
    let total = cut_length closed d in
    let lD : length D ≡ m = own_length closed d ∙ ap (own_width closed) ld ∙ sym is in
    let ap0 = length-append (other_row closed d) u in
    let lU : length U ≡ low - m = omega (arith, total, lD, ap0, ld, lu, l) in
    let at : low ≡ m + (low - m) = omega (arith, total, lD, l, ld) in
    own_rank m (low - m) x high c new D U w lD lU lw (subst (λ k. ReadsOwn m k high c) at reads) r
    ∙ ap (rank_of c) (ap (λ k. D ++ k) (append_assoc (other_row closed d) u w)
    ∙ cut_row closed d (u ++ w))

pub put_own : (closed : Bool) (n a x m low high : ℕ) (c new : Expr) (own now both : List Expr)
    (ps : List ℕ) → m ≡ own_width closed n → low ≡ n + a → ReadsOwn m low high c
    → ps ≡ own_places m (low - m) x → IsRenamed ps c new → now ≡ own ++ new ∷ []
    → PutApart closed n a x c own now both both
put_own closed n a x m low high c new own now both ps im l reads is r push = record {
  says = λ d u w ld lu lw.
      let D = own_row closed d in
      ap (λ l. min (all_rank l (D ++ w)) (all_rank both (d ++ (u ++ w)))) push
      ∙ ap (λ m. min m (all_rank both (d ++ (u ++ w)))) (all_rank-push own new (D ++ w))
      ∙ ap (λ m. min (min (all_rank own (D ++ w)) m) (all_rank both (d ++ (u ++ w))))
      (own_says closed n a x m low high c new d u w im l ld lu lw reads
      (subst (λ q. IsRenamed q c new) is r))
      ∙ swap (all_rank own (D ++ w)) (rank_of c (d ++ (u ++ w))) (all_rank both (d ++ (u ++ w)));
}
  where
    swap : (a b c : ℕ) → min (min a b) c ≡ min (min a c) b
    swap a b c = omega arith

pub put_both : (closed : Bool) (n a x : ℕ) (c new : Expr) (own both then : List Expr) → new ≡ c
    → then ≡ both ++ new ∷ [] → PutApart closed n a x c own own both then
put_both closed n a x c new own both then is push = record {
  says = λ d u w ld lu lw.
      let row = d ++ (u ++ w) in
      let D = own_row closed d in
      ap (λ l. min (all_rank own (D ++ w)) (all_rank l row)) push
      ∙ ap (λ m. min (all_rank own (D ++ w)) m) (all_rank-push both new row)
      ∙ ap (λ y. min (all_rank own (D ++ w)) (min (all_rank both row) (rank_of y row))) is
      ∙ assoc (all_rank own (D ++ w)) (all_rank both row) (rank_of c row);
}
  where
    assoc : (a b c : ℕ) → min a (min b c) ≡ min (min a b) c
    assoc a b c = omega arith

pub apart_none : (closed : Bool) (n a x : ℕ) → IsApart closed n a x [] [] []
apart_none closed n a x = record { says = λ d u w ld lu lw. omega arith }

pub apart_more : (closed : Bool) (n a x : ℕ) (es own now both then : List Expr) (i : ℕ) (c : Expr)
    → i < length es → c ≡ get_or es i c → IsApart closed n a x (take i es) own both
    → PutApart closed n a x c own now both then
    → IsApart closed n a x (take (i + 1) es) now then
apart_more closed n a x es own now both then i c lt is before put = record {
  says = λ d u w ld lu lw.
      let row = d ++ (u ++ w) in
      put.says d u w ld lu lw ∙ ap (λ m. min m (rank_of c row)) (before.says d u w ld lu lw)
      ∙ sym (all_rank-push (take i es) c row)
      ∙ ap (λ l. all_rank l row)
      (sym (take_more es i c lt ∙ ap (λ y. take i es ++ y ∷ []) (sym is)));
}

pub own_more : (n low high : ℕ) (cs : List ℕ) (i : ℕ) → i < length cs
    → (get_or cs i 0 < n) ⊎ ((low ≤ get_or cs i 0) × (get_or cs i 0 < high))
    → All (λ c. (c < n) ⊎ ((low ≤ c) × (c < high))) (take i cs)
    → All (λ c. (c < n) ⊎ ((low ≤ c) × (c < high))) (take (i + 1) cs)
own_more n low high cs i lt one all =
    let P : ℕ → Type 0 = λ c. (c < n) ⊎ ((low ≤ c) × (c < high)) in
    subst (λ l. All P l) (sym (take_more cs i 0 lt))
    (All-append P (take i cs) (get_or cs i 0 ∷ []) all
    (All-cons P (get_or cs i 0) [] one (All-nil P)))

pub own_end : (n low high : ℕ) (cs ds us : List ℕ) (i : ℕ) → length cs ≤ i → cs ≡ ds → ds ≡ us
    → All (λ c. (c < n) ⊎ ((low ≤ c) × (c < high))) (take i cs)
    → All (λ c. (c < n) ⊎ ((low ≤ c) × (c < high))) us
own_end n low high cs ds us i le a b all =
    subst (λ l. All (λ c. (c < n) ⊎ ((low ≤ c) × (c < high))) l) (take_all i cs le ∙ a ∙ b) all

-- an input under conditions
pub selected_none : (a : DepTree) (own : List Expr) → own ≡ [] → IsSelected a own a
unfolding all_say
selected_none a own none = record {
  scans = refl;
  width = refl;
  rows = λ db d k.
      let R = tree_rows a db d in
      sym (select_at_hand (all_say own d) (λ r. true_rank) R
      (Each-all (λ x. all_say own d x.values ≡ true_rank) R
      (λ x. ap (λ l. all_rank l (d ++ x.values)) none))
      ∙ select_true R (tree_is_good a db d k).stands);
}

pub selected_some : (a new : DepTree) (own : List Expr) → new ≡ t.Select a (e.All own)
    → IsSelected a own new
selected_some a new own is = record {
  scans = sym (ap scans_of is ∙ scans_Select a (e.All own));
  width = sym (ap width_of is ∙ width_Select a (e.All own));
  rows = λ db d k.
      let R = tree_rows a db d in
      ap (λ y. tree_rows y db d) is ∙ rows_Select a (e.All own) db d
      ∙ sym (select_at_hand (all_say own d) (says (e.All own) d) R
      (Each-all (λ x. all_say own d x.values ≡ says (e.All own) d x.values) R
      (λ x. all_is own d x.values)));
}

pub right_own : (closed : Bool) (d l : List Value)
    → right_row (own_side closed) d l ≡ own_row closed d
unfolding right_row
right_own true d l = refl
right_own false d l = refl

-- the rows of a join over a side of its own
own_join : (closed : Bool) (l r : DepTree) (c : Expr) (db : Database) (d : List Value)
    → SameBag (join (says c d) (tree_rows l db d) (tree_rows r db (own_row closed d)))
    (tree_rows (t.Join l r (own_side closed) c) db d)
own_join closed l r c db d =
    let L = tree_rows l db d in
    let R : List Value → List (Ranked Value) =
    λ x. tree_rows r db (right_row (own_side closed) d x) in
    let S : List Value → List (Ranked Value) = λ x. tree_rows r db (own_row closed d) in
    subst (λ y. SameBag (join (says c d) L (tree_rows r db (own_row closed d))) y)
    (sym (rows_Join l r (own_side closed) c db d))
    (join_loop_alike (says c d) L L S R (SameBag-refl L)
    (Each-all (λ x. SameBag (S x.values) (R x.values)) L
    (λ x. subst (λ y. SameBag (S x.values) (tree_rows r db y)) (sym (right_own closed d x.values))
    (SameBag-refl (S x.values)))))

pub joined_same : (closed : Bool) (n : ℕ) (first input chosen : DepTree)
    (covered own both : List Expr) → SideServes n input closed
    → IsApart closed n (width_of first) (width_of input) covered own both
    → IsSelected input own chosen
    → SameRows n (t.Join first input Shared (e.All covered))
    (t.Join first chosen (own_side closed) (e.All both))
unfolding all_say
joined_same closed n first input chosen covered own both serves apart sel = record {
  scans = same_list (scans_Join first input Shared (e.All covered)
      ∙ ap (λ l. scans_of first ++ l) sel.scans
      ∙ sym (scans_Join first chosen (own_side closed) (e.All both)));
  width = width_Join first input Shared (e.All covered) ∙ ap (λ m. width_of first + m) sel.width
      ∙ sym (width_Join first chosen (own_side closed) (e.All both));
  rows = λ db d k ld.
      let a = width_of first in
      let D = own_row closed d in
      let A = tree_rows first db d in
      let X = tree_rows input db d in
      let c : List Value → ℕ = all_say both d in
      let p : List Value → ℕ = all_say own D in
      let E : List Value → ℕ = λ r. all_rank own (D ++ drop a r) in
      let C = says (e.All covered) d in
      let gA = (tree_is_good first db d k).wide in
      let gX = (tree_is_good input db d k).wide in
      let tail : (u w : List Value) → length u ≡ a → E (u ++ w) ≡ p w =
      λ u w lu. ap (λ m. all_rank own (D ++ drop m (u ++ w))) (sym lu)
      ∙ ap (λ l. all_rank own (D ++ l)) (drop-append u w) in
      let split : join C A X ≡ join (λ r. min (c r) (E r)) A X =
      join_at_hand C (λ r. min (c r) (E r)) A (λ l. X)
      (Each-weaker (λ y. length y.values ≡ a)
      (λ y. Each (λ z. C (y.values ++ z.values)
      ≡ min (c (y.values ++ z.values)) (E (y.values ++ z.values))) X) A
      (λ y v. Each-weaker (λ z. length z.values ≡ width_of input)
      (λ z. C (y.values ++ z.values) ≡ min (c (y.values ++ z.values)) (E (y.values ++ z.values))) X
      (λ z u. sym (all_is covered d (y.values ++ z.values))
      ∙ sym (apart.says d y.values z.values ld v u)
      ∙ swap (all_rank own (D ++ z.values)) (c (y.values ++ z.values))
      ∙ ap (λ m. min (c (y.values ++ z.values)) m) (sym (tail y.values z.values v)))
      gX) gA) in
      let below : SameBag (join (λ r. min (c r) (E r)) A X) (join c A (select p X)) =
      SameBag-trans (SameBag-sym (select_into_join c E A (λ l. X)))
      (select_below_right c E p A (λ l. X)
      (Each-weaker (λ y. length y.values ≡ a)
      (λ y. Each (λ z. E (y.values ++ z.values) ≡ p z.values) X) A
      (λ y v. Each-all (λ z. E (y.values ++ z.values) ≡ p z.values) X
      (λ z. tail y.values z.values v)) gA)) in
      let last : join c A (select p X) ≡ join (says (e.All both) d) A (tree_rows chosen db D) =
      join_at_hand c (says (e.All both) d) A (λ l. select p X)
      (Each-all (λ y. Each (λ z. c (y.values ++ z.values)
      ≡ says (e.All both) d (y.values ++ z.values)) (select p X)) A
      (λ y. Each-all (λ z. c (y.values ++ z.values) ≡ says (e.All both) d (y.values ++ z.values))
      (select p X) (λ z. all_is both d (y.values ++ z.values))))
      ∙ ap (λ l. join (says (e.All both) d) A l)
      (ap (select p) (sym (serves.rows db d ld)) ∙ sym (sel.rows db D k)) in
      subst (λ l. SameBag l (tree_rows (t.Join first chosen (own_side closed) (e.All both)) db d))
      (sym (shared_join first input (e.All covered) db d ∙ split))
      (SameBag-trans below (subst
      (λ l. SameBag l (tree_rows (t.Join first chosen (own_side closed) (e.All both)) db d))
      (sym last) (own_join closed first chosen (e.All both) db d)));
}
  where
    swap : (a b : ℕ) → min a b ≡ min b a
    swap a b = omega arith

-- the side of an input
pub serves_none : (n : ℕ) (input : DepTree) → n ≡ 0 → SideServes n input true
serves_none n input z = record {
  rows = λ db d ld.
      ap (tree_rows input db) (sym (empty d (ld ∙ z)));
}
  where
    empty : (d : List Value) → length d ≡ 0 → d ≡ []
    empty [] e = refl
    empty (y ∷ d) e = absurd (omega (arith, e))

pub serves_scan : (n : ℕ) (input : DepTree) (table : TableName) → input ≡ t.Scan table
    → SideServes n input true
serves_scan n input table is =
    record {
      rows = λ db d ld. ap (λ y. tree_rows y db []) is ∙ rows_Scan table db []
          ∙ sym (ap (λ y. tree_rows y db d) is ∙ rows_Scan table db d);
    }

pub serves_kept : (n : ℕ) (input : DepTree) (number : ℕ) (plan : KeptPlan)
    → input ≡ t.Kept number plan → SideServes n input true
serves_kept n input number plan is =
    record {
      rows = λ db d ld. ap (λ y. tree_rows y db []) is ∙ rows_Kept number plan db []
          ∙ sym (ap (λ y. tree_rows y db d) is ∙ rows_Kept number plan db d);
    }

pub serves_open : (n : ℕ) (input : DepTree) → SideServes n input false
serves_open n input = record { rows = λ db d ld. refl }

-- the join as the code sees it
pub join_made : (closed : Bool) (n a x : ℕ) (first first1 input input1 input2 chosen new : DepTree)
    (seen covered own both : List Expr) (condition : Expr) (side : Side)
    → first1 ≡ first → a ≡ width_of first1 → input1 ≡ input → x ≡ width_of input1 → input2 ≡ input
    → SideServes n input2 closed
    → seen ≡ covered → IsApart closed n a x seen own both → IsSelected input own chosen
    → condition ≡ e.All both → side ≡ own_side closed → new ≡ t.Join first chosen side condition
    → SameRows n (t.Join first input Shared (e.All covered)) new
join_made closed n a x first first1 input input1 input2 chosen new seen covered own both condition
    side f1 wa i1 wx i2 serves sc apart sel is_c is_s is =
    subst (λ y. SameRows n (t.Join first input Shared (e.All covered)) y)
    (ap (λ s. t.Join first chosen s (e.All both)) (sym is_s)
    ∙ ap (λ y. t.Join first chosen side y) (sym is_c) ∙ sym is)
    (joined_same closed n first input chosen covered own both
    (subst (λ y. SideServes n y closed) i2 serves)
    (subst (λ m. IsApart closed n m (width_of input) covered own both) (wa ∙ ap width_of f1)
    (subst (λ m. IsApart closed n a m covered own both) (wx ∙ ap width_of i1)
    (subst (λ l. IsApart closed n a x l own both) sc apart)))
    sel)
