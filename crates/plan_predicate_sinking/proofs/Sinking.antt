-- A selection above a node is one below it, where it reads the left side's columns only.
use Rattle.std.proofs.Common.{◌≡◌, ℕ, ◌+◌, ◌<◌, ◌≤◌, List, [], ◌∷◌, ◌++◌, refl, sym, ◌∙◌, ap, subst}
use Rattle.std.proofs.Common.{arith, length, take, drop, get_or}
use Rattle.std.specs.Prelude.{min, replicate}
use Rattle.std.specs.List.{All}
use Rattle.std.proofs.lemmas.List.{append_assoc, append-nil, length-append, take-append-drop}
use Rattle.std.proofs.lemmas.List.{take_more, length-take}
use Rattle.std.proofs.lemmas.List.Elements.{All-append, All-nil, All-cons}
use Rattle.base_row_laws.specs.Ranked.{Ranked}
use Rattle.base_row_laws.specs.Bags.{SameBag, Each}
use Rattle.base_row_laws.specs.Operators.{select, outer_loop, attach_loop}
use Rattle.base_row_laws.specs.JoinGroups.{Width}
use Rattle.base_row_laws.specs.MoveLaws.{OfLeft}
use Rattle.base_row_laws.proofs.Bags.{SameBag-refl, SameBag-sym, SameBag-trans}
use Rattle.base_row_laws.proofs.Lists.{Each-all, Each-weaker}
use Rattle.base_row_laws.proofs.Rows.{take-append}
use Rattle.base_row_laws.proofs.Alike.{select_alike}
use Rattle.base_row_laws.proofs.AtHand.{select_at_hand, select_below_attach}
use Rattle.base_row_laws.proofs.Moves.{select_twice, select_below_outer}
use Rattle.base_value.specs.declared.value.Value.{Value}
use Rattle.base_value.specs.declared.value.Value.TheVariants.{Null}
use Rattle.expr_scalar.specs.declared.expr.Expr.{Expr}
use Rattle.expr_scalar.specs.declared.expr.Expr.TheVariants as e
use Rattle.expr_scalar.specs.Rename.{gathered}
use Rattle.expr_conditions.specs.Ranks.{rank_of, says, all_rank, all_say, ReadsBelow, PutInto}
use Rattle.expr_conditions.proofs.Ranks.{all_rank-push}
use Rattle.plan_algebra.specs.declared.tree.DepTree.{DepTree}
use Rattle.plan_algebra.specs.declared.tree.DepTree.TheVariants as t
use Rattle.plan_algebra.specs.declared.tree.Side.{Side}
use Rattle.plan_algebra.specs.Trees.{Database, width_of, tree_rows, scans_of, right_row, mark_under}
use Rattle.plan_algebra.specs.Trees.{scalar_at, side_of}
use Rattle.base_row_laws.specs.Trees.{side_width}
use Rattle.plan_algebra.proofs.Opened.{width_Select, width_Outer, width_Mark, width_Single, rows_Select}
use Rattle.plan_algebra.proofs.Opened.{rows_Outer, rows_Mark, rows_Single, scans_Select, scans_Outer}
use Rattle.plan_algebra.proofs.Opened.{scans_Mark, scans_Single}
use Rattle.plan_predicate_sinking.specs.Arranged.{SameRows}
use Rattle.plan_predicate_sinking.specs.Selected.{IsSelected, places_at}
use Rattle.plan_predicate_sinking.specs.Sink.{IsSplit, PutSplit, Sinks}
use Rattle.plan_predicate_sinking.proofs.Apart.{selected_none}
use Rattle.plan_predicate_sinking.proofs.Conditions.{ranks_at_hand, all_is, gather_places}
use Rattle.plan_predicate_sinking.proofs.Good.{tree_is_good}
use Rattle.plan_predicate_sinking.proofs.SameNodes.{alike, same_select, same_mark, same_single}
use Rattle.plan_predicate_sinking.proofs.Scans.{as_bags, same_list}

pub whole_row : (n w : ℕ) (d r : List Value) → length d ≡ n → length r ≡ w
    → gathered (places_at n 0 w) (d ++ r) ≡ d ++ r
whole_row n w d r ld lr = ap (λ l. gathered (places_at n 0 w) (d ++ l)) (sym (append-nil r))
    ∙ gather_places n 0 w d [] r [] ld refl lr

pub split_none : (limit : ℕ) → IsSplit limit [] [] []
split_none limit = record { says = λ row. omega arith; within = All-nil (ReadsBelow limit) }

pub split_more : (limit : ℕ) (es below now above then : List Expr) (i : ℕ) (x : Expr)
    → i < length es → x ≡ get_or es i x → IsSplit limit (take i es) below above
    → PutSplit limit x below now above then
    → IsSplit limit (take (i + 1) es) now then
split_more limit es below now above then i x lt is before put = record {
  says = λ row. put.says row ∙ ap (λ m. min m (rank_of x row)) (before.says row)
      ∙ sym (all_rank-push (take i es) x row)
      ∙ ap (λ l. all_rank l row)
      (sym (take_more es i x lt ∙ ap (λ y. take i es ++ y ∷ []) (sym is)));
  within = put.within before.within;
}

pub put_below : (limit : ℕ) (x new : Expr) (below now above : List Expr) → ReadsBelow limit x
    → new ≡ x → now ≡ below ++ new ∷ [] → PutSplit limit x below now above above
put_below limit x new below now above reads is push = record {
  says = λ row.
      ap (λ l. min (all_rank l row) (all_rank above row)) push
      ∙ ap (λ m. min m (all_rank above row)) (all_rank-push below new row)
      ∙ ap (λ y. min (min (all_rank below row) (rank_of y row)) (all_rank above row)) is
      ∙ swap (all_rank below row) (rank_of x row) (all_rank above row);
  within = λ all. subst (λ l. All (ReadsBelow limit) l) (sym push)
      (All-append (ReadsBelow limit) below (new ∷ []) all
      (All-cons (ReadsBelow limit) new [] (subst (ReadsBelow limit) (sym is) reads)
      (All-nil (ReadsBelow limit))));
}
  where
    swap : (a b c : ℕ) → min (min a b) c ≡ min (min a c) b
    swap a b c = omega arith

pub put_above : (limit : ℕ) (x new : Expr) (below above then : List Expr) → new ≡ x
    → then ≡ above ++ new ∷ [] → PutSplit limit x below below above then
put_above limit x new below above then is push = record {
  says = λ row.
      ap (λ l. min (all_rank below row) (all_rank l row)) push
      ∙ ap (λ m. min (all_rank below row) m) (all_rank-push above new row)
      ∙ ap (λ y. min (all_rank below row) (min (all_rank above row) (rank_of y row))) is
      ∙ assoc (all_rank below row) (all_rank above row) (rank_of x row);
  within = λ all. all;
}
  where
    assoc : (a b c : ℕ) → min a (min b c) ≡ min (min a b) c
    assoc a b c = omega arith

pub trans : (n : ℕ) (a b c : DepTree) → SameRows n a b → SameRows n b c → SameRows n a c
trans n a b c i j = record {
  scans = SameBag-trans i.scans j.scans;
  width = i.width ∙ j.width;
  rows = λ db d k ld. SameBag-trans (i.rows db d k ld) (j.rows db d k ld);
}

-- a selection as the code makes it
pub selected_same : (n : ℕ) (a new : DepTree) (es : List Expr) → IsSelected a es new
    → SameRows n (t.Select a (e.All es)) new
selected_same n a new es sel = record {
  scans = same_list (scans_Select a (e.All es) ∙ sel.scans);
  width = width_Select a (e.All es) ∙ sel.width;
  rows = λ db d k ld.
      let A = tree_rows a db d in
      alike (rows_Select a (e.All es) db d
      ∙ sym (select_at_hand (all_say es d) (says (e.All es) d) A
      (Each-all (λ x. all_say es d x.values ≡ says (e.All es) d x.values) A
      (λ x. all_is es d x.values)))) (sel.rows db d k)
      (SameBag-refl (select (all_say es d) A));
}

-- no conditions
pub sunk_none : (n : ℕ) (a a1 new : DepTree) (none : List Expr) → none ≡ [] → a1 ≡ a
    → Sinks n a1 none new → SameRows n a new
sunk_none n a a1 new none is i s =
    let q : SameRows n (t.Select a (e.All [])) new =
    subst (λ l. SameRows n (t.Select a (e.All l)) new) is
    (subst (λ y. SameRows n (t.Select y (e.All none)) new) i s) in
    let w : SameRows n (t.Select a (e.All [])) a =
    selected_same n a a [] (selected_none a [] refl) in
    record {
      scans = SameBag-trans (SameBag-sym w.scans) q.scans;
      width = sym w.width ∙ q.width;
      rows = λ db d k ld. SameBag-trans (SameBag-sym (w.rows db d k ld)) (q.rows db d k ld);
    }

-- the same node, under conditions
pub sunk_over : (n : ℕ) (a b new : DepTree) (es : List Expr) → SameRows n a b → IsSelected b es new
    → Sinks n a es new
sunk_over n a b new es s sel =
    trans n (t.Select a (e.All es)) (t.Select b (e.All es)) new (same_select n a b (e.All es) s)
    (selected_same n b new es sel)

-- what a condition and others say, and what they say once it is among them
put_says : (n : ℕ) (a : DepTree) (c : Expr) (old now : List Expr) (d x : List Value)
    → PutInto (places_at n 0 (width_of a)) c old now → length d ≡ n → length x ≡ width_of a
    → min (says c d x) (says (e.All old) d x) ≡ says (e.All now) d x
unfolding all_say says
put_says n a c old now d x put ld lx =
    ap (λ m. min (rank_of c (d ++ x)) m) (sym (all_is old d x))
    ∙ ap (λ y. min (rank_of c y) (all_rank old (d ++ x))) (sym (whole_row n (width_of a) d x ld lx))
    ∙ swap (rank_of c (gathered (places_at n 0 (width_of a)) (d ++ x))) (all_rank old (d ++ x))
    ∙ sym (put.says (d ++ x)) ∙ all_is now d x
  where
    swap : (a b : ℕ) → min a b ≡ min b a
    swap a b = omega arith

select_law : (n : ℕ) (a new : DepTree) (c : Expr) (old now : List Expr)
    → PutInto (places_at n 0 (width_of a)) c old now → Sinks n a now new
    → Sinks n (t.Select a c) old new
select_law n a new c old now put s = record {
  scans = as_bags (scans_Select (t.Select a c) (e.All old) ∙ scans_Select a c
      ∙ sym (scans_Select a (e.All now))) refl s.scans;
  width = width_Select (t.Select a c) (e.All old) ∙ width_Select a c
      ∙ sym (width_Select a (e.All now)) ∙ s.width;
  rows = λ db d k ld.
      let A = tree_rows a db d in
      let C = says c d in
      let E = says (e.All old) d in
      let M : List Value → ℕ = λ r. min (C r) (E r) in
      let N = says (e.All now) d in
      let same : select M A ≡ select N A =
      select_at_hand M N A (Each-weaker (λ x. length x.values ≡ width_of a)
      (λ x. M x.values ≡ N x.values) A (λ x v. put_says n a c old now d x.values put ld v)
      (tree_is_good a db d k).wide) in
      SameBag-trans (alike (rows_Select (t.Select a c) (e.All old) db d
      ∙ ap (select E) (rows_Select a c db d)) (sym (same ∙ sym (rows_Select a (e.All now) db d)))
      (select_twice C E A)) (s.rows db d k ld);
}

-- a selection among the conditions
pub sunk_select : (n : ℕ) (a a1 a2 new tree : DepTree) (c c1 : Expr) (old now : List Expr)
    (wide : ℕ) → tree ≡ t.Select a c → a1 ≡ a → wide ≡ width_of a1 → c1 ≡ c
    → PutInto (places_at n 0 wide) c1 old now → a2 ≡ a → Sinks n a2 now new
    → Sinks n tree old new
sunk_select n a a1 a2 new tree c c1 old now wide is i1 w ic put i2 s =
    subst (λ y. Sinks n y old new) (sym is)
    (select_law n a new c old now
    (subst (λ m. PutInto (places_at n 0 m) c old now) (w ∙ ap width_of i1)
    (subst (λ y. PutInto (places_at n 0 wide) y old now) ic put))
    (subst (λ y. Sinks n y now new) i2 s))

-- the conditions that read the left columns, of a row that is long enough
module _ (n w : ℕ) (d : List Value) (below : List Expr) where
  reads_front : (x : List Value) → length d ≡ n → w ≤ length x → All (ReadsBelow (n + w)) below
      → all_rank below (d ++ x) ≡ all_rank below (d ++ take w x)
  reads_front x ld lx all =
      let u = take w x in
      let lu : length u ≡ w = length-take w x ∙ omega (arith, lx) in
      let l : length (d ++ u) ≡ n + w = length-append d u ∙ omega (arith, ld, lu) in
      ap (λ y. all_rank below (d ++ y)) (sym (take-append-drop w x))
      ∙ ap (all_rank below) (sym (append_assoc d u (drop w x)))
      ∙ ranks_at_hand (d ++ u) (drop w x) below (subst (λ m. All (ReadsBelow m) below) (sym l) all)

  -- a selection in two
  pub split_select : (es above : List Expr) (xs : List (Ranked Value))
      → IsSplit (n + w) es below above
      → length d ≡ n → Each (λ x. w ≤ length x.values) xs
      → SameBag (select (says (e.All es) d) xs)
      (select (says (e.All above) d) (select (λ r. says (e.All below) d (take w r)) xs))
  unfolding all_say
  split_select es above xs s ld wide =
      let P : List Value → ℕ = λ r. says (e.All below) d (take w r) in
      let E = says (e.All above) d in
      let same : select (says (e.All es) d) xs ≡ select (λ r. min (P r) (E r)) xs =
      select_at_hand (says (e.All es) d) (λ r. min (P r) (E r)) xs
      (Each-weaker (λ x. w ≤ length x.values)
      (λ x. says (e.All es) d x.values ≡ min (P x.values) (E x.values)) xs
      (λ x h.
      sym (all_is es d x.values) ∙ sym (s.says (d ++ x.values))
      ∙ ap (λ m. min m (all_rank above (d ++ x.values)))
      (reads_front x.values ld h s.within ∙ all_is below d (take w x.values))
      ∙ ap (λ m. min (P x.values) m) (all_is above d x.values)) wide) in
      subst (λ l. SameBag l (select E (select P xs))) (sym same) (SameBag-sym (select_twice P E xs))

  -- what is read of the left row
  pub of_left : (ls : List (Ranked Value)) → Width w ls
      → Each (OfLeft (λ r. says (e.All below) d (take w r)) (says (e.All below) d)) ls
  of_left ls wide = Each-weaker (λ x. length x.values ≡ w)
      (OfLeft (λ r. says (e.All below) d (take w r)) (says (e.All below) d)) ls
      (λ x v r. ap (says (e.All below) d)
      (ap (λ m. take m (x.values ++ r)) (sym v) ∙ take-append x.values r)) wide

module _ (n : ℕ) (l r : DepTree) (s : Side) (es below above : List Expr)
    (split : IsSplit (n + width_of l) es below above) where
  abbrev R : Database → List Value → List Value → List (Ranked Value)
  R db d x = tree_rows r db (right_row s d x)

  abbrev L : DepTree
  L = t.Select l (e.All below)

  -- an attached column
  below_attach : (value : List Value → List (Ranked Value) → Value) (db : Database) (d : List Value)
      → length d ≡ n → Width (width_of l) (tree_rows l db d)
      → Width (width_of l + 1) (attach_loop value (tree_rows l db d) (R db d))
      → SameBag (select (says (e.All es) d) (attach_loop value (tree_rows l db d) (R db d)))
      (select (says (e.All above) d) (attach_loop value (tree_rows L db d) (R db d)))
  below_attach value db d ld wl wide =
      let w = width_of l in
      let ls = tree_rows l db d in
      let X = attach_loop value ls (R db d) in
      let P : List Value → ℕ = λ r. says (e.All below) d (take w r) in
      let E = says (e.All above) d in
      let moved : select P X ≡ attach_loop value (tree_rows L db d) (R db d) =
      select_below_attach value P (says (e.All below) d) ls (R db d) (of_left n w d below ls wl)
      ∙ ap (λ k. attach_loop value k (R db d)) (sym (rows_Select l (e.All below) db d)) in
      subst (λ k. SameBag (select (says (e.All es) d) X) (select E k)) moved
      (split_select n w d below es above X split ld
      (Each-weaker (λ x. length x.values ≡ w + 1) (λ x. w ≤ length x.values) X
      (λ x v. omega (arith, v)) wide))

  mark_law : (c : Expr) → SameRows n (t.Select (t.Mark l r s c) (e.All es))
      (t.Select (t.Mark L r s c) (e.All above))
  mark_law c = record {
    scans = same_list (scans_Select (t.Mark l r s c) (e.All es) ∙ scans_Mark l r s c
        ∙ ap (λ k. k ++ scans_of r) (sym (scans_Select l (e.All below))) ∙ sym (scans_Mark L r s c)
        ∙ sym (scans_Select (t.Mark L r s c) (e.All above)));
    width = width_Select (t.Mark l r s c) (e.All es) ∙ width_Mark l r s c
        ∙ ap (λ k. k + 1) (sym (width_Select l (e.All below))) ∙ sym (width_Mark L r s c)
        ∙ sym (width_Select (t.Mark L r s c) (e.All above));
    rows = λ db d k ld.
        alike (rows_Select (t.Mark l r s c) (e.All es) db d
        ∙ ap (select (says (e.All es) d)) (rows_Mark l r s c db d))
        (rows_Select (t.Mark L r s c) (e.All above) db d
        ∙ ap (select (says (e.All above) d)) (rows_Mark L r s c db d))
        (below_attach (mark_under c d) db d ld (tree_is_good l db d k).wide
        (subst (λ m. Width m (attach_loop (mark_under c d) (tree_rows l db d) (R db d)))
        (width_Mark l r s c) (subst (λ y. Width (width_of (t.Mark l r s c)) y)
        (rows_Mark l r s c db d) (tree_is_good (t.Mark l r s c) db d k).wide)));
  }

  single_law : (i : ℕ) → SameRows n (t.Select (t.Single l r s i) (e.All es))
      (t.Select (t.Single L r s i) (e.All above))
  single_law i = record {
    scans = same_list (scans_Select (t.Single l r s i) (e.All es) ∙ scans_Single l r s i
        ∙ ap (λ k. k ++ scans_of r) (sym (scans_Select l (e.All below)))
        ∙ sym (scans_Single L r s i) ∙ sym (scans_Select (t.Single L r s i) (e.All above)));
    width = width_Select (t.Single l r s i) (e.All es) ∙ width_Single l r s i
        ∙ ap (λ k. k + 1) (sym (width_Select l (e.All below))) ∙ sym (width_Single L r s i)
        ∙ sym (width_Select (t.Single L r s i) (e.All above));
    rows = λ db d k ld.
        alike (rows_Select (t.Single l r s i) (e.All es) db d
        ∙ ap (select (says (e.All es) d)) (rows_Single l r s i db d))
        (rows_Select (t.Single L r s i) (e.All above) db d
        ∙ ap (select (says (e.All above) d)) (rows_Single L r s i db d))
        (below_attach (scalar_at i) db d ld (tree_is_good l db d k).wide
        (subst (λ m. Width m (attach_loop (scalar_at i) (tree_rows l db d) (R db d)))
        (width_Single l r s i) (subst (λ y. Width (width_of (t.Single l r s i)) y)
        (rows_Single l r s i db d) (tree_is_good (t.Single l r s i) db d k).wide)));
  }

  -- a left outer join
  below_outer : (nulls : List Value) (c : List Value → ℕ) (db : Database) (d : List Value) (v : ℕ)
      → length d ≡ n → Width (width_of l) (tree_rows l db d)
      → Width (width_of l + v) (outer_loop nulls c (tree_rows l db d) (R db d))
      → SameBag (select (says (e.All es) d) (outer_loop nulls c (tree_rows l db d) (R db d)))
      (select (says (e.All above) d) (outer_loop nulls c (tree_rows L db d) (R db d)))
  below_outer nulls c db d v ld wl wide =
      let w = width_of l in
      let ls = tree_rows l db d in
      let X = outer_loop nulls c ls (R db d) in
      let P : List Value → ℕ = λ r. says (e.All below) d (take w r) in
      let E = says (e.All above) d in
      let moved : SameBag (select P X) (outer_loop nulls c (tree_rows L db d) (R db d)) =
      subst (λ k. SameBag (select P X) (outer_loop nulls c k (R db d)))
      (sym (rows_Select l (e.All below) db d))
      (select_below_outer c P (says (e.All below) d) nulls ls (R db d)
      (of_left n w d below ls wl)) in
      SameBag-trans
      (split_select n w d below es above X split ld
      (Each-weaker (λ x. length x.values ≡ w + v) (λ x. w ≤ length x.values) X
      (λ x q. omega (arith, q)) wide))
      (select_alike E (select P X) (outer_loop nulls c (tree_rows L db d) (R db d)) moved)

  pub outer_law : (c : Expr)
      → SameRows n (t.Select (t.Outer l r s c) (e.All es))
      (t.Select (t.Outer L r s c) (e.All above))
  outer_law c = record {
    scans = same_list (scans_Select (t.Outer l r s c) (e.All es) ∙ scans_Outer l r s c
        ∙ ap (λ k. k ++ scans_of r) (sym (scans_Select l (e.All below))) ∙ sym (scans_Outer L r s c)
        ∙ sym (scans_Select (t.Outer L r s c) (e.All above)));
    width = width_Select (t.Outer l r s c) (e.All es) ∙ width_Outer l r s c
        ∙ ap (λ k. k + width_of r) (sym (width_Select l (e.All below))) ∙ sym (width_Outer L r s c)
        ∙ sym (width_Select (t.Outer L r s c) (e.All above));
    rows = λ db d k ld.
        let N = replicate (width_of r) Null in
        alike (rows_Select (t.Outer l r s c) (e.All es) db d
        ∙ ap (select (says (e.All es) d)) (rows_Outer l r s c db d))
        (rows_Select (t.Outer L r s c) (e.All above) db d
        ∙ ap (select (says (e.All above) d)) (rows_Outer L r s c db d))
        (below_outer N (says c d) db d (width_of r) ld (tree_is_good l db d k).wide
        (subst (λ m. Width m (outer_loop N (says c d) (tree_rows l db d) (R db d)))
        (width_Outer l r s c) (subst (λ y. Width (width_of (t.Outer l r s c)) y)
        (rows_Outer l r s c db d) (tree_is_good (t.Outer l r s c) db d k).wide)));
  }

-- the arms, each value where the code read it
module _ (n m : ℕ) (tree l l1 l2 left r right made new : DepTree) (s : Side)
    (es seen below above : List Expr) where
  pub sunk_mark : (c : Expr) → tree ≡ t.Mark l r s c → l1 ≡ l → seen ≡ es
      → IsSplit (n + width_of l1) seen below above → l2 ≡ l → Sinks n l2 below left
      → m ≡ side_width (side_of s) n → SameRows m r right
      → made ≡ t.Mark left right s c → IsSelected made above new → Sinks n tree es new
  sunk_mark c is i1 ie split i2 sl im sr im2 sel =
      let q : IsSplit (n + width_of l) es below above =
      subst (λ y. IsSplit (n + width_of y) es below above) i1
      (subst (λ k. IsSplit (n + width_of l1) k below above) ie split) in
      subst (λ y. Sinks n y es new) (sym is)
      (trans n (t.Select (t.Mark l r s c) (e.All es))
      (t.Select (t.Mark (t.Select l (e.All below)) r s c) (e.All above)) new
      (mark_law n l r s es below above q c)
      (sunk_over n (t.Mark (t.Select l (e.All below)) r s c) made new above
      (subst (λ y. SameRows n (t.Mark (t.Select l (e.All below)) r s c) y) (sym im2)
      (same_mark n m (t.Select l (e.All below)) r left right s c im
      (subst (λ y. Sinks n y below left) i2 sl) sr)) sel))

  pub sunk_single : (i : ℕ) → tree ≡ t.Single l r s i → l1 ≡ l → seen ≡ es
      → IsSplit (n + width_of l1) seen below above → l2 ≡ l → Sinks n l2 below left
      → m ≡ side_width (side_of s) n → SameRows m r right
      → made ≡ t.Single left right s i → IsSelected made above new → Sinks n tree es new
  sunk_single i is i1 ie split i2 sl im sr im2 sel =
      let q : IsSplit (n + width_of l) es below above =
      subst (λ y. IsSplit (n + width_of y) es below above) i1
      (subst (λ k. IsSplit (n + width_of l1) k below above) ie split) in
      subst (λ y. Sinks n y es new) (sym is)
      (trans n (t.Select (t.Single l r s i) (e.All es))
      (t.Select (t.Single (t.Select l (e.All below)) r s i) (e.All above)) new
      (single_law n l r s es below above q i)
      (sunk_over n (t.Single (t.Select l (e.All below)) r s i) made new above
      (subst (λ y. SameRows n (t.Single (t.Select l (e.All below)) r s i) y) (sym im2)
      (same_single n m (t.Select l (e.All below)) r left right s i im
      (subst (λ y. Sinks n y below left) i2 sl) sr)) sel))
