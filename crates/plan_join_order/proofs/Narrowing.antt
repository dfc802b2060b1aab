-- Inputs without the columns that nobody reads stand for the same rows.
use Rattle.std.proofs.Common.{◌≡◌, ℕ, ◌+◌, ◌<◌, List, [], ◌∷◌, ◌++◌, map, refl, sym, ◌∙◌, ap, subst}
use Rattle.std.proofs.Common.{arith, length, take, get_or}
use Rattle.std.specs.Prelude.{min}
use Rattle.std.specs.List.{All}
use Rattle.std.proofs.lemmas.List.{append-nil, length-append, take_more}
use Rattle.std.proofs.lemmas.List.Elements.{All-append, All-nil, All-cons, All-head, All-tail}
use Rattle.base_row_laws.specs.Ranked.{Ranked, ranked, true_rank}
use Rattle.base_row_laws.specs.Bags.{SameBag}
use Rattle.base_row_laws.specs.Rows.{unit_row}
use Rattle.base_row_laws.specs.Operators.{select, project, cross}
use Rattle.base_row_laws.specs.JoinGroups.{chain, Width}
use Rattle.base_row_laws.proofs.Bags.{SameBag-refl, SameBag-sym, SameBag-trans, SameBag-append}
use Rattle.base_row_laws.proofs.Lists.{Each-all, flat_map-map, map-flat_map, map-map, map-ext}
use Rattle.base_row_laws.proofs.Lists.{flat_map-ext_each}
use Rattle.base_row_laws.proofs.Alike.{project_alike}
use Rattle.base_row_laws.proofs.AtHand.{select_at_hand, project_at_hand}
use Rattle.base_row_laws.proofs.Moves.{select_through_project}
use Rattle.base_row_laws.proofs.Projections.{project_twice}
use Rattle.base_row_laws.proofs.JoinGroups.{chain-append}
use Rattle.base_value.specs.declared.value.Value.{Value}
use Rattle.expr_scalar.specs.declared.expr.Expr.{Expr}
use Rattle.expr_scalar.specs.Meaning.{values}
use Rattle.expr_scalar.specs.Rename.{gathered, IsRenamed}
use Rattle.expr_conditions.specs.Ranks.{rank_of, all_rank, all_say, AreRenamed}
use Rattle.expr_conditions.proofs.Ranks.{all_rank-push, rank_renamed}
use Rattle.expr_conditions.proofs.Gather.{gather_append}
use Rattle.plan_algebra.specs.declared.tree.DepTree.{DepTree}
use Rattle.plan_algebra.specs.declared.tree.DepTree.TheVariants as t
use Rattle.plan_algebra.specs.Trees.{Database, HasKinds, width_of, tree_rows, scans_of, listed}
use Rattle.plan_algebra.proofs.Opened.{width_Project, rows_Project, scans_Project}
use Rattle.plan_predicate_sinking.specs.Arranged.{SameRows}
use Rattle.plan_predicate_sinking.specs.Narrow.{IsNarrowed, IsFound, whole_columns}
use Rattle.plan_predicate_sinking.proofs.Conditions.{renamed_length}
use Rattle.plan_predicate_sinking.proofs.Narrowing.{shifted, before, found_ranks, found_values, kept_row}
use Rattle.plan_predicate_sinking.proofs.Scans.{same_list, as_bags}
use Rattle.plan_join_order.specs.Groups.{rows_of, total_of, scans_in, rows_of_inputs, Collects}
use Rattle.plan_join_order.specs.Groups.{StandsFor}
use Rattle.plan_join_order.specs.Narrow.{AreNarrowed, AreAsked, Narrows}
use Rattle.plan_join_order.proofs.Collected.{width-chain, total_is, rows_of-none, alone, all_say-le}
use Rattle.plan_join_order.proofs.Scans.{scans_pushed, scans_none}
use Rattle.plan_join_order.proofs.Steps.{widths_of, rows_of-append}
use Rattle.plan_join_order.proofs.Totals.{total_more}

-- two sides projected
cross_projected : (f g h : List Value → List Value) (w : ℕ) (Z X : List (Ranked Value)) → Width w Z
    → ((u x : List Value) → length u ≡ w → h (u ++ x) ≡ f u ++ g x)
    → cross (project f Z) (project g X) ≡ project h (cross Z X)
cross_projected f g h w Z X wide is =
    let P : (List Value → List Value) → Ranked Value → Ranked Value =
    λ q x. ranked (q x.values) x.standing in
    let G : Ranked Value → Ranked Value → Ranked Value =
    λ z x. ranked (z.values ++ x.values) (min z.standing x.standing) in
    flat_map-map (λ z. map (λ y. G z y) (project g X)) (P f) Z
    ∙ flat_map-ext_each (λ z. length z.values ≡ w) (λ z. map (λ y. G (P f z) y) (project g X))
    (λ z. map (P h) (map (λ y. G z y) X)) Z wide
    (λ z v. map-map (λ y. G (P f z) y) (P g) X
    ∙ map-ext (λ y. G (P f z) (P g y)) (λ y. P h (G z y)) X
    (λ y. ap (λ r. ranked r (min z.standing y.standing)) (sym (is z.values y.values v)))
    ∙ sym (map-map (P h) (λ y. G z y) X))
    ∙ sym (map-flat_map (P h) (λ z. map (λ y. G z y) X) Z)

rows_of-one : (y : DepTree) (db : Database) (d : List Value)
    → rows_of (y ∷ []) db d ≡ tree_rows y db d ∷ []
unfolding rows_of
rows_of-one y db d = refl

pub narrow_none : (n : ℕ) (kept : List ℕ) (news : List DepTree) → news ≡ [] → kept ≡ []
    → AreNarrowed n [] news kept
unfolding gathered
narrow_none n kept news none empty = record {
  scans = same_list (ap scans_in (sym none));
  count = ap length none;
  below = subst (λ l. All (λ c. c < total_of []) l) (sym empty) (All-nil (λ c. c < total_of []));
  rows = λ db d k ld.
      ap (λ l. chain unit_row (rows_of l db d)) none ∙ ap (chain unit_row) (rows_of-none db d)
      ∙ sym (ap (λ l. project (gathered l) (chain unit_row (rows_of [] db d))) empty
      ∙ ap (λ l. project (gathered []) (chain unit_row l)) (rows_of-none db d));
}

pub narrow_more : (n : ℕ) (inputs news more : List DepTree) (kept now own : List ℕ) (i at : ℕ)
    (x new : DepTree) → i < length inputs → x ≡ get_or inputs i x → at ≡ total_of (take i inputs)
    → AreNarrowed n (take i inputs) news kept
    → All (λ c. c < width_of x) own → IsNarrowed n x own new → more ≡ news ++ new ∷ []
    → now ≡ kept ++ map (λ c. at + c) own → AreNarrowed n (take (i + 1) inputs) more now
narrow_more n inputs news more kept now own i at x new lt is is_at before_ below one push put =
    let T = take i inputs in
    let next : take (i + 1) inputs ≡ T ++ x ∷ [] =
    take_more inputs i x lt ∙ ap (λ y. T ++ y ∷ []) (sym is) in
    let total : total_of (T ++ x ∷ []) ≡ at + width_of x =
    ap total_of (sym next) ∙ sym
    (total_more inputs i x at (width_of x) (at + width_of x) lt is is_at refl refl) in
    subst (λ l. AreNarrowed n l more now) (sym next)
    (subst (λ l. AreNarrowed n (T ++ x ∷ []) l now) (sym push)
    (subst (λ l. AreNarrowed n (T ++ x ∷ []) (news ++ new ∷ []) l) (sym put) (record {
      scans = SameBag-trans (SameBag-sym
          (scans_pushed T x (scans_of x) (SameBag-refl (scans_of x))))
          (SameBag-trans (SameBag-append before_.scans (same_list one.scans))
          (scans_pushed news new (scans_of new) (SameBag-refl (scans_of new))));
      count = length-append news (new ∷ []) ∙ ap (λ m. m + 1) before_.count
          ∙ sym (length-append T (x ∷ []));
      below = subst (λ m. All (λ c. c < m) (kept ++ map (λ c. at + c) own)) (sym total)
          (All-append (λ c. c < at + width_of x) kept (map (λ c. at + c) own)
          (All-weaker_to kept (subst (λ m. All (λ c. c < m) kept) (sym is_at) before_.below))
          (shifted_below own below));
      rows = λ db d k ld.
          let Z = chain unit_row (rows_of T db d) in
          let X = tree_rows x db d in
          let wide : Width at Z = subst (λ m. Width m Z)
          (ap (λ m. 0 + m) (total_is T) ∙ zero_first (total_of T) ∙ sym is_at)
          (width-chain 0 unit_row (map width_of T) (rows_of T db d) (refl, tt)
          (widths_of T db d k)) in
          ap (chain unit_row) (rows_of-append news (new ∷ []) db d
          ∙ ap (λ l. rows_of news db d ++ l) (rows_of-one new db d))
          ∙ chain-append unit_row (rows_of news db d) (tree_rows new db d ∷ [])
          ∙ ap (λ l. cross l (tree_rows new db d)) (before_.rows db d k ld)
          ∙ ap (λ l. cross (project (gathered kept) Z) l) (one.rows db d k ld)
          ∙ cross_projected (gathered kept) (gathered own)
          (gathered (kept ++ map (λ c. at + c) own)) at Z X wide
          (λ u y lu. gather_append kept (map (λ c. at + c) own) (u ++ y)
          ∙ ap (λ l. l ++ gathered (map (λ c. at + c) own) (u ++ y))
          (before kept u y at lu (subst (λ m. All (λ c. c < m) kept) (sym is_at) before_.below))
          ∙ ap (λ l. gathered kept u ++ l) (shifted own u y at lu))
          ∙ ap (project (gathered (kept ++ map (λ c. at + c) own)))
          (sym (ap (chain unit_row)
          (rows_of-append T (x ∷ []) db d ∙ ap (λ l. rows_of T db d ++ l) (rows_of-one x db d))
          ∙ chain-append unit_row (rows_of T db d) (X ∷ [])));
    })))
  where
    zero_first : (m : ℕ) → 0 + m ≡ m
    zero_first m = omega arith

    All-weaker_to : (ks : List ℕ) → All (λ c. c < at) ks → All (λ c. c < at + width_of x) ks
    All-weaker_to ks all = λ j q below. let h = all j q below in omega (arith, h)

    shifted_below : (ks : List ℕ) → All (λ c. c < width_of x) ks
        → All (λ c. c < at + width_of x) (map (λ c. at + c) ks)
    shifted_below [] all = All-nil (λ c. c < at + width_of x)
    shifted_below (c ∷ ks) all =
        let h = All-head (λ c. c < width_of x) c ks all in
        All-cons (λ c. c < at + width_of x) (at + c) (map (λ c. at + c) ks) (omega (arith, h))
        (shifted_below ks (All-tail (λ c. c < width_of x) c ks all))

-- conditions over other columns
pub asked_none : (places : List ℕ) → AreAsked places [] []
asked_none places = record { says = λ row. refl }

pub asked_more : (places : List ℕ) (es all to : List Expr) (i : ℕ) (x new : Expr) → i < length es
    → x ≡ get_or es i x → AreAsked places (take i es) all → IsRenamed places x new
    → to ≡ all ++ new ∷ [] → AreAsked places (take (i + 1) es) to
asked_more places es all to i x new lt is done r push = record {
  says = λ row.
      let g = gathered places row in
      ap (λ l. all_rank l row) push ∙ all_rank-push all new row
      ∙ ap (λ m. min m (rank_of new row)) (done.says row)
      ∙ ap (λ m. min (all_rank (take i es) g) m) (rank_renamed places x new row r)
      ∙ sym (all_rank-push (take i es) x g)
      ∙ ap (λ l. all_rank l g) (sym (take_more es i x lt ∙ ap (λ y. take i es ++ y ∷ []) (sym is)));
}

pub narrows : (n : ℕ) (inputs news : List DepTree) (conditions output asked list : List Expr)
    (kept whole places : List ℕ) → AreNarrowed n inputs news kept → whole ≡ whole_columns n kept
    → All (IsFound places whole) conditions → All (IsFound places whole) output
    → AreAsked places conditions asked → AreRenamed places output list
    → Narrows n inputs conditions output news asked list
unfolding rows_of_inputs listed all_say
narrows n inputs news conditions output asked list kept whole places are is fc fo ask ren = record {
  scans = are.scans;
  count = are.count;
  width = sym (renamed_length places output list ren);
  rows = λ db d k ld. same db d k ld;
}
  where
    same : (db : Database) (d : List Value) → HasKinds db → length d ≡ n
        → SameBag (rows_of_inputs inputs conditions output db d)
        (rows_of_inputs news asked list db d)
    same db d k ld =
        let G = gathered kept in
        let Z = chain unit_row (rows_of inputs db d) in
        let F = listed output d in
        let P = all_say conditions d in
        let H = listed list d in
        let Q = all_say asked d in
        let row : (r : List Value) → d ++ G r ≡ gathered whole (d ++ r) =
        λ r. sym (ap (λ l. gathered l (d ++ r)) is ∙ kept_row n kept d r ld) in
        let q_is : (r : List Value) → Q (G r) ≡ P r =
        λ r. ap (all_rank asked) (row r) ∙ ask.says (gathered whole (d ++ r))
        ∙ found_ranks places whole (d ++ r) conditions fc in
        let h_is : (r : List Value) → H (G r) ≡ F r =
        λ r. ap (values list) (row r) ∙ ren.values (gathered whole (d ++ r))
        ∙ found_values places whole (d ++ r) output fo in
        let S = select P Z in
        let one : select (λ r. Q (G r)) Z ≡ S =
        select_at_hand (λ r. Q (G r)) P Z
        (Each-all (λ x. Q (G x.values) ≡ P x.values) Z (λ x. q_is x.values)) in
        let two : project (λ r. H (G r)) S ≡ project F S =
        project_at_hand (λ r. H (G r)) F S
        (Each-all (λ x. H (G x.values) ≡ F x.values) S (λ x. h_is x.values)) in
        let moved : SameBag (project H (select Q (project G Z)))
        (project H (project G (select (λ r. Q (G r)) Z))) =
        project_alike H (select Q (project G Z)) (project G (select (λ r. Q (G r)) Z))
        (select_through_project Q G Z) in
        SameBag-sym
        (subst (λ l. SameBag (project H (select Q l)) (project F S)) (sym (are.rows db d k ld))
        (subst (λ l. SameBag (project H (select Q (project G Z))) l)
        (ap (λ l. project H (project G l)) one ∙ project_twice G H S ∙ two) moved))

pub narrows_none : (n : ℕ) (inputs : List DepTree) (conditions output : List Expr)
    → Narrows n inputs conditions output inputs conditions output
narrows_none n inputs conditions output =
    record {
      scans = SameBag-refl (scans_in inputs);
      count = refl;
      width = refl;
      rows = λ db d k ld. SameBag-refl (rows_of_inputs inputs conditions output db d);
    }

-- the select list over what was collected
pub listed_same : (n : ℕ) (a new : DepTree) (inputs news : List DepTree)
    (es list output asked out : List Expr) → Collects n a [] inputs [] es → output ≡ list
    → Narrows n inputs es output news asked out → StandsFor n news asked out new
    → SameRows n (t.Project a list) new
unfolding rows_of_inputs
listed_same n a new inputs news es list output asked out c is nar stands = record {
  scans = SameBag-trans (as_bags (scans_Project a list ∙ ap (λ l. l ++ scans_of a) (sym scans_none))
      refl c.scans) (SameBag-trans nar.scans stands.scans);
  width = width_Project a list ∙ ap length (sym is) ∙ nar.width ∙ stands.width;
  rows = λ db d k ld.
      let A = tree_rows a db d in
      let S = select (all_say es d) (chain unit_row (rows_of inputs db d)) in
      let F = listed list d in
      let whole : SameBag A S =
      subst (λ l. SameBag l S) (sym (alone a db d k))
      (subst (λ l. SameBag (select (λ r. min (all_say [] d r) true_rank)
      (chain unit_row (rows_of [] db d ++ A ∷ []))) l) (bare inputs es db d)
      (c.rows db d k ld (λ r. true_rank) [])) in
      SameBag-trans (subst (λ l. SameBag l (rows_of_inputs inputs es output db d))
      (sym (rows_Project a list db d))
      (subst (λ l. SameBag (project F A) l) (made inputs es db d) (project_alike F A S whole)))
      (SameBag-trans (nar.rows db d k ld) (stands.rows db d k ld));
}
  where
    bare : (more : List DepTree) (fs : List Expr) (db : Database) (d : List Value)
        → select (λ r. min (all_say fs d r) true_rank) (chain unit_row (rows_of more db d ++ []))
        ≡ select (all_say fs d) (chain unit_row (rows_of more db d))
    bare more fs db d =
        let Z = chain unit_row (rows_of more db d) in
        ap (λ l. select (λ r. min (all_say fs d r) true_rank) (chain unit_row l))
        (append-nil (rows_of more db d))
        ∙ select_at_hand (λ r. min (all_say fs d r) true_rank) (all_say fs d) Z
        (Each-all (λ x. min (all_say fs d x.values) true_rank ≡ all_say fs d x.values) Z
        (λ x. let h = all_say-le fs d x.values in omega (arith, h)))

    made : (more : List DepTree) (fs : List Expr) (db : Database) (d : List Value)
        → project (listed list d) (select (all_say fs d) (chain unit_row (rows_of more db d)))
        ≡ rows_of_inputs more fs output db d
    made more fs db d = ap (λ l.
        project (listed l d) (select (all_say fs d) (chain unit_row (rows_of more db d)))) (sym is)

-- the same, each value where the code read it
pub narrows_seen : (n : ℕ) (inputs in1 news : List DepTree)
    (conditions c1 output asked list : List Expr)
    (kept kept1 whole w1 w2 places p1 p2 p3 p4 : List ℕ) → in1 ≡ inputs
    → AreNarrowed n in1 news kept
    → kept1 ≡ kept → whole ≡ whole_columns n kept1 → c1 ≡ conditions → p1 ≡ places → w1 ≡ whole
    → All (IsFound p1 w1) c1 → p2 ≡ places → w2 ≡ whole → All (IsFound p2 w2) output
    → p3 ≡ places → AreAsked p3 c1 asked → p4 ≡ places → AreRenamed p4 output list
    → Narrows n inputs conditions output news asked list
narrows_seen n inputs in1 news conditions c1 output asked list kept kept1 whole w1 w2 places p1 p2
    p3 p4 ii are ik is ic i1 j1 fc i2 j2 fo i3 ask i4 ren =
    narrows n inputs news conditions output asked list kept whole places
    (subst (λ l. AreNarrowed n l news kept) ii are) (is ∙ ap (whole_columns n) ik)
    (subst (λ l. All (IsFound places whole) l) ic
    (subst (λ l. All (IsFound l whole) c1) i1 (subst (λ l. All (IsFound p1 l) c1) j1 fc)))
    (subst (λ l. All (IsFound l whole) output) i2 (subst (λ l. All (IsFound p2 l) output) j2 fo))
    (subst (λ l. AreAsked places l asked) ic (subst (λ l. AreAsked l c1 asked) i3 ask))
    (subst (λ l. AreRenamed l output list) i4 ren)

pub narrows_as : (n : ℕ) (inputs : List DepTree) (conditions o1 output : List Expr)
    (news : List DepTree) (asked list : List Expr) → o1 ≡ output
    → Narrows n inputs conditions o1 news asked list
    → Narrows n inputs conditions output news asked list
narrows_as n inputs conditions o1 output news asked list i nar =
    subst (λ l. Narrows n inputs conditions l news asked list) i nar
