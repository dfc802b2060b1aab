-- A tree of some columns of another, and expressions over them.
use Rattle.std.proofs.Common.{◌≡◌, ℕ, ◌+◌, ◌<◌, ◌≤◌, List, [], ◌∷◌, ◌++◌, map, refl, sym, ◌∙◌, ap}
use Rattle.std.proofs.Common.{subst, arith, length, take, get_or, slice_index_or, Some, zero, suc}
use Rattle.std.specs.Prelude.{min, slice_get}
use Rattle.std.specs.List.{All}
use Rattle.std.proofs.lemmas.List.{append_assoc, append-nil, map-append, length-map, take_more}
use Rattle.std.proofs.lemmas.List.{take_all, get_or_append_left, get_or-append-add}
use Rattle.std.proofs.lemmas.List.Elements.{All-append, All-nil, All-cons, All-head, All-tail}
use Rattle.std.proofs.lemmas.Option.{none-some, same_Some}
use Rattle.base_row_laws.specs.Operators.{project}
use Rattle.base_row_laws.proofs.Lists.{Each-all, Each-weaker}
use Rattle.base_row_laws.proofs.AtHand.{project_at_hand}
use Rattle.base_row_laws.proofs.Projections.{project_twice}
use Rattle.base_value.specs.Truth.{truth_rank}
use Rattle.base_value.specs.declared.value.Value.{Value}
use Rattle.base_value.specs.declared.value.Value.TheVariants.{Null}
use Rattle.expr_scalar.specs.declared.expr.Expr.{Expr}
use Rattle.expr_scalar.specs.declared.expr.Expr.TheVariants as e
use Rattle.expr_scalar.specs.Meaning.{value, values}
use Rattle.expr_scalar.specs.Rename.{gathered}
use Rattle.expr_scalar.specs.Used.{used}
use Rattle.expr_scalar.proofs.Opened.{value_Column}
use Rattle.expr_scalar.proofs.Uses.{used_columns_decide_lem}
use Rattle.expr_conditions.specs.Ranks.{columns_from, rank_of, all_rank}
use Rattle.expr_conditions.proofs.Ranks.{run_more}
use Rattle.expr_conditions.proofs.Gather.{gather_append, gather_at}
use Rattle.plan_algebra.specs.declared.tree.DepTree.{DepTree}
use Rattle.plan_algebra.specs.declared.tree.DepTree.TheVariants as t
use Rattle.plan_algebra.specs.Trees.{width_of, tree_rows, scans_of, listed}
use Rattle.plan_algebra.proofs.Opened.{width_Project, rows_Project, scans_Project}
use Rattle.plan_predicate_sinking.specs.Narrow.{IsNarrowed, IsFound, IsFoundAt, whole_columns}
use Rattle.plan_predicate_sinking.proofs.Conditions.{project_id}
use Rattle.plan_predicate_sinking.proofs.Good.{tree_is_good, length-columns_from}

-- columns after others
pub shifted : (ps : List ℕ) (u x : List Value) (k : ℕ) → length u ≡ k
    → gathered (map (λ c. k + c) ps) (u ++ x) ≡ gathered ps x
unfolding gathered
shifted [] u x k lu = refl
shifted (p ∷ ps) u x k lu =
    ap (λ m. slice_index_or (u ++ x) (m + p) Null ∷ gathered (map (λ c. k + c) ps) (u ++ x))
    (sym lu)
    ∙ ap (λ v. v ∷ gathered (map (λ c. k + c) ps) (u ++ x)) (get_or-append-add u x p Null)
    ∙ ap (λ l. slice_index_or x p Null ∷ l) (shifted ps u x k lu)

-- columns before others
pub before : (ps : List ℕ) (u x : List Value) (k : ℕ) → length u ≡ k → All (λ c. c < k) ps
    → gathered ps (u ++ x) ≡ gathered ps u
unfolding gathered
before [] u x k lu all = refl
before (p ∷ ps) u x k lu all =
    let h : p < length u = subst (λ m. p < m) (sym lu) (All-head (λ c. c < k) p ps all) in
    ap (λ v. v ∷ gathered ps (u ++ x)) (get_or_append_left u x Null p h)
    ∙ ap (λ l. slice_index_or u p Null ∷ l) (before ps u x k lu (All-tail (λ c. c < k) p ps all))

-- a select list of columns after a domain's
pub listed_after : (n : ℕ) (ps : List ℕ) (d x : List Value) → length d ≡ n
    → listed (map (λ c. e.Column (n + c)) ps) d x ≡ gathered ps x
unfolding listed values gathered
listed_after n [] d x ld = refl
listed_after n (p ∷ ps) d x ld =
    ap (λ v. v ∷ map (λ y. value y (d ++ x)) (map (λ c. e.Column (n + c)) ps))
    (value_Column (n + p) (d ++ x) ∙ ap (λ m. slice_index_or (d ++ x) (m + p) Null) (sym ld)
    ∙ get_or-append-add d x p Null)
    ∙ ap (λ l. slice_index_or x p Null ∷ l) (listed_after n ps d x ld)

pub narrowed_all : (n : ℕ) (a a1 new : DepTree) (own : List ℕ) (count : ℕ) → new ≡ a → a1 ≡ a
    → count ≡ width_of a1 → own ≡ columns_from 0 count → IsNarrowed n a own new
narrowed_all n a a1 new own count is i1 wide all = record {
  scans = ap scans_of (sym is);
  width = ap width_of is ∙ sym (ap width_of i1) ∙ sym wide ∙ sym (length-columns_from 0 count)
      ∙ sym (ap length all);
  rows = λ db d k ld.
      let A = tree_rows a db d in
      ap (λ y. tree_rows y db d) is
      ∙ sym (project_at_hand (gathered own) (λ r. r) A
      (Each-weaker (λ x. length x.values ≡ width_of a) (λ x. gathered own x.values ≡ x.values) A
      (λ x v. ap (λ l. gathered l x.values) (all ∙ ap (columns_from 0) (wide ∙ ap width_of i1))
      ∙ gather_at 0 (width_of a) x.values [] x.values [] (sym (append-nil x.values)) refl v)
      (tree_is_good a db d k).wide)
      ∙ project_id A);
}

pub narrowed_some : (n : ℕ) (a copy new : DepTree) (own : List ℕ) (es : List Expr) → copy ≡ a
    → es ≡ map (λ c. e.Column (n + c)) own → new ≡ t.Project copy es → IsNarrowed n a own new
narrowed_some n a copy new own es i list is = record {
  scans = ap scans_of (sym i) ∙ sym (scans_Project copy es) ∙ ap scans_of (sym is);
  width = ap width_of is ∙ width_Project copy es ∙ ap length list
      ∙ length-map own (λ c. e.Column (n + c));
  rows = λ db d k ld.
      let A = tree_rows a db d in
      ap (λ y. tree_rows y db d) is ∙ rows_Project copy es db d
      ∙ ap (λ y. project (listed es d) (tree_rows y db d)) i ∙ ap (λ l. project (listed l d) A) list
      ∙ project_at_hand (listed (map (λ c. e.Column (n + c)) own) d) (gathered own) A
      (Each-all (λ x. listed (map (λ c. e.Column (n + c)) own) d x.values ≡ gathered own x.values) A
      (λ x. listed_after n own d x.values ld));
}

none_listed : (es : List Expr) (d r : List Value) → listed [] d r ≡ gathered [] (listed es d r)
unfolding listed values gathered
none_listed es d r = refl

none_gathered : (d r : List Value) → listed [] d r ≡ gathered [] r
unfolding listed values gathered
none_gathered d r = refl

-- no column of a select list
pub no_columns_list : (n : ℕ) (a tree copy seen new : DepTree) (es none : List Expr)
    → tree ≡ t.Project a es → seen ≡ a → copy ≡ seen → none ≡ [] → new ≡ t.Project copy none
    → IsNarrowed n tree [] new
no_columns_list n a tree copy seen new es none is is_seen is_copy empty made =
    let all : new ≡ t.Project a [] =
    made ∙ ap (λ (y : DepTree). t.Project y none) (is_copy ∙ is_seen) ∙ ap (λ l. t.Project a l) empty in
    record {
      scans = ap scans_of is ∙ scans_Project a es ∙ sym (scans_Project a []) ∙ sym (ap scans_of all);
      width = ap width_of all ∙ width_Project a [];
      rows = λ db d k ld.
          let A = tree_rows a db d in
          ap (λ y. tree_rows y db d) all ∙ rows_Project a [] db d
          ∙ project_at_hand (listed [] d) (λ r. gathered [] (listed es d r)) A
          (Each-all (λ x. listed [] d x.values ≡ gathered [] (listed es d x.values)) A
          (λ x. none_listed es d x.values))
          ∙ sym (project_twice (listed es d) (gathered []) A)
          ∙ ap (project (gathered [])) (sym (ap (λ y. tree_rows y db d) is ∙ rows_Project a es db d));
    }

-- no column of another tree
pub no_columns_other : (n : ℕ) (a copy new : DepTree) (none : List Expr) → copy ≡ a → none ≡ []
    → new ≡ t.Project copy none → IsNarrowed n a [] new
no_columns_other n a copy new none is empty made =
    let all : new ≡ t.Project a [] =
    made ∙ ap (λ (y : DepTree). t.Project y none) is ∙ ap (λ l. t.Project a l) empty in
    record {
      scans = sym (scans_Project a []) ∙ sym (ap scans_of all);
      width = ap width_of all ∙ width_Project a [];
      rows = λ db d k ld.
          let A = tree_rows a db d in
          ap (λ y. tree_rows y db d) all ∙ rows_Project a [] db d
          ∙ project_at_hand (listed [] d) (gathered []) A
          (Each-all (λ x. listed [] d x.values ≡ gathered [] x.values) A
          (λ x. none_gathered d x.values));
    }

pub at_place : (ps : List ℕ) (r : List Value) (i p : ℕ) → slice_get ps i ≡ Some p
    → slice_index_or (gathered ps r) i Null ≡ slice_index_or r p Null
unfolding gathered
at_place [] r i p h = absurd (none-some p h)
at_place (q ∷ ps) r zero p h = ap (λ m. slice_index_or r m Null) (same_Some q p h)
at_place (q ∷ ps) r (suc i) p h = at_place ps r i p h

-- columns that are found
module _ (places whole : List ℕ) (row : List Value) where
  found_value : (c : ℕ) → IsFoundAt places whole c
      → slice_index_or (gathered places (gathered whole row)) c Null ≡ slice_index_or row c Null
  found_value c f = at_place places (gathered whole row) c f.place f.there
      ∙ at_place whole row f.place c f.back

  pub found_row : (cs : List ℕ) → All (IsFoundAt places whole) cs
      → gathered cs (gathered places (gathered whole row)) ≡ gathered cs row
  unfolding gathered
  found_row [] all = refl
  found_row (c ∷ cs) all =
      ap (λ v. v ∷ gathered cs (gathered places (gathered whole row)))
      (found_value c (All-head (IsFoundAt places whole) c cs all))
      ∙ ap (λ l. slice_index_or row c Null ∷ l)
      (found_row cs (All-tail (IsFoundAt places whole) c cs all))

  pub found_rank : (x : Expr) → IsFound places whole x
      → rank_of x (gathered places (gathered whole row)) ≡ rank_of x row
  unfolding rank_of
  found_rank x f = ap truth_rank
      ((used_columns_decide_lem x (gathered places (gathered whole row)) row
      (found_row (used x) f)).1)

  pub found_ranks : (es : List Expr) → All (IsFound places whole) es
      → all_rank es (gathered places (gathered whole row)) ≡ all_rank es row
  found_ranks [] all = refl
  found_ranks (x ∷ es) all =
      ap (λ m. min m (all_rank es (gathered places (gathered whole row))))
      (found_rank x (All-head (IsFound places whole) x es all))
      ∙ ap (λ m. min (rank_of x row) m) (found_ranks es (All-tail (IsFound places whole) x es all))

  pub found_values : (es : List Expr) → All (IsFound places whole) es
      → values es (gathered places (gathered whole row)) ≡ values es row
  unfolding values
  found_values [] all = refl
  found_values (x ∷ es) all =
      ap (λ v. v ∷ values es (gathered places (gathered whole row)))
      ((used_columns_decide_lem x (gathered places (gathered whole row)) row
      (found_row (used x) (All-head (IsFound places whole) x es all))).0)
      ∙ ap (λ l. value x row ∷ l) (found_values es (All-tail (IsFound places whole) x es all))

-- the whole row of what is kept
pub kept_row : (n : ℕ) (kept : List ℕ) (d r : List Value) → length d ≡ n
    → gathered (whole_columns n kept) (d ++ r) ≡ d ++ gathered kept r
kept_row n kept d r ld =
    gather_append (columns_from 0 n) (map (λ c. n + c) kept) (d ++ r)
    ∙ ap (λ l. l ++ gathered (map (λ c. n + c) kept) (d ++ r))
    (gather_at 0 n (d ++ r) [] d r refl refl ld) ∙ ap (λ l. d ++ l) (shifted kept d r n ld)

-- steps of the loops
pub below_put : (count i : ℕ) (own now : List ℕ) → All (λ c. c < count) own → i < count
    → now ≡ own ++ i ∷ [] → All (λ c. c < count) now
below_put count i own now all lt push =
    subst (λ l. All (λ c. c < count) l) (sym push)
    (All-append (λ c. c < count) own (i ∷ []) all
    (All-cons (λ c. c < count) i [] lt (All-nil (λ c. c < count))))

pub below_start : (count : ℕ) (own : List ℕ) → own ≡ [] → All (λ c. c < count) own
below_start count own is = subst (λ l. All (λ c. c < count) l) (sym is) (All-nil (λ c. c < count))

pub run_grown : (own : List ℕ) (i : ℕ) → i < length own → get_or own i 0 ≡ i
    → take i own ≡ columns_from 0 i → take (i + 1) own ≡ columns_from 0 (i + 1)
run_grown own i lt is before = take_more own i 0 lt ∙ ap (λ y. take i own ++ y ∷ []) is
    ∙ ap (λ l. l ++ i ∷ []) before ∙ ap (λ m. columns_from 0 i ++ m ∷ []) (zero_first i)
    ∙ sym (run_more 0 i)
  where
    zero_first : (m : ℕ) → m ≡ 0 + m
    zero_first m = omega arith

pub mapped_more : {X Y : Type 0} (f : X → Y) (xs : List X) (start all now : List Y) (i : ℕ) (x : X)
    (y : Y) → i < length xs → x ≡ get_or xs i x → all ≡ start ++ map f (take i xs)
    → now ≡ all ++ y ∷ [] → y ≡ f x → now ≡ start ++ map f (take (i + 1) xs)
mapped_more f xs start all now i x y lt is before push made =
    push ∙ ap (λ l. l ++ y ∷ []) before ∙ append_assoc start (map f (take i xs)) (y ∷ [])
    ∙ ap (λ z. start ++ (map f (take i xs) ++ z ∷ [])) made
    ∙ ap (λ l. start ++ l) (sym (map-append f (take i xs) (x ∷ [])))
    ∙ ap (λ l. start ++ map f l)
    (sym (take_more xs i x lt ∙ ap (λ z. take i xs ++ z ∷ []) (sym is)))

pub every_more : {X : Type 0} (P : X → Type 0) (xs : List X) (i : ℕ) (x : X) → i < length xs
    → x ≡ get_or xs i x → P x → All P (take i xs) → All P (take (i + 1) xs)
every_more P xs i x lt is one all =
    subst (λ l. All P l) (sym (take_more xs i x lt ∙ ap (λ y. take i xs ++ y ∷ []) (sym is)))
    (All-append P (take i xs) (x ∷ []) all (All-cons P x [] one (All-nil P)))

pub every_end : {X : Type 0} (P : X → Type 0) (xs : List X) (i : ℕ) → length xs ≤ i
    → All P (take i xs) → All P xs
every_end P xs i le all = subst (λ l. All P l) (take_all i xs le) all

pub every_at : (P : ℕ → Type 0) (xs : List ℕ) (i : ℕ) → i < length xs → P (get_or xs i 0)
    → All P (take i xs) → All P (take (i + 1) xs)
every_at P xs i lt one all =
    subst (λ l. All P l) (sym (take_more xs i 0 lt))
    (All-append P (take i xs) (get_or xs i 0 ∷ []) all
    (All-cons P (get_or xs i 0) [] one (All-nil P)))

pub every_read : (P : ℕ → Type 0) (cs ds us : List ℕ) (i : ℕ) → length cs ≤ i → cs ≡ ds → ds ≡ us
    → All P (take i cs) → All P us
every_read P cs ds us i le a b all = subst (λ l. All P l) (take_all i cs le ∙ a ∙ b) all
