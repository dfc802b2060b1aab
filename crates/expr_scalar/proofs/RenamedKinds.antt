-- An expression over other columns is typed as the old one over the row of these columns.
use Rattle.std.proofs.Common.{◌≡◌, ℕ, List, [], ◌∷◌, map, Bool, true, false, ◌&&◌, if◌then◌else◌, refl, ap, sym, subst, ◌∙◌, zero, suc, Option, Some, slice_get}
use Rattle.std.specs.Cmp.{first_so, second_so}
use Rattle.std.specs.List.{list_all}
use Rattle.expr_operators.specs.declared.operator.Arithmetic.{Arithmetic}
use Rattle.expr_scalar.specs.declared.expr.Branch.{Branch}
use Rattle.expr_scalar.specs.declared.expr.Expr.{Expr, Expr-F, out-Expr}
use Rattle.expr_scalar.specs.declared.expr.Expr.TheOpen as f
use Rattle.expr_scalar.specs.declared.expr.Expr.TheVariants as e
use Rattle.expr_scalar.specs.declared.expr.Operation.{Operation}
use Rattle.expr_scalar.specs.declared.kind.Kind.{Kind}
use Rattle.expr_scalar.specs.declared.kind.Kind.TheVariants as kind
use Rattle.expr_scalar.specs.Rename.{column_or_null, renamed, renamed_branch, renamed_operation, ColumnsAre, KeepsKinds}
use Rattle.expr_scalar.specs.Typing.{Sort, Unfit, Nulls, Of, column_sort, negative_sort, arithmetic_sort, extract_sort, substring_sort, scaled_sort, both_sorts, all_sorts, branches_sorts, sort_in_turn, comparable, is_text, is_number, is_fit, sort_gives, sort_of, is_condition, literal_sort, sort_step, condition_step, typing, branch_sort, operation_sort, Typing}
use Rattle.expr_scalar.proofs.Induction.{Exprs, Branches, Operations, exprs, branches, operations, induction}
use Rattle.expr_scalar.proofs.Renamed.{renamed_branch_is, renamed_operation_is, renamed_Column, renamed_Literal, renamed_Negative, renamed_Arithmetic, renamed_Case, renamed_Extract, renamed_Substring, renamed_Compare, renamed_Between, renamed_Like, renamed_InList, renamed_IsNull, renamed_Not, renamed_All, renamed_Any, renamed_IsMarked}
use Rattle.expr_scalar.proofs.Typed.{with_typings, sort_at_node, test_at_node, branch_sort_is, operation_sort_is}

-- ---- the new sort is the old one, where that fits

abbrev KeptSort : Sort → Sort → Type 0
KeptSort Unfit y = Unit {0}
KeptSort Nulls y = y ≡ Nulls
KeptSort (Of k) y = y ≡ Of k

abbrev KeptTest : Bool → Bool → Type 0
KeptTest a b = a ≡ true → b ≡ true

same_sort : (x : Sort) → KeptSort x x
same_sort Unfit = tt
same_sort Nulls = refl
same_sort (Of k) = refl

-- a function of sorts that does not fit where its operand does not
strict : (g : Sort → Sort) → g Unfit ≡ Unfit → (x y : Sort) → KeptSort x y → KeptSort (g x) (g y)
strict g none Unfit y h = subst (λ z. KeptSort z (g y)) (sym none) tt
strict g none Nulls y h = subst (λ z. KeptSort (g Nulls) (g z)) (sym h) (same_sort (g Nulls))
strict g none (Of k) y h = subst (λ z. KeptSort (g (Of k)) (g z)) (sym h) (same_sort (g (Of k)))

-- a test of sorts that fails where its operand does not fit
strict_test : (g : Sort → Bool) → g Unfit ≡ false → (x y : Sort) → KeptSort x y → KeptTest (g x) (g y)
strict_test g none Unfit y h t = let no : false ≡ true = sym none ∙ t in cc
strict_test g none Nulls y h t = ap g h ∙ t
strict_test g none (Of k) y h t = ap g h ∙ t

kept_along : (x y z : Sort) → KeptSort x y → KeptSort y z → KeptSort x z
kept_along Unfit y z h k = tt
kept_along Nulls y z h k = let there : KeptSort Nulls z = subst (λ w. KeptSort w z) h k in there
kept_along (Of a) y z h k = let there : KeptSort (Of a) z = subst (λ w. KeptSort w z) h k in there

-- the same of two operands
strict_two : (g : Sort → Sort → Sort) → ((y : Sort) → g Unfit y ≡ Unfit) → ((x : Sort) → g x Unfit ≡ Unfit) → (x y x' y' : Sort)
    → KeptSort x x' → KeptSort y y' → KeptSort (g x y) (g x' y')
strict_two g left right x y x' y' h k =
    kept_along (g x y) (g x' y) (g x' y') (strict (λ z. g z y) (left y) x x' h) (strict (λ z. g x' z) (right x') y y' k)

strict_tests : (g : Sort → Sort → Bool) → ((y : Sort) → g Unfit y ≡ false) → ((x : Sort) → g x Unfit ≡ false) → (x y x' y' : Sort)
    → KeptSort x x' → KeptSort y y' → KeptTest (g x y) (g x' y')
strict_tests g left right x y x' y' h k t =
    strict_test (λ z. g x' z) (right x') y y' k (strict_test (λ z. g z y) (left y) x x' h t)

no_number : (operator : Arithmetic) (x : Sort) → arithmetic_sort operator x Unfit ≡ Unfit
no_number operator Unfit = refl
no_number operator Nulls = refl
no_number operator (Of (kind.Number s)) = refl
no_number operator (Of kind.Text) = refl
no_number operator (Of kind.Date) = refl

not_both : (x : Sort) → both_sorts x Unfit ≡ Unfit
not_both Unfit = refl
not_both Nulls = refl
not_both (Of k) = refl

not_comparable : (x : Sort) → comparable x Unfit ≡ false
not_comparable Unfit = refl
not_comparable Nulls = refl
not_comparable (Of (kind.Number s)) = refl
not_comparable (Of kind.Text) = refl
not_comparable (Of kind.Date) = refl

both_tests : (a b a' b' : Bool) → KeptTest a a' → KeptTest b b' → KeptTest (a && b) (a' && b')
both_tests a b a' b' h k t =
    let left : a' ≡ true = h (first_so a b t) in
    let right : b' ≡ true = k (second_so a b t) in
    ap (λ z. z && b') left ∙ right

kept_arithmetic : (operator : Arithmetic) (x y x' y' : Sort) → KeptSort x x' → KeptSort y y' → KeptSort (arithmetic_sort operator x y) (arithmetic_sort operator x' y')
kept_arithmetic operator = strict_two (arithmetic_sort operator) (λ y. refl) (no_number operator)

kept_comparable : (x y x' y' : Sort) → KeptSort x x' → KeptSort y y' → KeptTest (comparable x y) (comparable x' y')
kept_comparable = strict_tests comparable (λ y. refl) not_comparable

kept_both : (x y x' y' : Sort) → KeptSort x x' → KeptSort y y' → KeptSort (both_sorts x y) (both_sorts x' y')
kept_both = strict_two both_sorts (λ y. refl) not_both

kept_branch : (a a' : Bool) (x x' : Sort) → KeptTest a a' → KeptSort x x' → KeptSort (if a then x else Unfit) (if a' then x' else Unfit)
kept_branch false a' x x' h k = tt
kept_branch true a' x x' h k = subst (λ z. KeptSort x (if z then x' else Unfit)) (sym (h refl)) k

-- ---- columns of these kinds

column_sort_is : (c : ℕ) (ks : List Kind) → sort_of (e.Column c) ks ≡ column_sort (slice_get ks c)
column_sort_is c ks = sort_at_node (e.Column c) (f.Column c) ks (e.outs-Column c)

column_kept : (m : List ℕ) (ks these : List Kind) (i : ℕ) → ColumnsAre m ks these → KeptSort (column_sort (slice_get these i)) (sort_of (column_or_null (slice_get m i)) ks)
column_kept m ks [] i h = tt
column_kept [] ks (k ∷ these) i h = cc
column_kept (c ∷ m) ks (k ∷ these) zero h =
    let there : slice_get ks c ≡ Some k = cc in
    column_sort_is c ks ∙ ap column_sort there
column_kept (c ∷ m) ks (k ∷ these) (suc i) h =
    let rest : ColumnsAre m ks these = cc in
    column_kept m ks these i rest

column_test : (o : Option ℕ) (ks : List Kind) → KeptTest false (is_condition (column_or_null o) ks)
column_test o ks t = cc

-- ---- the induction

record Kept (m : List ℕ) (ks these : List Kind) (x : Expr) : Type 0 where
  sort : KeptSort (sort_of x these) (sort_of (renamed m x) ks)
  test : KeptTest (is_condition x these) (is_condition (renamed m x) ks)

abbrev BranchKept : List ℕ → List Kind → List Kind → Branch → Type 0
BranchKept m ks these b = KeptSort (branch_sort b these) (branch_sort (renamed_branch m b) ks)

abbrev OperationKept : List ℕ → List Kind → List Kind → Operation → Type 0
OperationKept m ks these o = (x y : Sort) → KeptSort x y → KeptSort (operation_sort o x these) (operation_sort (renamed_operation m o) y ks)

along : (x x' y y' : Sort) → x' ≡ x → y' ≡ y → KeptSort x y → KeptSort x' y'
along x x' y y' p q h = subst (λ z. KeptSort z y') (sym p) (subst (λ z. KeptSort x z) (sym q) h)

tests_along : (a a' b b' : Bool) → a' ≡ a → b' ≡ b → KeptTest a b → KeptTest a' b'
tests_along a a' b b' p q h t = q ∙ h (sym p ∙ t)

-- from what the new expression is, and the nodes of the old one and of it
by_node : (m : List ℕ) (ks these : List Kind) (x y : Expr) (u v : Expr-F Expr Branch Operation) → renamed m x ≡ y → out-Expr x ≡ u → out-Expr y ≡ v
    → KeptSort (sort_step (with_typings u) these) (sort_step (with_typings v) ks)
    → KeptTest (condition_step (with_typings u) these) (condition_step (with_typings v) ks)
    → Kept m ks these x
by_node m ks these x y u v is old new h k = record {
  sort = along _ _ _ _ (sort_at_node x u these old) (ap (λ z. sort_of z ks) is ∙ sort_at_node y v ks new) h;
  test = tests_along _ _ _ _ (test_at_node x u these old) (ap (λ z. is_condition z ks) is ∙ test_at_node y v ks new) k;
}

-- a node that is no condition
no_test : (b : Bool) → KeptTest false b
no_test b t = cc

branches_kept : (m : List ℕ) (ks these : List Kind) (scale : ℕ) (bs : Branches (BranchKept m ks these))
    → KeptSort (all_sorts (map (scaled_sort scale) (branches_sorts (map branch_sort (branches {Q = BranchKept m ks these} bs)) these)))
    (all_sorts (map (scaled_sort scale) (branches_sorts (map branch_sort (map (renamed_branch m) (branches {Q = BranchKept m ks these} bs))) ks)))
branches_kept m ks these scale [] = refl
branches_kept m ks these scale (b ∷ bs) =
    kept_both (scaled_sort scale (branch_sort b.0 these)) _ (scaled_sort scale (branch_sort (renamed_branch m b.0) ks)) _
    (strict (scaled_sort scale) refl (branch_sort b.0 these) (branch_sort (renamed_branch m b.0) ks) b.1)
    (branches_kept m ks these scale bs)

operations_kept : (m : List ℕ) (ks these : List Kind) (os : Operations (OperationKept m ks these)) (x y : Sort) → KeptSort x y
    → KeptSort (sort_in_turn x (map operation_sort (operations {R = OperationKept m ks these} os)) these)
    (sort_in_turn y (map operation_sort (map (renamed_operation m) (operations {R = OperationKept m ks these} os))) ks)
operations_kept m ks these [] x y h = h
operations_kept m ks these (o ∷ os) x y h = operations_kept m ks these os (operation_sort o.0 x these) (operation_sort (renamed_operation m o.0) y ks) (o.1 x y h)

all_tests : (m : List ℕ) (ks these : List Kind) (es : Exprs (Kept m ks these))
    → KeptTest (list_all (λ (x : Typing). x.is_condition these) (map typing (exprs {P = Kept m ks these} es)))
    (list_all (λ (x : Typing). x.is_condition ks) (map typing (map (renamed m) (exprs {P = Kept m ks these} es))))
unfolding is_condition
all_tests m ks these [] t = refl
all_tests m ks these (x ∷ es) t =
    both_tests (is_condition x.0 these) _ (is_condition (renamed m x.0) ks) _ x.1.test (all_tests m ks these es) t

all_comparable : (m : List ℕ) (ks these : List Kind) (a b : Sort) → KeptSort a b → (es : Exprs (Kept m ks these))
    → KeptTest (list_all (λ (x : Typing). comparable a (x.sort these)) (map typing (exprs {P = Kept m ks these} es)))
    (list_all (λ (x : Typing). comparable b (x.sort ks)) (map typing (map (renamed m) (exprs {P = Kept m ks these} es))))
unfolding sort_of
all_comparable m ks these a b h [] t = refl
all_comparable m ks these a b h (x ∷ es) t =
    both_tests (comparable a (sort_of x.0 these)) _ (comparable b (sort_of (renamed m x.0) ks)) _
    (kept_comparable a (sort_of x.0 these) b (sort_of (renamed m x.0) ks) h x.1.sort) (all_comparable m ks these a b h es) t

branch_kept : (m : List ℕ) (ks these : List Kind) (when gives : Expr) → Kept m ks these when → Kept m ks these gives → BranchKept m ks these (record { when = when; gives = gives })
branch_kept m ks these when gives w g =
    let b : Branch = record { when = when; gives = gives } in
    let new : Branch = record { when = renamed m when; gives = renamed m gives } in
    along _ _ _ _ (branch_sort_is b these) (ap (λ z. branch_sort z ks) (renamed_branch_is m b) ∙ branch_sort_is new ks)
    (kept_branch (is_condition when these) (is_condition (renamed m when) ks) (sort_of gives these) (sort_of (renamed m gives) ks) w.test g.sort)

operation_kept : (m : List ℕ) (ks these : List Kind) (operator : Arithmetic) (operand : Expr) → Kept m ks these operand → OperationKept m ks these (record { operator = operator; operand = operand })
operation_kept m ks these operator operand h x y k =
    let o : Operation = record { operator = operator; operand = operand } in
    let new : Operation = record { operator = operator; operand = renamed m operand } in
    along _ _ _ _ (operation_sort_is o x these) (ap (λ z. operation_sort z y ks) (renamed_operation_is m o) ∙ operation_sort_is new y ks)
    (kept_arithmetic operator x (sort_of operand these) y (sort_of (renamed m operand) ks) k h.sort)

all_kept : (m : List ℕ) (ks these : List Kind) → ColumnsAre m ks these → (x : Expr) → Kept m ks these x
unfolding sort_of is_condition
all_kept m ks these there = induction (Kept m ks these) (BranchKept m ks these) (OperationKept m ks these) (record {
  column = λ i. record {
    sort = along _ _ _ _ (column_sort_is i these) (ap (λ z. sort_of z ks) (renamed_Column m i)) (column_kept m ks these i there);
    test = tests_along _ _ _ _ (test_at_node (e.Column i) (f.Column i) these (e.outs-Column i)) refl (no_test _);
  };
  literal = λ v. by_node m ks these _ _ (f.Literal v) (f.Literal v) (renamed_Literal m v) (e.outs-Literal v) (e.outs-Literal v) (same_sort (literal_sort v)) (no_test _);
  negative = λ a h. by_node m ks these _ _ (f.Negative a) (f.Negative (renamed m a)) (renamed_Negative m a) (e.outs-Negative a) (e.outs-Negative _) (strict negative_sort refl _ _ h.sort) (no_test _);
  arithmetic = λ a h os. by_node m ks these _ _ (f.Arithmetic a (operations {R = OperationKept m ks these} os)) (f.Arithmetic (renamed m a) (map (renamed_operation m) (operations {R = OperationKept m ks these} os)))
      (renamed_Arithmetic m a (operations {R = OperationKept m ks these} os)) (e.outs-Arithmetic a (operations {R = OperationKept m ks these} os)) (e.outs-Arithmetic _ _) (operations_kept m ks these os (sort_of a these) (sort_of (renamed m a) ks) h.sort) (no_test _);
  case = λ scale bs a h. by_node m ks these _ _ (f.Case scale (branches {Q = BranchKept m ks these} bs) a) (f.Case scale (map (renamed_branch m) (branches {Q = BranchKept m ks these} bs)) (renamed m a))
      (renamed_Case m scale (branches {Q = BranchKept m ks these} bs) a) (e.outs-Case scale (branches {Q = BranchKept m ks these} bs) a) (e.outs-Case scale _ _)
      (kept_both _ (scaled_sort scale (sort_of a these)) _ (scaled_sort scale (sort_of (renamed m a) ks)) (branches_kept m ks these scale bs) (strict (scaled_sort scale) refl (sort_of a these) (sort_of (renamed m a) ks) h.sort)) (no_test _);
  extract = λ part a h. by_node m ks these _ _ (f.Extract part a) (f.Extract part (renamed m a)) (renamed_Extract m part a) (e.outs-Extract part a) (e.outs-Extract part _) (strict extract_sort refl _ _ h.sort) (no_test _);
  substring = λ a h from count. by_node m ks these _ _ (f.Substring a from count) (f.Substring (renamed m a) from count) (renamed_Substring m a from count) (e.outs-Substring a from count) (e.outs-Substring _ from count) (strict substring_sort refl _ _ h.sort) (no_test _);
  compare = λ comparison a h b k. by_node m ks these _ _ (f.Compare comparison a b) (f.Compare comparison (renamed m a) (renamed m b)) (renamed_Compare m comparison a b) (e.outs-Compare comparison a b) (e.outs-Compare comparison _ _) tt (kept_comparable _ _ _ _ h.sort k.sort);
  between = λ a h b k d l. by_node m ks these _ _ (f.Between a b d) (f.Between (renamed m a) (renamed m b) (renamed m d)) (renamed_Between m a b d) (e.outs-Between a b d) (e.outs-Between _ _ _) tt
      (both_tests _ _ _ _ (kept_comparable _ _ _ _ h.sort k.sort) (kept_comparable _ _ _ _ h.sort l.sort));
  like = λ a h pattern. by_node m ks these _ _ (f.Like a pattern) (f.Like (renamed m a) pattern) (renamed_Like m a pattern) (e.outs-Like a pattern) (e.outs-Like _ pattern) tt (strict_test is_text refl _ _ h.sort);
  in_list = λ a h es. by_node m ks these _ _ (f.InList a (exprs {P = Kept m ks these} es)) (f.InList (renamed m a) (map (renamed m) (exprs {P = Kept m ks these} es)))
      (renamed_InList m a (exprs {P = Kept m ks these} es)) (e.outs-InList a (exprs {P = Kept m ks these} es)) (e.outs-InList _ _) tt
      (both_tests _ _ _ _ (strict_test is_fit refl _ _ h.sort) (all_comparable m ks these (sort_of a these) (sort_of (renamed m a) ks) h.sort es));
  is_null = λ a h. by_node m ks these _ _ (f.IsNull a) (f.IsNull (renamed m a)) (renamed_IsNull m a) (e.outs-IsNull a) (e.outs-IsNull _) tt (strict_test is_fit refl _ _ h.sort);
  not = λ a h. by_node m ks these _ _ (f.Not a) (f.Not (renamed m a)) (renamed_Not m a) (e.outs-Not a) (e.outs-Not _) tt h.test;
  all = λ es. by_node m ks these _ _ (f.All (exprs {P = Kept m ks these} es)) (f.All (map (renamed m) (exprs {P = Kept m ks these} es))) (renamed_All m (exprs {P = Kept m ks these} es)) (e.outs-All (exprs {P = Kept m ks these} es)) (e.outs-All _) tt (all_tests m ks these es);
  any = λ es. by_node m ks these _ _ (f.Any (exprs {P = Kept m ks these} es)) (f.Any (map (renamed m) (exprs {P = Kept m ks these} es))) (renamed_Any m (exprs {P = Kept m ks these} es)) (e.outs-Any (exprs {P = Kept m ks these} es)) (e.outs-Any _) tt (all_tests m ks these es);
  is_marked = λ a h. by_node m ks these _ _ (f.IsMarked a) (f.IsMarked (renamed m a)) (renamed_IsMarked m a) (e.outs-IsMarked a) (e.outs-IsMarked _) tt (strict_test is_number refl _ _ h.sort);
  branch = branch_kept m ks these;
  operation = operation_kept m ks these;
})

gives_kept : (x y : Sort) (k : Kind) → KeptSort x y → sort_gives x k ≡ true → sort_gives y k ≡ true
gives_kept x y k h g = strict_test (λ z. sort_gives z k) refl x y h g

pub renamed_keeps : (m : List ℕ) (x : Expr) → KeepsKinds m x (renamed m x)
renamed_keeps m x = record {
  gives = λ ks these k there g. gives_kept (sort_of x these) (sort_of (renamed m x) ks) k (all_kept m ks these there x).sort g;
  is_condition = λ ks these there t. (all_kept m ks these there x).test t;
}
