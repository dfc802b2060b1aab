-- Plans in which each node fits stay so as they grow, and which nodes fit.
use Rattle.std.proofs.Common.{◌≡◌, ℕ, ◌+◌, ◌<◌, ◌≤◌, List, [], ◌∷◌, ◌++◌, Bool, true, false, refl, sym, subst, rules, length, eq-eqb}
use Rattle.std.proofs.lemmas.Bool.Decides.{nat_tests}
use Rattle.std.specs.Prelude.{◌&&◌, IsTrue, nat_lt, nat_le, ◌==◌, Some, slice_get}
use Rattle.std.specs.List.{list_all, range_with_len}
use Rattle.std.specs.Cmp.Lexicographic.{pointwise}
use Rattle.std.proofs.lemmas.List.{append_assoc, append-nil}
use Rattle.base_set_rows.specs.declared.kind.SetOperation.{SetOperation}
use Rattle.plan_algebra.specs.declared.node.Node.{Node}
use Rattle.base_row_laws.specs.Matched.{right_places}
use Rattle.base_value.specs.declared.value.Value.{Value}
use Rattle.base_value.specs.Value.{same_row}
use Rattle.base_value.proofs.Identity.{row_identity}
use Rattle.expr_scalar.specs.declared.expr.Expr.{Expr}
use Rattle.base_schema.specs.declared.table.TableName.{TableName}
use Rattle.plan_algebra.specs.declared.aggregate.Aggregate.{Aggregate}
use Rattle.plan_algebra.specs.declared.kept_plan.KeptPlan.{KeptPlan}
use Rattle.plan_algebra.specs.declared.node.Node.TheVariants as node
use Rattle.plan_algebra.specs.Aggregates.{aggregates_of}
use Rattle.plan_algebra.specs.Plans.{fits, matches_first, groups_by_domain, plan_width, all_fit, is_formed}

both : (a b : Bool) → IsTrue a → IsTrue b → IsTrue (a && b)
both true b p q = q
both false b p q = p

pub first_of_both : (a b : Bool) → IsTrue (a && b) → IsTrue a
first_of_both true b p = refl
first_of_both false b p = p

pub second_of_both : (a b : Bool) → IsTrue (a && b) → IsTrue b
second_of_both true b p = p
second_of_both false b p = cc

all_fit-append : (before ns : List Node) (n : Node) → IsTrue (all_fit before ns) → IsTrue (fits (before ++ ns) n) → IsTrue (all_fit before (ns ++ n ∷ []))
all_fit-append before [] n p q = both (fits before n) true (subst (λ l. IsTrue (fits l n)) (append-nil before) q) refl
all_fit-append before (m ∷ ns) n p q =
    both (fits before m) (all_fit (before ++ m ∷ []) (ns ++ n ∷ [])) (first_of_both (fits before m) (all_fit (before ++ m ∷ []) ns) p)
    (all_fit-append (before ++ m ∷ []) ns n (second_of_both (fits before m) (all_fit (before ++ m ∷ []) ns) p)
    (subst (λ l. IsTrue (fits l n)) (sym (append_assoc before (m ∷ []) ns)) q))

pub grown : (ns : List Node) (n : Node) → IsTrue (is_formed ns) → IsTrue (fits ns n) → IsTrue (is_formed (ns ++ n ∷ []))
unfolding is_formed
grown ns n p q = all_fit-append [] ns n p q

pub none_formed : IsTrue (is_formed [])
unfolding is_formed
none_formed = refl

-- a number below a limit
is_below : (i n : ℕ) → i < n → IsTrue (nat_lt i n)
is_below i n h = search (rules, nat_tests)

one_below : (n i : ℕ) → i < n → IsTrue (list_all (λ k. nat_lt k n) (i ∷ []))
one_below n i h = both (nat_lt i n) true (is_below i n h) refl

two_below : (n i j : ℕ) → i < n → j < n → IsTrue (list_all (λ k. nat_lt k n) (i ∷ j ∷ []))
two_below n i j h k = both (nat_lt i n) (nat_lt j n && true) (is_below i n h) (both (nat_lt j n) true (is_below j n k) refl)

same_numbers : (xs : List ℕ) → IsTrue (pointwise ◌==◌ xs xs)
same_numbers [] = refl
same_numbers (x ∷ xs) = both (x == x) (pointwise ◌==◌ xs xs) (eq-eqb x x refl) (same_numbers xs)

equal_numbers : (xs ys : List ℕ) → xs ≡ ys → IsTrue (pointwise ◌==◌ xs ys)
equal_numbers xs ys e = subst (λ l. IsTrue (pointwise ◌==◌ xs l)) e (same_numbers xs)

pub first_matched : (width n : ℕ) (matched : List (ℕ × ℕ)) → right_places matched ≡ range_with_len 0 (length matched) → length matched ≤ width → IsTrue (matches_first width matched)
first_matched width n matched e h =
    both (pointwise ◌==◌ (right_places matched) (range_with_len 0 (length matched))) (nat_le (length matched) width)
    (equal_numbers (right_places matched) (range_with_len 0 (length matched)) e) (search (rules, nat_tests))

pub scan_fits : (before : List Node) (table : TableName) → IsTrue (fits before (node.Scan table))
unfolding fits
scan_fits before table = refl

pub kept_fits : (before : List Node) (number : ℕ) (plan : KeptPlan) → IsTrue (fits before (node.Kept number plan))
unfolding fits
kept_fits before number plan = refl

pub domain_fits : (before : List Node) (i : ℕ) (cs : List ℕ) → i < length before → IsTrue (fits before (node.Domain i cs))
unfolding fits
domain_fits before i cs h = both (list_all (λ k. nat_lt k (length before)) (i ∷ [])) true (one_below (length before) i h) refl

pub select_fits : (before : List Node) (i : ℕ) (e : Expr) → i < length before → IsTrue (fits before (node.Select i e))
unfolding fits
select_fits before i e h = both (list_all (λ k. nat_lt k (length before)) (i ∷ [])) true (one_below (length before) i h) refl

pub project_fits : (before : List Node) (i : ℕ) (es : List Expr) → i < length before → IsTrue (fits before (node.Project i es))
unfolding fits
project_fits before i es h = both (list_all (λ k. nat_lt k (length before)) (i ∷ [])) true (one_below (length before) i h) refl

pub group_fits : (before : List Node) (i : ℕ) (by : List ℕ) (aggregates : List Aggregate) → i < length before → IsTrue (fits before (node.Group i by aggregates))
unfolding fits
group_fits before i by aggregates h = both (list_all (λ k. nat_lt k (length before)) (i ∷ [])) true (one_below (length before) i h) refl

pub distinct_fits : (before : List Node) (i : ℕ) → i < length before → IsTrue (fits before (node.Distinct i))
unfolding fits
distinct_fits before i h = both (list_all (λ k. nat_lt k (length before)) (i ∷ [])) true (one_below (length before) i h) refl

pub set_fits : (before : List Node) (i j : ℕ) (operation : SetOperation) → i < length before → j < length before → plan_width before i ≡ plan_width before j
    → IsTrue (fits before (node.Set i j operation))
unfolding fits
set_fits before i j operation h k w =
    both (list_all (λ k. nat_lt k (length before)) (i ∷ j ∷ [])) (plan_width before i == plan_width before j) (two_below (length before) i j h k) (eq-eqb (plan_width before i) (plan_width before j) w)

pub join_fits : (before : List Node) (i j : ℕ) (matched : List (ℕ × ℕ)) (e : Expr) → i < length before → j < length before → IsTrue (matches_first (plan_width before j) matched)
    → IsTrue (fits before (node.Join i j matched e))
unfolding fits
join_fits before i j matched e h k m = both (list_all (λ k. nat_lt k (length before)) (i ∷ j ∷ [])) (matches_first (plan_width before j) matched) (two_below (length before) i j h k) m

pub outer_fits : (before : List Node) (i j : ℕ) (matched : List (ℕ × ℕ)) (nulls : ℕ) (e : Expr) → i < length before → j < length before → IsTrue (matches_first (plan_width before j) matched)
    → plan_width before j ≡ length matched + nulls → IsTrue (fits before (node.Outer i j matched nulls e))
unfolding fits
outer_fits before i j matched nulls e h k m w =
    both (list_all (λ k. nat_lt k (length before)) (i ∷ j ∷ [])) (matches_first (plan_width before j) matched && (plan_width before j == length matched + nulls)) (two_below (length before) i j h k)
    (both (matches_first (plan_width before j) matched) (plan_width before j == length matched + nulls) m (eq-eqb (plan_width before j) (length matched + nulls) w))

pub mark_fits : (before : List Node) (i j : ℕ) (matched : List (ℕ × ℕ)) (e : Expr) → i < length before → j < length before → IsTrue (matches_first (plan_width before j) matched)
    → IsTrue (fits before (node.Mark i j matched e))
unfolding fits
mark_fits before i j matched e h k m = both (list_all (λ k. nat_lt k (length before)) (i ∷ j ∷ [])) (matches_first (plan_width before j) matched) (two_below (length before) i j h k) m

pub single_fits : (before : List Node) (i j : ℕ) (matched : List (ℕ × ℕ)) (c : ℕ) → i < length before → j < length before → IsTrue (matches_first (plan_width before j) matched)
    → IsTrue (fits before (node.Single i j matched c))
unfolding fits
single_fits before i j matched c h k m = both (list_all (λ k. nat_lt k (length before)) (i ∷ j ∷ [])) (matches_first (plan_width before j) matched) (two_below (length before) i j h k) m

pub fill_fits : (before : List Node) (g d i : ℕ) (by : List ℕ) (aggregates : List Aggregate) (empty : List Value) → g < length before → d < length before
    → slice_get before g ≡ Some (node.Group i by aggregates) → by ≡ range_with_len 0 (plan_width before d) → empty ≡ aggregates_of aggregates [] → IsTrue (fits before (node.Fill g d empty))
unfolding fits
fill_fits before g d i by aggregates empty h k is columns values =
    both (list_all (λ k. nat_lt k (length before)) (g ∷ d ∷ [])) (groups_by_domain (plan_width before d) empty (slice_get before g)) (two_below (length before) g d h k)
    (subst (λ o. IsTrue (groups_by_domain (plan_width before d) empty o)) (sym is)
    (both (pointwise ◌==◌ by (range_with_len 0 (plan_width before d))) (same_row (aggregates_of aggregates []) empty) (equal_numbers by (range_with_len 0 (plan_width before d)) columns)
    (subst (λ l. IsTrue (same_row (aggregates_of aggregates []) l)) (sym values) (row_identity.meets (aggregates_of aggregates [])))))
