-- AND and OR as the least and the greatest rank.
use Rattle.std.proofs.Common.{◌≡◌, ℕ, ◌≤◌, List, [], ◌∷◌, ◌++◌, map, refl, sym, ◌∙◌, ap, arith, fold, inl, inr, leb-true, leb-false}
use Rattle.std.specs.Prelude.{min, max, nat_le}
use Rattle.std.proofs.lemmas.Bool.{cases_Bool}
use Rattle.base_row_laws.specs.Ranked.{true_rank}
use Rattle.base_row_laws.specs.Bags.{Each, top, bottom}
use Rattle.base_row_laws.proofs.OfBags.{OfBag-top, OfBag-bottom, top-append}
use Rattle.base_value.specs.declared.truth.Truth.{Truth}
use Rattle.base_value.specs.declared.truth.Truth.TheVariants.{False, Unknown, Stands}
use Rattle.base_value.specs.declared.truth.Fault.{Fault}
use Rattle.base_value.specs.declared.truth.Fault.TheVariants.{TooManyRows, DivideByZero, NumberRange}
use Rattle.base_value.specs.declared.truth.Standing.{Standing}
use Rattle.base_value.specs.declared.truth.Standing.TheVariants.{AtFault, AtTrue}
use Rattle.base_value.specs.declared.value.Value.{Value}
use Rattle.base_value.specs.Truth.{truth_rank, standing_rank, fault_rank, greater}
use Rattle.base_value.proofs.Ranks.{truth_from_rank}
use Rattle.expr_scalar.specs.declared.expr.Expr.{Expr}
use Rattle.expr_scalar.specs.declared.expr.Expr.TheVariants as e
use Rattle.expr_scalar.specs.Meaning.{truth, truths}
use Rattle.expr_scalar.proofs.Opened.{truth_Any}
use Rattle.expr_conditions.specs.Ranks.{rank_of, all_rank}
use Rattle.expr_conditions.specs.ConditionLaws.{AndFlattens, OrFlattens, InAnyOrder, FactorOut, ImpliedByOr}
use Rattle.expr_conditions.proofs.Ranks.{rank_All, all_rank-append}

abbrev pub any_rank : List Expr → List Value → ℕ
any_rank es row = top (λ x. rank_of x row) es

all_rank_is : (es : List Expr) (row : List Value) → all_rank es row ≡ bottom true_rank (λ x. rank_of x row) es
all_rank_is [] row = refl
all_rank_is (x ∷ es) row = ap (λ n. min (rank_of x row) n) (all_rank_is es row)

rank-greater : (a b : Truth) → truth_rank (greater a b) ≡ max (truth_rank a) (truth_rank b)
rank-greater a b = elim (cases_Bool (nat_le (truth_rank a) (truth_rank b))) [
  | inl t ↦ let l = leb-true (truth_rank a) (truth_rank b) t in rw t (omega (arith, l))
  | inr f ↦ let l = leb-false (truth_rank a) (truth_rank b) f in rw f (omega (arith, l))
]

rank-greatest : (ts : List Truth) (acc : Truth) → truth_rank (fold greater acc ts) ≡ fold max (truth_rank acc) (map truth_rank ts)
rank-greatest [] acc = refl
rank-greatest (t ∷ ts) acc = rank-greatest ts (greater acc t) ∙ ap (λ n. fold max n (map truth_rank ts)) (rank-greater acc t)

rank-fold : (es : List Expr) (row : List Value) (n : ℕ) → fold max n (map truth_rank (truths es row)) ≡ max n (any_rank es row)
unfolding truths rank_of
rank-fold [] row n = omega arith
rank-fold (x ∷ es) row n = rank-fold es row (max n (rank_of x row)) ∙ assoc n (rank_of x row) (any_rank es row)
  where
    assoc : (a b c : ℕ) → max (max a b) c ≡ max a (max b c)
    assoc a b c = omega arith

pub rank_Any : (es : List Expr) (row : List Value) → rank_of (e.Any es) row ≡ any_rank es row
unfolding rank_of
rank_Any es row = ap truth_rank (truth_Any es row) ∙ rank-greatest (truths es row) False ∙ rank-fold es row 0 ∙ none (any_rank es row)
  where
    none : (a : ℕ) → max 0 a ≡ a
    none a = omega arith

by_rank : (x y : Expr) (row : List Value) → rank_of x row ≡ rank_of y row → truth x row ≡ truth y row
unfolding rank_of
by_rank x y row h = truth_from_rank (truth x row) (truth y row) h

pub and_flattens : AndFlattens
and_flattens es fs gs row =
    by_rank (e.All (es ++ e.All fs ∷ gs)) (e.All (es ++ (fs ++ gs))) row
    (rank_All (es ++ e.All fs ∷ gs) row ∙ all_rank-append es (e.All fs ∷ gs) row ∙ ap (λ n. min (all_rank es row) (min n (all_rank gs row))) (rank_All fs row)
    ∙ ap (λ n. min (all_rank es row) n) (sym (all_rank-append fs gs row)) ∙ sym (all_rank-append es (fs ++ gs) row) ∙ sym (rank_All (es ++ (fs ++ gs)) row))

pub or_flattens : OrFlattens
or_flattens es fs gs row =
    let r : Expr → ℕ = λ x. rank_of x row in
    by_rank (e.Any (es ++ e.Any fs ∷ gs)) (e.Any (es ++ (fs ++ gs))) row
    (rank_Any (es ++ e.Any fs ∷ gs) row ∙ top-append r es (e.Any fs ∷ gs) ∙ ap (λ n. max (any_rank es row) (max n (any_rank gs row))) (rank_Any fs row)
    ∙ ap (λ n. max (any_rank es row) n) (sym (top-append r fs gs)) ∙ sym (top-append r es (fs ++ gs)) ∙ sym (rank_Any (es ++ (fs ++ gs)) row))

pub in_any_order : InAnyOrder
in_any_order es fs row s = (
  by_rank (e.All es) (e.All fs) row (rank_All es row ∙ all_rank_is es row ∙ (OfBag-bottom true_rank (λ x. rank_of x row)).alike es fs s ∙ sym (all_rank_is fs row) ∙ sym (rank_All fs row)),
  by_rank (e.Any es) (e.Any fs) row (rank_Any es row ∙ (OfBag-top (λ x. rank_of x row)).alike es fs s ∙ sym (rank_Any fs row)),
)

factored : (k : Expr) (fss : List (List Expr)) (row : List Value) → any_rank (map (λ fs. e.All (k ∷ fs)) fss) row ≡ min (rank_of k row) (any_rank (map e.All fss) row)
factored k [] row = omega arith
factored k (fs ∷ fss) row =
    ap (λ n. max n (any_rank (map (λ gs. e.All (k ∷ gs)) fss) row)) (rank_All (k ∷ fs) row)
    ∙ ap (λ n. max (min (rank_of k row) (all_rank fs row)) n) (factored k fss row)
    ∙ over (rank_of k row) (all_rank fs row) (any_rank (map e.All fss) row)
    ∙ ap (λ n. min (rank_of k row) (max n (any_rank (map e.All fss) row))) (sym (rank_All fs row))
  where
    over : (a b c : ℕ) → max (min a b) (min a c) ≡ min a (max b c)
    over a b c = omega arith

rank_of-le : (x : Expr) (row : List Value) → rank_of x row ≤ true_rank
unfolding rank_of
rank_of-le x row = truth-le (truth x row)
  where
    fault-le : (f : Fault) → fault_rank f ≤ true_rank
    fault-le TooManyRows = omega arith
    fault-le DivideByZero = omega arith
    fault-le NumberRange = omega arith

    standing-le : (s : Standing) → standing_rank s ≤ true_rank
    standing-le (AtFault f) = fault-le f
    standing-le AtTrue = omega arith

    truth-le : (t : Truth) → truth_rank t ≤ true_rank
    truth-le False = omega arith
    truth-le Unknown = omega arith
    truth-le (Stands s) = standing-le s

pub factor_out : FactorOut
factor_out k fss row =
    by_rank (e.Any (map (λ fs. e.All (k ∷ fs)) fss)) (e.All (k ∷ e.Any (map e.All fss) ∷ [])) row
    (rank_Any (map (λ fs. e.All (k ∷ fs)) fss) row ∙ factored k fss row ∙ ap (λ n. min (rank_of k row) n) (sym (rank_Any (map e.All fss) row) ∙ single (rank_of (e.Any (map e.All fss)) row) (rank_of-le (e.Any (map e.All fss)) row)) ∙ sym (rank_All (k ∷ e.Any (map e.All fss) ∷ []) row))
  where
    single : (a : ℕ) → a ≤ true_rank → a ≡ min a true_rank
    single a h = omega (arith, h)

below_all : (k : Expr) (es : List Expr) (row : List Value) → Each (λ x. rank_of x row ≤ rank_of k row) es → any_rank es row ≤ rank_of k row
below_all k [] row all = omega arith
below_all k (x ∷ es) row all = let h = all.0 in let ih = below_all k es row all.1 in omega (arith, h, ih)

pub implied_by_or : ImpliedByOr
implied_by_or k es row all =
    by_rank (e.All (e.Any es ∷ k ∷ [])) (e.Any es) row
    (rank_All (e.Any es ∷ k ∷ []) row ∙ ap (λ n. min n (min (rank_of k row) true_rank)) (rank_Any es row) ∙ least (any_rank es row) (rank_of k row) (below_all k es row all) (rank_of-le k row) ∙ sym (rank_Any es row))
  where
    least : (a b : ℕ) → a ≤ b → b ≤ true_rank → min a (min b true_rank) ≡ a
    least a b h l = omega (arith, h, l)
