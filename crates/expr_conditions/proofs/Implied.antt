-- What all parts of an OR have.
use Rattle.std.proofs.Common.{◌≡◌, ℕ, ◌+◌, ◌<◌, ◌≤◌, List, [], ◌∷◌, ◌++◌, refl, sym, ◌∙◌, ap, subst, arith, zero, suc, length, take, get_or}
use Rattle.std.specs.Prelude.{min, max}
use Rattle.std.proofs.lemmas.List.{take_more, take_all}
use Rattle.base_row_laws.specs.Bags.{top}
use Rattle.base_row_laws.proofs.OfBags.{top-append}
use Rattle.base_value.specs.declared.value.Value.{Value}
use Rattle.expr_scalar.specs.declared.expr.Expr.{Expr}
use Rattle.expr_scalar.specs.declared.expr.Expr.TheVariants as e
use Rattle.expr_scalar.specs.Rename.{gathered, IsRenamed}
use Rattle.expr_conditions.specs.Ranks.{rank_of, all_rank, PutInto, IsBelow, IsBelowAll, IsBelowAny, PutImplied}
use Rattle.expr_conditions.proofs.Ranks.{all_rank-push, rank_renamed, rank_All}
use Rattle.expr_conditions.proofs.Truths.{rank_Any}

pub below_same : (k x : Expr) → x ≡ k → IsBelow k x
below_same k x is = record { says = λ row. let h : rank_of x row ≡ rank_of k row = ap (λ y. rank_of y row) is in omega (arith, h) }

pub below_in : (k : Expr) (es : List Expr) (i : ℕ) (f : Expr) → i < length es → f ≡ get_or es i f → f ≡ k → IsBelowAll k es
below_in k es i f lt is same = record { says = λ row. subst (λ y. all_rank es row ≤ rank_of y row) same (at row es i f lt is) }
  where
    at : (row : List Value) (es : List Expr) (i : ℕ) (f : Expr) → i < length es → f ≡ get_or es i f → all_rank es row ≤ rank_of f row
    at row [] i f lt is = absurd (omega (arith, lt))
    at row (x ∷ es) zero f lt is = let h : rank_of f row ≡ rank_of x row = ap (λ y. rank_of y row) is in omega (arith, h)
    at row (x ∷ es) (suc i) f lt is = let ih = at row es i f (omega (arith, lt)) is in omega (arith, ih)

pub below_and : (k x : Expr) (es seen : List Expr) → IsBelowAll k seen → seen ≡ es → x ≡ e.All es → IsBelow k x
below_and k x es seen b s is = record {
  says = λ row. let h = b.says row in let r : rank_of x row ≡ all_rank seen row = ap (λ y. rank_of y row) is ∙ rank_All es row ∙ ap (λ l. all_rank l row) (sym s) in omega (arith, h, r);
}

pub any_none : (k : Expr) → IsBelowAny k []
any_none k = record { says = λ row. omega arith }

pub any_more : (k : Expr) (es : List Expr) (i : ℕ) (x : Expr) → i < length es → x ≡ get_or es i x → IsBelowAny k (take i es) → IsBelow k x → IsBelowAny k (take (i + 1) es)
any_more k es i x lt is all one = record {
  says = λ row.
      let r : Expr → ℕ = λ y. rank_of y row in
      let a = all.says row in let b = one.says row in
      let t : top r (take (i + 1) es) ≡ max (top r (take i es)) (max (r x) 0) = ap (top r) (take_more es i x lt ∙ ap (λ y. take i es ++ y ∷ []) (sym is)) ∙ top-append r (take i es) (x ∷ []) in
      omega (arith, a, b, t);
}

pub any_end : (k : Expr) (es : List Expr) (i : ℕ) → length es ≤ i → IsBelowAny k (take i es) → IsBelowAny k es
any_end k es i le all = subst (λ l. IsBelowAny k l) (take_all i es le) all

pub implied_none : (places : List ℕ) (parts old : List Expr) → PutImplied places parts old old
implied_none places parts old = record { says = λ row. refl; less = λ row. omega arith }

pub implied_then : (places : List ℕ) (parts old mid new : List Expr) → PutImplied places parts old mid → PutImplied places parts mid new → PutImplied places parts old new
implied_then places parts old mid new a b = record {
  says = λ row. b.says row ∙ a.says row;
  less = λ row. let x = a.less row in let y = b.less row in omega (arith, x, y);
}

pub implied_one : (places : List ℕ) (parts old to : List Expr) (k new : Expr) → IsBelowAny k parts → IsRenamed places k new → to ≡ old ++ new ∷ [] → PutImplied places parts old to
implied_one places parts old to k new below r push = record {
  says = λ row.
      let g = gathered places row in
      let n = top (λ x. rank_of x g) parts in
      let b : n ≤ rank_of k g = below.says g in
      let a = all_of row in omega (arith, b, a);
  less = λ row. let a = all_of row in omega (arith, a);
}
  where
    all_of : (row : List Value) → all_rank to row ≡ min (all_rank old row) (rank_of k (gathered places row))
    all_of row = ap (λ l. all_rank l row) push ∙ all_rank-push old new row ∙ ap (λ n. min (all_rank old row) n) (rank_renamed places k new row r)

pub put_or : (places : List ℕ) (x : Expr) (parts seen old mid new : List Expr) → PutInto places x old mid → PutImplied places seen mid new → seen ≡ parts → x ≡ e.Any parts → PutInto places x old new
put_or places x parts seen old mid new a b s is = record {
  says = λ row.
      let g = gathered places row in
      let p = a.says row in let q = b.says row in let l = b.less row in
      let r : rank_of x g ≡ top (λ y. rank_of y g) seen = ap (λ y. rank_of y g) is ∙ rank_Any parts g ∙ ap (top (λ y. rank_of y g)) (sym s) in
      omega (arith, p, q, l, r);
}
