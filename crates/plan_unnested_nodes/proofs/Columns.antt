-- Lists of columns and pairs, one element more.
use Rattle.std.proofs.Common.{◌≡◌, ℕ, zero, suc, add-one, ◌+◌, ◌<◌, ◌≤◌, List, [], ◌∷◌, ◌++◌, map, refl, sym, ap, ◌∙◌, subst, arith, length, take, get_or}
use Rattle.std.specs.Prelude.{IsTrue}
use Rattle.std.specs.List.{range_with_len}
use Rattle.std.proofs.lemmas.List.{take_more, map-append, length-take-le}
use Rattle.std.proofs.lemmas.List.FromFn.{length-range_with_len}
use Rattle.base_row_laws.specs.Trees.{side_width}
use Rattle.base_row_laws.specs.Matched.{numbered_from, numbered, right_places, side_matched}
use Rattle.expr_scalar.specs.declared.expr.Expr.{Expr}
use Rattle.expr_scalar.specs.declared.expr.Expr.TheVariants.{Column}
use Rattle.plan_algebra.specs.declared.tree.Side.{Side}
use Rattle.plan_algebra.specs.declared.tree.Side.TheVariants.{Closed, Shared, Dependent}
use Rattle.plan_algebra.specs.Trees.{side_of}
use Rattle.plan_algebra.specs.declared.node.Node.{Node}
use Rattle.plan_algebra.specs.declared.node.Node.TheVariants as node
use Rattle.plan_algebra.specs.Plans.{matches_first, plan_width, fits}
use Rattle.plan_algebra.proofs.Fits.{first_matched, outer_fits}

range_suc : (a n : ℕ) → range_with_len a (suc n) ≡ range_with_len a n ++ (a + n) ∷ []
range_suc a zero = ap (λ k. k ∷ []) (omega arith)
range_suc a (suc n) = ap (λ l. a ∷ l) (range_suc (a + 1) n ∙ ap (λ k. range_with_len (a + 1) n ++ k ∷ []) (omega arith))

pub range_next : (n : ℕ) → range_with_len 0 (n + 1) ≡ range_with_len 0 n ++ n ∷ []
range_next n = ap (range_with_len 0) (add-one n) ∙ range_suc 0 n ∙ ap (λ k. range_with_len 0 n ++ k ∷ []) (omega arith)

-- a list of the first columns, of one more
pub range_put : (n : ℕ) (all now : List ℕ) → all ≡ range_with_len 0 n → now ≡ all ++ n ∷ [] → now ≡ range_with_len 0 (n + 1)
range_put n all now e f = f ∙ ap (λ l. l ++ n ∷ []) e ∙ sym (range_next n)

-- the same as a select list
pub columns_put : (n : ℕ) (all now : List Expr) → all ≡ map Column (range_with_len 0 n) → now ≡ all ++ Column n ∷ [] → now ≡ map Column (range_with_len 0 (n + 1))
columns_put n all now e f =
    f ∙ ap (λ l. l ++ Column n ∷ []) e ∙ sym (map-append Column (range_with_len 0 n) (n ∷ [])) ∙ ap (map Column) (sym (range_next n))

pub numbered_more : (i : ℕ) (cs : List ℕ) (c : ℕ) → numbered_from i (cs ++ c ∷ []) ≡ numbered_from i cs ++ (c, i + length cs) ∷ []
numbered_more i [] c = ap (λ k. (c, k) ∷ []) (omega arith)
numbered_more i (d ∷ cs) c = ap (λ l. (d, i) ∷ l) (numbered_more (i + 1) cs c ∙ ap (λ k. numbered_from (i + 1) cs ++ (c, k) ∷ []) (omega arith))

pub length-numbered_from : (i : ℕ) (cs : List ℕ) → length (numbered_from i cs) ≡ length cs
length-numbered_from i [] = refl
length-numbered_from i (c ∷ cs) = ap suc (length-numbered_from (i + 1) cs)

pub right-numbered_from : (i : ℕ) (cs : List ℕ) → right_places (numbered_from i cs) ≡ range_with_len i (length cs)
right-numbered_from i [] = refl
right-numbered_from i (c ∷ cs) = ap (λ l. i ∷ l) (right-numbered_from (i + 1) cs)

pub length-numbered : (cs : List ℕ) → length (numbered cs) ≡ length cs
length-numbered cs = length-numbered_from 0 cs

right-numbered : (cs : List ℕ) → right_places (numbered cs) ≡ range_with_len 0 (length (numbered cs))
right-numbered cs = right-numbered_from 0 cs ∙ ap (range_with_len 0) (sym (length-numbered cs))

pub side_length : (side : Side) (n : ℕ) → length (side_matched (side_of side) n) ≡ side_width (side_of side) n
side_length Closed n = refl
side_length Shared n = length-numbered (range_with_len 0 n) ∙ length-range_with_len 0 n
side_length (Dependent []) n = refl
side_length (Dependent (c ∷ cs)) n = length-numbered (c ∷ cs)

side_right : (side : Side) (n : ℕ) → right_places (side_matched (side_of side) n) ≡ range_with_len 0 (length (side_matched (side_of side) n))
side_right Closed n = refl
side_right Shared n = right-numbered (range_with_len 0 n)
side_right (Dependent []) n = refl
side_right (Dependent (c ∷ cs)) n = right-numbered (c ∷ cs)

-- a right side's pairs match its first columns, where it is wide enough
pub side_first : (side : Side) (n width : ℕ) → side_width (side_of side) n ≤ width → IsTrue (matches_first width (side_matched (side_of side) n))
side_first side n width h =
    first_matched width 0 (side_matched (side_of side) n) (side_right side n) (subst (λ k. k ≤ width) (sym (side_length side n)) h)

pub none_matched : (width : ℕ) → IsTrue (matches_first width [])
none_matched width = first_matched width 0 [] refl (omega arith)

-- pairs of one more column
pub pairs_put : (cs : List ℕ) (i j : ℕ) (all now : List (ℕ × ℕ)) → i < length cs → j ≡ i → all ≡ numbered (take i cs) → now ≡ all ++ (get_or cs i 0, j) ∷ []
    → now ≡ numbered (take (i + 1) cs)
pairs_put cs i j all now h is e f =
    let n : length (take i cs) ≡ i = length-take-le i cs (omega arith) in
    let c = get_or cs i 0 in
    f ∙ ap (λ l. l ++ (c, j) ∷ []) e ∙ ap (λ k. numbered (take i cs) ++ (c, k) ∷ []) (omega (arith, n, is)) ∙ sym (numbered_more 0 (take i cs) c)
    ∙ ap numbered (sym (take_more cs i 0 h))

-- an outer join of a side that has its domain's columns and as many as there are nulls
pub side_outer_fits : (before : List Node) (i j : ℕ) (side : Side) (n nulls : ℕ) (e : Expr) (matched : List (ℕ × ℕ)) → i < length before → j < length before
    → plan_width before j ≡ side_width (side_of side) n + nulls → matched ≡ side_matched (side_of side) n → IsTrue (fits before (node.Outer i j matched nulls e))
side_outer_fits before i j side n nulls e matched h k w is =
    subst (λ m. IsTrue (fits before (node.Outer i j m nulls e))) (sym is)
    (outer_fits before i j (side_matched (side_of side) n) nulls e h k (side_first side n (plan_width before j) (omega (arith, w)))
    (w ∙ ap (λ k. k + nulls) (sym (side_length side n))))
