-- Conditions on a domain's columns and on others, in parts.
use Rattle.std.proofs.Common.{◌≡◌, ℕ, ◌<◌, ◌≤◌, List, [], ◌∷◌, ◌++◌, refl, sym, ◌∙◌, ap, subst, arith, length, slice_index_or}
use Rattle.std.specs.Prelude.{min}
use Rattle.std.specs.List.{All}
use Rattle.std.proofs.lemmas.List.{append-nil, get_or_append_left}
use Rattle.std.proofs.lemmas.List.Elements.{All-head, All-tail}
use Rattle.base_value.specs.declared.value.Value.{Value}
use Rattle.base_value.specs.declared.value.Value.TheVariants.{Null}
use Rattle.base_value.specs.Truth.{truth_rank}
use Rattle.expr_scalar.specs.declared.expr.Expr.{Expr}
use Rattle.expr_scalar.specs.declared.expr.Expr.TheVariants as e
use Rattle.expr_scalar.specs.Rename.{gathered}
use Rattle.expr_scalar.specs.Used.{used}
use Rattle.expr_scalar.proofs.Uses.{used_columns_decide_lem}
use Rattle.expr_conditions.specs.Ranks.{columns_from, rank_of, all_rank, PutInto, IsParted, ReadsBelow}
use Rattle.expr_conditions.proofs.Gather.{gather_append, gather_at}
use Rattle.expr_conditions.proofs.Ranks.{rank_All}
use Rattle.plan_unnested_nodes.specs.FromRows.{IsGrown, AreOwnAndRest}
use Rattle.plan_unnested_nodes.proofs.Owned.{rank_within}

-- two runs of columns that stand one after the other
in_place : (i j : ℕ) (a b more : List Value) → length a ≡ i → length b ≡ j → gathered (columns_from 0 i ++ columns_from i j) (a ++ (b ++ more)) ≡ a ++ b
in_place i j a b more la lb =
    let row = a ++ (b ++ more) in
    gather_append (columns_from 0 i) (columns_from i j) row
    ∙ ap (λ l. l ++ gathered (columns_from i j) row) (gather_at 0 i row [] a (b ++ more) refl refl la)
    ∙ ap (λ l. a ++ l) (gather_at i j row a b more refl la lb)

whole : (i j : ℕ) (a b : List Value) → length a ≡ i → length b ≡ j → gathered (columns_from 0 i ++ columns_from i j) (a ++ b) ≡ a ++ b
whole i j a b la lb = ap (λ l. gathered (columns_from 0 i ++ columns_from i j) (a ++ l)) (sym (append-nil b)) ∙ in_place i j a b [] la lb

-- the second run before the first
swapped : (i j : ℕ) (a b : List Value) → length a ≡ i → length b ≡ j → gathered (columns_from i j ++ columns_from 0 i) (a ++ b) ≡ b ++ a
swapped i j a b la lb =
    let row = a ++ b in
    gather_append (columns_from i j) (columns_from 0 i) row
    ∙ ap (λ l. l ++ gathered (columns_from 0 i) row) (gather_at i j row a b [] (ap (λ l. a ++ l) (sym (append-nil b))) la lb)
    ∙ ap (λ l. b ++ l) (gather_at 0 i row [] a b refl refl la)

-- beyond the columns that conditions read
module _ (row t : List Value) where
  at_hand : (cs : List ℕ) → All (λ c. c < length row) cs → gathered cs (row ++ t) ≡ gathered cs row
  unfolding gathered
  at_hand [] all = refl
  at_hand (c ∷ cs) all =
      let here : slice_index_or (row ++ t) c Null ≡ slice_index_or row c Null = get_or_append_left row t Null c (All-head (λ c. c < length row) c cs all) in
      ap (λ v. v ∷ gathered cs (row ++ t)) here ∙ ap (λ l. slice_index_or row c Null ∷ l) (at_hand cs (All-tail (λ c. c < length row) c cs all))

  rank_at_hand : (x : Expr) → ReadsBelow (length row) x → rank_of x (row ++ t) ≡ rank_of x row
  unfolding rank_of
  rank_at_hand x below = ap truth_rank ((used_columns_decide_lem x (row ++ t) row (at_hand (used x) below)).1)

  ranks_at_hand : (es : List Expr) → All (ReadsBelow (length row)) es → all_rank es (row ++ t) ≡ all_rank es row
  ranks_at_hand [] all = refl
  ranks_at_hand (x ∷ es) all =
      ap (λ n. min n (all_rank es (row ++ t))) (rank_at_hand x (All-head (ReadsBelow (length row)) x es all))
      ∙ ap (λ n. min (rank_of x row) n) (ranks_at_hand es (All-tail (ReadsBelow (length row)) x es all))

-- conditions where more columns stand after those that they read
pub grown_says : {n w : ℕ} {old new : List Expr} {places : List ℕ} {all : Expr} → all ≡ e.All old → places ≡ columns_from 0 n ++ columns_from n w → PutInto places all [] new → IsGrown n w old new
grown_says {n = n} {w = w} {old = old} {new = new} {places = places} {all = all} is runs p = record {
  says = λ d t more ld lt.
      let row = d ++ (t ++ more) in
      let a : all_rank new row ≡ min 5 (rank_of all (gathered places row)) = p.says row in
      let b : rank_of all (gathered places row) ≡ all_rank old (d ++ t) =
      ap (λ x. rank_of x (gathered places row)) is ∙ rank_All old (gathered places row)
      ∙ ap (λ l. all_rank old (gathered l row)) runs ∙ ap (all_rank old) (in_place n w d t more ld lt) in
      let le = rank_within all (gathered places row) in
      omega (arith, a, b, le);
}

-- the conjuncts of a condition in two parts
pub split_says : {n w : ℕ} {old all covered left rest : List Expr} {c more : Expr} {last same first : List ℕ} → last ≡ columns_from w n ++ columns_from 0 w → PutInto last c [] all
    → same ≡ columns_from 0 w ++ columns_from w n → IsParted same w all covered left → first ≡ columns_from n w ++ columns_from 0 n → more ≡ e.All left → PutInto first more old rest
    → AreOwnAndRest n w old c covered rest
split_says {n = n} {w = w} {old = old} {all = all} {covered = covered} {left = left} {rest = rest} {c = c} {more = more} {last = last} {same = same} {first = first} il p is q ip im r = record {
  says = λ d t ld lt.
      let row = t ++ d in
      let there : all_rank all row ≡ min 5 (rank_of c (gathered last row)) = p.says row in
      let turned : rank_of c (gathered last row) ≡ rank_of c (d ++ t) = ap (λ l. rank_of c (gathered l row)) il ∙ ap (rank_of c) (swapped w n t d lt ld) in
      let parts : min (all_rank covered row) (all_rank left row) ≡ all_rank all (gathered same row) = q.says row in
      let stays : all_rank all (gathered same row) ≡ all_rank all row = ap (λ l. all_rank all (gathered l row)) is ∙ ap (all_rank all) (whole w n t d lt ld) in
      let own : all_rank covered row ≡ all_rank covered t = ranks_at_hand t d covered (subst (λ k. All (ReadsBelow k) covered) (sym lt) q.below) in
      let after : all_rank rest (d ++ t) ≡ min (all_rank old (d ++ t)) (rank_of more (gathered first (d ++ t))) = r.says (d ++ t) in
      let back : rank_of more (gathered first (d ++ t)) ≡ all_rank left row =
      ap (λ x. rank_of x (gathered first (d ++ t))) im ∙ rank_All left (gathered first (d ++ t))
      ∙ ap (λ l. all_rank left (gathered l (d ++ t))) ip ∙ ap (all_rank left) (swapped n w d t ld lt) in
      let le = rank_within c (gathered last row) in
      joined (all_rank covered t) (all_rank covered row) (all_rank left row) (all_rank rest (d ++ t)) (all_rank old (d ++ t)) (rank_of c (d ++ t))
      (sym own) (after ∙ ap (λ k. min (all_rank old (d ++ t)) k) back)
      (parts ∙ stays ∙ there ∙ ap (λ k. min 5 k) turned) (let z = turned in omega (arith, z, le));
}
  where
    joined : (own far left rest old c : ℕ) → own ≡ far → rest ≡ min old left → min far left ≡ min 5 c → c ≤ 5 → min own rest ≡ min old c
    joined own far left rest old c a b d le = omega (arith, a, b, d, le)
