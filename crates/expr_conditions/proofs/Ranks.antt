-- Runs of columns, and lists of conditions.
use Rattle.std.proofs.Common.{◌≡◌, ℕ, ◌+◌, ◌<◌, ◌≤◌, List, [], ◌∷◌, ◌++◌, map, refl, sym, ◌∙◌, ap, arith, zero, suc, length, take, get_or, inl, inr, fold, subst, leb-true, leb-false}
use Rattle.std.specs.Prelude.{min, nat_le}
use Rattle.std.specs.List.{All}
use Rattle.std.proofs.lemmas.Bool.{cases_Bool}
use Rattle.std.proofs.lemmas.List.{append_assoc, map-append, take_more, take_all}
use Rattle.std.proofs.lemmas.List.Elements.{All-append, All-nil, All-cons}
use Rattle.base_row_laws.specs.Ranked.{true_rank}
use Rattle.base_value.specs.declared.truth.Standing.TheVariants.{AtTrue}
use Rattle.base_value.specs.declared.truth.Truth.{Truth}
use Rattle.base_value.specs.declared.truth.Truth.TheVariants.{Stands}
use Rattle.base_value.specs.declared.value.Value.{Value}
use Rattle.base_value.specs.Truth.{truth_rank, lesser}
use Rattle.expr_scalar.specs.declared.expr.Expr.{Expr}
use Rattle.expr_scalar.specs.declared.expr.Expr.TheVariants as e
use Rattle.expr_scalar.specs.Meaning.{truths, value, values}
use Rattle.expr_scalar.specs.Rename.{gathered, IsRenamed}
use Rattle.expr_scalar.proofs.Opened.{truth_All}
use Rattle.expr_conditions.specs.Ranks.{columns_from, rank_of, all_rank, PutInto, PutAll, ReadsBelow, IsParted, AreRenamed, PutPart}

pub run_more : (k i : ℕ) → columns_from k (i + 1) ≡ columns_from k i ++ (k + i) ∷ []
run_more k i = ap (columns_from k) (one i) ∙ go k i
  where
    one : (i : ℕ) → i + 1 ≡ suc i
    one i = omega arith

    same : (k : ℕ) → k ≡ k + 0
    same k = omega arith

    next : (k i : ℕ) → suc k + i ≡ k + suc i
    next k i = omega arith

    go : (k i : ℕ) → columns_from k (suc i) ≡ columns_from k i ++ (k + i) ∷ []
    go k zero = ap (λ n. n ∷ []) (same k)
    go k (suc i) = ap (λ l. k ∷ l) (go (suc k) i ∙ ap (λ n. columns_from (suc k) i ++ n ∷ []) (next k i))

pub run_step : (start now next : List ℕ) (from i place : ℕ) → now ≡ start ++ columns_from from i → next ≡ now ++ place ∷ [] → place ≡ from + i → next ≡ start ++ columns_from from (i + 1)
run_step start now next from i place before new is =
    new ∙ ap (λ l. l ++ place ∷ []) before ∙ append_assoc start (columns_from from i) (place ∷ [])
    ∙ ap (λ n. start ++ (columns_from from i ++ n ∷ [])) is ∙ ap (λ l. start ++ l) (sym (run_more from i))

pub all_rank-le : (es : List Expr) (row : List Value) → all_rank es row ≤ true_rank
all_rank-le [] row = omega arith
all_rank-le (x ∷ es) row = let ih = all_rank-le es row in omega (arith, ih)

pub all_rank-append : (es fs : List Expr) (row : List Value) → all_rank (es ++ fs) row ≡ min (all_rank es row) (all_rank fs row)
all_rank-append [] fs row = let h = all_rank-le fs row in omega (arith, h)
all_rank-append (x ∷ es) fs row = ap (λ n. min (rank_of x row) n) (all_rank-append es fs row) ∙ assoc (rank_of x row) (all_rank es row) (all_rank fs row)
  where
    assoc : (a b c : ℕ) → min a (min b c) ≡ min (min a b) c
    assoc a b c = omega arith

pub all_rank-push : (es : List Expr) (x : Expr) (row : List Value) → all_rank (es ++ x ∷ []) row ≡ min (all_rank es row) (rank_of x row)
all_rank-push es x row = all_rank-append es (x ∷ []) row ∙ one (all_rank es row) (rank_of x row) (all_rank-le es row)
  where
    one : (a b : ℕ) → a ≤ true_rank → min a (min b true_rank) ≡ min a b
    one a b h = omega (arith, h)

-- AND
rank-lesser : (a b : Truth) → truth_rank (lesser a b) ≡ min (truth_rank a) (truth_rank b)
rank-lesser a b = elim (cases_Bool (nat_le (truth_rank a) (truth_rank b))) [
  | inl t ↦ let l = leb-true (truth_rank a) (truth_rank b) t in rw t (omega (arith, l))
  | inr f ↦ let l = leb-false (truth_rank a) (truth_rank b) f in rw f (omega (arith, l))
]

rank-least : (ts : List Truth) (acc : Truth) → truth_rank (fold lesser acc ts) ≡ fold min (truth_rank acc) (map truth_rank ts)
rank-least [] acc = refl
rank-least (t ∷ ts) acc = rank-least ts (lesser acc t) ∙ ap (λ n. fold min n (map truth_rank ts)) (rank-lesser acc t)

rank-fold : (es : List Expr) (row : List Value) (n : ℕ) → n ≤ true_rank → fold min n (map truth_rank (truths es row)) ≡ min n (all_rank es row)
unfolding truths rank_of
rank-fold [] row n h = omega (arith, h)
rank-fold (x ∷ es) row n h = rank-fold es row (min n (rank_of x row)) (omega (arith, h)) ∙ assoc n (rank_of x row) (all_rank es row)
  where
    assoc : (a b c : ℕ) → min (min a b) c ≡ min a (min b c)
    assoc a b c = omega arith

pub rank_All : (es : List Expr) (row : List Value) → rank_of (e.All es) row ≡ all_rank es row
unfolding rank_of
rank_All es row =
    ap truth_rank (truth_All es row) ∙ rank-least (truths es row) (Stands AtTrue) ∙ rank-fold es row true_rank (omega arith) ∙ least_of (all_rank es row) (all_rank-le es row)
  where
    least_of : (a : ℕ) → a ≤ true_rank → min true_rank a ≡ a
    least_of a h = omega (arith, h)

pub rank_renamed : (places : List ℕ) (x new : Expr) (row : List Value) → IsRenamed places x new → rank_of new row ≡ rank_of x (gathered places row)
unfolding rank_of
rank_renamed places x new row r = ap truth_rank (r.truth row)

pub put_one : (places : List ℕ) (x new : Expr) (old to : List Expr) → IsRenamed places x new → to ≡ old ++ new ∷ [] → PutInto places x old to
put_one places x new old to r is = record {
  says = λ row. ap (λ l. all_rank l row) is ∙ all_rank-push old new row ∙ ap (λ n. min (all_rank old row) n) (rank_renamed places x new row r);
}

pub put_list : (places : List ℕ) (x : Expr) (es old to : List Expr) → PutAll places es old to → x ≡ e.All es → PutInto places x old to
put_list places x es old to p is = record {
  says = λ row. p.says row ∙ ap (λ n. min (all_rank old row) n) (sym (rank_All es (gathered places row)) ∙ ap (λ y. rank_of y (gathered places row)) (sym is));
}

pub put_none : (places : List ℕ) (old : List Expr) → PutAll places [] old old
put_none places old = record { says = λ row. let h = all_rank-le old row in omega (arith, h) }

one_more : {X : Type 0} (es : List X) (i : ℕ) (x : X) → i < length es → x ≡ get_or es i x → take (i + 1) es ≡ take i es ++ x ∷ []
one_more es i x lt is = take_more es i x lt ∙ ap (λ y. take i es ++ y ∷ []) (sym is)

pub put_more : (places : List ℕ) (es old mid to : List Expr) (i : ℕ) (x : Expr) → i < length es → x ≡ get_or es i x
    → PutAll places (take i es) old mid → PutInto places x mid to → PutAll places (take (i + 1) es) old to
put_more places es old mid to i x lt is before new = record {
  says = λ row.
      let g = gathered places row in
      new.says row ∙ ap (λ n. min n (rank_of x g)) (before.says row) ∙ assoc (all_rank old row) (all_rank (take i es) g) (rank_of x g)
      ∙ ap (λ n. min (all_rank old row) n) (sym (all_rank-push (take i es) x g) ∙ ap (λ l. all_rank l g) (sym (one_more es i x lt is)));
}
  where
    assoc : (a b c : ℕ) → min (min a b) c ≡ min a (min b c)
    assoc a b c = omega arith

pub parted_none : (places : List ℕ) (limit : ℕ) → IsParted places limit [] [] []
parted_none places limit = record { says = λ row. omega arith; below = All-nil (ReadsBelow limit) }

pub parted_covered : (places : List ℕ) (limit : ℕ) (es covered rest to : List Expr) (i : ℕ) (x new : Expr) → i < length es → x ≡ get_or es i x
    → IsParted places limit (take i es) covered rest → IsRenamed places x new → ReadsBelow limit new → to ≡ covered ++ new ∷ [] → IsParted places limit (take (i + 1) es) to rest
parted_covered places limit es covered rest to i x new lt is before r below push = record {
  says = λ row.
      let g = gathered places row in
      ap (λ l. min (all_rank l row) (all_rank rest row)) push
      ∙ ap (λ n. min n (all_rank rest row)) (all_rank-push covered new row) ∙ swap (all_rank covered row) (rank_of new row) (all_rank rest row)
      ∙ ap (λ n. min n (rank_of new row)) (before.says row) ∙ ap (λ n. min (all_rank (take i es) g) n) (rank_renamed places x new row r)
      ∙ sym (all_rank-push (take i es) x g) ∙ ap (λ l. all_rank l g) (sym (one_more es i x lt is));
  below = subst (λ l. All (ReadsBelow limit) l) (sym push) (All-append (ReadsBelow limit) covered (new ∷ []) before.below (All-cons (ReadsBelow limit) new [] below (All-nil (ReadsBelow limit))));
}
  where
    swap : (a b c : ℕ) → min (min a b) c ≡ min (min a c) b
    swap a b c = omega arith

pub parted_rest : (places : List ℕ) (limit : ℕ) (es covered rest to : List Expr) (i : ℕ) (x new : Expr) → i < length es → x ≡ get_or es i x
    → IsParted places limit (take i es) covered rest → IsRenamed places x new → to ≡ rest ++ new ∷ [] → IsParted places limit (take (i + 1) es) covered to
parted_rest places limit es covered rest to i x new lt is before r push = record {
  says = λ row.
      let g = gathered places row in
      ap (λ l. min (all_rank covered row) (all_rank l row)) push
      ∙ ap (λ n. min (all_rank covered row) n) (all_rank-push rest new row) ∙ assoc (all_rank covered row) (all_rank rest row) (rank_of new row)
      ∙ ap (λ n. min n (rank_of new row)) (before.says row) ∙ ap (λ n. min (all_rank (take i es) g) n) (rank_renamed places x new row r)
      ∙ sym (all_rank-push (take i es) x g) ∙ ap (λ l. all_rank l g) (sym (one_more es i x lt is));
  below = before.below;
}
  where
    assoc : (a b c : ℕ) → min a (min b c) ≡ min (min a b) c
    assoc a b c = omega arith

pub renamed_none : (places : List ℕ) → AreRenamed places [] []
unfolding values
renamed_none places = record { values = λ row. refl }

pub renamed_more : (places : List ℕ) (es all to : List Expr) (i : ℕ) (x new : Expr) → i < length es → x ≡ get_or es i x
    → AreRenamed places (take i es) all → IsRenamed places x new → to ≡ all ++ new ∷ [] → AreRenamed places (take (i + 1) es) to
unfolding values
renamed_more places es all to i x new lt is before r push = record {
  values = λ row.
      let g = gathered places row in
      ap (λ l. map (λ y. value y row) l) push ∙ map-append (λ y. value y row) all (new ∷ [])
      ∙ ap (λ l. l ++ value new row ∷ []) (before.values row) ∙ ap (λ v. map (λ y. value y g) (take i es) ++ v ∷ []) (r.value row)
      ∙ sym (map-append (λ y. value y g) (take i es) (x ∷ [])) ∙ ap (λ l. map (λ y. value y g) l) (sym (one_more es i x lt is));
}

pub parted_more : (places : List ℕ) (limit : ℕ) (es covered rest now then : List Expr) (i : ℕ) (x new : Expr) → i < length es → x ≡ get_or es i x
    → IsParted places limit (take i es) covered rest → IsRenamed places x new → PutPart limit new covered now rest then → IsParted places limit (take (i + 1) es) now then
parted_more places limit es covered rest now then i x new lt is before r put = elim put [
  | inl p ↦ subst (λ l. IsParted places limit (take (i + 1) es) now l) (sym p.2) (parted_covered places limit es covered rest now i x new lt is before r p.0 p.1)
  | inr p ↦ subst (λ l. IsParted places limit (take (i + 1) es) l then) (sym p.0) (parted_rest places limit es covered rest then i x new lt is before r p.1)
]

pub below_more : (limit : ℕ) (cs : List ℕ) (i : ℕ) → i < length cs → get_or cs i 0 < limit → All (λ c. c < limit) (take i cs) → All (λ c. c < limit) (take (i + 1) cs)
below_more limit cs i lt below all =
    subst (λ l. All (λ c. c < limit) l) (sym (take_more cs i 0 lt)) (All-append (λ c. c < limit) (take i cs) (get_or cs i 0 ∷ []) all (All-cons (λ c. c < limit) (get_or cs i 0) [] below (All-nil (λ c. c < limit))))

pub below_end : (limit : ℕ) (cs ds us : List ℕ) (i : ℕ) → length cs ≤ i → cs ≡ ds → ds ≡ us → All (λ c. c < limit) (take i cs) → All (λ c. c < limit) us
below_end limit cs ds us i le a b all = subst (λ l. All (λ c. c < limit) l) (take_all i cs le ∙ a ∙ b) all
