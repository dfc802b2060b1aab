-- Lemmas on rows that lie in columns.
use Rattle.std.proofs.Common.{◌≡◌, ℕ, ◌+◌, ◌<◌, suc, zero, List, [], ◌∷◌, ◌++◌, refl, sym, ap, ◌∙◌, subst, arith, length, get_or, map, take}
use Rattle.std.specs.List.{All}
use Rattle.std.proofs.Math.Seq.{take-append_seam}
use Rattle.std.proofs.lemmas.List.{get_or_append_left, get_or_push, length_push, nil_from_length, get_or-map, same_lists, get_or_default, length-map}
use Rattle.base_row_laws.specs.Ranked.{Ranked, ranked, true_rank, Relation}
use Rattle.base_value.specs.declared.truth.Standing.{Standing}
use Rattle.base_value.specs.declared.truth.Standing.TheVariants.{AtTrue}
use Rattle.base_value.specs.declared.value.Value.{Value}
use Rattle.base_value.specs.declared.value.Value.TheVariants.{Null}
use Rattle.base_value.specs.Truth.{standing_rank}
use Rattle.base_columns.specs.Lists.{gathered, AreBelow}
use Rattle.base_columns.specs.Batches.{cells, rows_from, column_relation, put_row, AreLong, row_at, column_at, projected}

pub length-rows_from : (cs : List (List Value)) (k : ℕ) (ss : List Standing) → length (rows_from cs k ss) ≡ length ss
unfolding rows_from
length-rows_from cs k [] = refl
length-rows_from cs k (s ∷ ss) = ap suc (length-rows_from cs (suc k) ss)

pub get_or-rows_from : (cs : List (List Value)) (k : ℕ) (ss : List Standing) (i : ℕ) (d : Standing) (r : Ranked Value) → i < length ss
    → get_or (rows_from cs k ss) i r ≡ ranked (cells cs (k + i)) (standing_rank (get_or ss i d))
unfolding rows_from
get_or-rows_from cs k [] i d r h = absurd (omega (arith, h))
get_or-rows_from cs k (s ∷ ss) zero d r h = let e : k ≡ k + 0 = omega arith in ap (λ n. ranked (cells cs n) (standing_rank s)) e
get_or-rows_from cs k (s ∷ ss) (suc i) d r h =
    let e : suc k + i ≡ k + suc i = omega arith in
    get_or-rows_from cs (suc k) ss i d r (omega arith) ∙ ap (λ n. ranked (cells cs n) (standing_rank (get_or ss i d))) e

-- a place below the new values
cells_below : (n : ℕ) (cs : List (List Value)) (vs : List Value) (i : ℕ) → AreLong n cs → i < n → cells (put_row cs vs) i ≡ cells cs i
unfolding AreLong put_row
cells_below n [] vs i a h = refl
cells_below n (c ∷ cs) [] i a h = refl
cells_below n (c ∷ cs) (v ∷ vs) i a h =
    let l : length c ≡ n = a.0 in rw (get_or_append_left c (v ∷ []) Null i (omega (arith, l, h)), cells_below n cs vs i a.1 h)

-- the place of the new values
cells_at : (n : ℕ) (cs : List (List Value)) (vs : List Value) → AreLong n cs → length vs ≡ length cs → cells (put_row cs vs) n ≡ vs
unfolding AreLong put_row
cells_at n [] vs a e = sym (nil_from_length vs e)
cells_at n (c ∷ cs) [] a e = absurd (omega (arith, e))
cells_at n (c ∷ cs) (v ∷ vs) a e = rw (get_or_push c v Null n a.0, cells_at n cs vs a.1 (omega (arith, e)))

rows_push : (n : ℕ) (cs : List (List Value)) (vs : List Value) (k : ℕ) (ss : List Standing) (s : Standing) → AreLong n cs → k + length ss ≡ n → length vs ≡ length cs
    → rows_from (put_row cs vs) k (ss ++ s ∷ []) ≡ rows_from cs k ss ++ ranked vs (standing_rank s) ∷ []
unfolding rows_from
rows_push n cs vs k [] s a e l = let m : k ≡ n = omega (arith, e) in rw (m, cells_at n cs vs a l)
rows_push n cs vs k (t ∷ ss) s a e l =
    rw (cells_below n cs vs k a (omega (arith, e)), rows_push n cs vs (suc k) ss s a (omega (arith, e)) l)

pub length-put_row : (cs : List (List Value)) (vs : List Value) → length (put_row cs vs) ≡ length cs
unfolding AreLong put_row
length-put_row [] vs = refl
length-put_row (c ∷ cs) [] = refl
length-put_row (c ∷ cs) (v ∷ vs) = ap suc (length-put_row cs vs)

pub long_push : (n : ℕ) (cs : List (List Value)) (vs : List Value) → AreLong n cs → length vs ≡ length cs → AreLong (n + 1) (put_row cs vs)
unfolding AreLong put_row
long_push n [] vs a e = tt
long_push n (c ∷ cs) [] a e = absurd (omega (arith, e))
long_push n (c ∷ cs) (v ∷ vs) a e = (length_push c v ∙ ap (λ m. m + 1) a.0, long_push n cs vs a.1 (omega (arith, e)))

pub long_to : (n m : ℕ) (cs : List (List Value)) (vs : List Value) → AreLong n cs → length vs ≡ length cs → m ≡ n + 1 → AreLong m (put_row cs vs)
long_to n m cs vs a e f = subst (λ k. AreLong k (put_row cs vs)) (sym f) (long_push n cs vs a e)

-- columns of no values
pub long_nil : (cs : List (List Value)) → All (λ c. c ≡ []) cs → AreLong 0 cs
unfolding AreLong
long_nil [] h = tt
long_nil (c ∷ cs) h = (ap length (h 0 c (omega arith)), long_nil cs (λ k d l. h (suc k) d (omega (arith, l))))

pub relation-nil : (cs : List (List Value)) → (column_relation cs []).rows ≡ []
unfolding column_relation rows_from
relation-nil cs = refl

pub relation-width : (cs : List (List Value)) (ss : List Standing) → (column_relation cs ss).width ≡ length cs
unfolding column_relation
relation-width cs ss = refl

pub relation-length : (cs : List (List Value)) (ss : List Standing) → length (column_relation cs ss).rows ≡ length ss
unfolding column_relation
relation-length cs ss = length-rows_from cs 0 ss

pub relation-push : (cs : List (List Value)) (vs : List Value) (ss : List Standing) (s : Standing) → AreLong (length ss) cs → length vs ≡ length cs
    → (column_relation (put_row cs vs) (ss ++ s ∷ [])).rows ≡ (column_relation cs ss).rows ++ ranked vs (standing_rank s) ∷ []
unfolding column_relation
relation-push cs vs ss s a e = rows_push (length ss) cs vs 0 ss s a (omega arith) e

pub relation-at : (cs : List (List Value)) (ss : List Standing) (i : ℕ) (d : Standing) (r : Ranked Value) → i < length ss
    → get_or (column_relation cs ss).rows i r ≡ ranked (cells cs i) (standing_rank (get_or ss i d))
unfolding column_relation
relation-at cs ss i d r h =
    let e : 0 + i ≡ i = omega arith in get_or-rows_from cs 0 ss i d r h ∙ ap (λ n. ranked (cells cs n) (standing_rank (get_or ss i d))) e

pub relation-values : (cs : List (List Value)) (ss : List Standing) (i : ℕ) → i < length ss → (row_at (column_relation cs ss).rows i).values ≡ cells cs i
relation-values cs ss i h = ap (λ r. r.values) (relation-at cs ss i AtTrue (ranked [] true_rank) h)

pub relation-standing : (cs : List (List Value)) (ss : List Standing) (i : ℕ) (d : Standing) → i < length ss
    → (row_at (column_relation cs ss).rows i).standing ≡ standing_rank (get_or ss i d)
relation-standing cs ss i d h = ap (λ r. r.standing) (relation-at cs ss i d (ranked [] true_rank) h)

-- the column at a place
pub long_at : (n : ℕ) (cs : List (List Value)) (j : ℕ) (c : List Value) → AreLong n cs → j < length cs → length (get_or cs j c) ≡ n
unfolding AreLong
long_at n [] j c a h = absurd (omega (arith, h))
long_at n (b ∷ cs) zero c a h = a.0
long_at n (b ∷ cs) (suc j) c a h = long_at n cs j c a.1 (omega (arith, h))

pub long_read : (n : ℕ) (cs : List (List Value)) (j : ℕ) (c : List Value) → AreLong n cs → j < length cs → c ≡ get_or cs j c → length c ≡ n
long_read n cs j c a h e = ap length e ∙ long_at n cs j c a h

pub cell_at : (cs : List (List Value)) (i j : ℕ) (c : List Value) → j < length cs → c ≡ get_or cs j c → get_or (cells cs i) j Null ≡ get_or c i Null
cell_at cs i j c h e = get_or-map (λ b. get_or b i Null) cs j c Null h ∙ ap (λ b. get_or b i Null) (sym e)

-- each column holds each place of the rows
pub long_below : (n : ℕ) (cs : List (List Value)) (places : List ℕ) → AreLong n cs → AreBelow n places → All (λ c. AreBelow (length c) places) cs
long_below n cs places a h j d l k e m = subst (λ b. get_or places k e < b) (sym (long_at n cs j d a l)) (h k e m)

pub long_holds : (n : ℕ) (cs : List (List Value)) (i : ℕ) → AreLong n cs → i < n → All (λ c. i < length c) cs
long_holds n cs i a h j d l = subst (λ b. i < b) (sym (long_at n cs j d a l)) h

-- a column's values are those that the rows have there
pub relation-column : (cs : List (List Value)) (ss : List Standing) (j : ℕ) (c : List Value) → AreLong (length ss) cs → j < length cs → c ≡ get_or cs j c
    → c ≡ column_at (column_relation cs ss).rows j
relation-column cs ss j c a h e =
    let rows = (column_relation cs ss).rows in
    let l : length c ≡ length ss = long_read (length ss) cs j c a h e in
    let m : length rows ≡ length ss = relation-length cs ss in
    same_lists c (column_at rows j) (l ∙ sym m ∙ sym (length-map rows (λ r. get_or r.values j Null)))
    (λ k d i. let o : k < length ss = omega (arith, l, i) in
    get_or_default c k d Null i
    ∙ sym (cell_at cs k j c h e)
    ∙ ap (λ r. get_or r.values j Null) (sym (relation-at cs ss k AtTrue (ranked [] true_rank) o))
    ∙ sym (get_or-map (λ r. get_or r.values j Null) rows k (ranked [] true_rank) d (omega (arith, m, o))))

-- the columns at these places, and their rows
pub cells_gathered : (cs : List (List Value)) (places : List ℕ) (k : ℕ) → k < length places
    → cells (map (λ c. gathered Null c places) cs) k ≡ cells cs (get_or places k 0)
cells_gathered [] places k h = refl
cells_gathered (c ∷ cs) places k h =
    rw (get_or-map (λ i. get_or c i Null) places k 0 Null h, cells_gathered cs places k h) refl

pub long_gathered : (cs : List (List Value)) (places : List ℕ) (n : ℕ) → n ≡ length places → AreLong n (map (λ c. gathered Null c places) cs)
unfolding AreLong
long_gathered [] places n e = tt
long_gathered (c ∷ cs) places n e = (length-map places (λ i. get_or c i Null) ∙ sym e, long_gathered cs places n e)

pub relation-gathered : (cs : List (List Value)) (ss : List Standing) (places : List ℕ) → AreBelow (length ss) places
    → (column_relation (map (λ c. gathered Null c places) cs) (gathered AtTrue ss places)).rows
    ≡ gathered (ranked [] true_rank) (column_relation cs ss).rows places
relation-gathered cs ss places h =
    let d0 = ranked [] true_rank in
    let new = map (λ c. gathered Null c places) cs in
    let picked = gathered AtTrue ss places in
    let lp : length picked ≡ length places = length-map places (λ i. get_or ss i AtTrue) in
    let left = (column_relation new picked).rows in
    let ll : length left ≡ length picked = relation-length new picked in
    let rows = (column_relation cs ss).rows in
    same_lists left (gathered d0 rows places) (ll ∙ lp ∙ sym (length-map places (λ i. get_or rows i d0)))
    (λ k d i. let o : k < length picked = omega (arith, ll, i) in
    let p : k < length places = omega (arith, lp, o) in
    relation-at new picked k AtTrue d o
    ∙ ap (λ vs. ranked vs (standing_rank (get_or picked k AtTrue))) (cells_gathered cs places k p)
    ∙ ap (λ s. ranked (cells cs (get_or places k 0)) (standing_rank s)) (get_or-map (λ i. get_or ss i AtTrue) places k 0 AtTrue p)
    ∙ sym (relation-at cs ss (get_or places k 0) AtTrue d0 (h k 0 p))
    ∙ sym (get_or-map (λ i. get_or rows i d0) places k 0 d p))

-- the same of lists that are known by equations
pub long_made : (cs new : List (List Value)) (ss picked : List Standing) (places : List ℕ) → new ≡ map (λ c. gathered Null c places) cs → picked ≡ gathered AtTrue ss places
    → AreLong (length picked) new
long_made cs new ss picked places e f =
    subst (AreLong (length picked)) (sym e) (long_gathered cs places (length picked) (ap length f ∙ length-map places (λ i. get_or ss i AtTrue)))

pub relation_made : (old : Relation Value) (cs new : List (List Value)) (ss picked : List Standing) (places : List ℕ) → old ≡ column_relation cs ss
    → AreBelow (length old.rows) places
    → new ≡ map (λ c. gathered Null c places) cs → picked ≡ gathered AtTrue ss places
    → ((column_relation new picked).width ≡ old.width) × ((column_relation new picked).rows ≡ gathered (ranked [] true_rank) old.rows places)
relation_made old cs new ss picked places o h e f =
    let l : length old.rows ≡ length ss = ap (λ r. length r.rows) o ∙ relation-length cs ss in
    let b : AreBelow (length ss) places = subst (λ n. AreBelow n places) l h in
    let w : (column_relation new picked).width ≡ old.width =
    relation-width new picked ∙ ap length e ∙ length-map cs (λ c. gathered Null c places) ∙ sym (relation-width cs ss) ∙ sym (ap (λ r. r.width) o) in
    let n : column_relation new picked ≡ column_relation (map (λ c. gathered Null c places) cs) (gathered AtTrue ss places) =
    ap (λ x. column_relation x picked) e ∙ ap (column_relation (map (λ c. gathered Null c places) cs)) f in
    (w, ap (λ r. r.rows) n ∙ relation-gathered cs ss places b ∙ sym (ap (λ r. gathered (ranked [] true_rank) r.rows places) o))

-- each row has a value of each column
wide_from : (cs : List (List Value)) (k : ℕ) (ss : List Standing) → All (λ r. length r.values ≡ length cs) (rows_from cs k ss)
unfolding rows_from
wide_from cs k [] j d h = absurd (omega (arith, h))
wide_from cs k (s ∷ ss) zero d h = length-map cs (λ c. get_or c k Null)
wide_from cs k (s ∷ ss) (suc j) d h = wide_from cs (suc k) ss j d (omega (arith, h))

pub relation-wide : (cs : List (List Value)) (ss : List Standing) → All (λ r. length r.values ≡ (column_relation cs ss).width) (column_relation cs ss).rows
unfolding column_relation
relation-wide cs ss = wide_from cs 0 ss

-- some of the columns
cells_picked : (cs : List (List Value)) (places : List ℕ) (i : ℕ) → AreBelow (length cs) places → cells (gathered [] cs places) i ≡ gathered Null (cells cs i) places
cells_picked cs [] i h = refl
cells_picked cs (j ∷ places) i h =
    rw (cells_picked cs places i (λ k d l. h (suc k) d (omega (arith, l))), get_or-map (λ c. get_or c i Null) cs j [] Null (h 0 0 (omega arith))) refl

rows_picked : (cs : List (List Value)) (places : List ℕ) (k : ℕ) (ss : List Standing) → AreBelow (length cs) places
    → rows_from (gathered [] cs places) k ss ≡ map (projected places) (rows_from cs k ss)
unfolding rows_from
rows_picked cs places k [] h = refl
rows_picked cs places k (s ∷ ss) h = rw (cells_picked cs places k h, rows_picked cs places (suc k) ss h) refl

long_picked : (n : ℕ) (cs : List (List Value)) (places : List ℕ) → AreLong n cs → AreBelow (length cs) places → AreLong n (gathered [] cs places)
unfolding AreLong
long_picked n cs [] a h = tt
long_picked n cs (j ∷ places) a h = (long_at n cs j [] a (h 0 0 (omega arith)), long_picked n cs places a (λ k d l. h (suc k) d (omega (arith, l))))

pub picked_long : (old : Relation Value) (cs new : List (List Value)) (ss more : List Standing) (places : List ℕ) → old ≡ column_relation cs ss → AreLong (length ss) cs
    → AreBelow old.width places → new ≡ gathered [] cs places → more ≡ ss → AreLong (length more) new
picked_long old cs new ss more places o a h e f =
    let b : AreBelow (length cs) places = subst (λ n. AreBelow n places) (ap (λ r. r.width) o ∙ relation-width cs ss) h in
    rw (e, f) (long_picked (length ss) cs places a b)

pub projected_made : (old : Relation Value) (cs new : List (List Value)) (ss more : List Standing) (places : List ℕ) → old ≡ column_relation cs ss
    → AreBelow old.width places → new ≡ gathered [] cs places → more ≡ ss
    → ((column_relation new more).width ≡ length places) × ((column_relation new more).rows ≡ map (projected places) old.rows)
unfolding column_relation
projected_made old cs new ss more places o h e f =
    let b : AreBelow (length cs) places = subst (λ n. AreBelow n places) (ap (λ r. r.width) o) h in (
      ap length e ∙ length-map places (λ j. get_or cs j []),
      ap (λ x. rows_from x 0 more) e ∙ ap (λ x. rows_from (gathered [] cs places) 0 x) f ∙ rows_picked cs places 0 ss b ∙ ap (λ r. map (projected places) r.rows) (sym o),
    )

-- the same of lists that are known by equations
pub long_pushed : (cs new : List (List Value)) (vs : List Value) (ss more : List Standing) (s : Standing) → AreLong (length ss) cs → length vs ≡ length cs
    → new ≡ put_row cs vs → more ≡ ss ++ s ∷ [] → AreLong (length more) new
long_pushed cs new vs ss more s a e f g = rw (f, g) (long_to (length ss) (length (ss ++ s ∷ [])) cs vs a e (length_push ss s))

pub relation_pushed : (old : Relation Value) (cs new : List (List Value)) (vs : List Value) (ss more : List Standing) (s : Standing) → old ≡ column_relation cs ss → AreLong (length ss) cs
    → length vs ≡ old.width → new ≡ put_row cs vs → more ≡ ss ++ s ∷ []
    → (column_relation new more).rows ≡ old.rows ++ ranked vs (standing_rank s) ∷ []
relation_pushed old cs new vs ss more s o a e f g =
    rw (f, g) (relation-push cs vs ss s a (e ∙ ap (λ r. r.width) o ∙ relation-width cs ss)) ∙ ap (λ r. r.rows ++ ranked vs (standing_rank s) ∷ []) (sym o)

-- the standings before the last one
pub without_last : (ss : List Standing) (s : Standing) (n : ℕ) → n ≡ length ss → take n (ss ++ s ∷ []) ≡ ss
without_last ss s n e = rw e (take-append_seam ss (s ∷ []))

pub cleared : (cs : List (List Value)) (ss : List Standing) → All (λ c. c ≡ []) cs → AreLong (length (take 0 ss)) cs
cleared cs ss h = long_nil cs h

pub ruleset batches = (relation-wide, long_pushed, relation_pushed, without_last, cleared, length-put_row, long_to, long_nil, relation-nil, relation-width, relation-length, relation-push, relation-values, relation-standing, long_read, cell_at, long_below, long_holds, relation-column, long_gathered, relation-gathered)
