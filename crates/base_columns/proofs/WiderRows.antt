-- Lemmas on rows with more columns or fewer, and on the rows of batches together.
use Rattle.std.proofs.Common.{◌≡◌, ℕ, ◌+◌, ◌-◌, ◌<◌, ◌≤◌, suc, zero, List, [], ◌∷◌, ◌++◌, refl, sym, ap, ◌∙◌, subst, arith, length, get_or, map, take, drop}
use Rattle.std.specs.Prelude.{min}
use Rattle.std.specs.List.{All}
use Rattle.std.proofs.Math.Seq.{drop-cons}
use Rattle.std.proofs.lemmas.List.{map-append, drop-map, length-map, length-append, length-drop, get_or-map, take_more, take_all, same_lists}
use Rattle.base_row_laws.specs.Ranked.{Ranked, ranked, true_rank, Relation}
use Rattle.base_row_laws.specs.Rows.{strip}
use Rattle.base_value.specs.declared.truth.Standing.{Standing}
use Rattle.base_value.specs.declared.truth.Standing.TheVariants.{AtTrue}
use Rattle.base_value.specs.declared.value.Value.{Value}
use Rattle.base_value.specs.declared.value.Value.TheVariants.{Null}
use Rattle.base_value.specs.Truth.{standing_rank, lesser_standing}
use Rattle.base_columns.specs.Batches.{cells, rows_from, column_relation, AreLong, column_at, rows_beside, joined_rows, longer_rows, first_columns}
use Rattle.base_columns.specs.Standings.{lesser_standings}
use Rattle.base_columns.specs.Lists.{gathered, AreBelow}
use Rattle.base_columns.proofs.BatchRows.{relation-at, relation-length, relation_made, long_made, long_below}
use Rattle.base_columns.proofs.StandingLists.{standing_lesser, lesser-length}

-- the same rows with other columns
rows_replaced : (cs ds : List (List Value)) (k : ℕ) (ss : List Standing) → rows_from cs k ss ≡ rows_beside cs k (rows_from ds k ss)
unfolding rows_from
rows_replaced cs ds k [] = refl
rows_replaced cs ds k (s ∷ ss) = ap (λ rs. ranked (cells cs k) (standing_rank s) ∷ rs) (rows_replaced cs ds (suc k) ss)

pub relation-replaced : (cs ds : List (List Value)) (ss : List Standing) → (column_relation cs ss).rows ≡ rows_beside cs 0 (column_relation ds ss).rows
unfolding column_relation
relation-replaced cs ds ss = rows_replaced cs ds 0 ss

-- the same of a batch that is known by an equation
pub replaced_made : (old : Relation Value) (cs ds : List (List Value)) (ss new : List Standing) → old ≡ column_relation cs ss → AreLong (length old.rows) ds → new ≡ ss
    → AreLong (length new) ds × ((column_relation ds new).width ≡ length ds)
unfolding column_relation
replaced_made old cs ds ss new o a e =
    let n : length old.rows ≡ length new = ap (λ r. length r.rows) o ∙ relation-length cs ss ∙ sym (ap length e) in (subst (λ k. AreLong k ds) n a, refl)

-- columns side by side
rows_joined : (cs ds : List (List Value)) (k : ℕ) (ss ts : List Standing) → length ss ≡ length ts
    → rows_from (cs ++ ds) k (lesser_standings ss ts) ≡ joined_rows (rows_from cs k ss) (rows_from ds k ts)
unfolding rows_from
rows_joined cs ds k [] ts e = refl
rows_joined cs ds k (s ∷ ss) [] e = absurd (omega (arith, e))
rows_joined cs ds k (s ∷ ss) (t ∷ ts) e =
    ap (λ vs. ranked vs (standing_rank (lesser_standing s t)) ∷ rows_from (cs ++ ds) (suc k) (lesser_standings ss ts)) (map-append (λ (c : List Value). get_or c k Null) cs ds)
    ∙ ap (λ n. ranked (cells cs k ++ cells ds k) n ∷ rows_from (cs ++ ds) (suc k) (lesser_standings ss ts)) (standing_lesser s t)
    ∙ ap (λ rs. ranked (cells cs k ++ cells ds k) (min (standing_rank s) (standing_rank t)) ∷ rs) (rows_joined cs ds (suc k) ss ts (omega (arith, e)))

pub relation-joined : (cs ds : List (List Value)) (ss ts : List Standing) → length ss ≡ length ts
    → (column_relation (cs ++ ds) (lesser_standings ss ts)).rows ≡ joined_rows (column_relation cs ss).rows (column_relation ds ts).rows
unfolding column_relation
relation-joined cs ds ss ts e = rows_joined cs ds 0 ss ts e

pub long_joined : (n : ℕ) (cs ds : List (List Value)) → AreLong n cs → AreLong n ds → AreLong n (cs ++ ds)
unfolding AreLong
long_joined n [] ds a b = b
long_joined n (c ∷ cs) ds a b = (a.0, long_joined n cs ds a.1 b)

pub joined_long : (left right : Relation Value) (cs ds : List (List Value)) (ss ts : List Standing) → left ≡ column_relation cs ss → right ≡ column_relation ds ts
    → length left.rows ≡ length right.rows → length ss ≡ length ts
joined_long left right cs ds ss ts l r e = sym (relation-length cs ss) ∙ sym (ap (λ x. length x.rows) l) ∙ e ∙ ap (λ x. length x.rows) r ∙ relation-length ds ts

-- the same of batches that are known by equations
pub joined_made : (left right : Relation Value) (cs ds all : List (List Value)) (ss ts both : List Standing) → left ≡ column_relation cs ss → right ≡ column_relation ds ts
    → length left.rows ≡ length right.rows → AreLong (length ss) cs → AreLong (length ts) ds → all ≡ cs ++ ds → both ≡ lesser_standings ss ts
    → AreLong (length both) all × ((column_relation all both).width ≡ left.width + right.width) × ((column_relation all both).rows ≡ joined_rows left.rows right.rows)
unfolding column_relation
joined_made left right cs ds all ss ts both l r e a b f g =
    let n : length ss ≡ length ts = sym (relation-length cs ss) ∙ sym (ap (λ x. length x.rows) l) ∙ e ∙ ap (λ x. length x.rows) r ∙ relation-length ds ts in
    let m : length both ≡ length ss = ap length g ∙ lesser-length ss ts n in (
      subst (λ k. AreLong k all) (sym m) (subst (AreLong (length ss)) (sym f) (long_joined (length ss) cs ds a (subst (λ k. AreLong k ds) (sym n) b))),
      ap length f ∙ length-append cs ds ∙ ap (λ k. k + length ds) (sym (ap (λ x. x.width) l)) ∙ ap (λ k. left.width + k) (sym (ap (λ x. x.width) r)),
      ap (λ x. (column_relation x both).rows) f ∙ ap (λ x. (column_relation (cs ++ ds) x).rows) g ∙ relation-joined cs ds ss ts n
          ∙ ap (λ x. joined_rows x.rows (column_relation ds ts).rows) (sym l) ∙ ap (λ x. joined_rows left.rows x.rows) (sym r),
    )

-- one column more
rows_longer : (cs : List (List Value)) (c : List Value) (k : ℕ) (ss : List Standing) → length c ≡ k + length ss
    → rows_from (cs ++ c ∷ []) k ss ≡ longer_rows (rows_from cs k ss) (drop k c)
unfolding rows_from
rows_longer cs c k [] e = refl
rows_longer cs c k (s ∷ ss) e =
    let d : drop k c ≡ get_or c k Null ∷ drop (suc k) c = drop-cons c k Null (omega (arith, e)) in
    ap (λ vs. ranked vs (standing_rank s) ∷ rows_from (cs ++ c ∷ []) (suc k) ss) (map-append (λ (b : List Value). get_or b k Null) cs (c ∷ []))
    ∙ ap (λ rs. ranked (cells cs k ++ get_or c k Null ∷ []) (standing_rank s) ∷ rs) (rows_longer cs c (suc k) ss (omega (arith, e)))
    ∙ ap (λ vs. longer_rows (ranked (cells cs k) (standing_rank s) ∷ rows_from cs (suc k) ss) vs) (sym d)

pub longer_made : (old : Relation Value) (cs all : List (List Value)) (c : List Value) (ss : List Standing) → old ≡ column_relation cs ss → length c ≡ length old.rows
    → AreLong (length ss) cs → all ≡ cs ++ c ∷ []
    → AreLong (length ss) all × ((column_relation all ss).width ≡ old.width + 1) × ((column_relation all ss).rows ≡ longer_rows old.rows c)
unfolding column_relation AreLong
longer_made old cs all c ss o e a f =
    let n : length c ≡ length ss = e ∙ ap (λ x. length x.rows) o ∙ relation-length cs ss in
    let z : length ss ≡ 0 + length ss = omega arith in (
      subst (AreLong (length ss)) (sym f) (long_joined (length ss) cs (c ∷ []) a (n, tt)),
      ap length f ∙ length-append cs (c ∷ []) ∙ ap (λ k. k + 1) (sym (ap (λ x. x.width) o)),
      ap (λ x. (column_relation x ss).rows) f ∙ rows_longer cs c 0 ss (n ∙ z) ∙ ap (λ x. longer_rows x.rows c) (sym o),
    )

-- fewer columns
rows_shorter : (n : ℕ) (cs : List (List Value)) (k : ℕ) (ss : List Standing) → rows_from (drop n cs) k ss ≡ map (strip n) (rows_from cs k ss)
unfolding rows_from
rows_shorter n cs k [] = refl
rows_shorter n cs k (s ∷ ss) =
    ap (λ vs. ranked vs (standing_rank s) ∷ rows_from (drop n cs) (suc k) ss) (sym (drop-map (λ (c : List Value). get_or c k Null) n cs))
    ∙ ap (λ rs. ranked (drop n (cells cs k)) (standing_rank s) ∷ rs) (rows_shorter n cs (suc k) ss)

long_dropped : (m n : ℕ) (cs : List (List Value)) → AreLong m cs → AreLong m (drop n cs)
unfolding AreLong
long_dropped m zero cs a = a
long_dropped m (suc n) [] a = tt
long_dropped m (suc n) (c ∷ cs) a = long_dropped m n cs a.1

pub shorter_made : (old : Relation Value) (n : ℕ) (cs fewer : List (List Value)) (ss : List Standing) → old ≡ column_relation cs ss → AreLong (length ss) cs → fewer ≡ drop n cs
    → AreLong (length ss) fewer × ((column_relation fewer ss).width ≡ old.width - n) × ((column_relation fewer ss).rows ≡ map (strip n) old.rows)
unfolding column_relation
shorter_made old n cs fewer ss o a f = (
  subst (AreLong (length ss)) (sym f) (long_dropped (length ss) n cs a),
  ap length f ∙ length-drop n cs ∙ ap (λ k. k - n) (sym (ap (λ x. x.width) o)),
  ap (λ x. (column_relation x ss).rows) f ∙ rows_shorter n cs 0 ss ∙ ap (λ x. map (strip n) x.rows) (sym o),
)

pub dropped_whole : {A : Type 0} (n : ℕ) (xs : List A) → take (length xs - n) (drop n xs) ≡ drop n xs
dropped_whole n xs = take_all (length xs - n) (drop n xs) (omega (arith, length-drop n xs))

pub dropped_below : (old : Relation Value) (n : ℕ) (cs : List (List Value)) (ss : List Standing) (places : List ℕ) → old ≡ column_relation cs ss → AreLong (length ss) cs
    → AreBelow (length old.rows) places → All (λ c. AreBelow (length c) places) (take (length cs - n) (drop n cs))
dropped_below old n cs ss places o a h =
    let l : length old.rows ≡ length ss = ap (λ r. length r.rows) o ∙ relation-length cs ss in
    subst (All (λ c. AreBelow (length c) places)) (sym (dropped_whole n cs))
    (long_below (length ss) (drop n cs) places (long_dropped (length ss) n cs a) (subst (λ k. AreBelow k places) l h))

-- the same of columns that are taken by places
pub taken_made : (old : Relation Value) (n : ℕ) (cs new : List (List Value)) (ss picked : List Standing) (places : List ℕ) → old ≡ column_relation cs ss → AreBelow (length old.rows) places
    → new ≡ map (λ c. gathered Null c places) (drop n cs) → picked ≡ gathered AtTrue ss places
    → AreLong (length picked) new × ((column_relation new picked).width ≡ old.width - n) × ((column_relation new picked).rows ≡ map (strip n) (gathered (ranked [] true_rank) old.rows places))
taken_made old n cs new ss picked places o h e f =
    let all = map (λ (c : List Value). gathered Null c places) cs in
    let m = relation_made old cs all ss picked places o h refl f in
    let a : AreLong (length picked) all = long_made cs all ss picked places refl f in
    let d : new ≡ drop n all = e ∙ sym (drop-map (λ (c : List Value). gathered Null c places) n cs) in
    let s = shorter_made (column_relation all picked) n all new picked refl a d in
    (s.0, s.1 ∙ ap (λ k. k - n) m.0, s.2 ∙ ap (map (strip n)) m.1)

-- the standings of a batch's rows, as ranks
rows_ranks : (cs : List (List Value)) (k : ℕ) (ss : List Standing) → map standing_rank ss ≡ map (λ (r : Ranked Value). r.standing) (rows_from cs k ss)
unfolding rows_from
rows_ranks cs k [] = refl
rows_ranks cs k (s ∷ ss) = ap (λ ns. standing_rank s ∷ ns) (rows_ranks cs (suc k) ss)

pub relation-ranks : (cs : List (List Value)) (ss : List Standing) → map standing_rank ss ≡ map (λ (r : Ranked Value). r.standing) (column_relation cs ss).rows
unfolding column_relation
relation-ranks cs ss = rows_ranks cs 0 ss

-- rows from their columns and standings
pub first-length : (rows : List (Ranked Value)) (n : ℕ) → length (first_columns rows n) ≡ n
first-length rows zero = refl
first-length rows (suc n) = length-append (first_columns rows n) (column_at rows n ∷ []) ∙ ap (λ k. k + 1) (first-length rows n) ∙ (omega arith)

pub first-more : (rows : List (Ranked Value)) (n : ℕ) → first_columns rows (n + 1) ≡ first_columns rows n ++ column_at rows n ∷ []
first-more rows n = let e : n + 1 ≡ suc n = omega arith in ap (first_columns rows) e

long_first : (rows : List (Ranked Value)) (n m : ℕ) → m ≡ length rows → AreLong m (first_columns rows n)
unfolding AreLong
long_first rows zero m e = tt
long_first rows (suc n) m e = long_joined m (first_columns rows n) (column_at rows n ∷ []) (long_first rows n m e) (length-map rows (λ (r : Ranked Value). get_or r.values n Null) ∙ sym e, tt)

cells_first : (rows : List (Ranked Value)) (n i : ℕ) (d : Ranked Value) → i < length rows → n ≤ length (get_or rows i d).values → cells (first_columns rows n) i ≡ take n (get_or rows i d).values
cells_first rows zero i d h l = refl
cells_first rows (suc n) i d h l =
    let e : suc n ≡ n + 1 = omega arith in
    let vs = (get_or rows i d).values in
    map-append (λ (c : List Value). get_or c i Null) (first_columns rows n) (column_at rows n ∷ [])
    ∙ ap (λ xs. xs ++ get_or (column_at rows n) i Null ∷ []) (cells_first rows n i d h (omega (arith, l)))
    ∙ ap (λ x. take n vs ++ x ∷ []) (get_or-map (λ (r : Ranked Value). get_or r.values n Null) rows i d Null h)
    ∙ sym (take_more vs n Null (omega (arith, l))) ∙ ap (λ k. take k vs) (sym e)

pub whole_made : (rows : List (Ranked Value)) (n : ℕ) (cs : List (List Value)) (ss : List Standing) → All (λ r. length r.values ≡ n) rows → cs ≡ first_columns rows n
    → map standing_rank ss ≡ map (λ (r : Ranked Value). r.standing) rows
    → AreLong (length ss) cs × ((column_relation cs ss).width ≡ n) × ((column_relation cs ss).rows ≡ rows)
unfolding column_relation
whole_made rows n cs ss w f s =
    let l : length ss ≡ length rows = sym (length-map ss standing_rank) ∙ ap length s ∙ length-map rows (λ (r : Ranked Value). r.standing) in (
      subst (AreLong (length ss)) (sym f) (long_first rows n (length ss) l),
      ap length f ∙ first-length rows n,
      ap (λ x. (column_relation x ss).rows) f
          ∙ same_lists (column_relation (first_columns rows n) ss).rows rows (relation-length (first_columns rows n) ss ∙ l)
          (λ i d h.
          let o : i < length ss = omega (arith, relation-length (first_columns rows n) ss, h) in
          let p : i < length rows = omega (arith, l, o) in
          let r = get_or rows i d in
          let e : length r.values ≡ n = w i d p in
          relation-at (first_columns rows n) ss i AtTrue d o
          ∙ ap (λ vs. ranked vs (standing_rank (get_or ss i AtTrue))) (cells_first rows n i d p (omega (arith, e)) ∙ take_all n r.values (omega (arith, e)))
          ∙ ap (λ k. ranked r.values k) (sym (get_or-map standing_rank ss i AtTrue 0 o) ∙ ap (λ ns. get_or ns i 0) s ∙ get_or-map (λ (x : Ranked Value). x.standing) rows i d 0 p)),
    )

pub ruleset wider = (relation-replaced, relation-ranks, first-more, first-length)
