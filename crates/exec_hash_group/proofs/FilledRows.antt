-- The rows of a domain with their groups, by places.
use Rattle.std.proofs.Common.{◌≡◌, ℕ, ℤ, zero, suc, ◌+◌, ◌-◌, ◌<◌, ◌≤◌, List, [], ◌∷◌, ◌++◌, Bool, true, false, map, length, get_or, take, replicate, refl, sym, ◌∙◌, ap, subst, arith, inl, inr, append_assoc}
use Rattle.std.specs.Prelude.{◌&&◌, ◌⊎◌}
use Rattle.std.specs.List.{All, filter, flat_map, range_with_len}
use Rattle.std.proofs.lemmas.Bool.{cases_Bool, cases_lt}
use Rattle.std.proofs.lemmas.List.{length-map, get_or-map, get_or_default, same_lists, length-append, map-append, append-nil, get_or_append_left, get_or-append-add, length-replicate, get_or-replicate, take-map, length-take-le}
use Rattle.std.proofs.lemmas.List.FromFn.{length-range_with_len}
use Rattle.base_row_laws.specs.Ranked.{Ranked, Relation, ranked, true_rank}
use Rattle.base_row_laws.specs.Rows.{same_row, starts, columns}
use Rattle.base_row_laws.specs.Operators.{partners, or_else, fill}
use Rattle.base_row_laws.specs.Places.{places_where, places_where_from}
use Rattle.base_key_tables.specs.Keys.{same_two}
use Rattle.base_value.specs.declared.truth.Standing.{Standing}
use Rattle.base_value.specs.declared.truth.Standing.TheVariants.{AtTrue}
use Rattle.base_value.specs.declared.value.Value.{Value}
use Rattle.base_value.specs.declared.value.Value.TheVariants.{Null}
use Rattle.base_value.specs.Truth.{standing_rank}
use Rattle.base_value.specs.Value.{same_value}
use Rattle.base_columns.specs.Lists.{gathered, AreBelow}
use Rattle.base_columns.specs.Batches.{cells, AreLong, column_relation, row_at}
use Rattle.base_columns.proofs.BatchRows.{relation-at, relation-length, relation-width}
use Rattle.exec_row_keys.specs.Keys.{AreKeysOfTwo, end_to_end}
use Rattle.exec_row_keys.proofs.KeyLists.{cells_left, cells_right, ends_long, long_take}
use Rattle.exec_hash_group.specs.Filled.{or_place, places_from, filled_row, AreFilled, AreColumns}
use Rattle.exec_hash_group.specs.Keys.{key_columns}
use Rattle.exec_hash_group.specs.Standings.{ranks, row_ranks}
use Rattle.exec_hash_group.proofs.KeyCells.{cells_of_keys, long_keys}
use Rattle.exec_hash_group.proofs.Ranks.{all_keys}

-- one left key more
pub places_more : (own : ℕ) (left right : List (ℤ × ℤ)) (i : ℕ) (key : ℤ × ℤ) → i < length left → key ≡ get_or left i key
    → places_from own (take (i + 1) left) right ≡ places_from own (take i left) right ++ or_place (places_where (same_two key) right) (own + i)
unfolding places_from
places_more own [] right i key l e = absurd (omega (arith, l))
places_more own (k ∷ left) right zero key l e =
    let h : key ≡ k = e in
    let z : own ≡ own + 0 = omega arith in
    append-nil (or_place (places_where (same_two k) right) own) ∙ ap (λ x. or_place (places_where (same_two x) right) own) (sym h) ∙ ap (or_place (places_where (same_two key) right)) z
places_more own (k ∷ left) right (suc i) key l e =
    let n : suc i + 1 ≡ suc (i + 1) = omega arith in
    let m : suc own + i ≡ own + suc i = omega arith in
    let first : List ℕ = or_place (places_where (same_two k) right) own in
    ap (λ j. places_from own (take j (k ∷ left)) right) n
    ∙ ap (λ l. first ++ l) (places_more (suc own) left right i key (omega (arith, l)) e ∙ ap (λ o. places_from (suc own) (take i left) right ++ or_place (places_where (same_two key) right) o) m)
    ∙ sym (append_assoc first (places_from (suc own) (take i left) right) (or_place (places_where (same_two key) right) (own + suc i)))

pub no_places : (own : ℕ) (right : List (ℤ × ℤ)) → [] ≡ places_from own [] right
unfolding places_from
no_places own right = refl

-- a list that grew by nothing, or by something
pub placed : (old ps new : List ℕ) (own : ℕ) → new ≡ old ++ ps → length new ≡ length old → new ++ own ∷ [] ≡ old ++ or_place ps own
placed old [] new own e n = ap (λ l. l ++ own ∷ []) (e ∙ append-nil old)
placed old (p ∷ ps) new own e n = absurd (let m = ap length e in let a = length-append old (p ∷ ps) in omega (arith, m, a, n))

pub placed_some : (old ps new : List ℕ) (own : ℕ) → new ≡ old ++ ps → (length new ≡ length old → ⊥) → new ≡ old ++ or_place ps own
placed_some old [] new own e n = absurd (n (ap length (e ∙ append-nil old)))
placed_some old (p ∷ ps) new own e n = e

-- the rows at the places of a right key
module _ (total : List (Ranked Value)) (none : Ranked Value) where
  partners_at : (p : ℤ × ℤ → Bool) (q : Ranked Value → Bool) (k : ℕ) (right : List (ℤ × ℤ)) (gs : List (Ranked Value)) → length right ≡ length gs
      → ((j : ℕ) → j < length gs → get_or total (k + j) none ≡ get_or gs j none)
      → ((j : ℕ) (d : ℤ × ℤ) → j < length gs → p (get_or right j d) ≡ q (get_or gs j none))
      → gathered none total (places_where_from p k right) ≡ filter q gs
  partners_at p q k [] [] e at alike = refl
  partners_at p q k [] (g ∷ gs) e at alike = absurd (omega (arith, e))
  partners_at p q k (r ∷ right) [] e at alike = absurd (omega (arith, e))
  partners_at p q k (r ∷ right) (g ∷ gs) e at alike =
      let z : k ≡ k + 0 = omega arith in
      let here : get_or total k none ≡ g = ap (λ n. get_or total n none) z ∙ at 0 (omega arith) in
      let same : p r ≡ q g = alike 0 r (omega arith) in
      let ih : gathered none total (places_where_from p (suc k) right) ≡ filter q gs =
      partners_at p q (suc k) right gs (omega (arith, e))
      (λ j l. let m : suc k + j ≡ k + suc j = omega arith in ap (λ n. get_or total n none) m ∙ at (suc j) (omega (arith, l)))
      (λ j d l. alike (suc j) d (omega (arith, l))) in
      elim (cases_Bool (p r)) [
        | inl t ↦ (let u : q g ≡ true = sym same ∙ t in rw (t, u) (ap (λ x. x ∷ gathered none total (places_where_from p (suc k) right)) here ∙ ap (λ l. g ∷ l) ih))
        | inr f ↦ (let u : q g ≡ false = sym same ∙ f in rw (f, u) ih)
      ]

  or_at : (ps : List ℕ) (own : ℕ) (xs : List (Ranked Value)) (z : Ranked Value) → gathered none total ps ≡ xs → get_or total own none ≡ z → gathered none total (or_place ps own) ≡ or_else xs z
  or_at [] own [] z e o = ap (λ x. x ∷ []) o
  or_at [] own (x ∷ xs) z e o = absurd (let n = ap length e in omega (arith, n))
  or_at (p ∷ ps) own [] z e o = absurd (let n = ap length e in omega (arith, n))
  or_at (p ∷ ps) own (x ∷ xs) z e o = e

  filled_at : (f : Ranked Value → Ranked Value) (gs ds : List (Ranked Value)) (left right : List (ℤ × ℤ)) (own : ℕ) → length left ≡ length ds → length right ≡ length gs
      → ((j : ℕ) → j < length gs → get_or total j none ≡ get_or gs j none)
      → ((i : ℕ) → i < length ds → get_or total (own + i) none ≡ f (get_or ds i none))
      → ((i j : ℕ) (d e : ℤ × ℤ) → i < length ds → j < length gs → same_two (get_or left i d) (get_or right j e) ≡ starts same_value (get_or ds i none).values (get_or gs j none).values)
      → gathered none total (places_from own left right) ≡ flat_map (λ e. or_else (partners same_value e.values gs) (f e)) ds
  unfolding places_from
  filled_at f gs [] [] right own nl nr at owns alike = refl
  filled_at f gs [] (k ∷ left) right own nl nr at owns alike = absurd (omega (arith, nl))
  filled_at f gs (x ∷ ds) [] right own nl nr at owns alike = absurd (omega (arith, nl))
  filled_at f gs (x ∷ ds) (k ∷ left) right own nl nr at owns alike =
      let ps : List ℕ = places_where (same_two k) right in
      let found : gathered none total ps ≡ partners same_value x.values gs =
      partners_at (same_two k) (λ y. starts same_value x.values y.values) 0 right gs nr
      (λ j l. let z : 0 + j ≡ j = omega arith in ap (λ n. get_or total n none) z ∙ at j l)
      (λ j d l. alike 0 j k d (omega arith) l) in
      let z : own ≡ own + 0 = omega arith in
      let first : gathered none total (or_place ps own) ≡ or_else (partners same_value x.values gs) (f x) =
      or_at ps own (partners same_value x.values gs) (f x) found (ap (λ n. get_or total n none) z ∙ owns 0 (omega arith)) in
      let rest : gathered none total (places_from (suc own) left right) ≡ flat_map (λ e. or_else (partners same_value e.values gs) (f e)) ds =
      filled_at f gs ds left right (suc own) (omega (arith, nl)) nr at
      (λ i l. let m : suc own + i ≡ own + suc i = omega arith in ap (λ n. get_or total n none) m ∙ owns (suc i) (omega (arith, l)))
      (λ i j d e l m. alike (suc i) j d e (omega (arith, l)) m) in
      map-append (λ i. get_or total i none) (or_place ps own) (places_from (suc own) left right)
      ∙ ap (λ l. l ++ gathered none total (places_from (suc own) left right)) first
      ∙ ap (λ l. or_else (partners same_value x.values gs) (f x) ++ l) rest

-- a row that begins with another
starts_take : (xs ys : List Value) → length xs ≤ length ys → starts same_value xs ys ≡ same_row same_value xs (take (length xs) ys)
starts_take [] ys l = refl
starts_take (x ∷ xs) [] l = absurd (omega (arith, l))
starts_take (x ∷ xs) (y ∷ ys) l = ap (λ b. same_value x y && b) (starts_take xs ys (omega (arith, l)))

-- the values of a row, from all columns
pub row_cells : (w : ℕ) (rows : List (Ranked Value)) (i : ℕ) → All (λ r. length r.values ≡ w) rows → i < length rows
    → cells (key_columns rows (range_with_len 0 w)) i ≡ (row_at rows i).values
row_cells w rows i wide l =
    cells_of_keys rows (range_with_len 0 w) i [] l ∙ ap (λ ks. get_or ks i []) (all_keys w rows wide)
    ∙ get_or-map (λ (r : Ranked Value). r.values) rows i (ranked [] true_rank) [] l

repeated_cells : (n : ℕ) (empty : List Value) (j : ℕ) → j < n → cells (map (replicate n) empty) j ≡ empty
repeated_cells n [] j l = refl
repeated_cells n (v ∷ empty) j l = rw (get_or-replicate n j v Null l, repeated_cells n empty j l) refl

module _ (gs ds : List (Ranked Value)) (W w : ℕ) (empty : List Value) (wide_g : All (λ r. length r.values ≡ W) gs) (wide_d : All (λ r. length r.values ≡ w) ds) (widths : W ≡ w + length empty) where
  abbrev G : List (List Value)
  G = key_columns gs (range_with_len 0 W)

  abbrev D : List (List Value)
  D = key_columns ds (range_with_len 0 w)

  abbrev R : List (List Value)
  R = D ++ map (replicate (length ds)) empty

  length_g : length G ≡ W
  length_g = length-map (range_with_len 0 W) _ ∙ length-range_with_len 0 W

  length_d : length D ≡ w
  length_d = length-map (range_with_len 0 w) _ ∙ length-range_with_len 0 w

  pub sides_beside : length G ≡ length R
  sides_beside =
      let a = length-append D (map (replicate (length ds)) empty) in
      let m = length-map empty (replicate (length ds)) in
      let lg = length_g in
      let ld = length_d in
      omega (arith, a, m, lg, ld, widths)

  repeated_long : (n : ℕ) (vs : List Value) → AreLong n (map (replicate n) vs)
  unfolding AreLong
  repeated_long n [] = tt
  repeated_long n (v ∷ vs) = (length-replicate n v, repeated_long n vs)

  long_both : (n : ℕ) (cs es : List (List Value)) → AreLong n cs → AreLong n es → AreLong n (cs ++ es)
  unfolding AreLong
  long_both n [] es a b = b
  long_both n (c ∷ cs) es a b = (a.0, long_both n cs es a.1 b)

  pub right_long : AreLong (length ds) R
  right_long = long_both (length ds) D (map (replicate (length ds)) empty) (long_keys ds (range_with_len 0 w)) (repeated_long (length ds) empty)

  left_cells : (i : ℕ) → i < length gs → cells (end_to_end G R) i ≡ (row_at gs i).values
  left_cells i l = cells_left G R (length gs) i sides_beside (long_keys gs (range_with_len 0 W)) l ∙ row_cells W gs i wide_g l

  right_cells : (j : ℕ) → j < length ds → cells (end_to_end G R) (length gs + j) ≡ (row_at ds j).values ++ empty
  right_cells j l =
      cells_right G R (length gs) j sides_beside (long_keys gs (range_with_len 0 W))
      ∙ map-append (λ c. get_or c j Null) D (map (replicate (length ds)) empty)
      ∙ ap (λ vs. vs ++ cells (map (replicate (length ds)) empty) j) (row_cells w ds j wide_d l)
      ∙ ap (λ vs. (row_at ds j).values ++ vs) (repeated_cells (length ds) empty j l)

  abbrev total : List (Ranked Value)
  total = gs ++ map (filled_row empty) ds

  pub all_long : (all : List (List Value)) (standings : List Standing) → all ≡ end_to_end G R → ranks standings ≡ row_ranks gs ++ replicate (length ds) true_rank → AreLong (length standings) all
  all_long all standings is r =
      let n : length standings ≡ length gs + length ds =
      sym (length-map standings standing_rank) ∙ ap length r ∙ length-append (row_ranks gs) (replicate (length ds) true_rank)
      ∙ (let a = length-map gs (λ (r : Ranked Value). r.standing) in let b = length-replicate (length ds) true_rank in omega (arith, a, b)) in
      let L : ℕ → Type 0 = λ m. AreLong m all in
      let M : List (List Value) → Type 0 = λ cs. AreLong (length gs + length ds) cs in
      subst L (sym n) (subst M (sym is) (ends_long G R (length gs) (length ds) sides_beside (long_keys gs (range_with_len 0 W)) right_long))

  pub all_relation : (all : List (List Value)) (standings : List Standing) → all ≡ end_to_end G R → ranks standings ≡ row_ranks gs ++ replicate (length ds) true_rank
      → (column_relation all standings).rows ≡ total
  all_relation all standings is r =
      let left : List (Ranked Value) = (column_relation all standings).rows in
      let a = length-map gs (λ (r : Ranked Value). r.standing) in
      let b = length-replicate (length ds) true_rank in
      let n : length standings ≡ length gs + length ds =
      sym (length-map standings standing_rank) ∙ ap length r ∙ length-append (row_ranks gs) (replicate (length ds) true_rank) ∙ (omega (arith, a, b)) in
      let ll : length left ≡ length standings = relation-length all standings in
      let lm = length-map ds (filled_row empty) in
      let lt : length total ≡ length gs + length ds = length-append gs (map (filled_row empty) ds) ∙ (omega (arith, lm)) in
      same_lists left total (omega (arith, ll, n, lt))
      (λ k d l. let o : k < length standings = omega (arith, l, ll) in
      let s : standing_rank (get_or standings k AtTrue) ≡ get_or (row_ranks gs ++ replicate (length ds) true_rank) k 0 =
      sym (get_or-map standing_rank standings k AtTrue 0 o) ∙ ap (λ rs. get_or rs k 0) r in
      relation-at all standings k AtTrue d o ∙ ap (λ cs. ranked (cells cs k) (standing_rank (get_or standings k AtTrue))) is
      ∙ ap (ranked (cells (end_to_end G R) k)) s
      ∙ row_is k d (omega (arith, o, n)))
    where
      cases : (a b : ℕ) → (a < b) ⊎ ((j : ℕ) × (a ≡ b + j))
      cases a b = elim (cases_lt a b) [ inl l ↦ inl l | inr l ↦ inr (a - b, omega arith) ]

      row_is : (k : ℕ) (d : Ranked Value) → k < length gs + length ds
          → ranked (cells (end_to_end G R) k) (get_or (row_ranks gs ++ replicate (length ds) true_rank) k 0) ≡ get_or total k d
      row_is k d l = elim (cases k (length gs)) [
        | inl m ↦ (let a = length-map gs (λ (r : Ranked Value). r.standing) in
            let rank : get_or (row_ranks gs ++ replicate (length ds) true_rank) k 0 ≡ (row_at gs k).standing =
            get_or_append_left (row_ranks gs) (replicate (length ds) true_rank) 0 k (omega (arith, m, a)) ∙ get_or-map (λ (r : Ranked Value). r.standing) gs k (ranked [] true_rank) 0 m in
            ap (λ vs. ranked vs (get_or (row_ranks gs ++ replicate (length ds) true_rank) k 0)) (left_cells k m) ∙ ap (ranked (row_at gs k).values) rank
            ∙ get_or_default gs k (ranked [] true_rank) d m ∙ sym (get_or_append_left gs (map (filled_row empty) ds) d k m))
        | inr p ↦ (let j : ℕ = p.0 in
            let e : k ≡ length gs + j = p.1 in
            let lj : j < length ds = omega (arith, e, l) in
            let a : length (row_ranks gs) ≡ length gs = length-map gs (λ (r : Ranked Value). r.standing) in
            let rank : get_or (row_ranks gs ++ replicate (length ds) true_rank) k 0 ≡ true_rank =
            ap (λ i. get_or (row_ranks gs ++ replicate (length ds) true_rank) i 0) (e ∙ ap (λ i. i + j) (sym a))
            ∙ get_or-append-add (row_ranks gs) (replicate (length ds) true_rank) j 0 ∙ get_or-replicate (length ds) j true_rank 0 lj in
            ap (λ s. ranked (cells (end_to_end G R) k) s) rank ∙ ap (λ i. ranked (cells (end_to_end G R) i) true_rank) e ∙ ap (λ vs. ranked vs true_rank) (right_cells j lj)
            ∙ sym (ap (λ i. get_or total i d) e ∙ get_or-append-add gs (map (filled_row empty) ds) j d ∙ get_or-map (filled_row empty) ds j (ranked [] true_rank) d lj))
      ]

  -- the rows of the domain, filled
  pub fill_rows : (places : List ℕ) (left right : List (ℤ × ℤ)) → AreKeysOfTwo D (take w G) (length ds) (length gs) left right → places ≡ places_from (length right) left right
      → gathered (ranked [] true_rank) total places ≡ fill same_value empty ds gs
  fill_rows places left right keys is =
      let none : Ranked Value = ranked [] true_rank in
      let lr = keys.right_long in
      ap (gathered none total) is ∙ ap (λ o. gathered none total (places_from o left right)) lr
      ∙ filled_at total none (filled_row empty) gs ds left right (length gs) keys.left_long keys.right_long
      (λ j l. get_or_append_left gs (map (filled_row empty) ds) none j l)
      (λ i l. get_or-append-add gs (map (filled_row empty) ds) i none ∙ get_or-map (filled_row empty) ds i none none l)
      (λ i j d e li lj.
      let row : (row_at ds i).values ≡ cells D i = sym (row_cells w ds i wide_d li) in
      let lw : length (row_at ds i).values ≡ w = wide_d i none li in
      let lW : length (row_at gs j).values ≡ W = wide_g j none lj in
      let first : cells (take w G) j ≡ take w (row_at gs j).values = sym (take-map (λ c. get_or c j Null) w G) ∙ ap (take w) (row_cells W gs j wide_g lj) in
      keys.alike i j d e li lj
      ∙ ap (λ r. same_row same_value r (cells (take w G) j)) (sym row)
      ∙ ap (same_row same_value (row_at ds i).values) first
      ∙ ap (λ m. same_row same_value (row_at ds i).values (take m (row_at gs j).values)) (sym lw)
      ∙ sym (starts_take (row_at ds i).values (row_at gs j).values (omega (arith, lw, lW, widths))))

-- places are within
below_cons : (k : ℕ) (ps : List ℕ) (n : ℕ) → k < n → AreBelow n ps → AreBelow n (k ∷ ps)
below_cons k ps n a b zero d l = a
below_cons k ps n a b (suc i) d l = b i d (omega (arith, l))

places_where_below : {X : Type 0} (p : X → Bool) (k n : ℕ) (xs : List X) → k + length xs ≤ n → AreBelow n (places_where_from p k xs)
places_where_below p k n [] h = λ i d l. absurd (omega (arith, l))
places_where_below p k n (x ∷ xs) h =
    let ih = places_where_below p (suc k) n xs (omega (arith, h)) in
    elim (cases_Bool (p x)) [
      | inl t ↦ rw t (below_cons k (places_where_from p (suc k) xs) n (omega (arith, h)) ih)
      | inr f ↦ rw f ih
    ]

or_below : (ps : List ℕ) (own n : ℕ) → own < n → AreBelow n ps → AreBelow n (or_place ps own)
or_below [] own n l a = below_cons own [] n l a
or_below (p ∷ ps) own n l a = a

both_below : (n : ℕ) (ps qs : List ℕ) → AreBelow n ps → AreBelow n qs → AreBelow n (ps ++ qs)
both_below n [] qs a b = b
both_below n (p ∷ ps) qs a b = below_cons p (ps ++ qs) n (a 0 p (omega arith)) (both_below n ps qs (λ j e m. a (suc j) e (omega (arith, m))) b)

pub places_within : (own n : ℕ) (left right : List (ℤ × ℤ)) → length right ≤ n → own + length left ≤ n → AreBelow n (places_from own left right)
unfolding places_from
places_within own n [] right r l = λ i d m. absurd (omega (arith, m))
places_within own n (k ∷ left) right r l =
    both_below n (or_place (places_where (same_two k) right) own) (places_from (suc own) left right)
    (or_below (places_where (same_two k) right) own n (omega (arith, l)) (places_where_below (same_two k) 0 n right (omega (arith, r))))
    (places_within (suc own) n left right r (omega (arith, l)))

-- in the words of the code
columns_length : (bag : Relation Value) (columns : List (List Value)) → AreColumns bag columns → length columns ≡ bag.width
columns_length bag columns a = ap length a.columns_are ∙ length-map (range_with_len 0 bag.width) _ ∙ length-range_with_len 0 bag.width

columns_long : (bag : Relation Value) (columns : List (List Value)) → AreColumns bag columns → AreLong (length bag.rows) columns
columns_long bag columns a =
    let L : List (List Value) → Type 0 = λ cs. AreLong (length bag.rows) cs in subst L (sym a.columns_are) (long_keys bag.rows (range_with_len 0 bag.width))

module _ (groups domain : Relation Value) (gs ds : List (List Value)) (empty : List Value) (ag : AreColumns groups gs) (ad : AreColumns domain ds) (widths : groups.width ≡ domain.width + length empty) where
  pub both_beside : (right : List (List Value)) → right ≡ ds ++ map (replicate (length domain.rows)) empty → length gs ≡ length right
  both_beside right is =
      let g = columns_length groups gs ag in
      let d = columns_length domain ds ad in
      let a = length-append ds (map (replicate (length domain.rows)) empty) in
      let m = length-map empty (replicate (length domain.rows)) in
      let r = ap length is in
      omega (arith, g, d, a, m, r, widths)

  sides : (right all : List (List Value)) → right ≡ ds ++ map (replicate (length domain.rows)) empty → all ≡ end_to_end gs right
      → all ≡ end_to_end (key_columns groups.rows (range_with_len 0 groups.width)) (key_columns domain.rows (range_with_len 0 domain.width) ++ map (replicate (length domain.rows)) empty)
  sides right all is e =
      e ∙ ap (end_to_end gs) (is ∙ ap (λ cs. cs ++ map (replicate (length domain.rows)) empty) ad.columns_are)
      ∙ ap (λ cs. end_to_end cs (key_columns domain.rows (range_with_len 0 domain.width) ++ map (replicate (length domain.rows)) empty)) ag.columns_are

  pub all_rows_long : (right all : List (List Value)) (standings : List Standing) → right ≡ ds ++ map (replicate (length domain.rows)) empty → all ≡ end_to_end gs right
      → ranks standings ≡ row_ranks groups.rows ++ replicate (length domain.rows) true_rank → AreLong (length standings) all
  all_rows_long right all standings is e r =
      all_long groups.rows domain.rows groups.width domain.width empty ag.wide ad.wide widths all standings (sides right all is e) r

  pub all_rows_are : (right all : List (List Value)) (standings : List Standing) → right ≡ ds ++ map (replicate (length domain.rows)) empty → all ≡ end_to_end gs right
      → ranks standings ≡ row_ranks groups.rows ++ replicate (length domain.rows) true_rank
      → (column_relation all standings).rows ≡ groups.rows ++ map (filled_row empty) domain.rows
  all_rows_are right all standings is e r =
      all_relation groups.rows domain.rows groups.width domain.width empty ag.wide ad.wide widths all standings (sides right all is e) r

  pub all_rows_wide : (right all : List (List Value)) (standings : List Standing) → right ≡ ds ++ map (replicate (length domain.rows)) empty → all ≡ end_to_end gs right
      → (column_relation all standings).width ≡ groups.width
  unfolding end_to_end
  all_rows_wide right all standings is e =
      relation-width all standings ∙ ap length e ∙ ends_length gs right (both_beside right is) ∙ columns_length groups gs ag
    where
      ends_length : (ls rs : List (List Value)) → length ls ≡ length rs → length (end_to_end ls rs) ≡ length ls
      ends_length [] rs e = refl
      ends_length (l ∷ ls) [] e = absurd (omega (arith, e))
      ends_length (l ∷ ls) (r ∷ rs) e = ap suc (ends_length ls rs (omega (arith, e)))

  pub filled_rows : (first : List (List Value)) (n m : ℕ) (places : List ℕ) → first ≡ take domain.width gs → n ≡ length domain.rows → m ≡ length groups.rows → AreFilled ds n first m places
      → gathered (ranked [] true_rank) (groups.rows ++ map (filled_row empty) domain.rows) places ≡ fill same_value empty domain.rows groups.rows
  filled_rows first n m places is_first is_n is_m filled =
      let D : List (List Value) = key_columns domain.rows (range_with_len 0 domain.width) in
      let G : List (List Value) = key_columns groups.rows (range_with_len 0 groups.width) in
      let first_is : first ≡ take domain.width G = is_first ∙ ap (take domain.width) ag.columns_are in
      let A : List (List Value) → Type 0 = λ cs. AreKeysOfTwo cs first n m filled.left filled.right in
      let B : List (List Value) → Type 0 = λ cs. AreKeysOfTwo D cs n m filled.left filled.right in
      let C : ℕ → Type 0 = λ k. AreKeysOfTwo D (take domain.width G) k m filled.left filled.right in
      let E : ℕ → Type 0 = λ k. AreKeysOfTwo D (take domain.width G) (length domain.rows) k filled.left filled.right in
      fill_rows groups.rows domain.rows groups.width domain.width empty ag.wide ad.wide widths places filled.left filled.right
      (subst E is_m (subst C is_n (subst B first_is (subst A ad.columns_are filled.keys)))) filled.places_are

-- the places are those of all rows
pub filled_below : (domain groups : List (List Value)) (n m b : ℕ) (places : List ℕ) → AreFilled domain n groups m places → b ≡ m + n → AreBelow b places
filled_below domain groups n m b places filled e =
    let P : List ℕ → Type 0 = λ ps. AreBelow b ps in
    let l = filled.keys.left_long in
    let r = filled.keys.right_long in
    subst P (sym filled.places_are) (places_within (length filled.right) b filled.left filled.right (omega (arith, r, e)) (omega (arith, l, r, e)))

-- what the first columns of groups need
pub first_beside : (groups domain : Relation Value) (gs ds : List (List Value)) (w : ℕ) → AreColumns groups gs → AreColumns domain ds → domain.width ≤ groups.width → w ≡ length ds
    → (w ≤ length gs) × (length ds ≡ length (take w gs)) × AreLong (length groups.rows) (take w gs) × AreLong (length domain.rows) ds × (w ≡ domain.width)
first_beside groups domain gs ds w ag ad le e =
    let g = columns_length groups gs ag in
    let d = columns_length domain ds ad in
    let within : w ≤ length gs = omega (arith, g, d, le, e) in (
      within,
      sym (length-take-le w gs within ∙ e),
      long_take (length groups.rows) w gs (columns_long groups gs ag),
      columns_long domain ds ad,
      e ∙ d,
    )
