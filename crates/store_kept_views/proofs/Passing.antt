-- Rows one by one: what the steps of the code leave.
use Rattle.std.proofs.Common.{◌≡◌, ℕ, ◌+◌, ◌<◌, ◌≤◌, List, [], ◌∷◌, ◌++◌, Bool, true, false, cond, refl, sym, ◌∙◌, ap, subst, arith, inl, inr, Some, None, Option, length, zero, suc}
use Rattle.std.specs.Prelude.{not, take, map}
use lib.ListN.{drop}
use Rattle.std.proofs.lemmas.Bool.{cases_Bool}
use Rattle.std.proofs.lemmas.List.{append_assoc, append-nil, length-map}
use Rattle.base_columns.specs.Batches.{row_at}
use Rattle.base_row_laws.specs.Ranked.{Ranked}
use Rattle.base_row_laws.specs.Bags.{has}
use Rattle.base_value.specs.declared.value.Value.{Value}
use Rattle.plan_algebra.specs.declared.kept_plan.KeptPlan.{KeptPlan}
use Rattle.plan_algebra.specs.declared.kept_plan.KeptAggregate.{KeptAggregate}
use Rattle.plan_algebra.specs.KeptPlans.{key_of, selected}
use Rattle.store_groups.specs.Groups.{Group, with_row, without_row, no_rows}
use Rattle.store_kept_views.specs.RowGroups.{group_of, cells_of}
use Rattle.store_groups.specs.Entries.{Entries, same_key, group_at}
use Rattle.store_kept_views.specs.Standing.{rows_at, made_at, StandsBy, is_stale, arguments_in}
use Rattle.store_groups.specs.Entries.{CanTake, HasLong, or_empty}
use Rattle.store_groups.specs.Taken.{IsSet}
use Rattle.store_kept_views.specs.Moving.{IsPut, IsTakenOut}
use Rattle.store_groups.proofs.EntryLists.{key_identity}
use Rattle.store_kept_views.proofs.Made.{key}
use Rattle.store_kept_views.proofs.Stages.{args_of, its_group, can_be_taken, left_stands, gone_stands, faulty_stands, absent_stands, put_stands, passed_stands, some_is, none_some}

cells_in : (ags : List KeptAggregate) (ys : List (Ranked Value)) → length (group_of ags ys).cells ≡ length ags
unfolding group_of cells_of
cells_in ags ys = length-map ags _

-- a row that is to be taken out
module _ (p : KeptPlan) (es st : Entries) (y : Ranked Value) (ys : List (Ranked Value)) (old : StandsBy p es st [] (y ∷ ys)) where
  can_take_at : (o : Option Group) → group_at es (key p y) ≡ o → CanTake (args_of p y) o
  can_take_at None e = tt
  can_take_at (Some g) e = (
    length-map p.aggregates _
        ∙ sym (ap (λ g. length g.cells) (its_group p es st y ys old g e) ∙ cells_in p.aggregates (y ∷ rows_at p (key p y) ys)),
    λ f. can_be_taken p es st y ys old g e f,
  )

  unset : (es' : Entries) → group_at es (key p y) ≡ None → IsSet (key p y) None es es' → (q : List Value) → group_at es' q ≡ group_at es q
  unset es' none set q = set q ∙ elim (cases_Bool (same_key q (key p y))) [
    | inl t ↦ rw t (sym (ap (group_at es) (key_identity.tells q (key p y) t) ∙ none))
    | inr f ↦ rw f
  ]

  taken_at : (es' st' : Entries) (o : Option Group) → group_at es (key p y) ≡ o → IsTakenOut (key p y) (args_of p y) o es es' st st' → StandsBy p es' st' [] ys
  taken_at es' st' None e out =
      subst (λ st. StandsBy p es' st [] ys) (sym out.1) (λ q. unset es' e out.0 q ∙ absent_stands p es st y ys old e q)
  taken_at es' st' (Some g) e (inl left) =
      subst (λ st. StandsBy p es' st [] ys) (sym left.same)
      (left_stands p es st y ys old es' g (without_row g (args_of p y)) e left.faultless refl left.some left.set)
  taken_at es' st' (Some g) e (inr (inl gone)) =
      subst (λ st. StandsBy p es' st [] ys) (sym gone.same) (gone_stands p es st y ys old es' g e gone.faultless gone.none gone.set)
  taken_at es' st' (Some g) e (inr (inr dropped)) = faulty_stands p es st y ys old es' st' (no_rows 0) dropped.set dropped.noted

-- rows from a place on, and up to one
next_suc : (rows : List (Ranked Value)) (i : ℕ) → i < length rows → drop i rows ≡ row_at rows i ∷ drop (suc i) rows
next_suc [] i less = absurd (omega arith)
next_suc (x ∷ rows) zero less = refl
next_suc (x ∷ rows) (suc i) less = next_suc rows i (omega arith)

next_row : (rows : List (Ranked Value)) (i : ℕ) → i < length rows → drop i rows ≡ row_at rows i ∷ drop (i + 1) rows
next_row rows i less = let s : suc i ≡ i + 1 = omega arith in next_suc rows i less ∙ ap (λ n. row_at rows i ∷ drop n rows) s

last_suc : (rows : List (Ranked Value)) (i : ℕ) → i < length rows → take (suc i) rows ≡ take i rows ++ row_at rows i ∷ []
last_suc [] i less = absurd (omega arith)
last_suc (x ∷ rows) zero less = refl
last_suc (x ∷ rows) (suc i) less = ap (λ l. x ∷ l) (last_suc rows i (omega arith))

last_row : (rows : List (Ranked Value)) (i : ℕ) → i < length rows → take (i + 1) rows ≡ take i rows ++ row_at rows i ∷ []
last_row rows i less = let s : i + 1 ≡ suc i = omega arith in ap (λ n. take n rows) s ∙ last_suc rows i less

-- the row at a place is to be taken out
module _ (p : KeptPlan) (es st : Entries) (rows left : List (Ranked Value)) (i : ℕ) (less : i < length rows) (old : StandsBy p es st [] (drop i rows ++ left)) where
  stood : StandsBy p es st [] (row_at rows i ∷ (drop (i + 1) rows ++ left))
  stood = subst (λ l. StandsBy p es st [] (l ++ left)) (next_row rows i less) old

  pub asked_row : (k arguments : List Value) → k ≡ key_of p (row_at rows i).values → arguments ≡ arguments_in p.aggregates (row_at rows i).values → CanTake arguments (group_at es k)
  asked_row k arguments is are =
      subst (λ x. CanTake x (group_at es k)) (sym are)
      (subst (λ x. CanTake (args_of p (row_at rows i)) (group_at es x)) (sym is)
      (can_take_at p es st (row_at rows i) (drop (i + 1) rows ++ left) stood (group_at es (key p (row_at rows i))) refl))

  pub taken_row : (es' st' : Entries) (k arguments : List Value) → k ≡ key_of p (row_at rows i).values → arguments ≡ arguments_in p.aggregates (row_at rows i).values
      → IsTakenOut k arguments (group_at es k) es es' st st' → StandsBy p es' st' [] (drop (i + 1) rows ++ left)
  taken_row es' st' k arguments is are out =
      taken_at p es st (row_at rows i) (drop (i + 1) rows ++ left) stood es' st' (group_at es (key p (row_at rows i))) refl
      (subst (λ x. IsTakenOut x (args_of p (row_at rows i)) (group_at es x) es es' st st') is
      (subst (λ x. IsTakenOut k x (group_at es k) es es' st st') are out))

pub none_left : (rows left : List (Ranked Value)) (i : ℕ) → length rows ≤ i → drop i rows ++ left ≡ left
none_left [] left zero le = refl
none_left [] left (suc i) le = refl
none_left (x ∷ rows) left zero le = absurd (omega arith)
none_left (x ∷ rows) left (suc i) le = none_left rows left i (omega arith)

-- the cells of a group that stands for rows
made_cells : (p : KeptPlan) (q : List Value) (ys : List (Ranked Value)) (g : Group) → Some g ≡ made_at p q ys → length g.cells ≡ length p.aggregates
unfolding made_at
made_cells p q ys g e = by (has same_key q (map (key p) ys)) e
  where
    by : (t : Bool) → Some g ≡ cond t (Some (group_of p.aggregates (rows_at p q ys))) None → length g.cells ≡ length p.aggregates
    by true e = ap (λ g. length g.cells) (some_is g (group_of p.aggregates (rows_at p q ys)) e) ∙ cells_in p.aggregates (rows_at p q ys)
    by false e = absurd (none_some g (sym e))

long_at : (p : KeptPlan) (es st : Entries) (xs ys : List (Ranked Value)) (k : List Value) (n : ℕ) (o : Option Group) → n ≡ length p.aggregates → o ≡ group_at es k → StandsBy p es st xs ys → HasLong n o
long_at p es st xs ys k n None long e old = tt
long_at p es st xs ys k n (Some g) long e old = long ∙ sym (by (is_stale st k) (e ∙ old k))
  where
    by : (t : Bool) → Some g ≡ cond t (made_at p k xs) (made_at p k ys) → length g.cells ≡ length p.aggregates
    by true m = made_cells p k xs g m
    by false m = made_cells p k ys g m

pub asked_long : (p : KeptPlan) (es st : Entries) (xs ys : List (Ranked Value)) (k arguments row : List Value) → arguments ≡ arguments_in p.aggregates row → StandsBy p es st xs ys → HasLong (length arguments) (group_at es k)
asked_long p es st xs ys k arguments row are old = long_at p es st xs ys k (length arguments) (group_at es k) (ap length are ∙ length-map p.aggregates _) refl old

-- a row put in, or passed over
put_here : (wanted : Bool) (p : KeptPlan) (es es' st : Entries) (y : Ranked Value) (xs ys : List (Ranked Value)) → StandsBy p es st xs ys → IsPut (key p y) (args_of p y) y.standing wanted st es es'
    → StandsBy p es' st (cond wanted (xs ++ y ∷ []) xs) (cond wanted ys (ys ++ y ∷ []))
put_here wanted p es es' st y xs ys old put = by (is_stale st (key p y)) wanted refl refl
  where
    h : Group
    h = with_row (or_empty (length (args_of p y)) (group_at es (key p y))) (args_of p y) y.standing

    h_is : h ≡ with_row (or_empty (length p.aggregates) (group_at es (key p y))) (args_of p y) y.standing
    h_is = ap (λ n. with_row (or_empty n (group_at es (key p y))) (args_of p y) y.standing) (length-map p.aggregates _)

    in_it : is_stale st (key p y) ≡ wanted → StandsBy p es' st (cond wanted (xs ++ y ∷ []) xs) (cond wanted ys (ys ++ y ∷ []))
    in_it w = put_stands wanted p es es' st y h xs ys old w h_is (put.put w)

    past : is_stale st (key p y) ≡ not wanted → StandsBy p es' st (cond wanted (xs ++ y ∷ []) xs) (cond wanted ys (ys ++ y ∷ []))
    past w = subst (λ z. StandsBy p z st (cond wanted (xs ++ y ∷ []) xs) (cond wanted ys (ys ++ y ∷ []))) (sym (put.passed w)) (passed_stands wanted p es st y xs ys old w)

    by : (t w : Bool) → is_stale st (key p y) ≡ t → w ≡ wanted → StandsBy p es' st (cond wanted (xs ++ y ∷ []) xs) (cond wanted ys (ys ++ y ∷ []))
    by true true t w = in_it (t ∙ w)
    by false false t w = in_it (t ∙ w)
    by true false t w = past (t ∙ ap not w)
    by false true t w = past (t ∙ ap not w)

pub put_row_more : (wanted : Bool) (p : KeptPlan) (es es' st : Entries) (rows : List (Ranked Value)) (i : ℕ) (k arguments : List Value) (s : ℕ) (xs ys : List (Ranked Value)) → i < length rows
    → k ≡ key_of p (row_at rows i).values → arguments ≡ arguments_in p.aggregates (row_at rows i).values → s ≡ (row_at rows i).standing → IsPut k arguments s wanted st es es'
    → StandsBy p es st (cond wanted (xs ++ take i rows) xs) (cond wanted ys (ys ++ take i rows))
    → StandsBy p es' st (cond wanted (xs ++ take (i + 1) rows) xs) (cond wanted ys (ys ++ take (i + 1) rows))
put_row_more wanted p es es' st rows i k arguments s xs ys less is are stands put old =
    more wanted
    (put_here wanted p es es' st (row_at rows i) (cond wanted (xs ++ take i rows) xs) (cond wanted ys (ys ++ take i rows)) old
    (subst (λ x. IsPut (key p (row_at rows i)) (args_of p (row_at rows i)) x wanted st es es') stands
    (subst (λ x. IsPut (key p (row_at rows i)) x s wanted st es es') are (subst (λ x. IsPut x arguments s wanted st es es') is put))))
  where
    longer : (zs : List (Ranked Value)) → (zs ++ take i rows) ++ row_at rows i ∷ [] ≡ zs ++ take (i + 1) rows
    longer zs = append_assoc zs (take i rows) (row_at rows i ∷ []) ∙ ap (λ l. zs ++ l) (sym (last_row rows i less))

    more : (w : Bool)
        → StandsBy p es' st (cond w (cond w (xs ++ take i rows) xs ++ row_at rows i ∷ []) (cond w (xs ++ take i rows) xs))
        (cond w (cond w ys (ys ++ take i rows)) (cond w ys (ys ++ take i rows) ++ row_at rows i ∷ []))
        → StandsBy p es' st (cond w (xs ++ take (i + 1) rows) xs) (cond w ys (ys ++ take (i + 1) rows))
    more true new = subst (λ l. StandsBy p es' st l ys) (longer xs) new
    more false new = subst (λ l. StandsBy p es' st xs l) (longer ys) new

-- before the first row
pub begun : (wanted : Bool) (p : KeptPlan) (es st : Entries) (xs ys rows : List (Ranked Value)) → rows ≡ [] → StandsBy p es st xs ys → StandsBy p es st (cond wanted (xs ++ rows) xs) (cond wanted ys (ys ++ rows))
begun true p es st xs ys rows none old = subst (λ l. StandsBy p es st l ys) (sym (ap (λ l. xs ++ l) none ∙ append-nil xs)) old
begun false p es st xs ys rows none old = subst (λ l. StandsBy p es st xs l) (sym (ap (λ l. ys ++ l) none ∙ append-nil ys)) old

pub selected_none : (p : KeptPlan) → selected p [] ≡ []
unfolding selected
selected_none p = refl

-- after the last row
taken_all : (rows : List (Ranked Value)) (i : ℕ) → length rows ≤ i → take i rows ≡ rows
taken_all [] zero le = refl
taken_all [] (suc i) le = refl
taken_all (x ∷ rows) zero le = absurd (omega arith)
taken_all (x ∷ rows) (suc i) le = ap (λ l. x ∷ l) (taken_all rows i (omega arith))

pub all_put : (wanted : Bool) (p : KeptPlan) (es st : Entries) (xs ys rows : List (Ranked Value)) (i : ℕ) → length rows ≤ i
    → StandsBy p es st (cond wanted (xs ++ take i rows) xs) (cond wanted ys (ys ++ take i rows)) → StandsBy p es st (cond wanted (xs ++ rows) xs) (cond wanted ys (ys ++ rows))
all_put wanted p es st xs ys rows i le old = subst (λ l. StandsBy p es st (cond wanted (xs ++ l) xs) (cond wanted ys (ys ++ l))) (taken_all rows i le) old
