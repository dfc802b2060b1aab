-- What a table stands for when rows are taken out and put in.
use Rattle.std.proofs.Common.{◌≡◌, ◌<◌, List, [], ◌∷◌, ◌++◌, Bool, true, false, cond, refl, sym, ◌∙◌, ap, subst, inl, inr, Some, None, Option, length}
use Rattle.std.specs.Prelude.{map, not}
use Rattle.std.specs.Option.{is_some}
use Rattle.std.proofs.lemmas.Bool.{cases_Bool, true≢false}
use Rattle.base_row_laws.specs.Ranked.{Ranked}
use Rattle.base_row_laws.specs.Bags.{SameBag, has}
use Rattle.base_row_laws.proofs.Bags.{SameBag-append_comm, SameBag-sym}
use Rattle.base_value.specs.declared.value.Value.{Value}
use Rattle.plan_algebra.specs.declared.kept_plan.KeptPlan.{KeptPlan}
use Rattle.plan_algebra.specs.KeptPlans.{selected}
use Rattle.store_groups.specs.Groups.{Group, with_row, without_row, is_faultless, HasRow}
use Rattle.store_kept_views.specs.RowGroups.{group_of}
use Rattle.store_groups.specs.Entries.{Entries, same_key, group_at}
use Rattle.store_kept_views.specs.Standing.{rows_at, made_at, StandsFor, StandsBy, is_stale, arguments_in}
use Rattle.store_groups.specs.Entries.{or_empty}
use Rattle.store_kept_views.proofs.GroupLists.{group_more, group_less, group_none, has_row}
use Rattle.store_groups.proofs.EntryLists.{key_identity}
use Rattle.store_kept_views.proofs.Made.{key, made_alike, made_none, made_other, made_here, made_some, made_gone, has_rows, filled, selected_append, selected_alike}

abbrev pub args_of : KeptPlan → Ranked Value → List Value
args_of p y = arguments_in p.aggregates y.values

pub some_is : {X : Type 0} (x y : X) → Some x ≡ Some y → x ≡ y
some_is x y e = ap (λ o. or x o) e
  where
    or : {X : Type 0} → X → Option X → X
    or x None = x
    or x (Some y) = y

pub none_some : {X : Type 0} (x : X) → None ≡ Some x → ⊥
none_some x e = true≢false (sym (ap (λ o. is_some o) e))

-- the group of a row that a table stands for
module _ (p : KeptPlan) (es st : Entries) (y : Ranked Value) (ys : List (Ranked Value)) (old : StandsBy p es st [] (y ∷ ys)) where
  abbrev k : List Value
  k = key p y

  abbrev zs : List (Ranked Value)
  zs = rows_at p k ys

  fresh : (g : Group) → group_at es k ≡ Some g → is_stale st k ≡ false
  fresh g e = elim (cases_Bool (is_stale st k)) [
    | inr f ↦ f
    | inl t ↦ absurd (none_some g (sym (made_none p k) ∙ sym (rw t at (old k)) ∙ e))
  ]

  pub its_group : (g : Group) → group_at es k ≡ Some g → g ≡ group_of p.aggregates (y ∷ zs)
  its_group g e = let f = fresh g e in some_is g (group_of p.aggregates (y ∷ zs)) (sym e ∙ (rw f at (old k)) ∙ made_here p y ys)

  pub can_be_taken : (g : Group) → group_at es k ≡ Some g → is_faultless g ≡ true → HasRow g (args_of p y)
  can_be_taken g e f = let i = its_group g e in subst (λ g. HasRow g (args_of p y)) (sym i) (has_row p.aggregates y zs (sym (ap is_faultless i) ∙ f))

  its_rest : (g : Group) → group_at es k ≡ Some g → is_faultless g ≡ true → without_row g (args_of p y) ≡ group_of p.aggregates zs
  its_rest g e f = let i = its_group g e in ap (λ g. without_row g (args_of p y)) i ∙ group_less p.aggregates y zs (sym (ap is_faultless i) ∙ f)

  others_stand : (q : List Value) → same_key q k ≡ false → group_at es q ≡ cond (is_stale st q) (made_at p q []) (made_at p q ys)
  others_stand q f = old q ∙ ap (λ o. cond (is_stale st q) (made_at p q []) o) (made_other p q y ys f)

  pub left_stands : (es' : Entries) (g h : Group) → group_at es k ≡ Some g → is_faultless g ≡ true → h ≡ without_row g (args_of p y) → 0 < h.rows
      → ((q : List Value) → group_at es' q ≡ cond (same_key q k) (Some h) (group_at es q)) → StandsBy p es' st [] ys
  left_stands es' g h e f is less new q = elim (cases_Bool (same_key q k)) [
    | inr d ↦ (rw d at (new q)) ∙ others_stand q d
    | inl t ↦ let fr = fresh g e in let i = is ∙ its_rest g e f in
        subst (λ q. group_at es' q ≡ cond (is_stale st q) (made_at p q []) (made_at p q ys)) (sym (key_identity.tells q k t))
        (let m = key_identity.meets k in (rw m at (new k)) ∙ rw fr (ap (λ h. Some h) i ∙ sym (made_some p k ys (subst (λ h. 0 < h.rows) i less))))
  ]

  pub gone_stands : (es' : Entries) (g : Group) → group_at es k ≡ Some g → is_faultless g ≡ true → (without_row g (args_of p y)).rows ≡ 0
      → ((q : List Value) → group_at es' q ≡ cond (same_key q k) None (group_at es q)) → StandsBy p es' st [] ys
  gone_stands es' g e f none new q = elim (cases_Bool (same_key q k)) [
    | inr d ↦ (rw d at (new q)) ∙ others_stand q d
    | inl t ↦ let fr = fresh g e in let i = its_rest g e f in
        subst (λ q. group_at es' q ≡ cond (is_stale st q) (made_at p q []) (made_at p q ys)) (sym (key_identity.tells q k t))
        (let m = key_identity.meets k in (rw m at (new k)) ∙ rw fr (sym (made_gone p k ys (sym (ap (λ g. g.rows) i) ∙ none))))
  ]

  pub faulty_stands : (es' st' : Entries) (g0 : Group) → ((q : List Value) → group_at es' q ≡ cond (same_key q k) None (group_at es q))
      → ((q : List Value) → group_at st' q ≡ cond (same_key q k) (Some g0) (group_at st q)) → StandsBy p es' st' [] ys
  faulty_stands es' st' g0 new anew q = elim (cases_Bool (same_key q k)) [
    | inr d ↦ let a : group_at st' q ≡ group_at st q = rw d at (anew q) in (rw d at (new q)) ∙ others_stand q d ∙ ap (λ o. cond (is_some o) (made_at p q []) (made_at p q ys)) (sym a)
    | inl t ↦ let a : group_at st' q ≡ Some g0 = rw t at (anew q) in let b : group_at es' q ≡ None = rw t at (new q) in
        b ∙ sym (ap (λ o. cond (is_some o) (made_at p q []) (made_at p q ys)) a ∙ made_none p q)
  ]

  pub absent_stands : group_at es k ≡ None → StandsBy p es st [] ys
  absent_stands e q = elim (cases_Bool (same_key q k)) [
    | inr d ↦ others_stand q d
    | inl t ↦ subst (λ q. group_at es q ≡ cond (is_stale st q) (made_at p q []) (made_at p q ys)) (sym (key_identity.tells q k t)) (elim (cases_Bool (is_stale st k)) [
      | inl u ↦ rw u (rw u at (old k))
      | inr f ↦ absurd (none_some (group_of p.aggregates (y ∷ zs)) (sym e ∙ (rw f at (old k)) ∙ made_here p y ys))
    ])
  ]

-- one row more, at the end
push_front : (p : KeptPlan) (q : List Value) (ys : List (Ranked Value)) (y : Ranked Value) → made_at p q (ys ++ y ∷ []) ≡ made_at p q (y ∷ ys)
push_front p q ys y = made_alike p q (ys ++ y ∷ []) (y ∷ ys) (SameBag-append_comm ys (y ∷ []))

push_other : (p : KeptPlan) (q : List Value) (ys : List (Ranked Value)) (y : Ranked Value) → same_key q (key p y) ≡ false → made_at p q (ys ++ y ∷ []) ≡ made_at p q ys
push_other p q ys y f = push_front p q ys y ∙ made_other p q y ys f

nothing_of : (xs : List (Ranked Value)) → filled xs ≡ false → xs ≡ []
nothing_of [] e = refl
nothing_of (x ∷ xs) e = absurd (true≢false e)

or_made : (p : KeptPlan) (q : List Value) (ys : List (Ranked Value)) → or_empty (length p.aggregates) (made_at p q ys) ≡ group_of p.aggregates (rows_at p q ys)
unfolding made_at
or_made p q ys = elim (cases_Bool (has same_key q (map (key p) ys))) [
  | inl t ↦ rw t
  | inr f ↦ let e = nothing_of (rows_at p q ys) (sym (has_rows p q ys) ∙ f) in rw f (sym (group_none p.aggregates) ∙ ap (λ l. group_of p.aggregates l) (sym e))
]

push_here : (p : KeptPlan) (ys : List (Ranked Value)) (y : Ranked Value) → made_at p (key p y) (ys ++ y ∷ []) ≡ Some (with_row (or_empty (length p.aggregates) (made_at p (key p y) ys)) (args_of p y) y.standing)
push_here p ys y =
    push_front p (key p y) ys y ∙ made_here p y ys
    ∙ ap (λ g. Some g) (group_more p.aggregates y (rows_at p (key p y) ys) ∙ ap (λ g. with_row g (args_of p y) y.standing) (sym (or_made p (key p y) ys)))

-- a row put in where its key is one of those that are wanted
pub put_stands : (wanted : Bool) (p : KeptPlan) (es es' st : Entries) (y : Ranked Value) (h : Group) (xs ys : List (Ranked Value)) → StandsBy p es st xs ys
    → is_stale st (key p y) ≡ wanted → h ≡ with_row (or_empty (length p.aggregates) (group_at es (key p y))) (args_of p y) y.standing
    → ((q : List Value) → group_at es' q ≡ cond (same_key q (key p y)) (Some h) (group_at es q))
    → StandsBy p es' st (cond wanted (xs ++ y ∷ []) xs) (cond wanted ys (ys ++ y ∷ []))
put_stands true p es es' st y h xs ys old w is new q = elim (cases_Bool (same_key q (key p y))) [
  | inr d ↦ (rw d at (new q)) ∙ old q ∙ ap (λ o. cond (is_stale st q) o (made_at p q ys)) (sym (push_other p q xs y d))
  | inl t ↦ subst (λ q. group_at es' q ≡ cond (is_stale st q) (made_at p q (xs ++ y ∷ [])) (made_at p q ys)) (sym (key_identity.tells q (key p y) t))
      (let m = key_identity.meets (key p y) in let o : group_at es (key p y) ≡ made_at p (key p y) xs = rw w at (old (key p y)) in
      (rw m at (new (key p y))) ∙ rw w (ap (λ h. Some h) (is ∙ ap (λ g. with_row (or_empty (length p.aggregates) g) (args_of p y) y.standing) o) ∙ sym (push_here p xs y)))
]
put_stands false p es es' st y h xs ys old w is new q = elim (cases_Bool (same_key q (key p y))) [
  | inr d ↦ (rw d at (new q)) ∙ old q ∙ ap (λ o. cond (is_stale st q) (made_at p q xs) o) (sym (push_other p q ys y d))
  | inl t ↦ subst (λ q. group_at es' q ≡ cond (is_stale st q) (made_at p q xs) (made_at p q (ys ++ y ∷ []))) (sym (key_identity.tells q (key p y) t))
      (let m = key_identity.meets (key p y) in let o : group_at es (key p y) ≡ made_at p (key p y) ys = rw w at (old (key p y)) in
      (rw m at (new (key p y))) ∙ rw w (ap (λ h. Some h) (is ∙ ap (λ g. with_row (or_empty (length p.aggregates) g) (args_of p y) y.standing) o) ∙ sym (push_here p ys y)))
]

-- a row passed over, since its key is none of those that are wanted
pub passed_stands : (wanted : Bool) (p : KeptPlan) (es st : Entries) (y : Ranked Value) (xs ys : List (Ranked Value)) → StandsBy p es st xs ys
    → is_stale st (key p y) ≡ not wanted → StandsBy p es st (cond wanted (xs ++ y ∷ []) xs) (cond wanted ys (ys ++ y ∷ []))
passed_stands true p es st y xs ys old w q = elim (cases_Bool (same_key q (key p y))) [
  | inr d ↦ old q ∙ ap (λ o. cond (is_stale st q) o (made_at p q ys)) (sym (push_other p q xs y d))
  | inl t ↦ subst (λ q. group_at es q ≡ cond (is_stale st q) (made_at p q (xs ++ y ∷ [])) (made_at p q ys)) (sym (key_identity.tells q (key p y) t)) (rw w (rw w at (old (key p y))))
]
passed_stands false p es st y xs ys old w q = elim (cases_Bool (same_key q (key p y))) [
  | inr d ↦ old q ∙ ap (λ o. cond (is_stale st q) (made_at p q xs) o) (sym (push_other p q ys y d))
  | inl t ↦ subst (λ q. group_at es q ≡ cond (is_stale st q) (made_at p q xs) (made_at p q (ys ++ y ∷ []))) (sym (key_identity.tells q (key p y) t)) (rw w (rw w at (old (key p y))))
]

-- the first and the last stage
pub begun_stands : (p : KeptPlan) (es st : Entries) (old removed rest : List (List Value)) → st ≡ [] → StandsFor p es old → SameBag old (removed ++ rest)
    → StandsBy p es st [] (selected p removed ++ selected p rest)
begun_stands p es st old removed rest none stands bag q =
    stands q ∙ made_alike p q (selected p old) (selected p (removed ++ rest)) (selected_alike p old (removed ++ rest) bag)
    ∙ ap (λ l. made_at p q l) (selected_append p removed rest)
    ∙ sym (ap (λ (s : Entries). cond (is_stale s q) (made_at p q []) (made_at p q (selected p removed ++ selected p rest))) none)

pub ended_stands : (p : KeptPlan) (es st : Entries) (rest added rows : List (List Value)) → SameBag rows (rest ++ added)
    → StandsBy p es st (selected p rows) (selected p rest ++ selected p added) → StandsFor p es rows
ended_stands p es st rest added rows bag stands q =
    stands q ∙ ap (λ o. cond (is_stale st q) (made_at p q (selected p rows)) o)
    (ap (λ l. made_at p q l) (sym (selected_append p rest added)) ∙ made_alike p q (selected p (rest ++ added)) (selected p rows) (SameBag-sym (selected_alike p rows (rest ++ added) bag)))
    ∙ both (is_stale st q) (made_at p q (selected p rows))
  where
    both : (b : Bool) (o : Option Group) → cond b o o ≡ o
    both true o = refl
    both false o = refl

-- where nothing is made anew
pub settled_stands : (p : KeptPlan) (es st : Entries) (xs zs ys : List (Ranked Value)) → st ≡ [] → StandsBy p es st xs ys → StandsBy p es st zs ys
settled_stands p es st xs zs ys none stands q =
    stands q ∙ ap (λ (s : Entries). cond (is_stale s q) (made_at p q xs) (made_at p q ys)) none
    ∙ sym (ap (λ (s : Entries). cond (is_stale s q) (made_at p q zs) (made_at p q ys)) none)

-- before any row
pub nothing_stands : (p : KeptPlan) (es st : Entries) → es ≡ [] → st ≡ [] → StandsBy p es st [] []
nothing_stands p es st e none q =
    ap (λ (es : Entries). group_at es q) e ∙ sym (ap (λ (s : Entries). cond (is_stale s q) (made_at p q []) (made_at p q [])) none ∙ made_none p q)

pub put_first : (p : KeptPlan) (es st : Entries) (rows : List (List Value)) → st ≡ [] → StandsBy p es st [] ([] ++ selected p rows) → StandsFor p es rows
put_first p es st rows none stands q = stands q ∙ ap (λ (s : Entries). cond (is_stale s q) (made_at p q []) (made_at p q (selected p rows))) none
