-- Keys beside their groups.
use Rattle.std.proofs.Common.{◌≡◌, ℕ, ◌+◌, ◌<◌, List, [], ◌∷◌, ◌++◌, true, false, cond, refl, sym, ◌∙◌, ap, subst, arith, inl, inr, Some, None, Option, zero, suc, set, Result, Ok, Err}
use Rattle.std.specs.Prelude.{slice_get, zip}
use Rattle.std.specs.List.{remove, IsDistinct, AllByRecursion}
use Rattle.std.specs.Result.{OnErr}
use Rattle.std.specs.Option.{MatchOption, is_some, option_map}
use lib.ListN.{get_or, drop, length, take}
use Rattle.std.proofs.lemmas.Bool.{cases_Bool, true≢false}
use Rattle.std.proofs.lemmas.List.{append_assoc, length-set}
use Rattle.std.proofs.lemmas.Map.Keys.{IsDistinct-head, IsDistinct-tail}
use Rattle.base_row_laws.specs.Bags.{has}
use Rattle.base_row_laws.proofs.Classes.{apart}
use Rattle.base_value.specs.declared.value.Value.{Value}
use Rattle.std.proofs.lemmas.Option.{slice_get-get_or}
use Rattle.store_groups.specs.Groups.{Group, HasRow, is_faultless, no_rows, with_row, without_row}
use Rattle.store_groups.specs.Entries.{CanTake, Entries, HasLong, group_at, keys_of, or_empty}
use Rattle.store_groups.specs.Entries.{same_key, with_group, without_key}
use Rattle.store_groups.specs.declared.entry.Taken.{Taken}
use Rattle.store_groups.specs.declared.entry.Taken.TheVariants.{Absent, Left, Gone, Faulty}
use Rattle.store_groups.specs.Taken.{IsSet, IsSetOn, IsTaken, left_of}
use Rattle.store_groups.proofs.EntryLists.{absent_is, key_identity, none_absent, none_faulty, none_gone, removed_is}

abbrev pub Keys : Type 0
Keys = List (List Value)

some_is : {X : Type 0} (x y : X) → Some x ≡ Some y → x ≡ y
some_is x y e = cc

-- what holds holds of an error
pub on_err : {T E P : Type 0} (r : Result T E) → P → OnErr r P
on_err (Ok x) p = tt {0}
on_err (Err e) p = p

-- nothing is left unless it is said
not_left : (args : List Value) (o : Option Group) (t : Taken) → (t ≡ Left → ⊥) → left_of args o t ≡ None
not_left args o Absent other = none_absent args o
not_left args o Gone other = none_gone args o
not_left args o Faulty other = none_faulty args o
not_left args o Left other = absurd (other refl)

pub zip_keys : (ks : Keys) (gs : List Group) → length gs ≡ length ks → keys_of (zip ks gs) ≡ ks
zip_keys [] gs even = refl
zip_keys (k ∷ ks) [] even = absurd (omega arith)
zip_keys (k ∷ ks) (g ∷ gs) even = ap (λ l. k ∷ l) (zip_keys ks gs (omega arith))

pub zip_long : (ks : Keys) (gs : List Group) → length gs ≡ length ks → length (zip ks gs) ≡ length gs
zip_long [] [] even = refl
zip_long [] (g ∷ gs) even = absurd (omega arith)
zip_long (k ∷ ks) [] even = refl
zip_long (k ∷ ks) (g ∷ gs) even = ap suc (zip_long ks gs (omega arith))

-- the entry at a place
pub zip_get : (ks : Keys) (gs : List Group) (i : ℕ) (k : List Value) (g : Group) → slice_get ks i ≡ Some k → slice_get gs i ≡ Some g → slice_get (zip ks gs) i ≡ Some (k, g)
zip_get [] gs i k g one two = cc
zip_get (x ∷ ks) [] i k g one two = cc
zip_get (x ∷ ks) (y ∷ gs) zero k g one two = ap (λ z. Some (z, y)) (some_is x k one) ∙ ap (λ z. Some (k, z)) (some_is y g two)
zip_get (x ∷ ks) (y ∷ gs) (suc i) k g one two = zip_get ks gs i k g one two

-- one entry more, and one less
pub zip_last : (ks : Keys) (gs : List Group) (k : List Value) (g : Group) → length gs ≡ length ks → zip (ks ++ k ∷ []) (gs ++ g ∷ []) ≡ zip ks gs ++ (k, g) ∷ []
zip_last [] [] k g even = refl
zip_last [] (y ∷ gs) k g even = absurd (omega arith)
zip_last (x ∷ ks) [] k g even = absurd (omega arith)
zip_last (x ∷ ks) (y ∷ gs) k g even = ap (λ l. (x, y) ∷ l) (zip_last ks gs k g (omega arith))

pub zip_less : (ks : Keys) (gs : List Group) (i : ℕ) → length gs ≡ length ks → zip (remove ks i) (remove gs i) ≡ remove (zip ks gs) i
zip_less [] [] zero even = refl
zip_less [] [] (suc i) even = refl
zip_less [] (y ∷ gs) i even = absurd (omega arith)
zip_less (x ∷ ks) [] i even = absurd (omega arith)
zip_less (x ∷ ks) (y ∷ gs) zero even = refl
zip_less (x ∷ ks) (y ∷ gs) (suc i) even = ap (λ l. (x, y) ∷ l) (zip_less ks gs i (omega arith))

pub even_less : (ks : Keys) (gs : List Group) (i : ℕ) → length gs ≡ length ks → length (remove gs i) ≡ length (remove ks i)
even_less [] [] zero even = refl
even_less [] [] (suc i) even = refl
even_less [] (y ∷ gs) i even = absurd (omega arith)
even_less (x ∷ ks) [] i even = absurd (omega arith)
even_less (x ∷ ks) (y ∷ gs) zero even = omega arith
even_less (x ∷ ks) (y ∷ gs) (suc i) even = ap suc (even_less ks gs i (omega arith))

-- keys beside their groups, seen as entries
pub view_less : (ks : Keys) (gs : List Group) (es : Entries) (i : ℕ) → length gs ≡ length ks → zip ks gs ≡ es → i < length es → i < length gs
view_less ks gs es i even view less = let z = zip_long ks gs even in let v = ap (λ (l : Entries). length l) view in omega (arith, z, v, less)

key_in : (ks : Keys) (gs : List Group) (i : ℕ) (k : List Value) → length gs ≡ length ks → i < length ks → k ≡ get_or ks i k
    → option_map (λ (e : List Value × Group). e.0) (slice_get (zip ks gs) i) ≡ Some k
key_in [] gs i k even less is = absurd (omega arith)
key_in (x ∷ ks) [] i k even less is = absurd (omega arith)
key_in (x ∷ ks) (y ∷ gs) zero k even less is = ap (λ z. Some z) (sym is)
key_in (x ∷ ks) (y ∷ gs) (suc i) k even less is = key_in ks gs i k (omega arith) (omega arith) is

pub view_key : (ks : Keys) (gs : List Group) (es : Entries) (i : ℕ) (k : List Value) → length gs ≡ length ks → zip ks gs ≡ es → i < length es → k ≡ get_or ks i k
    → option_map (λ (e : List Value × Group). e.0) (slice_get es i) ≡ Some k
view_key ks gs es i k even view less is =
    ap (λ (l : Entries). option_map (λ (e : List Value × Group). e.0) (slice_get l i)) (sym view)
    ∙ key_in ks gs i k even (let l = view_less ks gs es i even view less in omega (arith, l, even)) is

group_in : (ks : Keys) (gs : List Group) (i : ℕ) (g : Group) → length gs ≡ length ks → slice_get gs i ≡ Some g
    → option_map (λ (e : List Value × Group). e.1) (slice_get (zip ks gs) i) ≡ Some g
group_in [] [] i g even got = cc
group_in [] (y ∷ gs) i g even got = absurd (omega arith)
group_in (x ∷ ks) [] i g even got = absurd (omega arith)
group_in (x ∷ ks) (y ∷ gs) zero g even got = got
group_in (x ∷ ks) (y ∷ gs) (suc i) g even got = group_in ks gs i g (omega arith) got

pub view_group : (ks : Keys) (gs : List Group) (es : Entries) (i : ℕ) (g : Group) → length gs ≡ length ks → zip ks gs ≡ es → slice_get gs i ≡ Some g
    → option_map (λ (e : List Value × Group). e.1) (slice_get es i) ≡ Some g
view_group ks gs es i g even view got =
    ap (λ (l : Entries). option_map (λ (e : List Value × Group). e.1) (slice_get l i)) (sym view) ∙ group_in ks gs i g even got

pub view_with : (ks new_ks : Keys) (gs new_gs : List Group) (es : Entries) (k : List Value) (g : Group) → length gs ≡ length ks → zip ks gs ≡ es
    → new_ks ≡ ks ++ k ∷ [] → new_gs ≡ gs ++ g ∷ [] → zip new_ks new_gs ≡ es ++ (k, g) ∷ []
view_with ks new_ks gs new_gs es k g even view a b =
    ap (λ (l : Keys). zip l new_gs) a ∙ ap (λ (l : List Group). zip (ks ++ k ∷ []) l) b ∙ zip_last ks gs k g even
    ∙ ap (λ (l : Entries). l ++ (k, g) ∷ []) view

pub view_without : (ks new_ks : Keys) (gs new_gs : List Group) (es : Entries) (i : ℕ) → length gs ≡ length ks → zip ks gs ≡ es
    → new_ks ≡ remove ks i → new_gs ≡ remove gs i → zip new_ks new_gs ≡ remove es i
view_without ks new_ks gs new_gs es i even view a b =
    ap (λ (l : Keys). zip l new_gs) a ∙ ap (λ (l : List Group). zip (remove ks i) l) b ∙ zip_less ks gs i even
    ∙ ap (λ (l : Entries). remove l i) view

pub even_without : (ks new_ks : Keys) (gs new_gs : List Group) (i : ℕ) → length gs ≡ length ks → new_ks ≡ remove ks i → new_gs ≡ remove gs i
    → length new_gs ≡ length new_ks
even_without ks new_ks gs new_gs i even a b =
    ap (λ (l : List Group). length l) b ∙ even_less ks gs i even ∙ ap (λ (l : Keys). length l) (sym a)

pub view_same_keys : (ks : Keys) (gs new : List Group) (es : Entries) → length gs ≡ length ks → zip ks gs ≡ es → length new ≡ length gs → keys_of (zip ks new) ≡ keys_of es
view_same_keys ks gs new es even view many =
    zip_keys ks new (many ∙ even) ∙ sym (zip_keys ks gs even) ∙ ap keys_of view

-- a key that is not among others
has_step : (k x : List Value) (ks : Keys) → has same_key k (x ∷ ks) ≡ false → (same_key k x ≡ false) × (has same_key k ks ≡ false)
has_step k x ks e = elim (cases_Bool (same_key k x)) [
  | inl t ↦ let h : true ≡ false = rw t at e in absurd (true≢false h)
  | inr f ↦ (f, rw f at e)
]

pub none_there : (ks : Keys) (gs : List Group) (k : List Value) → has same_key k ks ≡ false → group_at (zip ks gs) k ≡ None
none_there [] gs k e = refl
none_there (x ∷ ks) [] k e = refl
none_there (x ∷ ks) (g ∷ gs) k e = let h = has_step k x ks e in rw h.0 (none_there ks gs k h.1)

got_apart : (x k : List Value) (ks : Keys) (i : ℕ) → AllByRecursion (λ y. same_key x y ≡ false) ks → slice_get ks i ≡ Some k → same_key x k ≡ false
got_apart x k [] i all got = cc
got_apart x k (y ∷ ks) zero all got = subst (λ z. same_key x z ≡ false) (some_is y k got) all.0
got_apart x k (y ∷ ks) (suc i) all got = got_apart x k ks i all.1 got

-- a key that is at a place
pub group_there : (ks : Keys) (gs : List Group) (k : List Value) (i : ℕ) (g : Group) → IsDistinct same_key ks → slice_get ks i ≡ Some k → slice_get gs i ≡ Some g → group_at (zip ks gs) k ≡ Some g
group_there [] gs k i g distinct one two = cc
group_there (x ∷ ks) [] k i g distinct one two = cc
group_there (x ∷ ks) (y ∷ gs) k zero g distinct one two =
    let t : same_key k x ≡ true = subst (λ z. same_key k z ≡ true) (sym (some_is x k one)) (key_identity.meets k) in rw t two
group_there (x ∷ ks) (y ∷ gs) k (suc i) g distinct one two =
    let f : same_key k x ≡ false = apart same_key key_identity x k (got_apart x k ks i (IsDistinct-head same_key x ks distinct) one) in
    rw f (group_there ks gs k i g (IsDistinct-tail same_key x ks distinct) one two)

pub some_there : (ks : Keys) (gs : List Group) (k : List Value) (i : ℕ) → length gs ≡ length ks → slice_get ks i ≡ Some k → is_some (group_at (zip ks gs) k) ≡ true
some_there [] gs k i even got = cc
some_there (x ∷ ks) [] k i even got = absurd (omega arith)
some_there (x ∷ ks) (y ∷ gs) k zero even got =
    let t : same_key k x ≡ true = subst (λ z. same_key k z ≡ true) (sym (some_is x k got)) (key_identity.meets k) in rw t refl
some_there (x ∷ ks) (y ∷ gs) k (suc i) even got = elim (cases_Bool (same_key k x)) [ inl t ↦ rw t refl | inr f ↦ rw f (some_there ks gs k i (omega arith) got) ]

found_in : (o : Option ℕ) (ks : Keys) (gs : List Group) (k : List Value) → length gs ≡ length ks → MatchOption o (has same_key k ks ≡ false) (λ i. slice_get ks i ≡ Some k)
    → is_some o ≡ is_some (group_at (zip ks gs) k)
found_in None ks gs k even m = ap (λ (g : Option Group). is_some g) (sym (none_there ks gs k m))
found_in (Some i) ks gs k even m = sym (some_there ks gs k i even m)

pub view_found : (o : Option ℕ) (ks old : Keys) (gs : List Group) (es : Entries) (k : List Value) → length gs ≡ length ks → zip ks gs ≡ es → old ≡ ks
    → MatchOption o (has same_key k old ≡ false) (λ i. slice_get old i ≡ Some k) → is_some o ≡ is_some (group_at es k)
view_found o ks old gs es k even view same m =
    found_in o ks gs k even (subst (λ (l : Keys). MatchOption o (has same_key k l ≡ false) (λ i. slice_get l i ≡ Some k)) same m)
    ∙ ap (λ (l : Entries). is_some (group_at l k)) view

-- the group at a place set
pub set_keys : (ks : Keys) (gs : List Group) (i : ℕ) (g : Group) → length gs ≡ length ks → keys_of (zip ks (set gs i g)) ≡ keys_of (zip ks gs)
set_keys ks gs i g even = zip_keys ks (set gs i g) (length-set gs i g ∙ even) ∙ sym (zip_keys ks gs even)

pub set_group : (ks : Keys) (gs : List Group) (k : List Value) (i : ℕ) (g new : Group) → IsDistinct same_key ks → slice_get ks i ≡ Some k → slice_get gs i ≡ Some g
    → IsSet k (Some new) (zip ks gs) (zip ks (set gs i new))
set_group [] gs k i g new distinct one two q = cc
set_group (x ∷ ks) [] k i g new distinct one two q = cc
set_group (x ∷ ks) (y ∷ gs) k zero g new distinct one two q =
    subst (λ z. cond (same_key q x) (Some new) (group_at (zip ks gs) q) ≡ cond (same_key q z) (Some new) (cond (same_key q x) (Some y) (group_at (zip ks gs) q))) (some_is x k one)
    (elim (cases_Bool (same_key q x)) [ inl t ↦ rw t | inr f ↦ rw f ])
set_group (x ∷ ks) (y ∷ gs) k (suc i) g new distinct one two q =
    let far : same_key x k ≡ false = got_apart x k ks i (IsDistinct-head same_key x ks distinct) one in
    let ih = set_group ks gs k i g new (IsDistinct-tail same_key x ks distinct) one two q in
    elim (cases_Bool (same_key q x)) [
      | inl t ↦ let f : same_key q k ≡ false = subst (λ z. same_key z k ≡ false) (sym (key_identity.tells q x t)) far in rw (t, f)
      | inr f ↦ rw f ih
    ]

-- without the entry at the place of a key
got_less : (ks : Keys) (i : ℕ) (k : List Value) → slice_get ks i ≡ Some k → i < length ks
got_less [] i k got = cc
got_less (x ∷ ks) zero k got = omega arith
got_less (x ∷ ks) (suc i) k got = let e = got_less ks i k got in omega (arith, e)

got_first : (ks : Keys) (gs : List Group) (i : ℕ) (k : List Value) (d : List Value × Group) → length gs ≡ length ks → slice_get ks i ≡ Some k → (get_or (zip ks gs) i d).0 ≡ k
got_first [] gs i k d even got = cc
got_first (x ∷ ks) [] i k d even got = absurd (omega arith)
got_first (x ∷ ks) (y ∷ gs) zero k d even got = some_is x k got
got_first (x ∷ ks) (y ∷ gs) (suc i) k d even got = got_first ks gs i k d (omega arith) got

pub less_key : (ks : Keys) (gs : List Group) (i : ℕ) (k : List Value) → length gs ≡ length ks → IsDistinct same_key ks → slice_get ks i ≡ Some k → remove (zip ks gs) i ≡ without_key k (zip ks gs)
less_key ks gs i k even distinct got =
    removed_is k (zip ks gs) i
    (subst (λ l. IsDistinct same_key l) (sym (zip_keys ks gs even)) distinct)
    (let e = got_less ks i k got in omega (arith, e, zip_long ks gs even, even))
    (λ d. got_first ks gs i k d even got)

pub none_without : (ks : Keys) (gs : List Group) (k : List Value) → has same_key k ks ≡ false → without_key k (zip ks gs) ≡ zip ks gs
none_without ks gs k e = absent_is k (zip ks gs) (none_there ks gs k e)

-- as far as keys are looked at
pub has_suc : (k x : List Value) (ks : Keys) (i : ℕ) → i < length ks → x ≡ get_or ks i x → same_key k x ≡ false → has same_key k (drop i ks) ≡ has same_key k (drop (suc i) ks)
has_suc k x [] i less is other = absurd (omega arith)
has_suc k x (y ∷ ks) zero less is other = let f : same_key k y ≡ false = subst (λ z. same_key k z ≡ false) is other in rw f refl
has_suc k x (y ∷ ks) (suc i) less is other = has_suc k x ks i (omega arith) is other

-- one entry more of a list
entry_suc : (es : Entries) (i : ℕ) (e : List Value × Group) → slice_get es i ≡ Some e → take (suc i) es ≡ take i es ++ e ∷ []
entry_suc [] i e got = cc
entry_suc (x ∷ es) zero e got = let a : x ≡ e = cc in ap (λ y. y ∷ []) a
entry_suc (x ∷ es) (suc i) e got = ap (λ l. x ∷ l) (entry_suc es i e got)

pub entry_more : (es first old new : Entries) (i : ℕ) (e : List Value × Group) → slice_get es i ≡ Some e → old ≡ first ++ take i es → new ≡ old ++ e ∷ [] → new ≡ first ++ take (i + 1) es
entry_more es first old new i e got before more =
    more ∙ ap (λ l. l ++ e ∷ []) before ∙ append_assoc first (take i es) (e ∷ [])
    ∙ ap (λ l. first ++ l) (sym (entry_suc es i e got) ∙ (let s : suc i ≡ i + 1 = omega arith in ap (λ n. take n es) s))

-- an entry after those of other keys
pub entry_set : (v k own : List Value) (g its : Group) (es others new : Entries) → own ≡ k → its ≡ g → v ≡ own → others ≡ without_key v es → new ≡ others ++ (own, its) ∷ []
    → new ≡ without_key k es ++ (k, g) ∷ []
entry_set v k own g its es others new key group looked left made =
    made ∙ ap (λ l. l ++ (own, its) ∷ []) (left ∙ ap (λ x. without_key x es) (looked ∙ key))
    ∙ ap (λ x. without_key k es ++ (x, its) ∷ []) key ∙ ap (λ x. without_key k es ++ (k, x) ∷ []) group

-- keys beside their groups, seen as entries, with a key at a place
module _ (ks : Keys) (gs : List Group) (es : Entries) (k : List Value) (i : ℕ) (even : length gs ≡ length ks) (view : zip ks gs ≡ es)
    (distinct : IsDistinct same_key (keys_of es)) (got : slice_get ks i ≡ Some k) where
  own : IsDistinct same_key ks
  own = subst (λ l. IsDistinct same_key l) (ap keys_of (sym view) ∙ zip_keys ks gs even) distinct

  pub place_within : i < length gs
  place_within = let e = got_less ks i k got in omega (arith, e, even)

  pub place_seen : i < length es
  place_seen = let z = zip_long ks gs even in let v = ap (λ (l : Entries). length l) view in let p = place_within in omega (arith, z, v, p)

  abbrev here : Group
  here = get_or gs i (no_rows 0)

  got_here : slice_get gs i ≡ Some here
  got_here = slice_get-get_or gs i (no_rows 0) place_within

  pub group_placed : (g : Group) → slice_get gs i ≡ Some g → group_at es k ≡ Some g
  group_placed g at = ap (λ (l : Entries). group_at l k) (sym view) ∙ group_there ks gs k i g own got at

  pub long_placed : (n : ℕ) → HasLong n (group_at es k) → (g : Group) → slice_get gs i ≡ Some g → n ≡ length g.cells
  long_placed n long g at = subst (λ o. HasLong n o) (group_placed g at) long

  pub row_placed : (args : List Value) (r : ℕ) (new : List Group) → ((g : Group) → slice_get gs i ≡ Some g → new ≡ set gs i (with_row g args r))
      → IsSetOn k (Some (with_row (or_empty (length args) (group_at es k)) args r)) es (zip ks new)
  row_placed args r new made = inr (
    ap (λ l. keys_of (zip ks l)) (made here got_here) ∙ set_keys ks gs i (with_row here args r) even ∙ ap keys_of view,
    λ q.
        ap (λ l. group_at (zip ks l) q) (made here got_here)
        ∙ set_group ks gs k i here (with_row here args r) own got got_here q
        ∙ ap (λ (l : Entries). cond (same_key q k) (Some (with_row here args r)) (group_at l q)) view
        ∙ ap (λ o. cond (same_key q k) (Some (with_row (or_empty (length args) o) args r)) (group_at es q)) (sym (group_placed here got_here)),
  )

  pub left_placed : (args : List Value) (new : List Group) → ((g : Group) → slice_get gs i ≡ Some g → new ≡ set gs i (without_row g args))
      → IsSetOn k (left_of args (group_at es k) Left) es (zip ks new)
  left_placed args new made = inr (
    ap (λ l. keys_of (zip ks l)) (made here got_here) ∙ set_keys ks gs i (without_row here args) even ∙ ap keys_of view,
    λ q.
        ap (λ l. group_at (zip ks l) q) (made here got_here)
        ∙ set_group ks gs k i here (without_row here args) own got got_here q
        ∙ ap (λ (l : Entries). cond (same_key q k) (Some (without_row here args)) (group_at l q)) view
        ∙ ap (λ o. cond (same_key q k) (left_of args o Left) (group_at es q)) (sym (group_placed here got_here)),
  )

  pub gone_placed : (new : Entries) → new ≡ remove es i → new ≡ without_key k es
  gone_placed new made = made ∙ ap (λ l. remove l i) (sym view) ∙ less_key ks gs i k even own got ∙ ap (without_key k) view

  pub left_even : (args : List Value) (new : List Group) → ((g : Group) → slice_get gs i ≡ Some g → new ≡ set gs i (without_row g args)) → length new ≡ length ks
  left_even args new made = ap (λ (l : List Group). length l) (made here got_here) ∙ length-set gs i (without_row here args) ∙ even

  pub gone_set : (args : List Value) (t : Taken) (new : Entries) → (t ≡ Left → ⊥) → new ≡ remove es i → IsSetOn k (left_of args (group_at es k) t) es new
  gone_set args t new other made = inl (gone_placed new made ∙ ap (λ o. with_group k o es) (sym (not_left args (group_at es k) t other)))

  pub left_set : (args : List Value) (t : Taken) (new : List Group) → t ≡ Left → ((g : Group) → slice_get gs i ≡ Some g → new ≡ set gs i (without_row g args))
      → IsSetOn k (left_of args (group_at es k) t) es (zip ks new)
  left_set args t new left made = subst (λ t. IsSetOn k (left_of args (group_at es k) t) es (zip ks new)) (sym left) (left_placed args new made)

  -- what comes of the group, where a row may be taken out of it
  pub can_placed : (args : List Value) → CanTake args (group_at es k) → (g : Group) → slice_get gs i ≡ Some g → (length args ≡ length g.cells) × (is_faultless g ≡ true → HasRow g args)
  can_placed args can g at = subst (λ o. CanTake args o) (group_placed g at) can

  pub row_taken : (args : List Value) (t : Taken) (g : Group) → CanTake args (group_at es k) → slice_get gs i ≡ Some g → IsTaken args (Some g) t → t ≡ Left
      → (h : Group) → slice_get gs i ≡ Some h → HasRow h args
  row_taken args t g can at is left h there =
      let same : g ≡ h = some_is g h (sym at ∙ there) in
      (can_placed args can h there).1 (subst (λ x. is_faultless x ≡ true) same (subst (λ t. IsTaken args (Some g) t) left is).0)

  pub taken_placed : (args : List Value) (t : Taken) (g : Group) → slice_get gs i ≡ Some g → IsTaken args (Some g) t → IsTaken args (group_at es k) t
  taken_placed args t g at is = subst (λ o. IsTaken args o t) (sym (group_placed g at)) is

-- a key that is not there
module _ (ks : Keys) (gs : List Group) (es : Entries) (k : List Value) (view : zip ks gs ≡ es) (none : has same_key k ks ≡ false) where
  pub absent_group : group_at es k ≡ None
  absent_group = ap (λ (l : Entries). group_at l k) (sym view) ∙ none_there ks gs k none

  pub absent_without : without_key k es ≡ es
  absent_without = absent_is k es absent_group

  pub row_added : (args : List Value) (r : ℕ) (new : Entries) → new ≡ es ++ (k, with_row (no_rows (length args)) args r) ∷ []
      → IsSetOn k (Some (with_row (or_empty (length args) (group_at es k)) args r)) es new
  row_added args r new made = inl (
      made
      ∙ ap (λ l. l ++ (k, with_row (no_rows (length args)) args r) ∷ []) (sym absent_without)
      ∙ ap (λ o. without_key k es ++ (k, with_row (or_empty (length args) o) args r) ∷ []) (sym absent_group)
      )

  pub absent_taken : (args : List Value) → IsTaken args (group_at es k) Absent
  absent_taken args = subst (λ o. IsTaken args o Absent) (sym absent_group) (tt {0})

  pub absent_set : (args : List Value) → IsSetOn k (left_of args (group_at es k) Absent) es es
  absent_set args = inl (sym (ap (λ o. with_group k o es) (none_absent args (group_at es k)) ∙ absent_without))
