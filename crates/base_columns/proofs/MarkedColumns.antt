-- Lemmas on forms with marks.
use Rattle.std.proofs.Common.{◌≡◌, ℕ, ◌+◌, ◌<◌, ◌≤◌, suc, zero, List, [], ◌∷◌, ◌++◌, sym, ap, ◌∙◌, refl, arith, length, get_or, take, map, replicate, Bool, true, false, cond, Result, Ok, Err, ⊎_elim, None, subst}
use Rattle.std.specs.Result.{OnErr}
use Rattle.std.specs.Prelude.{nat_le, nat_eq, ◌||◌, ◌&&◌, if◌then◌else◌}
use Rattle.std.proofs.lemmas.Bool.{cases_lt, ne_eqb, le-leb, lt-leb, lt-ltb}
use Rattle.std.proofs.lemmas.List.{map-append, length-map, length_push, length-replicate, get_or-map, get_or-replicate, length-take-le}
use Rattle.base_null_marks.specs.Marks.{marked, has, SameMarks, IsMarkSet, AreMarksAt, AreAppended, AreFirst}
use Rattle.base_null_marks.proofs.MarkLaws.{length-marked, get-marked, same-marked, null-pushed, value-pushed, gathered-marked, appended-marked, take-marked, is-marked}
use Rattle.base_value.specs.declared.value.Value.{Value}
use Rattle.base_value.specs.declared.value.Value.TheVariants.{Null}
use Rattle.base_columns.specs.Lists.{gathered, AreBelow, IsLonger, IsPadded, inside}
use Rattle.base_columns.specs.Forms.{AreOfForm, is_text}
use Rattle.base_columns.specs.Numbers.{small_number}
use Rattle.base_columns.specs.declared.column_builder.ColumnForm.TheVariants.{Values}

pub long-marked : (ms : List Bool) (xs : List Value) → length (marked Null ms xs) ≡ length xs
long-marked ms xs = length-marked Null ms xs

pub null_there : (ms : List Bool) (xs : List Value) (i : ℕ) → has ms i ≡ true → get_or (marked Null ms xs) i Null ≡ Null
null_there ms xs i h = get-marked Null ms xs i ∙ ap (λ b. cond b Null (get_or xs i Null)) h

pub value_there : (ms : List Bool) (xs : List Value) (i : ℕ) → has ms i ≡ false → get_or (marked Null ms xs) i Null ≡ get_or xs i Null
value_there ms xs i h = get-marked Null ms xs i ∙ ap (λ b. cond b Null (get_or xs i Null)) h

pub no_number_there : (ms : List Bool) (xs : List Value) (i : ℕ) → has ms i ≡ true → small_number (get_or (marked Null ms xs) i Null) ≡ None
no_number_there ms xs i h = ap small_number (null_there ms xs i h)

pub no_text_there : (ms : List Bool) (xs : List Value) (i : ℕ) → has ms i ≡ true → is_text (get_or (marked Null ms xs) i Null) ≡ false
no_text_there ms xs i h = ap is_text (null_there ms xs i h)

pub unmarked_is : (ms : List Bool) (xs : List Value) → ms ≡ [] → marked Null ms xs ≡ xs
unmarked_is ms xs h = ap (λ ns. marked Null ns xs) h

pub of_any_form : (vs : List Value) → AreOfForm Values vs
of_any_form vs k d l = refl

-- what is marked everywhere is null
pub all_null : (ms : List Bool) (xs : List Value) (n : ℕ) → n ≡ length xs → ((i : ℕ) → i < n → has ms i ≡ true) → marked Null ms xs ≡ replicate n Null
all_null ms xs n e h = sym (is-marked Null ms xs (replicate n Null) (length-replicate n Null ∙ e)
    (λ i l. get_or-replicate n i Null Null (omega (arith, e, l)) ∙ sym (ap (λ b. cond b Null (get_or xs i Null)) (h i (omega (arith, e, l))))))

pub no_values : (ms : List Bool) (xs : List Value) → xs ≡ [] → marked Null ms xs ≡ []
no_values [] xs e = e
no_values (m ∷ ms) [] e = refl
no_values (m ∷ ms) (x ∷ xs) e = absurd (cc)

-- the first marks are the marks of the same values
pub first_marks : (ms ns : List Bool) (xs ys : List Value) (n : ℕ) → AreFirst n ms ns → n ≡ length xs → ys ≡ xs → marked Null ns ys ≡ marked Null ms xs
first_marks ms ns xs ys n h l e = ap (marked Null ns) e
    ∙ same-marked Null ns ms xs (λ i k. first_is n ms ns i h (omega (arith, l, k, ap length e)))
  where
    first_is : (n : ℕ) (ms ns : List Bool) (i : ℕ) → AreFirst n ms ns → i < n → has ns i ≡ has ms i
    first_is n ms ns i h l = h i ∙ ap (λ b. b && has ms i) (lt-ltb i n l)

pub cut_marks : (ms ns : List Bool) (xs ys : List Value) (n : ℕ) → n ≤ length xs → ((i : ℕ) → i < n → has ns i ≡ has ms i) → ys ≡ take n xs
    → marked Null ns ys ≡ take n (marked Null ms xs)
cut_marks ms ns xs ys n b h e =
    ap (marked Null ns) e
    ∙ same-marked Null ns ms (take n xs) (λ i k. h i (omega (arith, k, length-take-le n xs b)))
    ∙ sym (take-marked Null n ms xs)

pub numbers_padded : {A B : Type 0} (f : A → B) (xs ys : List A) (x : A) → ys ≡ xs ++ x ∷ [] → IsPadded true (map f xs) (map f ys)
numbers_padded f xs ys x h = record { more = f x; is = ap (map f) h ∙ map-append f xs (x ∷ []) }

pub values_padded : {A : Type 0} (xs ys : List A) (x : A) → ys ≡ xs ++ x ∷ [] → IsPadded true xs ys
values_padded xs ys x h = record { more = x; is = h }

pub padded_by : {A B : Type 0} (f : A → B) (done : Bool) (xs ys : List A) (x : A) → ys ≡ (if done then xs ++ x ∷ [] else xs) → IsPadded done (map f xs) (map f ys)
padded_by f true xs ys x h = numbers_padded f xs ys x h
padded_by f false xs ys x h = ap (map f) h

pub mapped_padded : {A B : Type 0} (f : A → B) (done : Bool) (xs ys : List A) → IsPadded done xs ys → IsPadded done (map f xs) (map f ys)
mapped_padded f true xs ys h = record { more = f h.more; is = ap (map f) h.is ∙ map-append f xs (h.more ∷ []) }
mapped_padded f false xs ys h = ap (map f) h

pub length-padded : {A : Type 0} (done : Bool) (xs ys : List A) → IsPadded done xs ys → done ≡ true → length ys ≡ length xs + 1
length-padded true xs ys h e = ap length h.is ∙ length_push xs h.more
length-padded false xs ys h e = absurd (cc)

pub ruleset longer = (numbers_padded, values_padded, padded_by)

pub ruleset pads = (length-padded)

-- places inside a list
pub inside_below : (n : ℕ) (places : List ℕ) → 0 < n → AreBelow n (inside n places)
inside_below n [] h k d l = absurd (omega (arith, l))
inside_below n (p ∷ places) h zero d l = ⊎_elim
    (λ (b : p < n). subst (λ i. i < n) (sym (ap (λ t. cond t 0 p) (lt-leb n p b))) b)
    (λ (b : n ≤ p). subst (λ i. i < n) (sym (ap (λ t. cond t 0 p) (le-leb n p b))) h)
    (cases_lt p n)
inside_below n (p ∷ places) h (suc k) d l = inside_below n places h k d (omega (arith, l))

pub are_inside : (n : ℕ) (places new : List ℕ) → 0 < n → new ≡ inside n places → AreBelow n new
are_inside n places new h e = subst (AreBelow n) (sym e) (inside_below n places h)

pub ruleset places = (are_inside)

-- taken by place
pub taken_at : (ms ns : List Bool) (xs ys : List Value) (places : List ℕ) (n : ℕ) → n ≡ length xs → AreMarksAt n ms places ns → ys ≡ gathered Null xs places
    → marked Null ns ys ≡ gathered Null (marked Null ms xs) places
taken_at ms ns xs ys places n l h e =
    ap (marked Null ns) e ∙ sym (gathered-marked Null Null ms ns xs places (λ k f. h k f ∙ ap (λ m. nat_le m (get_or places k 0) || has ms (get_or places k 0)) l))

taken_inside_at : (ms ns : List Bool) (xs : List Value) (places : List ℕ) (n : ℕ) → n ≡ length xs → AreMarksAt n ms places ns → (k : ℕ) → k < length places
    → cond (has ns k) Null (get_or (gathered Null xs (inside n places)) k Null) ≡ cond (has ns k) Null (get_or (gathered Null xs places) k Null)
taken_inside_at ms ns xs places n l h k f =
    let p = get_or places k 0 in
    let g : k < length (inside n places) = omega (arith, f, length-map places (λ i. cond (nat_le n i) 0 i)) in
    let a : get_or (inside n places) k 0 ≡ cond (nat_le n p) 0 p = get_or-map (λ i. cond (nat_le n i) 0 i) places k 0 0 f in
    let b : get_or (gathered Null xs (inside n places)) k Null ≡ get_or xs (cond (nat_le n p) 0 p) Null = get_or-map (λ i. get_or xs i Null) (inside n places) k 0 Null g ∙ ap (λ i. get_or xs i Null) a in
    let c : get_or (gathered Null xs places) k Null ≡ get_or xs p Null = get_or-map (λ i. get_or xs i Null) places k 0 Null f in
    ⊎_elim
    (λ (i : p < n). rw (b, c, lt-leb n p i) refl)
    (λ (i : n ≤ p). rw (h k f, le-leb n p i) refl)
    (cases_lt p n)

pub taken_inside : (ms ns : List Bool) (xs ys : List Value) (places new : List ℕ) (n : ℕ) → n ≡ length xs → AreMarksAt n ms places ns → new ≡ inside n places → ys ≡ gathered Null xs new
    → marked Null ns ys ≡ gathered Null (marked Null ms xs) places
taken_inside ms ns xs ys places new n l h e o =
    let f : ys ≡ gathered Null xs (inside n places) = o ∙ ap (gathered Null xs) e in
    let zs = gathered Null xs places in
    let m : length zs ≡ length places = length-map places (λ i. get_or xs i Null) in
    let q : length (gathered Null xs (inside n places)) ≡ length zs = length-map (inside n places) (λ i. get_or xs i Null) ∙ length-map places (λ i. cond (nat_le n i) 0 i) ∙ sym m in
    ap (marked Null ns) f
    ∙ is-marked Null ns zs (marked Null ns (gathered Null xs (inside n places))) (length-marked Null ns (gathered Null xs (inside n places)) ∙ q)
    (λ k i. get-marked Null ns (gathered Null xs (inside n places)) k ∙ taken_inside_at ms ns xs places n l h k (omega (arith, i, m)))
    ∙ taken_at ms ns xs zs places n l h refl

-- nothing stands in an empty list
pub nothing_there : (vs : List Value) (places : List ℕ) (n : ℕ) → length vs ≡ 0 → n ≡ length places → replicate n Null ≡ gathered Null vs places
nothing_there [] places n e h = ap (λ m. replicate m Null) h ∙ nulls places
  where
    nulls : (places : List ℕ) → replicate (length places) Null ≡ gathered Null [] places
    nulls [] = refl
    nulls (p ∷ places) = ap (λ vs. Null ∷ vs) (nulls places)
nothing_there (v ∷ vs) places n e h = absurd (omega (arith, e))

-- pushes
pub same_kept : (ms ns : List Bool) (xs ys : List Value) → SameMarks ms ns → ys ≡ xs → marked Null ns ys ≡ marked Null ms xs
same_kept ms ns xs ys h e = ap (marked Null ns) e ∙ same-marked Null ns ms xs (λ i l. h i)

-- a mark past the end counts for nothing
pub kept_past : (ms ns : List Bool) (xs ys : List Value) (n : ℕ) (b : Bool) → IsMarkSet ms ns n b → n ≡ length xs → ys ≡ xs → marked Null ns ys ≡ marked Null ms xs
kept_past ms ns xs ys n b h l e = ap (marked Null ns) e
    ∙ same-marked Null ns ms xs (λ i k. h i ∙ ap (λ t. cond t b (has ms i)) (ne_eqb i n (λ f. omega (arith, f, l, k, ap length e))))

pub with_null : (ms ns : List Bool) (xs ys : List Value) (n : ℕ) → IsMarkSet ms ns n true → n ≡ length xs → IsLonger xs ys → marked Null ns ys ≡ marked Null ms xs ++ Null ∷ []
with_null ms ns xs ys n h l o =
    let g : IsMarkSet ms ns (length xs) true = rw (sym l) h in
    ap (marked Null ns) o.is ∙ sym (null-pushed Null o.more ms ns xs g)

pub with_value : (ms ns : List Bool) (xs ys : List Value) (n : ℕ) (v : Value) → IsMarkSet ms ns n false → n ≡ length xs → ys ≡ xs ++ v ∷ [] → marked Null ns ys ≡ marked Null ms xs ++ v ∷ []
with_value ms ns xs ys n v h l e =
    let g : IsMarkSet ms ns (length xs) false = rw (sym l) h in
    ap (marked Null ns) e ∙ sym (value-pushed Null v ms ns xs g)

-- a null where it was put
pub null_put : (done : Bool) (ms ns : List Bool) (xs ys : List Value) (n : ℕ) → IsMarkSet ms ns n true → n ≡ length xs → IsPadded done xs ys
    → marked Null ns ys ≡ (if done then marked Null ms xs ++ Null ∷ [] else marked Null ms xs)
null_put true ms ns xs ys n h l o = with_null ms ns xs ys n h l o
null_put false ms ns xs ys n h l o = kept_past ms ns xs ys n true h l o

-- a value where it was put
pub value_put : (done : Bool) (ms ns : List Bool) (xs ys : List Value) (n : ℕ) (v : Value) → IsMarkSet ms ns n false → n ≡ length xs → ys ≡ (if done then xs ++ v ∷ [] else xs)
    → marked Null ns ys ≡ (if done then marked Null ms xs ++ v ∷ [] else marked Null ms xs)
value_put true ms ns xs ys n v h l o = with_value ms ns xs ys n v h l o
value_put false ms ns xs ys n v h l o = kept_past ms ns xs ys n false h l o

-- marks of the first places alone count
pub kept_front : (ms os : List Bool) (xs zs : List Value) (n : ℕ) → ((i : ℕ) → i < n → has os i ≡ has ms i) → n ≡ length xs → zs ≡ xs → marked Null os zs ≡ marked Null ms xs
kept_front ms os xs zs n h l e = ap (marked Null os) e ∙ same-marked Null os ms xs (λ i k. h i (omega (arith, k, l)))

pub all_put : (done : Bool) (ms ns os : List Bool) (xs ys zs : List Value) (n m : ℕ) → AreAppended n ms m ns os → n ≡ length xs → m ≡ length ys → zs ≡ (if done then xs ++ ys else xs)
    → marked Null os zs ≡ (if done then marked Null ms xs ++ marked Null ns ys else marked Null ms xs)
all_put true ms ns os xs ys zs n m h k l e =
    let g : AreAppended (length xs) ms (length ys) ns os = rw (← k, ← l) h in
    ap (marked Null os) e ∙ sym (appended-marked Null ms ns os xs ys g)
all_put false ms ns os xs ys zs n m h k l e = kept_front ms os xs zs n h.before k e

pub on_err : {T E P : Type 0} (r : Result T E) → P → OnErr r P
on_err (Ok x) p = tt {0}
on_err (Err e) p = p

pub none_set : (ms ns : List Bool) (n : ℕ) → ms ≡ [] → ns ≡ ms → IsMarkSet ms ns n false
none_set ms ns n e f i = ap (λ os. has os i) (f ∙ e) ∙ sym (no_mark (nat_eq i n)) ∙ ap (λ os. cond (nat_eq i n) false (has os i)) (sym e)
  where
    no_mark : (b : Bool) → cond b false false ≡ false
    no_mark true = refl
    no_mark false = refl

pub ruleset marks = (none_set, with_value, kept_past)

pub ruleset columns = (long-marked, null_there, value_there, no_number_there, no_text_there, unmarked_is, of_any_form)

pub ruleset forms = (unmarked_is)
