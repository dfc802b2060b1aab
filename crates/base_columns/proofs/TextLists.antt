-- Lemmas on texts that lie one after the other.
use Rattle.std.proofs.Common.{◌≡◌, ℕ, ◌+◌, ◌-◌, ◌<◌, ◌≤◌, suc, zero, List, [], ◌∷◌, ◌++◌, refl, sym, ap, ◌∙◌, subst, arith, length, get_or, take, drop, length-append}
use Rattle.std.specs.List.{All}
use Rattle.std.proofs.lemmas.List.{take-append-le, drop-append-le, drop_at, take_all, length-drop, length-take-le, take-take, drop-take, drop-drop, take-append-drop}
use Rattle.base_columns.specs.Texts.{cut, texts_between, AreEnds, texts_of, AreTexts}
use Rattle.base_text.specs.Printable.{AllPrintable}
use Rattle.base_text.proofs.Printables.{append_printable}
use Rattle.std.proofs.lemmas.List.Elements.{All-push, All-take}

pub texts-length : (bs : List ℕ) (k : ℕ) (es : List ℕ) → length (texts_between bs k es) ≡ length es
unfolding texts_between
texts-length bs k [] = refl
texts-length bs k (e ∷ es) = ap suc (texts-length bs e es)

pub texts_at : (bs : List ℕ) (k : ℕ) (es : List ℕ) (i : ℕ) (d : List ℕ) → i < length es
    → get_or (texts_between bs k es) i d ≡ cut bs (get_or (k ∷ es) i 0) (get_or es i 0)
unfolding texts_between
texts_at bs k [] i d h = absurd (omega (arith, h))
texts_at bs k (e ∷ es) zero d h = refl
texts_at bs k (e ∷ es) (suc i) d h = texts_at bs e es i d (omega (arith, h))

ends_from : (k : ℕ) (es : List ℕ) (n : ℕ) → AreEnds k es n → k ≤ n
unfolding AreEnds
ends_from k [] n h = h
ends_from k (e ∷ es) n h = let r : e ≤ n = ends_from e es n h.1 in omega (arith, h.0, r)

ends_at : (k : ℕ) (es : List ℕ) (n i : ℕ) → AreEnds k es n → i < length es
    → (get_or (k ∷ es) i 0 ≤ get_or es i 0) × (get_or es i 0 ≤ n)
unfolding AreEnds
ends_at k [] n i a h = absurd (omega (arith, h))
ends_at k (e ∷ es) n zero a h = (a.0, ends_from e es n a.1)
ends_at k (e ∷ es) n (suc i) a h = ends_at e es n i a.1 (omega (arith, h))

starts_at : (k : ℕ) (es : List ℕ) (n i : ℕ) → AreEnds k es n → i ≤ length es → get_or (k ∷ es) i 0 ≤ n
unfolding AreEnds
starts_at k es n zero a h = ends_from k es n a
starts_at k [] n (suc i) a h = absurd (omega (arith, h))
starts_at k (e ∷ es) n (suc i) a h = starts_at e es n i a.1 (omega (arith, h))

-- where the last text ends, the ends still hold
ends_last : (k : ℕ) (es : List ℕ) (n : ℕ) → AreEnds k es n → AreEnds k es (get_or (k ∷ es) (length es) 0)
unfolding AreEnds
ends_last k [] n a = omega arith
ends_last k (e ∷ es) n a = (a.0, ends_last e es n a.1)

-- what lies before the end of the bytes stays as more come
pub cut_before : (bs us : List ℕ) (k e : ℕ) → k ≤ e → e ≤ length bs → cut (bs ++ us) k e ≡ cut bs k e
cut_before bs us k e h l =
    let m : k ≤ length bs = omega (arith, h, l) in
    ap (take (e - k)) (drop-append-le k bs us m) ∙ take-append-le (e - k) (drop k bs) us (omega (arith, h, l, length-drop k bs))

pub cut_last : (bs us : List ℕ) (k n : ℕ) → k ≡ length bs → n ≡ length bs + length us → cut (bs ++ us) k n ≡ us
cut_last bs us k n e f = ap (take (n - k)) (drop_at bs us k (sym e)) ∙ take_all (n - k) us (omega (arith, e, f))

texts_more : (bs us : List ℕ) (k : ℕ) (es : List ℕ) → AreEnds k es (length bs) → texts_between (bs ++ us) k es ≡ texts_between bs k es
unfolding AreEnds texts_between
texts_more bs us k [] a = refl
texts_more bs us k (e ∷ es) a =
    rw (cut_before bs us k e a.0 (ends_from e es (length bs) a.1), texts_more bs us e es a.1) refl

ends_more : (k : ℕ) (es : List ℕ) (m n : ℕ) → AreEnds k es m → m ≤ n → AreEnds k es n
unfolding AreEnds
ends_more k [] m n a h = omega (arith, a, h)
ends_more k (e ∷ es) m n a h = (a.0, ends_more e es m n a.1 h)

texts_push : (bs us : List ℕ) (k : ℕ) (es : List ℕ) (n : ℕ) → AreEnds k es (length bs) → get_or (k ∷ es) (length es) 0 ≡ length bs → n ≡ length bs + length us
    → texts_between (bs ++ us) k (es ++ n ∷ []) ≡ texts_between bs k es ++ us ∷ []
unfolding AreEnds texts_between
texts_push bs us k [] n a l e = ap (λ t. t ∷ []) (cut_last bs us k n l e)
texts_push bs us k (e ∷ es) n a l f =
    rw (cut_before bs us k e a.0 (ends_from e es (length bs) a.1), texts_push bs us e es n a.1 l f) refl

ends_push : (k : ℕ) (es : List ℕ) (m n : ℕ) → AreEnds k es m → m ≤ n → AreEnds k (es ++ n ∷ []) n
unfolding AreEnds
ends_push k [] m n a h = (omega (arith, a, h), omega arith)
ends_push k (e ∷ es) m n a h = (a.0, ends_push e es m n a.1 h)

ends_taken : (k : ℕ) (es : List ℕ) (m i : ℕ) → AreEnds k es m → AreEnds k (take i es) m
unfolding AreEnds
ends_taken k es m zero a = ends_from k es m a
ends_taken k [] m (suc i) a = a
ends_taken k (e ∷ es) m (suc i) a = (a.0, ends_taken e es m i a.1)

texts_taken : (bs : List ℕ) (k : ℕ) (es : List ℕ) (i : ℕ) → texts_between bs k (take i es) ≡ take i (texts_between bs k es)
unfolding texts_between
texts_taken bs k es zero = refl
texts_taken bs k [] (suc i) = refl
texts_taken bs k (e ∷ es) (suc i) = ap (λ ts. cut bs k e ∷ ts) (texts_taken bs e es i)

-- what lies before the new end of the bytes stays as the rest goes
cut_shorter : (bs : List ℕ) (k e m : ℕ) → k ≤ e → e ≤ m → cut (take m bs) k e ≡ cut bs k e
cut_shorter bs k e m h l =
    let f : k + (m - k) ≡ m = omega (arith, h, l) in
    ap (take (e - k)) (ap (λ j. drop k (take j bs)) (sym f) ∙ drop-take k (m - k) bs) ∙ take-take (e - k) (m - k) (drop k bs) (omega (arith, h, l))

texts_trim : (bs : List ℕ) (k : ℕ) (es : List ℕ) (m : ℕ) → AreEnds k es m → texts_between (take m bs) k es ≡ texts_between bs k es
unfolding AreEnds texts_between
texts_trim bs k [] m a = refl
texts_trim bs k (e ∷ es) m a =
    rw (cut_shorter bs k e m a.0 (ends_from e es m a.1), texts_trim bs e es m a.1) refl

-- two parts that meet
cut_joined : (bs : List ℕ) (k e m : ℕ) → k ≤ e → e ≤ m → cut bs k m ≡ cut bs k e ++ cut bs e m
cut_joined bs k e m h l =
    let f : (e - k) + (m - e) ≡ m - k = omega (arith, h, l) in
    let g : k + (e - k) ≡ e = omega (arith, h) in
    sym (take-append-drop (e - k) (cut bs k m))
    ∙ ap (λ xs. xs ++ drop (e - k) (cut bs k m)) (take-take (e - k) (m - k) (drop k bs) (omega (arith, h, l)))
    ∙ ap (λ xs. cut bs k e ++ xs) (ap (λ j. drop (e - k) (take j (drop k bs))) (sym f) ∙ drop-take (e - k) (m - e) (drop k bs) ∙ ap (take (m - e)) (drop-drop (e - k) k bs ∙ ap (λ j. drop j bs) g))

-- the texts together are printable
whole_printable : (bs : List ℕ) (k : ℕ) (es : List ℕ) (n : ℕ) → AreEnds k es n → All AllPrintable (texts_between bs k es)
    → AllPrintable (cut bs k (get_or (k ∷ es) (length es) 0))
unfolding AreEnds texts_between
whole_printable bs k [] n a p = let z : k - k ≡ 0 = omega arith in rw z refl
whole_printable bs k (e ∷ es) n a p =
    let last = get_or (e ∷ es) (length es) 0 in
    let l : e ≤ last = ends_from e es last (ends_last e es n a.1) in
    subst AllPrintable (sym (cut_joined bs k e last a.0 l))
    (append_printable (cut bs k e) (cut bs e last) (p 0 [] (omega arith)) (whole_printable bs e es n a.1 (λ i d h. p (suc i) d (omega (arith, h)))))

pub of_nil : texts_of [] [] ≡ []
unfolding texts_of texts_between
of_nil = refl

pub are_nil : AreTexts [] []
unfolding AreTexts AreEnds texts_of texts_between
are_nil = (omega arith, λ k d h. absurd (omega (arith, h)))

pub of-length : (bs es : List ℕ) → length (texts_of bs es) ≡ length es
unfolding texts_of
of-length bs es = texts-length bs 0 es

pub of_at : (bs es : List ℕ) (i : ℕ) (d : List ℕ) → i < length es → get_or (texts_of bs es) i d ≡ cut bs (get_or (0 ∷ es) i 0) (get_or es i 0)
unfolding texts_of
of_at bs es i d h = texts_at bs 0 es i d h

pub start_at : (bs es : List ℕ) (i : ℕ) → AreTexts bs es → i < length es → get_or (0 ∷ es) i 0 ≤ get_or es i 0
unfolding AreTexts
start_at bs es i a h = (ends_at 0 es (length bs) i a.0 h).0

pub end_at : (bs es : List ℕ) (i : ℕ) → AreTexts bs es → i < length es → get_or es i 0 ≤ length bs
unfolding AreTexts
end_at bs es i a h = (ends_at 0 es (length bs) i a.0 h).1

pub printable_at : (bs es : List ℕ) (i : ℕ) → AreTexts bs es → i < length es → AllPrintable (cut bs (get_or (0 ∷ es) i 0) (get_or es i 0))
unfolding AreTexts
printable_at bs es i a h =
    subst AllPrintable (of_at bs es i [] h) (a.1 i [] (omega (arith, h, of-length bs es)))

-- the end of the last text
pub last_within : (bs es : List ℕ) (m : ℕ) → AreTexts bs es → m ≡ get_or (0 ∷ es) (length es) 0 → m ≤ length bs
unfolding AreTexts
last_within bs es m a e = rw e (starts_at 0 es (length bs) (length es) a.0 (omega arith))

pub of_trim : (bs es : List ℕ) (m : ℕ) → AreTexts bs es → m ≡ get_or (0 ∷ es) (length es) 0 → texts_of (take m bs) es ≡ texts_of bs es
unfolding AreTexts texts_of
of_trim bs es m a e = rw e (texts_trim bs 0 es _ (ends_last 0 es (length bs) a.0))

pub are_trim : (bs es : List ℕ) (m : ℕ) → AreTexts bs es → m ≡ get_or (0 ∷ es) (length es) 0 → AreTexts (take m bs) es
unfolding AreTexts
are_trim bs es m a e =
    (subst (AreEnds 0 es) (sym e ∙ sym (length-take-le m bs (last_within bs es m a e))) (ends_last 0 es (length bs) a.0), subst (All AllPrintable) (sym (of_trim bs es m a e)) a.1)

pub whole_is_printable : (bs es : List ℕ) (m : ℕ) → AreTexts bs es → m ≡ get_or (0 ∷ es) (length es) 0 → AllPrintable (take m bs)
unfolding AreTexts texts_of
whole_is_printable bs es m a e =
    let z : m - 0 ≡ m = omega arith in
    subst (λ j. AllPrintable (take j bs)) z (subst (λ l. AllPrintable (cut bs 0 l)) (sym e) (whole_printable bs 0 es (length bs) a.0 a.1))

pub of_push : (bs us es : List ℕ) (m n : ℕ) → AreTexts bs es → m ≡ get_or (0 ∷ es) (length es) 0 → n ≡ m + length us
    → texts_of (take m bs ++ us) (es ++ n ∷ []) ≡ texts_of bs es ++ us ∷ []
unfolding AreTexts texts_of
of_push bs us es m n a e f =
    let l : length (take m bs) ≡ m = length-take-le m bs (last_within bs es m a e) in
    texts_push (take m bs) us 0 es n (are_trim bs es m a e).0 (sym (l ∙ e)) (omega (arith, f, l))
    ∙ ap (λ ts. ts ++ us ∷ []) (of_trim bs es m a e)

pub are_push : (bs us es : List ℕ) (m n : ℕ) → AreTexts bs es → AllPrintable us → m ≡ get_or (0 ∷ es) (length es) 0 → n ≡ m + length us
    → AreTexts (take m bs ++ us) (es ++ n ∷ [])
unfolding AreTexts
are_push bs us es m n a p e f =
    let l : length (take m bs) ≡ m = length-take-le m bs (last_within bs es m a e) in
    let g : length (take m bs ++ us) ≡ n = length-append (take m bs) us ∙ omega (arith, f, l) in (
      subst (AreEnds 0 (es ++ n ∷ [])) (sym g) (ends_push 0 es m n (subst (AreEnds 0 es) l (are_trim bs es m a e).0) (omega (arith, f))),
      subst (All AllPrintable) (sym (of_push bs us es m n a e f)) (All-push AllPrintable (texts_of bs es) us a.1 p),
    )

-- bytes after the last text
pub of_more : (bs us es : List ℕ) → AreTexts bs es → texts_of (bs ++ us) es ≡ texts_of bs es
unfolding AreTexts texts_of
of_more bs us es a = texts_more bs us 0 es a.0

pub are_more : (bs us es : List ℕ) → AreTexts bs es → AreTexts (bs ++ us) es
unfolding AreTexts
are_more bs us es a =
    (ends_more 0 es (length bs) (length (bs ++ us)) a.0 (omega (arith, length-append bs us)), subst (All AllPrintable) (sym (of_more bs us es a)) a.1)

pub of_take : (bs es : List ℕ) (i : ℕ) → texts_of bs (take i es) ≡ take i (texts_of bs es)
unfolding texts_of
of_take bs es i = texts_taken bs 0 es i

pub are_take : (bs es : List ℕ) (i : ℕ) → AreTexts bs es → AreTexts bs (take i es)
unfolding AreTexts
are_take bs es i a =
    (ends_taken 0 es (length bs) i a.0, subst (All AllPrintable) (sym (of_take bs es i)) (All-take AllPrintable i (texts_of bs es) a.1))

pub ruleset texts = (of_nil, are_nil, of-length, of_at, start_at, end_at, printable_at, last_within, of_trim, are_trim, whole_is_printable, of_push, are_push, of_more, are_more, of_take, are_take)
