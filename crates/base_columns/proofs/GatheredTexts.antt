-- Lemmas on texts that are taken by their places and put one after the other.
use Rattle.std.proofs.Common.{◌≡◌, ℕ, ◌+◌, ◌<◌, suc, zero, List, [], ◌∷◌, ◌++◌, refl, sym, ap, ◌∙◌, subst, arith, length, get_or, take, length-append, append_assoc}
use Rattle.std.specs.List.{All}
use Rattle.std.proofs.lemmas.List.{take_more}
use Rattle.base_text.specs.Printable.{AllPrintable}
use Rattle.base_columns.specs.Lists.{gathered, AreBelow, one_list}
use Rattle.base_columns.specs.Texts.{cut, texts_between, AreEnds, texts_of, AreTexts, ends_of}
use Rattle.base_columns.proofs.TextLists.{cut_before, cut_last}
use Rattle.base_columns.proofs.CodeLists.{gathered-push}
use Rattle.base_columns.proofs.RowLists.{one_list-push}

-- one text more
ends_push : (k : ℕ) (ts : List (List ℕ)) (t : List ℕ) → ends_of k (ts ++ t ∷ []) ≡ ends_of k ts ++ (k + length (one_list ts) + length t) ∷ []
unfolding ends_of
ends_push k [] t = let e : k + length t ≡ k + 0 + length t = omega arith in ap (λ n. n ∷ []) e
ends_push k (s ∷ ts) t =
    let e : k + length s + length (one_list ts) + length t ≡ k + length (s ++ one_list ts) + length t = omega (arith, length-append s (one_list ts)) in
    ap (λ xs. (k + length s) ∷ xs) (ends_push (k + length s) ts t) ∙ ap (λ n. (k + length s) ∷ (ends_of (k + length s) ts ++ n ∷ [])) e

-- a loop's step: the end and the length of one text more
pub ends_step : (ts : List (List ℕ)) (places : List ℕ) (i : ℕ) (ends new : List ℕ) (total next n : ℕ) → ends ≡ ends_of 0 (gathered [] ts places) → total ≡ length (one_list (gathered [] ts places))
    → n ≡ length (get_or ts i []) → next ≡ total + n → new ≡ ends ++ next ∷ []
    → (new ≡ ends_of 0 (gathered [] ts (places ++ i ∷ []))) × (next ≡ length (one_list (gathered [] ts (places ++ i ∷ []))))
ends_step ts places i ends new total next n e t l x w =
    let gs = gathered [] ts places in
    let g : gathered [] ts (places ++ i ∷ []) ≡ gs ++ get_or ts i [] ∷ [] = gathered-push [] ts places i in
    let s : next ≡ 0 + length (one_list gs) + length (get_or ts i []) = omega (arith, t, l, x) in (
      w ∙ ap (λ xs. xs ++ next ∷ []) e ∙ ap (λ k. ends_of 0 gs ++ k ∷ []) s ∙ sym (ends_push 0 gs (get_or ts i [])) ∙ ap (ends_of 0) (sym g),
      (let q : length (one_list (gs ++ get_or ts i [] ∷ [])) ≡ length (one_list gs) + length (get_or ts i []) = ap length (one_list-push gs (get_or ts i [])) ∙ length-append (one_list gs) (get_or ts i []) in
          let r : next ≡ length (one_list gs) + length (get_or ts i []) = omega (arith, s) in
          r ∙ sym q ∙ ap (λ xs. length (one_list xs)) (sym g)),
    )

pub bytes_step : (ts : List (List ℕ)) (places : List ℕ) (i : ℕ) (bytes new us : List ℕ) → bytes ≡ one_list (gathered [] ts places) → us ≡ get_or ts i [] → new ≡ bytes ++ us
    → new ≡ one_list (gathered [] ts (places ++ i ∷ []))
bytes_step ts places i bytes new us b u w =
    let gs = gathered [] ts places in
    w ∙ ap (λ xs. xs ++ us) b ∙ ap (λ xs. one_list gs ++ xs) u ∙ sym (one_list-push gs (get_or ts i [])) ∙ ap one_list (sym (gathered-push [] ts places i))

pub ends_none : ends_of 0 [] ≡ []
unfolding ends_of
ends_none = refl

-- the same of a loop over places
pub ends_more : (ts : List (List ℕ)) (places : List ℕ) (i : ℕ) (ends new : List ℕ) (total next n : ℕ) → i < length places → ends ≡ ends_of 0 (gathered [] ts (take i places))
    → total ≡ length (one_list (gathered [] ts (take i places))) → n ≡ length (get_or ts (get_or places i 0) []) → next ≡ total + n → new ≡ ends ++ next ∷ []
    → (new ≡ ends_of 0 (gathered [] ts (take (i + 1) places))) × (next ≡ length (one_list (gathered [] ts (take (i + 1) places))))
ends_more ts places i ends new total next n h e t l x w =
    let m : take (i + 1) places ≡ take i places ++ get_or places i 0 ∷ [] = take_more places i 0 h in
    let s = ends_step ts (take i places) (get_or places i 0) ends new total next n e t l x w in
    (s.0 ∙ ap (λ ps. ends_of 0 (gathered [] ts ps)) (sym m), s.1 ∙ ap (λ ps. length (one_list (gathered [] ts ps))) (sym m))

pub bytes_more : (ts : List (List ℕ)) (places : List ℕ) (i : ℕ) (bytes new us : List ℕ) → i < length places → bytes ≡ one_list (gathered [] ts (take i places))
    → us ≡ get_or ts (get_or places i 0) [] → new ≡ bytes ++ us → new ≡ one_list (gathered [] ts (take (i + 1) places))
bytes_more ts places i bytes new us h b u w =
    bytes_step ts (take i places) (get_or places i 0) bytes new us b u w ∙ ap (λ ps. one_list (gathered [] ts ps)) (sym (take_more places i 0 h))

-- texts between their ends
ends_hold : (k : ℕ) (ts : List (List ℕ)) → AreEnds k (ends_of k ts) (k + length (one_list ts))
unfolding AreEnds ends_of
ends_hold k [] = omega arith
ends_hold k (t ∷ ts) =
    let e : k + length t + length (one_list ts) ≡ k + length (t ++ one_list ts) = omega (arith, length-append t (one_list ts)) in
    (omega arith, subst (AreEnds (k + length t) (ends_of (k + length t) ts)) e (ends_hold (k + length t) ts))

texts_found : (pre : List ℕ) (k : ℕ) (ts : List (List ℕ)) → k ≡ length pre → texts_between (pre ++ one_list ts) k (ends_of k ts) ≡ ts
unfolding texts_between ends_of
texts_found pre k [] e = refl
texts_found pre k (t ∷ ts) e =
    let n : length (pre ++ t) ≡ k + length t = omega (arith, length-append pre t, e) in
    let l : pre ++ (t ++ one_list ts) ≡ (pre ++ t) ++ one_list ts = sym (append_assoc pre t (one_list ts)) in
    let first : cut ((pre ++ t) ++ one_list ts) k (k + length t) ≡ t = cut_within pre t (one_list ts) k e in
    ap (λ bs. texts_between bs k (ends_of k (t ∷ ts))) l
    ∙ ap (λ x. x ∷ texts_between ((pre ++ t) ++ one_list ts) (k + length t) (ends_of (k + length t) ts)) first
    ∙ ap (λ xs. t ∷ xs) (texts_found (pre ++ t) (k + length t) ts (sym n))
  where
    cut_within : (pre t rest : List ℕ) (k : ℕ) → k ≡ length pre → cut ((pre ++ t) ++ rest) k (k + length t) ≡ t
    cut_within pre t rest k e =
        cut_before (pre ++ t) rest k (k + length t) (omega arith) (omega (arith, length-append pre t, e))
        ∙ cut_last pre t k (k + length t) e (omega (arith, e))

pub gathered_texts : (bs es : List ℕ) (places new ends : List ℕ) (seen : List (List ℕ)) → seen ≡ texts_of bs es → AreTexts bs es → AreBelow (length seen) places
    → new ≡ one_list (gathered [] seen places) → ends ≡ ends_of 0 (gathered [] seen places)
    → AreTexts new ends × (texts_of new ends ≡ gathered [] seen places)
unfolding AreTexts texts_of
gathered_texts bs es places new ends seen s a h n e =
    let ts = gathered [] seen places in
    let f : texts_between new 0 ends ≡ ts = ap (λ xs. texts_between xs 0 ends) n ∙ ap (texts_between (one_list ts) 0) e ∙ texts_found [] 0 ts refl in
    let z : 0 + length (one_list ts) ≡ length new = (let o : 0 + length (one_list ts) ≡ length (one_list ts) = omega arith in o) ∙ ap length (sym n) in
    let p : All AllPrintable seen = subst (All AllPrintable) (sym s) a.1 in
    ((subst (λ xs. AreEnds 0 xs (length new)) (sym e) (subst (AreEnds 0 (ends_of 0 ts)) z (ends_hold 0 ts)), subst (All AllPrintable) (sym f) (printable_gathered seen places h p)), f)
  where
    printable_gathered : (ts : List (List ℕ)) (places : List ℕ) → AreBelow (length ts) places → All AllPrintable ts → All AllPrintable (gathered [] ts places)
    printable_gathered ts [] h p k d l = absurd (omega (arith, l))
    printable_gathered ts (i ∷ places) h p zero d l = p i [] (h 0 0 (omega arith))
    printable_gathered ts (i ∷ places) h p (suc k) d l = printable_gathered ts places (λ j c m. h (suc j) c (omega (arith, m))) p k d (omega (arith, l))
