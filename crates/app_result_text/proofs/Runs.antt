-- Texts copied run by run, with a backslash before some bytes.
use Rattle.std.proofs.Common.{◌≡◌, ℕ, zero, suc, ◌+◌, ◌-◌, ◌<◌, ◌≤◌, ◌||◌, ◌==◌, true, false, List, [], ◌∷◌, ◌++◌, length, take, drop, get_or, refl, sym, ap, ◌∙◌, arith, append_assoc, length-drop, get_or-drop, cond, Bool}
use Rattle.std.proofs.lemmas.List.{take_more}
use Rattle.app_result_text.specs.Answer.{escaped}

abbrev is_escaped : ℕ → Bool
is_escaped c = c == 92 || c == 124

-- the bytes from a place on
abbrev one : ℕ → List ℕ
one c = cond (is_escaped c) (92 ∷ c ∷ []) (c ∷ [])

escaped_from : (plain : List ℕ) (i : ℕ) → i < length plain → escaped (drop i plain) ≡ one (get_or plain i 0) ++ escaped (drop (suc i) plain)
escaped_from [] i h = absurd (omega (arith, h))
escaped_from (c ∷ plain) zero h = refl
escaped_from (c ∷ plain) (suc i) h = escaped_from plain i (omega (arith, h))

-- a run with one byte more
run_more : (plain : List ℕ) (start i : ℕ) → start ≤ i → i < length plain
    → take (i + 1 - start) (drop start plain) ≡ take (i - start) (drop start plain) ++ get_or plain i 0 ∷ []
run_more plain start i s h =
    let next : i + 1 - start ≡ i - start + 1 = omega (arith, s) in
    let place : start + (i - start) ≡ i = omega (arith, s) in
    ap (λ n. take n (drop start plain)) next
    ∙ take_more (drop start plain) (i - start) 0 (omega (arith, s, h, length-drop start plain))
    ∙ ap (λ c. take (i - start) (drop start plain) ++ c ∷ []) (get_or-drop start plain (i - start) 0 ∙ ap (λ n. get_or plain n 0) place)

-- a byte goes on with its run
pub run_goes_on : (plain text whole : List ℕ) (start i : ℕ) → start ≤ i → i < length plain → is_escaped (get_or plain i 0) ≡ false
    → (text ++ take (i - start) (drop start plain)) ++ escaped (drop i plain) ≡ whole
    → (text ++ take (i + 1 - start) (drop start plain)) ++ escaped (drop (i + 1) plain) ≡ whole
run_goes_on plain text whole start i s h b e =
    let next : i + 1 ≡ suc i = omega arith in
    let c : ℕ = get_or plain i 0 in
    let front : List ℕ = take (i - start) (drop start plain) in
    let here : escaped (drop i plain) ≡ c ∷ escaped (drop (i + 1) plain) = escaped_from plain i h ∙ rw (b, next) refl in
    ap (λ run. (text ++ run) ++ escaped (drop (i + 1) plain)) (run_more plain start i s h)
    ∙ ap (λ more. more ++ escaped (drop (i + 1) plain)) (sym (append_assoc text front (c ∷ [])))
    ∙ append_assoc (text ++ front) (c ∷ []) (escaped (drop (i + 1) plain))
    ∙ ap (λ more. (text ++ front) ++ more) (sym here)
    ∙ e

-- a run begins at a byte that a backslash stands before
pub run_begins : (plain text copied new whole : List ℕ) (start i : ℕ) → i < length plain → is_escaped (get_or plain i 0) ≡ true
    → (text ++ take (i - start) (drop start plain)) ++ escaped (drop i plain) ≡ whole
    → copied ≡ text ++ take (i - start) (drop start plain)
    → new ≡ copied ++ 92 ∷ []
    → (new ++ take (i + 1 - i) (drop i plain)) ++ escaped (drop (i + 1) plain) ≡ whole
run_begins plain text copied new whole start i h b e k n =
    let next : i + 1 ≡ suc i = omega arith in
    let c : ℕ = get_or plain i 0 in
    let here : escaped (drop i plain) ≡ 92 ∷ c ∷ escaped (drop (i + 1) plain) = escaped_from plain i h ∙ rw (b, next) refl in
    let none : i - i ≡ 0 = omega arith in
    let run : take (i + 1 - i) (drop i plain) ≡ c ∷ [] = run_more plain i i (omega arith) h ∙ rw none refl in
    ap (λ more. (new ++ more) ++ escaped (drop (i + 1) plain)) run
    ∙ ap (λ more. (more ++ c ∷ []) ++ escaped (drop (i + 1) plain)) n
    ∙ append_assoc (copied ++ 92 ∷ []) (c ∷ []) (escaped (drop (i + 1) plain))
    ∙ append_assoc copied (92 ∷ []) (c ∷ escaped (drop (i + 1) plain))
    ∙ ap (λ more. copied ++ more) (sym here)
    ∙ ap (λ more. more ++ escaped (drop i plain)) k
    ∙ e
