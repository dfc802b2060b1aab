-- Lemmas on standings that are all True.
use Rattle.std.proofs.Common.{◌≡◌, ℕ, suc, zero, ◌+◌, ◌<◌, List, [], ◌∷◌, ◌++◌, refl, sym, ap, ◌∙◌, arith, length, get_or, take, replicate}
use Rattle.std.specs.Prelude.{min}
use Rattle.std.proofs.lemmas.List.{length-replicate, replicate_more, get_or-replicate, take-replicate}
use Rattle.base_value.specs.declared.truth.Standing.{Standing}
use Rattle.base_value.specs.declared.truth.Fault.TheVariants.{TooManyRows, DivideByZero, NumberRange}
use Rattle.base_value.specs.declared.truth.Standing.TheVariants.{AtTrue, AtFault}
use Rattle.base_value.specs.Truth.{standing_rank, lesser_standing}
use Rattle.base_columns.specs.Standings.{lesser_standings}
use Rattle.base_columns.specs.Lists.{gathered, AreBelow}

pub gathered_true : (n : ℕ) (places : List ℕ) → AreBelow (length (replicate n AtTrue)) places → gathered AtTrue (replicate n AtTrue) places ≡ replicate (length places) AtTrue
gathered_true n [] h = refl
gathered_true n (i ∷ places) h =
    let l : i < n = omega (arith, h 0 0 (omega arith), length-replicate n AtTrue) in
    rw (get_or-replicate n i AtTrue AtTrue l, gathered_true n places (λ k c m. h (suc k) c (omega (arith, m)))) refl

pub true_at : (n i : ℕ) → i < length (replicate n AtTrue) → AtTrue ≡ get_or (replicate n AtTrue) i AtTrue
true_at n i h = sym (get_or-replicate n i AtTrue AtTrue (omega (arith, h, length-replicate n AtTrue)))

pub standing_lesser : (a b : Standing) → standing_rank (lesser_standing a b) ≡ min (standing_rank a) (standing_rank b)
standing_lesser AtTrue AtTrue = refl
standing_lesser AtTrue (AtFault TooManyRows) = refl
standing_lesser AtTrue (AtFault DivideByZero) = refl
standing_lesser AtTrue (AtFault NumberRange) = refl
standing_lesser (AtFault TooManyRows) AtTrue = refl
standing_lesser (AtFault DivideByZero) AtTrue = refl
standing_lesser (AtFault NumberRange) AtTrue = refl
standing_lesser (AtFault TooManyRows) (AtFault TooManyRows) = refl
standing_lesser (AtFault TooManyRows) (AtFault DivideByZero) = refl
standing_lesser (AtFault TooManyRows) (AtFault NumberRange) = refl
standing_lesser (AtFault DivideByZero) (AtFault TooManyRows) = refl
standing_lesser (AtFault DivideByZero) (AtFault DivideByZero) = refl
standing_lesser (AtFault DivideByZero) (AtFault NumberRange) = refl
standing_lesser (AtFault NumberRange) (AtFault TooManyRows) = refl
standing_lesser (AtFault NumberRange) (AtFault DivideByZero) = refl
standing_lesser (AtFault NumberRange) (AtFault NumberRange) = refl

lesser_left : (t : Standing) → lesser_standing AtTrue t ≡ t
lesser_left AtTrue = refl
lesser_left (AtFault TooManyRows) = refl
lesser_left (AtFault DivideByZero) = refl
lesser_left (AtFault NumberRange) = refl

lesser_right : (s : Standing) → lesser_standing s AtTrue ≡ s
lesser_right AtTrue = refl
lesser_right (AtFault TooManyRows) = refl
lesser_right (AtFault DivideByZero) = refl
lesser_right (AtFault NumberRange) = refl

pub lesser-length : (ss ts : List Standing) → length ss ≡ length ts → length (lesser_standings ss ts) ≡ length ss
lesser-length [] ts e = refl
lesser-length (s ∷ ss) [] e = absurd (omega (arith, e))
lesser-length (s ∷ ss) (t ∷ ts) e = ap suc (lesser-length ss ts (omega (arith, e)))

-- standings that are all True on one side
pub lesser_of_true : (n : ℕ) (ts : List Standing) → n ≡ length ts → lesser_standings (replicate n AtTrue) ts ≡ ts
lesser_of_true zero [] e = refl
lesser_of_true zero (t ∷ ts) e = absurd (omega (arith, e))
lesser_of_true (suc n) [] e = absurd (omega (arith, e))
lesser_of_true (suc n) (t ∷ ts) e = ap (λ x. x ∷ lesser_standings (replicate n AtTrue) ts) (lesser_left t) ∙ ap (λ xs. t ∷ xs) (lesser_of_true n ts (omega (arith, e)))

pub lesser_with_true : (n : ℕ) (ss : List Standing) → length ss ≡ n → lesser_standings ss (replicate n AtTrue) ≡ ss
lesser_with_true zero [] e = refl
lesser_with_true zero (s ∷ ss) e = absurd (omega (arith, e))
lesser_with_true (suc n) [] e = absurd (omega (arith, e))
lesser_with_true (suc n) (s ∷ ss) e = ap (λ x. x ∷ lesser_standings ss (replicate n AtTrue)) (lesser_right s) ∙ ap (λ xs. s ∷ xs) (lesser_with_true n ss (omega (arith, e)))

-- one more place of each
pub lesser_more : (ss ts : List Standing) (i : ℕ) (d e : Standing) → i < length ss → i < length ts
    → lesser_standings (take (i + 1) ss) (take (i + 1) ts) ≡ lesser_standings (take i ss) (take i ts) ++ lesser_standing (get_or ss i d) (get_or ts i e) ∷ []
lesser_more [] ts i d e h l = absurd (omega (arith, h))
lesser_more (s ∷ ss) [] i d e h l = absurd (omega (arith, l))
lesser_more (s ∷ ss) (t ∷ ts) zero d e h l = refl
lesser_more (s ∷ ss) (t ∷ ts) (suc i) d e h l =
    let n : suc i + 1 ≡ suc (i + 1) = omega arith in
    rw n (ap (λ xs. lesser_standing s t ∷ xs) (lesser_more ss ts i d e (omega (arith, h)) (omega (arith, l))))

pub replicate-joined : (m n : ℕ) → replicate (m + n) AtTrue ≡ replicate m AtTrue ++ replicate n AtTrue
replicate-joined zero n = let e : 0 + n ≡ n = omega arith in ap (λ k. replicate k AtTrue) e
replicate-joined (suc m) n = let e : suc m + n ≡ suc (m + n) = omega arith in ap (λ k. replicate k AtTrue) e ∙ ap (λ xs. AtTrue ∷ xs) (replicate-joined m n)

pub ruleset standings = (length-replicate, take-replicate, replicate_more, gathered_true, true_at, replicate-joined, lesser_of_true, lesser_with_true, lesser_more)
