-- What holds of each element after one is set.
use Rattle.std.proofs.Common.{◌≡◌, ◌≢◌, ℕ, ◌<◌, Bool, true, false, nat_eq, zero, suc, List, [], ◌∷◌, ◌++◌, length, length-append, take, drop, slice_index_or, slice_set, refl, sym, subst, ap, ◌∙◌, arith}
use Rattle.std.proofs.Math.ListN.{length-set}
use Rattle.std.proofs.lemmas.Bool.Decides.{nat_tests}
use Rattle.std.proofs.lemmas.List.{get_or-set_same, get_or-set_other, get_or_append_left, get_or_default}
use Rattle.std.proofs.Math.Seq.{get_or-append_seam, take-append_seam}
use Rattle.app_sessions.specs.Asked.{SameSessions, job_session}
use Rattle.app_sessions.specs.declared.session.Session.{Session}

pub alike : (i j : ℕ) → nat_eq i j ≡ true → i ≡ j
alike i j is = grind (arith, nat_tests)

pub apart : (i j : ℕ) → nat_eq i j ≡ false → i ≢ j
apart i j is same = grind (arith, nat_tests)

set-case : {X : Type 0} (P : X → Type 0) (xs : List X) (j : ℕ) (y : X) (i : ℕ) (d : X) (b : Bool) → nat_eq i j ≡ b → i < length xs → (i ≢ j → P (slice_index_or xs i d)) → (i ≡ j → P y) → P (slice_index_or (slice_set xs j y) i d)
set-case P xs j y i d true is less other this = let e = alike i j is in subst P (sym (ap (λ k. slice_index_or (slice_set xs j y) k d) e ∙ get_or-set_same xs j y d (subst (λ k. k < length xs) e less))) (this e)
set-case P xs j y i d false is less other this = let n = apart i j is in subst P (sym (get_or-set_other xs j i y d n)) (other n)

pub set-each : {X : Type 0} (P : X → Type 0) (xs : List X) (j : ℕ) (y : X) (i : ℕ) (d : X) → i < length xs → (i ≢ j → P (slice_index_or xs i d)) → (i ≡ j → P y) → P (slice_index_or (slice_set xs j y) i d)
set-each P xs j y i d less other this = set-case P xs j y i d (nat_eq i j) refl less other this

-- one session that keeps its statements, and the others stay
pub same-set : (olds news : List Session) (j : ℕ) (c : Session) → SameSessions olds news → j < length news → job_session c ≡ job_session (slice_index_or news j c) → SameSessions olds (slice_set news j c)
same-set olds news j c s less q =
    record {
      len = length-set news j c ∙ s.len;
      each = λ i d within. set-case (λ x. job_session x ≡ job_session (slice_index_or olds i d)) news j c i d (nat_eq i j) refl (subst (λ n. i < n) (sym s.len) within) (λ _. s.each i d within) (λ e. q ∙ (ap job_session (get_or_default news j c d less) ∙ (ap (λ k. job_session (slice_index_or news k d)) (sym e) ∙ s.each i d within)));
    }

-- what holds of each element of a list and of one after it
pub each-more : {X : Type 0} (P : X → Type 0) (xs : List X) (x : X) → ((i : ℕ) (d : X) → i < length xs → P (slice_index_or xs i d)) → P x → (i : ℕ) (d : X) → i < length (xs ++ x ∷ []) → P (slice_index_or (xs ++ x ∷ []) i d)
each-more P [] x all this zero d less = this
each-more P [] x all this (suc i) d less = absurd (omega arith)
each-more P (y ∷ ys) x all this zero d less = all 0 d (omega arith)
each-more P (y ∷ ys) x all this (suc i) d less = each-more P ys x (λ j e l. all (suc j) e (omega arith)) this i d (omega arith)

pub each-front : {X : Type 0} (P : X → Type 0) (xs ys : List X) → ((i : ℕ) (d : X) → i < length (xs ++ ys) → P (slice_index_or (xs ++ ys) i d)) → (i : ℕ) (d : X) → i < length xs → P (slice_index_or xs i d)
each-front P xs ys all i d less = subst P (get_or_append_left xs ys d i less) (all i d (let l = length-append xs ys in omega arith))

pub each-last : {X : Type 0} (P : X → Type 0) (xs : List X) (y : X) → ((i : ℕ) (d : X) → i < length (xs ++ y ∷ []) → P (slice_index_or (xs ++ y ∷ []) i d)) → P y
each-last P xs y all = subst P (get_or-append_seam xs y [] y) (all (length xs) y (let l = length-append xs (y ∷ []) in omega arith))

-- a vector whose slice was written whole holds what was written
pub refilled : {X : Type 0} (xs ys : List X) (n : ℕ) → n ≡ length xs → length ys ≡ length xs → take n (ys ++ drop (length ys) xs) ≡ ys
refilled xs ys n a b = ap (λ m. take m (ys ++ drop (length ys) xs)) (a ∙ sym b) ∙ take-append_seam ys (drop (length ys) xs)
