-- Assigning in turn.
use Rattle.std.proofs.Common.{◌≡◌, ◌≢◌, ℕ, ◌+◌, ◌<◌, ◌≤◌, Bool, true, false, cond, nat_lt, nat_eq, add-one, zero, suc, List, [], ◌∷◌, ◌++◌, length, slice_index_or, slice_set, refl, sym, subst, ap, ◌∙◌, arith, length-append}
use Rattle.std.proofs.Math.ListN.{length-set}
use Rattle.std.proofs.lemmas.Bool.Decides.{nat_tests}
use Rattle.std.proofs.lemmas.List.{get_or_append_left, get_or_default}
use Rattle.std.proofs.Math.Seq.{get_or-append_seam}
use Rattle.app_sessions.specs.declared.session.Session.{Session}
use Rattle.app_sessions.specs.declared.worker.Worker.{Worker}
use Rattle.app_sessions.specs.Asked.{AllUnasked, IsUnasked, job_sessions}
use Rattle.app_sessions.specs.Workers.{AreAssigned, IsNumber, IsPlaced, next_place, place_of, sessions_of}
use Rattle.app_sessions.proofs.JobSets.{alike, apart, set-each}

-- each worker has as many sessions as rounds are over, and those before the turn one more
pub record IsFilled {E N A : Type 0} (ws : List (Worker E N A)) (p : ℕ × ℕ) : Type 0 where
  pub each : (i : ℕ) (w : Worker E N A) → i < length ws → length (sessions_of (slice_index_or ws i w)) ≡ p.1 + cond (nat_lt i p.0) 1 0

fill-other : (n t r i len : ℕ) (b : Bool) → nat_lt (t + 1) n ≡ b → t < n → i < n → i ≢ t → len ≡ r + cond (nat_lt i t) 1 0 → len ≡ (cond {A = ℕ × ℕ} b (t + 1, r) (0, r + 1)).1 + cond (nat_lt i (cond {A = ℕ × ℕ} b (t + 1, r) (0, r + 1)).0) 1 0
fill-other n t r i len true b within place not is = grind (arith, nat_tests)
fill-other n t r i len false b within place not is = grind (arith, nat_tests)

fill-same : (n t r i len : ℕ) (b : Bool) → nat_lt (t + 1) n ≡ b → t < n → i ≡ t → len ≡ r + cond (nat_lt i t) 1 0 → len + 1 ≡ (cond {A = ℕ × ℕ} b (t + 1, r) (0, r + 1)).1 + cond (nat_lt i (cond {A = ℕ × ℕ} b (t + 1, r) (0, r + 1)).0) 1 0
fill-same n t r i len true b within at is = grind (arith, nat_tests)
fill-same n t r i len false b within at is = grind (arith, nat_tests)

pub filled-more : {E N A : Type 0} (ws : List (Worker E N A)) (p : ℕ × ℕ) (x : Worker E N A) (c : Session) → IsFilled ws p → p.0 < length ws → sessions_of x ≡ sessions_of (slice_index_or ws p.0 x) ++ c ∷ [] → IsFilled (slice_set ws p.0 x) (next_place (length ws) p)
filled-more ws p x c f within more =
    record {
      each = λ i w place.
          let here : i < length ws = subst (λ n. i < n) (length-set ws p.0 x) place in
          set-each (λ y. length (sessions_of y) ≡ (next_place (length ws) p).1 + cond (nat_lt i (next_place (length ws) p).0) 1 0) ws p.0 x i w here
          (λ not. fill-other (length ws) p.0 p.1 i (length (sessions_of (slice_index_or ws i w))) (nat_lt (p.0 + 1) (length ws)) refl within here not (f.each i w here))
          (λ at. ap length more ∙ (length-append (sessions_of (slice_index_or ws p.0 x)) (c ∷ [])
          ∙ fill-same (length ws) p.0 p.1 i (length (sessions_of (slice_index_or ws p.0 x))) (nat_lt (p.0 + 1) (length ws)) refl within at (ap (λ k. length (sessions_of (slice_index_or ws k x))) (sym at) ∙ f.each i x here)));
    }

-- a session that was placed stays
pub placed-kept : {E N A : Type 0} (ws : List (Worker E N A)) (t : ℕ) (x : Worker E N A) (c : Session) (q : ℕ × ℕ) (P : Session → Type 0) → sessions_of x ≡ sessions_of (slice_index_or ws t x) ++ c ∷ [] → IsPlaced sessions_of ws q P → IsPlaced sessions_of (slice_set ws t x) q P
placed-kept ws t x c q P more h =
    let longer : q.0 ≡ t → q.1 < length (sessions_of (slice_index_or ws t x)) = λ at. subst (λ k. q.1 < length (sessions_of (slice_index_or ws k x))) at (h.round x) in
    record {
      turn = subst (λ n. q.0 < n) (sym (length-set ws t x)) h.turn;
      round = λ w. set-each (λ y. q.1 < length (sessions_of y)) ws t x q.0 w h.turn (λ not. h.round w)
          (λ at. let l = longer at in subst (λ (n : ℕ). q.1 < n) (sym (ap length more ∙ length-append (sessions_of (slice_index_or ws t x)) (c ∷ []))) (let e : q.1 < length (sessions_of (slice_index_or ws t x)) + 1 = omega (arith, l) in e));
      session = λ w d. set-each (λ y. P (slice_index_or (sessions_of y) q.1 d)) ws t x q.0 w h.turn (λ not. h.session w d)
          (λ at. subst P (sym (ap (λ cs. slice_index_or cs q.1 d) more ∙ (get_or_append_left (sessions_of (slice_index_or ws t x)) (c ∷ []) d q.1 (longer at)
          ∙ ap (λ k. slice_index_or (sessions_of (slice_index_or ws k x)) q.1 d) (sym at)))) (h.session x d));
    }

below-none : (t : ℕ) → cond {A = ℕ} (nat_lt t t) 1 0 ≡ 0
below-none t = grind (arith, nat_tests)

-- the new one stands at its place
pub placed-new : {E N A : Type 0} (ws : List (Worker E N A)) (p : ℕ × ℕ) (x : Worker E N A) (c : Session) (P : Session → Type 0) → IsFilled ws p → p.0 < length ws → sessions_of x ≡ sessions_of (slice_index_or ws p.0 x) ++ c ∷ [] → P c → IsPlaced sessions_of (slice_set ws p.0 x) p P
placed-new ws p x c P f within more h =
    let full : length (sessions_of (slice_index_or ws p.0 x)) ≡ p.1 = let e = f.each p.0 x within in let z = below-none p.0 in omega (arith, e, z) in
    record {
      turn = subst (λ n. p.0 < n) (sym (length-set ws p.0 x)) within;
      round = λ w. set-each (λ y. p.1 < length (sessions_of y)) ws p.0 x p.0 w within (λ not. absurd (not refl))
          (λ at. subst (λ (n : ℕ). p.1 < n) (sym (ap length more ∙ length-append (sessions_of (slice_index_or ws p.0 x)) (c ∷ []))) (let e : p.1 < length (sessions_of (slice_index_or ws p.0 x)) + 1 = omega (arith, full) in e));
      session = λ w d. set-each (λ y. P (slice_index_or (sessions_of y) p.1 d)) ws p.0 x p.0 w within (λ not. absurd (not refl))
          (λ at. subst P (sym (ap (λ cs. slice_index_or cs p.1 d) more ∙ (ap (λ n. slice_index_or (sessions_of (slice_index_or ws p.0 x) ++ c ∷ []) n d) (sym full) ∙ get_or-append_seam (sessions_of (slice_index_or ws p.0 x)) c [] d))) h);
    }

pub unasked-more : (cs : List Session) (c : Session) → AllUnasked cs → IsUnasked c → AllUnasked (cs ++ c ∷ [])
unasked-more [] c all u zero d less = u
unasked-more [] c all u (suc i) d less = absurd (omega arith)
unasked-more (x ∷ cs) c all u zero d less = all 0 d (omega arith)
unasked-more (x ∷ cs) c all u (suc i) d less = unasked-more cs c (λ j e l. all (suc j) e (omega arith)) u i d (omega arith)

pub place-more : (n k : ℕ) → place_of n (k + 1) ≡ next_place n (place_of n k)
place-more n k = ap (place_of n) (add-one k)

below-more : (j k : ℕ) → j < k + 1 → j ≢ k → j < k
below-more j k less not = omega arith

placed-case : {E N A : Type 0} (cs : List Session) (olds ws : List (Worker E N A)) (k t : ℕ) (x : Worker E N A) (s : Session) (j : ℕ) (b : Bool) → nat_eq j k ≡ b → j < k + 1 → sessions_of x ≡ sessions_of (slice_index_or ws t x) ++ s ∷ [] → AreAssigned cs olds ws k
    → IsPlaced sessions_of (slice_set ws t x) (place_of (length olds) k) (IsNumber (job_sessions cs) k) → IsPlaced sessions_of (slice_set ws t x) (place_of (length olds) j) (IsNumber (job_sessions cs) j)
placed-case cs olds ws k t x s j true is less more h new = subst (λ i. IsPlaced sessions_of (slice_set ws t x) (place_of (length olds) i) (IsNumber (job_sessions cs) i)) (sym (alike j k is)) new
placed-case cs olds ws k t x s j false is less more h new = placed-kept ws t x s (place_of (length olds) j) (IsNumber (job_sessions cs) j) more (h.placed j (below-more j k less (apart j k is)))

-- one session more is assigned
pub assigned-more : {E N A : Type 0} (cs : List Session) (olds ws : List (Worker E N A)) (k t : ℕ) (x : Worker E N A) (s : Session) → AreAssigned cs olds ws k → IsFilled ws (place_of (length olds) k) → t ≡ (place_of (length olds) k).0 → t < length ws
    → sessions_of x ≡ sessions_of (slice_index_or ws t x) ++ s ∷ [] → x.reader ≡ (slice_index_or ws t x).reader → x.is_lost ≡ (slice_index_or ws t x).is_lost → IsUnasked s → IsNumber (job_sessions cs) k s
    → AreAssigned cs olds (slice_set ws t x) (k + 1) × IsFilled (slice_set ws t x) (place_of (length olds) (k + 1))
assigned-more {E} {N} {A} cs olds ws k t x s h f at within more reader going none questions =
    let T : ℕ → Type 0 = λ i. i < length ws in
    let inside : (i : ℕ) → i < length olds → i < length ws = λ i l. subst (λ n. i < n) (sym h.len) l in
    let behind : (i : ℕ) → i < length ws → i < length olds = λ i l. subst (λ n. i < n) h.len l in
    let filled : IsFilled (slice_set ws t x) (next_place (length ws) (place_of (length olds) k)) =
    subst (λ j. IsFilled (slice_set ws j x) (next_place (length ws) (place_of (length olds) k))) (sym at)
    (filled-more ws (place_of (length olds) k) x s f (subst (λ j. j < length ws) at within) (subst (λ j. sessions_of x ≡ sessions_of (slice_index_or ws j x) ++ s ∷ []) at more)) in
    let new : IsPlaced sessions_of (slice_set ws t x) (place_of (length olds) k) (IsNumber (job_sessions cs) k) =
    subst (λ j. IsPlaced sessions_of (slice_set ws j x) (place_of (length olds) k) (IsNumber (job_sessions cs) k)) (sym at)
    (placed-new ws (place_of (length olds) k) x s (IsNumber (job_sessions cs) k) f (subst (λ j. j < length ws) at within) (subst (λ j. sessions_of x ≡ sessions_of (slice_index_or ws j x) ++ s ∷ []) at more) questions) in (
      record {
        len = length-set ws t x ∙ h.len;
        reader = λ i w l. set-each (λ y. y.reader ≡ (slice_index_or olds i w).reader) ws t x i w (inside i l) (λ not. h.reader i w l)
            (λ same. reader ∙ (ap (λ (y : Worker E N A). y.reader) (get_or_default ws t x w within ∙ ap (λ j. slice_index_or ws j w) (sym same)) ∙ h.reader i w l));
        going = λ i w l. set-each (λ y. y.is_lost ≡ (slice_index_or olds i w).is_lost) ws t x i w (inside i l) (λ not. h.going i w l)
            (λ same. going ∙ (ap (λ (y : Worker E N A). y.is_lost) (get_or_default ws t x w within ∙ ap (λ j. slice_index_or ws j w) (sym same)) ∙ h.going i w l));
        unasked = λ i w l. set-each (λ y. AllUnasked (sessions_of y)) ws t x i w (inside i l) (λ not. h.unasked i w l)
            (λ same. subst AllUnasked (sym more) (unasked-more (sessions_of (slice_index_or ws t x)) s (h.unasked t x (behind t within)) none));
        placed = λ j l. placed-case cs olds ws k t x s j (nat_eq j k) refl l more h new;
      },
      subst (λ q. IsFilled (slice_set ws t x) q) (ap (λ n. next_place n (place_of (length olds) k)) h.len ∙ sym (place-more (length olds) k)) filled,
    )

few-case : (b : Bool) (t r : ℕ) → (cond {A = ℕ × ℕ} b (t, r) (0, r + 1)).1 ≤ r + 1
few-case true t r = omega arith
few-case false t r = omega arith

pub place-few : (n : ℕ) (p : ℕ × ℕ) → (next_place n p).1 ≤ p.1 + 1
place-few n p = few-case (nat_lt (p.0 + 1) n) (p.0 + 1) p.1
