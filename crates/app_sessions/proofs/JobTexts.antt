-- A job's text that grows session by session.
use Rattle.std.proofs.Common.{◌≡◌, ◌∙◌, ℕ, ◌+◌, ◌<◌, ◌≤◌, List, [], ◌∷◌, ◌++◌, length, take, sym, subst, ap, arith, append_assoc, append-nil}
use Rattle.std.specs.Prelude.{Bool, true, false, ◌&&◌, refl}
use Rattle.std.proofs.lemmas.List.{take_more, length-take-le}
use Rattle.store_state.specs.Refresh.{Change}
use Rattle.base_schema.specs.State.{State}
use Rattle.app_sessions.specs.Asked.{job_session}
use Rattle.app_sessions.specs.Gathered.{IsSessionsText}
use Rattle.app_sessions.specs.Jobs.{ArePermitted, IsRun, JobAnswer, JobSession, are_sessions_clean, moments_at, session_head, session_lines, sessions_text}
use Rattle.app_sessions.specs.Sessions.{are_clean, course_of}
use Rattle.app_sessions.specs.Workers.{IsNumberOver, no_session}
use Rattle.app_sessions.specs.declared.session.Session.{Session}

permitted_more : (low high : ℕ) (ss : List JobSession) (vss : List (List ℕ)) (s : JobSession) (vs : List ℕ) → ArePermitted low high ss vss
    → length vs ≡ length s.steps → IsRun low high vs → ArePermitted low high (ss ++ s ∷ []) (vss ++ vs ∷ [])
permitted_more low high [] [] s vs p len run = (len, run, tt)
permitted_more low high [] (ws ∷ vss) s vs p len run = absurd p
permitted_more low high (r ∷ ss) [] s vs p len run = absurd p
permitted_more low high (r ∷ ss) (ws ∷ vss) s vs p len run = (p.0, p.1, permitted_more low high ss vss s vs p.2 len run)

text_more : (base : State) (list : List Change) (low high k : ℕ) (ss : List JobSession) (vss : List (List ℕ)) (s : JobSession) (vs : List ℕ) → ArePermitted low high ss vss
    → sessions_text base list k (ss ++ s ∷ []) (vss ++ vs ∷ [])
    ≡ sessions_text base list k ss vss ++ (session_head (k + length ss) ++ session_lines base list s vs)
text_more base list low high k [] [] s vs p =
    ap (λ l. session_head k ++ l) (append-nil (session_lines base list s vs))
    ∙ ap (λ n. session_head n ++ session_lines base list s vs) (let e : k ≡ k + 0 = omega arith in e)
text_more base list low high k [] (ws ∷ vss) s vs p = absurd p
text_more base list low high k (r ∷ ss) [] s vs p = absurd p
text_more base list low high k (r ∷ ss) (ws ∷ vss) s vs p =
    let head = session_head k in
    let lines = session_lines base list r ws in
    let rest = sessions_text base list (k + 1) ss vss in
    let last : ℕ → List ℕ = λ n. session_head n ++ session_lines base list s vs in
    let e : (k + 1) + length ss ≡ k + length (r ∷ ss) = omega arith in
    ap (λ l. head ++ (lines ++ l)) (text_more base list low high (k + 1) ss vss s vs p.2 ∙ ap (λ n. rest ++ last n) e)
    ∙ ap (λ l. head ++ l) (sym (append_assoc lines rest (last (k + length (r ∷ ss)))))
    ∙ sym (append_assoc head (lines ++ rest) (last (k + length (r ∷ ss))))

and_assoc : (a b c : Bool) → ((a && b) && c) ≡ (a && (b && c))
and_assoc true b c = refl
and_assoc false b c = refl

and_true : (b : Bool) → (b && true) ≡ b
and_true true = refl
and_true false = refl

clean_more : (base : State) (list : List Change) (low high : ℕ) (ss : List JobSession) (vss : List (List ℕ)) (s : JobSession) (vs : List ℕ) → ArePermitted low high ss vss
    → are_sessions_clean base list (ss ++ s ∷ []) (vss ++ vs ∷ [])
    ≡ (are_sessions_clean base list ss vss && are_clean s.first_views s.steps (moments_at base list vs))
clean_more base list low high [] [] s vs p = and_true (are_clean s.first_views s.steps (moments_at base list vs))
clean_more base list low high [] (ws ∷ vss) s vs p = absurd p
clean_more base list low high (r ∷ ss) [] s vs p = absurd p
clean_more base list low high (r ∷ ss) (ws ∷ vss) s vs p =
    let one = are_clean r.first_views r.steps (moments_at base list ws) in
    ap (λ b. one && b) (clean_more base list low high ss vss s vs p.2)
    ∙ sym (and_assoc one (are_sessions_clean base list ss vss) (are_clean s.first_views s.steps (moments_at base list vs)))

-- one session more
pub gathered_more : (o : State × List Change) (low high : ℕ) (all : List JobSession) (k n : ℕ) (old new : JobAnswer) (session : Session) → k < length all → n ≡ k + 1
    → IsNumberOver o low high all k session
    → new.text ≡ old.text ++ (session_head n ++ (course_of session).text)
    → new.versions ≡ old.versions ++ (course_of session).versions ∷ []
    → new.is_clean ≡ (old.is_clean && (course_of session).is_clean)
    → IsSessionsText o low high (take k all) old → IsSessionsText o low high (take (k + 1) all) new
gathered_more o low high all k n old new session less number over text versions clean h =
    let s = job_session session in
    let c = course_of session in
    let base = o.0 in
    let list = o.1 in
    let q : take (k + 1) all ≡ take k all ++ s ∷ [] = take_more all k no_session less ∙ ap (λ x. take k all ++ x ∷ []) (sym over.number) in
    let p : ArePermitted low high (take k all ++ s ∷ []) (old.versions ++ c.versions ∷ []) =
    permitted_more low high (take k all) old.versions s c.versions h.versions over.over.all over.over.run in
    let w : 1 + length (take k all) ≡ n = let l = length-take-le k all (let e : k ≤ length all = omega (arith, less) in e) in omega (arith, l, number) in
    let t : new.text ≡ sessions_text base list 1 (take k all ++ s ∷ []) (old.versions ++ c.versions ∷ []) =
    text ∙ ap (λ l. l ++ (session_head n ++ c.text)) h.text
    ∙ ap (λ l. sessions_text base list 1 (take k all) old.versions ++ (session_head n ++ l)) over.over.text
    ∙ ap (λ m. sessions_text base list 1 (take k all) old.versions ++ (session_head m ++ session_lines base list s c.versions)) (sym w)
    ∙ sym (text_more base list low high 1 (take k all) old.versions s c.versions h.versions) in
    let d : new.is_clean ≡ are_sessions_clean base list (take k all ++ s ∷ []) (old.versions ++ c.versions ∷ []) =
    clean ∙ ap (λ b. b && c.is_clean) h.clean
    ∙ ap (λ b. are_sessions_clean base list (take k all) old.versions && b) over.over.clean
    ∙ sym (clean_more base list low high (take k all) old.versions s c.versions h.versions) in
    record {
      versions = subst (λ ss. ArePermitted low high ss new.versions) (sym q) (subst (ArePermitted low high (take k all ++ s ∷ [])) (sym versions) p);
      text = t ∙ ap (sessions_text base list 1 (take k all ++ s ∷ [])) (sym versions) ∙ ap (λ ss. sessions_text base list 1 ss new.versions) (sym q);
      clean = d ∙ ap (are_sessions_clean base list (take k all ++ s ∷ [])) (sym versions) ∙ ap (λ ss. are_sessions_clean base list ss new.versions) (sym q);
    }

-- three parts of a line that were appended one after another
pub parts_joined : (text one two three : List ℕ) → ((text ++ one) ++ two) ++ three ≡ text ++ (one ++ two ++ three)
parts_joined text one two three = simp append_assoc
