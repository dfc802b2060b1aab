-- How lines and digits are made one by one.
use Rattle.std.proofs.Common.{◌≡◌, ℕ, suc, ◌+◌, ◌-◌, ◌<◌, List, [], ◌∷◌, ◌++◌, arith, ap, sym, ◌∙◌, append_assoc, append-nil}
use Rattle.std.specs.List.{flat_map, range_with_len}
use Rattle.app_sample_data.specs.Lines.{lines}

pub lines_none : (line : ℕ → List ℕ) (end : ℕ) → lines line end end ≡ []
unfolding lines
lines_none line end = let none : end - end ≡ 0 = omega arith in ap (λ n. flat_map line (range_with_len end n)) none

pub lines_more : (line : ℕ → List ℕ) (first end : ℕ) → first < end → lines line first end ≡ line first ++ lines line (first + 1) end
unfolding lines
lines_more line first end h =
    let more : end - first ≡ suc (end - (first + 1)) = omega arith in
    ap (λ n. flat_map line (range_with_len first n)) more

-- a text more after those that were added
pub text_added : (start before after added : List (List ℕ × List ℕ)) (name text bytes : List ℕ) → before ≡ start ++ added → after ≡ before ++ (name, text) ∷ [] → text ≡ bytes → after ≡ start ++ (added ++ (name, bytes) ∷ [])
text_added start before after added name text bytes e f g =
    f ∙ ap (λ t. before ++ (name, t) ∷ []) g ∙ ap (λ t. t ++ (name, bytes) ∷ []) e ∙ append_assoc start added ((name, bytes) ∷ [])

-- nothing was added yet
pub none_added : (start : List (List ℕ × List ℕ)) → start ≡ start ++ []
none_added start = sym (append-nil start)

-- a line more of the lines that are still to come
pub line_pushed : (line : ℕ → List ℕ) (key end : ℕ) (before after whole : List ℕ) → key < end → before ++ lines line key end ≡ whole → after ≡ before ++ line key → after ++ lines line (key + 1) end ≡ whole
line_pushed line key end before after whole h e f =
    ap (λ t. t ++ lines line (key + 1) end) f ∙ append_assoc before (line key) (lines line (key + 1) end) ∙ ap (λ t. before ++ t) (sym (lines_more line key end h)) ∙ e

-- no line is still to come
pub all_pushed : (line : ℕ → List ℕ) (key end : ℕ) (text whole : List ℕ) → key ≡ end → text ++ lines line key end ≡ whole → text ≡ whole
all_pushed line key end text whole h e =
    sym (append-nil text) ∙ ap (λ t. text ++ t) (sym (lines_none line end)) ∙ ap (λ k. text ++ lines line k end) (sym h) ∙ e

-- four lines one after another
pub four_pushed : (line : ℕ → List ℕ) (places : List ℕ) (a b c d : ℕ) (t0 t1 t2 t3 t4 : List ℕ) → a ∷ b ∷ c ∷ d ∷ [] ≡ places → t1 ≡ t0 ++ line a → t2 ≡ t1 ++ line b → t3 ≡ t2 ++ line c → t4 ≡ t3 ++ line d → t4 ≡ t0 ++ flat_map line places
four_pushed line places a b c d t0 t1 t2 t3 t4 e e1 e2 e3 e4 =
    let whole : (((t0 ++ line a) ++ line b) ++ line c) ++ line d ≡ t0 ++ flat_map line (a ∷ b ∷ c ∷ d ∷ []) = simp (append_assoc, append-nil) in
    e4 ∙ ap (λ t. t ++ line d) (e3 ∙ ap (λ t. t ++ line c) (e2 ∙ ap (λ t. t ++ line b) e1)) ∙ whole ∙ ap (λ p. t0 ++ flat_map line p) e
