-- Lists after their lengths, with anything behind them: both are known from the whole.
use Rattle.std.proofs.Common.{◌≡◌, ℕ, List, [], ◌∷◌, ◌++◌, map, length, take, drop, refl, ap, sym, ◌∙◌, append_assoc, arith}
use Rattle.std.proofs.Math.Seq.{take-append_seam, drop-append_seam}
use Rattle.std.specs.List.{flat_map}
use Rattle.base_row_laws.specs.Bags.{Each}
use Rattle.plan_spelling.specs.Exprs.{counted, parts, spelled}

-- nothing else is spelled so, whatever stands behind
abbrev pub Unique : {A : Type 0} → (A → List ℕ) → A → Type 0
Unique {A} f a = (b : A) (r s : List ℕ) → f a ++ r ≡ f b ++ s → (a ≡ b) × (r ≡ s)

pub counted_unique : (xs ys r s : List ℕ) → counted xs ++ r ≡ counted ys ++ s → (xs ≡ ys) × (r ≡ s)
counted_unique xs ys r s e =
    let whole : length xs ∷ (xs ++ r) ≡ length ys ∷ (ys ++ s) = e in
    let len : length xs ≡ length ys = cc in
    let rest : xs ++ r ≡ ys ++ s = cc in (
      sym (take-append_seam xs r) ∙ ap (take (length xs)) rest ∙ ap (λ n. take n (ys ++ s)) len ∙ take-append_seam ys s,
      sym (drop-append_seam xs r) ∙ ap (drop (length xs)) rest ∙ ap (λ n. drop n (ys ++ s)) len ∙ drop-append_seam ys s,
    )

pub lists_unique : {A : Type 0} (f : A → List ℕ) (us bs : List A) (r s : List ℕ) → Each (Unique f) us → length us ≡ length bs
    → flat_map f us ++ r ≡ flat_map f bs ++ s → (us ≡ bs) × (r ≡ s)
lists_unique f [] [] r s all len e = (refl, e)
lists_unique f [] (b ∷ bs) r s all len e = let no : ⊥ = omega (arith, len) in absurd no
lists_unique f (a ∷ us) [] r s all len e = let no : ⊥ = omega (arith, len) in absurd no
lists_unique f (a ∷ us) (b ∷ bs) r s all len e =
    let whole : f a ++ (flat_map f us ++ r) ≡ f b ++ (flat_map f bs ++ s) =
    sym (append_assoc (f a) (flat_map f us) r) ∙ e ∙ append_assoc (f b) (flat_map f bs) s in
    let first = all.0 b (flat_map f us ++ r) (flat_map f bs ++ s) whole in
    let fewer : length us ≡ length bs = omega (arith, len) in
    let rest = lists_unique f us bs r s all.1 fewer first.1 in
    let one : a ≡ b = first.0 in
    let others : us ≡ bs = rest.0 in
    (cc, rest.1)

flat_map_map : {A : Type 0} (f : A → List ℕ) (us : List A) → flat_map (λ s. s) (map f us) ≡ flat_map f us
flat_map_map f [] = refl
flat_map_map f (a ∷ us) = ap (λ l. f a ++ l) (flat_map_map f us)

length_map : {A : Type 0} (f : A → List ℕ) (us : List A) → length (map f us) ≡ length us
length_map f [] = refl
length_map f (a ∷ us) = omega (arith, length_map f us)

-- the parts of a node, spelled by f
pub parts_of : {A : Type 0} (f : A → List ℕ) (us : List A) → parts (map f us) ≡ length us ∷ flat_map f us
parts_of f us =
    let len : length (map f us) ≡ length us = length_map f us in
    let all : flat_map (λ s. s) (map f us) ≡ flat_map f us = flat_map_map f us in
    cc

pub parts_unique : {A : Type 0} (f : A → List ℕ) (us bs : List A) (r s : List ℕ) → Each (Unique f) us
    → parts (map f us) ++ r ≡ parts (map f bs) ++ s → (us ≡ bs) × (r ≡ s)
parts_unique f us bs r s all e =
    let whole : length us ∷ (flat_map f us ++ r) ≡ length bs ∷ (flat_map f bs ++ s) =
    ap (λ l. l ++ r) (sym (parts_of f us)) ∙ e ∙ ap (λ l. l ++ s) (parts_of f bs) in
    let len : length us ≡ length bs = cc in
    let rest : flat_map f us ++ r ≡ flat_map f bs ++ s = cc in
    lists_unique f us bs r s all len rest

pub spelled_unique : {A : Type 0} (f : A → List ℕ) (w v r s : List ℕ) (us bs : List A) → Each (Unique f) us
    → spelled w (map f us) ++ r ≡ spelled v (map f bs) ++ s → (w ≡ v) × (us ≡ bs) × (r ≡ s)
spelled_unique f w v r s us bs all e =
    let whole : counted w ++ (parts (map f us) ++ r) ≡ counted v ++ (parts (map f bs) ++ s) =
    sym (append_assoc (counted w) (parts (map f us)) r) ∙ e ∙ append_assoc (counted v) (parts (map f bs)) s in
    let what = counted_unique w v (parts (map f us) ++ r) (parts (map f bs) ++ s) whole in
    let below = parts_unique f us bs r s all what.1 in
    (what.0, below.0, below.1)
