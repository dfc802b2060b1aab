-- One entry more.
use Rattle.std.proofs.Common.{◌≡◌, ℕ, ◌+◌, List, [], ◌∷◌, ◌++◌, length, refl, sym, ◌∙◌, ap, arith, append_assoc, length-append}
use Rattle.std.specs.Prelude.{map}
use Rattle.std.proofs.lemmas.List.{append-nil}
use Rattle.std.specs.List.{AllByRecursion}
use Rattle.std.specs.Int.{w64, to_be_bytes}
use Rattle.store_journal.specs.Format.{IsEntry, framed, entries}

pub entries-push : (ps : List (List ℕ)) (p rest : List ℕ) → entries (ps ++ p ∷ []) ++ rest ≡ entries ps ++ 1 ∷ (framed p ++ rest)
entries-push [] p rest = ap (λ (l : List ℕ). 1 ∷ (l ++ rest)) nil ∙ refl
  where
    nil : framed p ++ [] ≡ framed p
    nil = append-nil (framed p)
entries-push (q ∷ ps) p rest =
    ap (λ (l : List ℕ). 1 ∷ l) (append_assoc (framed q) (entries (ps ++ p ∷ [])) rest ∙ ap (λ (l : List ℕ). framed q ++ l) (entries-push ps p rest) ∙ sym (append_assoc (framed q) (entries ps) (1 ∷ (framed p ++ rest))))

pub length-entries-push : (ps : List (List ℕ)) (p : List ℕ) → length (entries (ps ++ p ∷ [])) ≡ length (entries ps) + (9 + length p)
length-entries-push [] p = omega (arith, length-append (framed p) [], length-append (to_be_bytes w64 (length p)) p)
length-entries-push (q ∷ ps) p = omega (arith, length-entries-push ps p, length-append (framed q) (entries (ps ++ p ∷ [])), length-append (framed q) (entries ps))

pub fits-push : (K : List ℕ → Type 0) (ps : List (List ℕ)) (p : List ℕ) → AllByRecursion (IsEntry K) ps → IsEntry K p → AllByRecursion (IsEntry K) (ps ++ p ∷ [])
fits-push K [] p fs f = (f, tt)
fits-push K (q ∷ ps) p fs f = (fs.0, fits-push K ps p fs.1 f)

-- a value more is a payload more
pub map-push : {T : Type 0} (f : T → List ℕ) (vs : List T) (v : T) → map f (vs ++ v ∷ []) ≡ map f vs ++ f v ∷ []
map-push f [] v = refl
map-push f (u ∷ vs) v = ap (λ (l : List (List ℕ)). f u ∷ l) (map-push f vs v)

-- what holds of all values holds of these and one more
pub all-push : {T : Type 0} (P : T → Type 0) (vs : List T) (v : T) → AllByRecursion P vs → P v → AllByRecursion P (vs ++ v ∷ [])
all-push P [] v are is = (is, tt)
all-push P (u ∷ vs) v are is = (are.0, all-push P vs v are.1 is)
