-- The lines of a text are the text, and each is a line.
use Rattle.std.proofs.Common.{◌≡◌, ℕ, suc, ◌-◌, ◌<◌, Bool, true, false, ◌==◌, List, [], ◌∷◌, length, take, refl, ◌∙◌, ap, arith}
use Rattle.std.specs.Prelude.{slice_index}
use Rattle.std.specs.List.{concat, onto_first}
use Rattle.std.proofs.lemmas.Bool.{eqb-true}
use Rattle.store_file_reader.specs.File.{cut_lines}
use Rattle.store_file_reader.specs.Laws.{IsLine, AreLines}
use Rattle.store_file_reader.proofs.LineCuts.{unended-nil, unended-cons}

pub concat-onto_first : (b : ℕ) (lines : List (List ℕ)) → concat (onto_first b lines) ≡ b ∷ concat lines
concat-onto_first b [] = refl
concat-onto_first b (l ∷ ls) = refl

join_at : (t : Bool) (b : ℕ) (text : List ℕ) → (b == 10) ≡ t → concat (cut_lines text) ≡ text → concat (cut_lines (b ∷ text)) ≡ b ∷ text
join_at true b text e h = rw e (ap (λ l. b ∷ l) h)
join_at false b text e h = rw e (concat-onto_first b (cut_lines text) ∙ ap (λ l. b ∷ l) h)

pub concat-cut_lines : (text : List ℕ) → concat (cut_lines text) ≡ text
concat-cut_lines [] = refl
concat-cut_lines (b ∷ text) = join_at (b == 10) b text refl (concat-cut_lines text)

one_byte : (b : ℕ) → IsLine (b ∷ [])
one_byte b = record { some = omega arith; unended = unended-nil }

longer_line : (b : ℕ) (l : List ℕ) → (b == 10) ≡ false → IsLine l → IsLine (b ∷ l)
longer_line b [] e line = absurd (omega (arith, line.some))
longer_line b (c ∷ l) e line =
    let m : suc (suc (length l)) - 1 ≡ suc (length l) = omega arith in
    let n : suc (length l) - 1 ≡ length l = omega arith in
    record {
      some = omega arith;
      unended = rw m (unended-cons b (take (length l) (c ∷ l)) e (rw n at line.unended));
    }

longer_end : (b : ℕ) (l : List ℕ) → 0 < length l → slice_index l (length l - 1) ≡ 10 → slice_index (b ∷ l) (length (b ∷ l) - 1) ≡ 10
longer_end b [] h e = absurd (omega (arith, h))
longer_end b (c ∷ l) h e =
    let m : suc (suc (length l)) - 1 ≡ suc (length l) = omega arith in
    let n : suc (length l) - 1 ≡ length l = omega arith in
    rw m (rw n at e)

lines_onto : (b : ℕ) (lines : List (List ℕ)) → (b == 10) ≡ false → AreLines lines → AreLines (onto_first b lines)
lines_onto b [] e are = (one_byte b, λ h. absurd (omega (arith, h)), tt)
lines_onto b (l ∷ ls) e are = (longer_line b l e are.0, λ h. longer_end b l are.0.some (are.1 h), are.2)

lines_at : (t : Bool) (b : ℕ) (text : List ℕ) → (b == 10) ≡ t → AreLines (cut_lines text) → AreLines (cut_lines (b ∷ text))
lines_at true b text e are = rw e (one_byte b, λ h. eqb-true b 10 e, are)
lines_at false b text e are = rw e (lines_onto b (cut_lines text) e are)

pub are_lines : (text : List ℕ) → AreLines (cut_lines text)
are_lines [] = tt
are_lines (b ∷ text) = lines_at (b == 10) b text refl (are_lines text)
