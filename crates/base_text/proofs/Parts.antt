-- Lemmas on parts of a buffer.
use Rattle.std.proofs.Common.{◌≡◌, ℕ, ◌+◌, ◌-◌, ◌≤◌, List, refl, sym, ap, ◌∙◌, subst, arith, length, take, drop}
use Rattle.std.proofs.lemmas.List.{take_all, length-take-le, length-drop, drop-drop, drop-take, take-take}
use Rattle.base_text.specs.Printable.{AllPrintable}
use Rattle.base_text.proofs.Printables.{part_printable}
use Rattle.base_text.specs.Buffer.{part_of, IsPart}

pub part_whole : (bs : List ℕ) (n : ℕ) → n ≡ length bs → part_of bs 0 n ≡ bs
unfolding part_of
part_whole bs n e = let z : n - 0 ≡ n = omega arith in rw z (take_all n bs (omega (arith, e)))

pub is_part_whole : (bs : List ℕ) (n : ℕ) → n ≡ length bs → AllPrintable bs → IsPart bs 0 n
unfolding IsPart
is_part_whole bs n e h = (omega arith, (omega (arith, e), subst AllPrintable (sym (part_whole bs n e)) h))

pub start_below : (bs : List ℕ) (s e : ℕ) → IsPart bs s e → s ≤ e
unfolding IsPart
start_below bs s e h = h.0

pub end_below : (bs : List ℕ) (s e : ℕ) → IsPart bs s e → e ≤ length bs
unfolding IsPart
end_below bs s e h = h.1.0

pub printable : (bs : List ℕ) (s e : ℕ) → IsPart bs s e → AllPrintable (part_of bs s e)
unfolding IsPart
printable bs s e h = h.1.1

pub part_is : (bs : List ℕ) (s e : ℕ) → part_of bs s e ≡ take (e - s) (drop s bs)
unfolding part_of
part_is bs s e = refl

pub length-part_of : (bs : List ℕ) (s e : ℕ) → IsPart bs s e → length (part_of bs s e) ≡ e - s
unfolding IsPart part_of
length-part_of bs s e h = length-take-le (e - s) (drop s bs) (omega (arith, h.0, h.1.0, length-drop s bs))

pub part-part : (bs : List ℕ) (s e i j : ℕ) → i ≤ j → s + j ≤ e → part_of bs (s + i) (s + j) ≡ take (j - i) (drop i (part_of bs s e))
unfolding part_of
part-part bs s e i j h l =
    let a : s + j - (s + i) ≡ j - i = omega (arith, h) in
    let b : i + (e - s - i) ≡ e - s = omega (arith, h, l) in
    rw (a, ← drop-drop i s bs)
    (sym (take-take (j - i) (e - s - i) (drop i (drop s bs)) (omega (arith, h, l))) ∙ ap (take (j - i)) (sym (drop-take i (e - s - i) (drop s bs)) ∙ ap (λ n. drop i (take n (drop s bs))) b))

pub is_part-part : (bs : List ℕ) (s e i j : ℕ) → IsPart bs s e → i ≤ j → s + j ≤ e → IsPart bs (s + i) (s + j)
unfolding IsPart
is_part-part bs s e i j p h l =
    (omega (arith, h), (omega (arith, l, p.1.0), subst AllPrintable (sym (part-part bs s e i j h l)) (part_printable (part_of bs s e) i (j - i) p.1.1)))

pub ruleset parts = (part_whole, is_part_whole, start_below, end_below, printable, length-part_of, part-part, is_part-part)
