-- The words of a list in the program are those of the list in the definitions.
use Rattle.std.proofs.Common.{◌≡◌, ℕ, List, [], Bor, map, get_or, sym}
use Rattle.std.proofs.Math.ListN.{get_or-map}
use Rattle.app_sample_data.specs.Choices.{word}

pub word_at : (words : List (Bor (List ℕ))) (place : ℕ) → (get_or words place record { ref_ptr = (0, 0); now = [] }).now ≡ word (map (λ w. w.now) words) place
unfolding word
word_at words place = sym (get_or-map (λ (w : Bor (List ℕ)). w.now) words place record { ref_ptr = (0, 0); now = [] })
