use Rattle.std.proofs.Common.{◌≡◌, ℕ, ◌-◌, ◌∙◌, List, ◌∷◌, ◌++◌, ap, arith, append_assoc, length, replicate, rules}
use Rattle.app_result_text.proofs.Digits.{zeros_there}
use Rattle.app_result_text.proofs.decimal.push_fraction.Goals as goal

pub returns : goal.returns
returns c =
    let k : ℕ = c.args.places - length c.args.digits.now in
    let text : List ℕ = c.args.text.now.items in
    let zeros : List ℕ = replicate k 48 in
    let made : c.extend_from_slice.new.self.items ≡ text ++ 48 ∷ 46 ∷ zeros = c.in_ok-extend_from_slice.ensures.items
    ∙ ap (λ more. text ++ more) (zeros_there k (omega (arith, c.requires.bound))) in
    let whole : (text ++ 48 ∷ 46 ∷ zeros) ++ c.args.digits.now ≡ text ++ 48 ∷ 46 ∷ (zeros ++ c.args.digits.now) = append_assoc text (48 ∷ 46 ∷ zeros) c.args.digits.now in
    rw (← whole, ← made) (search rules)
