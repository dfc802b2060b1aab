-- One more byte of a template.
use Rattle.std.proofs.Common.{◌≡◌, ℕ, suc, ◌+◌, ◌<◌, true, false, List, ◌∷◌, ◌++◌, Some, None, length, drop, refl, sym, ap, ◌∙◌, arith, append_assoc}
use Rattle.std.specs.Prelude.{slice_index_or}
use Rattle.std.proofs.Math.Seq.{drop-cons}
use Rattle.std.specs.Char.{is_ascii_digit}
use Rattle.sql_ast.specs.declared.statement.TemplateValue.{TemplateValue}
use Rattle.sql_templates.specs.Templates.{filled, put_value, place_with}

-- a digit goes on with a number
pub digit_more : (values : List TemplateValue) (n b : ℕ) (rest : List ℕ) → is_ascii_digit b ≡ true → filled values (Some n) (b ∷ rest) ≡ filled values (Some (place_with n b)) rest
digit_more values n b rest e = rw (e) refl

-- another byte ends it
pub value_ends : (values : List TemplateValue) (n b : ℕ) (front rest : List ℕ) → is_ascii_digit b ≡ false
    → front ++ filled values (Some n) (b ∷ rest) ≡ (front ++ put_value values n) ++ filled values None (b ∷ rest)
value_ends values n b front rest e = rw (e) (sym (append_assoc front (put_value values n) (filled values None (b ∷ rest))))

-- the byte at a place is the first one from there on
pub byte_first : (bytes : List ℕ) (i : ℕ) → i < length bytes → drop i bytes ≡ slice_index_or bytes i 0 ∷ drop (i + 1) bytes
byte_first bytes i lt = drop-cons bytes i 0 lt ∙ ap (λ n. slice_index_or bytes i 0 ∷ drop n bytes) one
  where
    one : suc i ≡ i + 1
    one = omega arith
