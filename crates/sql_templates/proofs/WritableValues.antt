-- Values that can be put into a script, as code learns it of each.
use Rattle.std.proofs.Common.{◌≡◌, ℕ, zero, suc, ◌+◌, ◌<◌, ◌≤◌, true, List, [], ◌∷◌, length, take, get_or, pos, negsuc, ℤ, subst, arith}
use Rattle.std.specs.Int.{w128}
use Rattle.std.specs.Prelude.{FitsSigned}
use Rattle.std.proofs.lemmas.Bool.Decides.{nat_tests}
use Rattle.base_decimal.specs.Decimal.{fits}
use Rattle.sql_ast.specs.declared.statement.TemplateValue.{TemplateValue}
use Rattle.sql_ast.specs.declared.statement.TemplateValue.TheVariants as value
use Rattle.sql_templates.specs.Writable.{IsWritable, AreWritable}

fits_is : (n : ℤ) → FitsSigned w128 n → fits n ≡ true
fits_is (pos n) h = grind (arith, nat_tests)
fits_is (negsuc n) h = grind (arith, nat_tests)

pub number_writable : (n : ℤ) (places : ℕ) → FitsSigned w128 n → places ≤ 18 → IsWritable (value.Number n places)
number_writable n places h few = (fits_is n h, few)

pub writable_more : (values : List TemplateValue) (at : ℕ) (v : TemplateValue) → at < length values → AreWritable (take at values) → IsWritable (get_or values at v) → AreWritable (take (at + 1) values)
writable_more [] at v lt w one = absurd (omega (arith, lt))
writable_more (x ∷ xs) zero v lt w one = (one, tt)
writable_more (x ∷ xs) (suc at) v lt w one = subst (λ n. AreWritable (take n (x ∷ xs))) (next at) (w.0, writable_more xs at v (omega (arith, lt)) w.1 one)
  where
    next : (at : ℕ) → suc (at + 1) ≡ suc at + 1
    next at = omega arith

pub writable_all : (values : List TemplateValue) (at : ℕ) → length values ≤ at → AreWritable (take at values) → AreWritable values
writable_all [] at le w = tt
writable_all (x ∷ xs) zero le w = absurd (omega (arith, le))
writable_all (x ∷ xs) (suc at) le w = (w.0, writable_all xs at (omega (arith, le)) w.1)
