-- The first misfit of lists from some place on.
use Rattle.std.proofs.Common.{◌≡◌, ℕ, zero, suc, ◌+◌, ◌<◌, ◌≤◌, true, cond, List, [], ◌∷◌, length, drop, get_or, Some, None, Ok, eqb, refl, ap, ◌∙◌, arith}
use Rattle.std.proofs.lemmas.List.{drop_all}
use Rattle.std.proofs.lemmas.Bool.Decides.{nat_tests}
use Rattle.sql_ast.specs.declared.statement.TemplateValue.{TemplateValue}
use Rattle.sql_templates.specs.declared.kind.ValueKind.{ValueKind}
use Rattle.sql_templates.specs.Templates.{fits, first_misfit, filled, filled_query, is_query, template_of}

pub misfit_here : (p : ℕ) (kinds : List ValueKind) (values : List TemplateValue) (at : ℕ) (k : ValueKind) (v : TemplateValue) → at < length kinds → at < length values
    → first_misfit p (drop at kinds) (drop at values) ≡ cond (fits (get_or kinds at k) (get_or values at v)) (first_misfit (p + 1) (drop (at + 1) kinds) (drop (at + 1) values)) (Some p)
misfit_here p [] values at k v lt gt = absurd (omega (arith, lt))
misfit_here p (kind ∷ kinds) [] at k v lt gt = absurd (omega (arith, gt))
misfit_here p (kind ∷ kinds) (value ∷ values) zero k v lt gt = refl
misfit_here p (kind ∷ kinds) (value ∷ values) (suc at) k v lt gt =
    misfit_here p kinds values at k v (omega (arith, lt)) (omega (arith, gt))
    ∙ ap (λ n. cond (fits (get_or kinds at k) (get_or values at v)) (first_misfit (p + 1) (drop n (kind ∷ kinds)) (drop n (value ∷ values))) (Some p)) (one at)
  where
    one : (at : ℕ) → suc (at + 1) ≡ suc at + 1
    one at = omega arith

pub misfit_next : (p : ℕ) (kinds : List ValueKind) (values : List TemplateValue) (at : ℕ) (k : ValueKind) (v : TemplateValue) → at < length kinds → at < length values
    → fits (get_or kinds at k) (get_or values at v) ≡ true → first_misfit p (drop at kinds) (drop at values) ≡ first_misfit (p + 1) (drop (at + 1) kinds) (drop (at + 1) values)
misfit_next p kinds values at k v lt gt e = misfit_here p kinds values at k v lt gt ∙ rw (e) refl

pub misfit_past : (p : ℕ) (kinds : List ValueKind) (values : List TemplateValue) (at : ℕ) → length values ≤ at → first_misfit p kinds (drop at values) ≡ None
misfit_past p kinds values at le = ap (first_misfit p kinds) (drop_all at values le) ∙ none p kinds
  where
    none : (p : ℕ) (kinds : List ValueKind) → first_misfit p kinds [] ≡ None
    none p [] = refl
    none p (kind ∷ kinds) = refl

-- what a query is filled to
pub query_is : (number : ℕ) (values : List TemplateValue) → is_query number ≡ true → length values ≡ length (template_of number).kinds
    → first_misfit 1 (template_of number).kinds values ≡ None → filled_query number values ≡ Ok (filled values None (template_of number).text)
query_is number values q l m = rw (q, l, same (length (template_of number).kinds), m) refl
  where
    same : (n : ℕ) → eqb n n ≡ true
    same n = grind (arith, nat_tests)
