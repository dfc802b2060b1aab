-- Rows that are wide enough: their first columns are their beginning.
use Rattle.std.proofs.Common.{◌≡◌, ℕ, zero, suc, ◌+◌, ◌≤◌, ◌<◌, List, [], ◌∷◌, ◌++◌, map, refl, sym, ◌∙◌, ap, subst, arith, length, take, drop}
use Rattle.std.specs.Prelude.{slice_index_or}
use Rattle.std.specs.List.{range_with_len}
use Rattle.std.proofs.lemmas.List.{drop_more, map-append}
use Rattle.base_row_laws.specs.Ranked.{Ranked}
use Rattle.base_row_laws.specs.Rows.{columns}
use Rattle.base_row_laws.specs.Operators.{project, group_by}
use Rattle.base_row_laws.specs.Domains.{Wide, IsDomain, Answers}
use Rattle.base_row_laws.proofs.Lists.{Each-weaker}
use Rattle.base_row_laws.proofs.AtHand.{project_at_hand, group_at_hand}
use Rattle.base_value.specs.declared.value.Value.{Value}
use Rattle.base_value.specs.declared.value.Value.TheVariants.{Null}
use Rattle.base_value.specs.Value.{same_value}
use Rattle.expr_scalar.specs.declared.expr.Expr.{Expr}
use Rattle.expr_scalar.specs.declared.expr.Expr.TheVariants.{Column}
use Rattle.expr_scalar.specs.Meaning.{value, values}
use Rattle.expr_scalar.proofs.Opened.{value_Column}
use Rattle.plan_algebra.specs.declared.aggregate.Aggregate.{Aggregate}
use Rattle.plan_algebra.specs.Aggregates.{aggregates_of}
use Rattle.plan_algebra.specs.Plans.{groups}

pub taken_from : (i n : ℕ) (x : List Value) → i + n ≤ length x → columns Null (range_with_len i n) x ≡ take n (drop i x)
taken_from i zero x h = refl
taken_from i (suc n) x h =
    let l : i < length x = omega arith in
    rw (drop_more x i Null l) (ap (λ r. slice_index_or x i Null ∷ r) (taken_from (i + 1) n x (omega arith)))

pub taken : (n : ℕ) (x : List Value) → n ≤ length x → columns Null (range_with_len 0 n) x ≡ take n x
taken n x h = let whole : take n (drop 0 x) ≡ take n x = refl in taken_from 0 n x (omega arith) ∙ whole

-- what holds of wide rows may be used where the domain has a row
pub over_wide : (n : ℕ) (ds xs ys zs : List (Ranked Value)) (L M : List Value → List (Ranked Value)) → IsDomain same_value n ds → Answers same_value ds xs L
    → (Wide n xs → ys ≡ zs) → Answers same_value ds zs M → Answers same_value ds ys M
over_wide n [] xs ys zs L M dom a e b = tt
over_wide n (d ∷ ds) xs ys zs L M dom a e b =
    subst (λ l. Answers same_value (d ∷ ds) l M) (sym (e (subst (λ k. Wide k xs) dom.widths.0 a.0.wide))) b

pub column_values : (cs : List ℕ) (row : List Value) → values (map Column cs) row ≡ columns Null cs row
unfolding values
column_values [] row = refl
column_values (c ∷ cs) row = ap (λ v. v ∷ values (map Column cs) row) (value_Column c row) ∙ ap (λ l. slice_index_or row c Null ∷ l) (column_values cs row)

pub values-append : (es fs : List Expr) (row : List Value) → values (es ++ fs) row ≡ values es row ++ values fs row
unfolding values
values-append es fs row = map-append (λ e. value e row) es fs

-- a select list after the first columns
pub projected_wide : (n : ℕ) (es : List Expr) (xs : List (Ranked Value)) → Wide n xs
    → project (values (map Column (range_with_len 0 n) ++ es)) xs ≡ project (λ x. take n x ++ values es x) xs
projected_wide n es xs w =
    project_at_hand (values (map Column (range_with_len 0 n) ++ es)) (λ x. take n x ++ values es x) xs
    (Each-weaker (λ x. n ≤ length x.values) (λ x. values (map Column (range_with_len 0 n) ++ es) x.values ≡ take n x.values ++ values es x.values) xs
    (λ x h. values-append (map Column (range_with_len 0 n)) es x.values ∙ ap (λ l. l ++ values es x.values) (column_values (range_with_len 0 n) x.values ∙ taken n x.values h)) w)

pub columns-append : (some more : List ℕ) (row : List Value) → columns Null (some ++ more) row ≡ columns Null some row ++ columns Null more row
columns-append some more row = map-append (λ c. slice_index_or row c Null) some more

-- groups by the first columns and others
pub grouped_wide : (n : ℕ) (by : List ℕ) (A : List (Ranked Value) → List Value) (xs : List (Ranked Value)) → Wide n xs
    → group_by same_value (columns Null (range_with_len 0 n ++ by)) A xs ≡ group_by same_value (λ x. take n x ++ columns Null by x) A xs
grouped_wide n by A xs w =
    group_at_hand same_value (columns Null (range_with_len 0 n ++ by)) (λ x. take n x ++ columns Null by x) A A xs
    (Each-weaker (λ x. n ≤ length x.values) (λ x. columns Null (range_with_len 0 n ++ by) x.values ≡ take n x.values ++ columns Null by x.values) xs
    (λ x h. columns-append (range_with_len 0 n) by x.values ∙ ap (λ l. l ++ columns Null by x.values) (taken n x.values h)) w)
    (λ p. refl)

-- groups by the first columns alone
pub keyed_wide : (n : ℕ) (A : List (Ranked Value) → List Value) (xs : List (Ranked Value)) → Wide n xs
    → group_by same_value (columns Null (range_with_len 0 n)) A xs ≡ group_by same_value (λ x. take n x) A xs
keyed_wide n A xs w =
    group_at_hand same_value (columns Null (range_with_len 0 n)) (λ x. take n x) A A xs
    (Each-weaker (λ x. n ≤ length x.values) (λ x. columns Null (range_with_len 0 n) x.values ≡ take n x.values) xs (λ x h. taken n x.values h) w)
    (λ p. refl)

-- by some columns there are groups, and not one of all rows
pub groups_some : (bs : List ℕ) (c : ℕ) (cs : List ℕ) (aggregates : List Aggregate) (xs : List (Ranked Value))
    → groups (bs ++ c ∷ cs) aggregates xs ≡ group_by same_value (columns Null (bs ++ c ∷ cs)) (aggregates_of aggregates) xs
groups_some [] c cs aggregates xs = refl
groups_some (b ∷ bs) c cs aggregates xs = refl
