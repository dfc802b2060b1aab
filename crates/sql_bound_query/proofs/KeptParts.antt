-- Well-typed queries: what no rows of tables are needed for.
use Rattle.std.proofs.Common.{◌≡◌, ℕ, List, [], ◌∷◌, ◌++◌, true, map}
use Rattle.std.proofs.Common.{refl, sym, ◌∙◌, ap, subst}
use Rattle.std.proofs.lemmas.Bool.Decides.{Decides-eqb}
use Rattle.std.specs.Prelude.{Option, Some, None, slice_get, slice_index_or}
use Rattle.base_row_laws.specs.Bags.{Each}
use Rattle.base_row_laws.specs.Ranked.{Ranked}
use Rattle.base_row_laws.specs.Rows.{columns}
use Rattle.expr_scalar.specs.declared.expr.Expr.{Expr}
use Rattle.expr_scalar.specs.declared.kind.Kind.{Kind}
use Rattle.expr_scalar.specs.declared.kind.Kind.TheVariants as kind
use Rattle.base_row_laws.specs.StandingLaws.{Stands}
use Rattle.expr_scalar.specs.Typing.{Sort, is_of_kind, row_is_of, sort_of, same_kind}
use Rattle.expr_scalar.specs.Typing.{sort_gives, gives}
use Rattle.expr_scalar.specs.Typing.Sort.{Unfit, Nulls, Of}
use Rattle.expr_scalar.specs.Meaning.{value}
use Rattle.expr_scalar.proofs.Typed.{well_typed}
use Rattle.base_value.specs.declared.value.Value.{Value}
use Rattle.base_value.specs.declared.value.Value.TheVariants.{Null}
use Rattle.base_value.specs.Value.{same_value}
use Rattle.sql_bound_query.specs.declared.query.SetColumn.{SetColumn}
use Rattle.sql_bound_query.specs.Meaning.{groups}
use Rattle.sql_bound_query.specs.Meaning.{single_value, left_columns, right_columns}
use Rattle.sql_bound_query.specs.Typing.{where_some, all_some, kind_of_sort, sort_over}
use Rattle.sql_bound_query.specs.Typing.{only_kind}
use Rattle.sql_bound_query.specs.Typing.{common_kind, set_kinds}
use Rattle.sql_bound_query.proofs.KeptRows as kept
use Rattle.sql_bound_query.proofs.Keeps.{Found, some_of, Passed, passed, some_is, both_so}
use Rattle.sql_bound_query.proofs.Keeps.{value_at_kept, row_append}
use Rattle.sql_bound_query.proofs.Keeps.{row_column, keys_kept}

-- rows of these kinds
abbrev pub Rows : List Kind → Ranked Value → Type 0
Rows ks x = row_is_of ks x.values ≡ true

pub of_sort : (s : Sort) (k : Kind) → kind_of_sort s ≡ Some k → s ≡ Of k
of_sort Unfit k e = cc
of_sort Nulls k e = cc
of_sort (Of j) k e = ap Of (some_is j k e)

pub same_kind_itself : (k : Kind) → same_kind k k ≡ true
same_kind_itself (kind.Number s) = (Decides-eqb s s).1 refl
same_kind_itself kind.Text = refl
same_kind_itself kind.Date = refl

pub over_kept : (x : Expr) (o : Option (List Kind)) (k : Kind) (row : List Value)
    → kind_of_sort (sort_over x o) ≡ Some k
    → ((ks : List Kind) → o ≡ Some ks → row_is_of ks row ≡ true)
    → is_of_kind k (value x row) ≡ true
over_kept x None k row e h = cc
over_kept x (Some ks) k row e h =
    let s : sort_of x ks ≡ Of k = of_sort (sort_of x ks) k e in
    let g : gives x ks k ≡ true = ap (λ (z : Sort). sort_gives z k) s ∙ same_kind_itself k in
    well_typed x ks k row g (h ks refl)

-- groups of rows of some kinds
pub groups_kept : (ls js ms : List Kind) (keys : List ℕ)
    (aggregates : List (Ranked Value) → List Value) (xs : List (Ranked Value))
    → all_some (map (slice_get ls) keys) ≡ Some js
    → ((ys : List (Ranked Value)) → Each (Rows ls) ys → row_is_of ms (aggregates ys) ≡ true)
    → Each (Rows ls) xs → Each (Rows (js ++ ms)) (groups keys aggregates xs)
groups_kept ls js ms [] aggregates xs e g all =
    (subst (λ z. row_is_of (z ++ ms) (aggregates xs) ≡ true) (some_is [] js e) (g xs all), tt)
groups_kept ls js ms (c ∷ keys) aggregates xs e g all =
    kept.group_each (λ r. row_is_of ls r ≡ true) (λ r. row_is_of js r ≡ true)
    (λ r. row_is_of (js ++ ms) r ≡ true) same_value (columns Null (c ∷ keys)) aggregates xs
    (λ r p. keys_kept ls r (c ∷ keys) js p e)
    (λ k ys p q. row_append js ms k (aggregates ys) p (g ys q)) all

-- a column of a set operation, of a row of either side
pub left_kind : (s t : Sort) (k : Kind) → common_kind s t ≡ Some k → s ≡ Of k
left_kind Unfit t k e = cc
left_kind Nulls t k e = cc
left_kind (Of j) Unfit k e = cc
left_kind (Of j) Nulls k e = cc
left_kind (Of j) (Of i) k e = ap Of (some_is j k (passed (same_kind j i) (Some j) k e).is)

same_turned : (i k : Kind) → same_kind k i ≡ true → same_kind i k ≡ true
same_turned (kind.Number s) (kind.Number t) h = (Decides-eqb s t).1 (sym ((Decides-eqb t s).0 h))
same_turned (kind.Number s) kind.Text h = cc
same_turned (kind.Number s) kind.Date h = cc
same_turned kind.Text (kind.Number t) h = cc
same_turned kind.Text kind.Text h = refl
same_turned kind.Text kind.Date h = cc
same_turned kind.Date (kind.Number t) h = cc
same_turned kind.Date kind.Text h = cc
same_turned kind.Date kind.Date h = refl

pub right_kind : (s t : Sort) (k : Kind) → common_kind s t ≡ Some k → sort_gives t k ≡ true
right_kind Unfit t k e = cc
right_kind Nulls t k e = cc
right_kind (Of j) Unfit k e = cc
right_kind (Of j) Nulls k e = cc
right_kind (Of j) (Of i) k e =
    let p : Passed (same_kind j i) (Some j) k = passed (same_kind j i) (Some j) k e in
    same_turned i k (subst (λ z. same_kind z i ≡ true) (some_is j k p.is) p.test)

pub set_left : (columns : List SetColumn) (ls rs ks : List Kind) (r : List Value)
    → row_is_of ls r ≡ true → set_kinds columns ls rs ≡ Some ks
    → row_is_of ks (left_columns columns r) ≡ true
set_left [] ls rs ks r h e = subst (λ z. row_is_of z [] ≡ true) (some_is [] ks e) refl
set_left (c ∷ columns) ls rs ks r h e =
    let own : Option Kind = common_kind (sort_of c.left ls) (sort_of c.right rs) in
    let rest : Option (List Kind) = set_kinds columns ls rs in
    let f : Found own (λ a. where_some rest (λ all. Some (a ∷ all))) ks =
    some_of own (λ a. where_some rest (λ all. Some (a ∷ all))) ks e in
    let g : Found rest (λ all. Some (f.it ∷ all)) ks =
    some_of rest (λ all. Some (f.it ∷ all)) ks f.gives in
    let s : sort_of c.left ls ≡ Of f.it = left_kind (sort_of c.left ls) (sort_of c.right rs) f.it f.is in
    let t : gives c.left ls f.it ≡ true =
    ap (λ (z : Sort). sort_gives z f.it) s ∙ same_kind_itself f.it in
    subst (λ z. row_is_of z (value c.left r ∷ left_columns columns r) ≡ true)
    (some_is (f.it ∷ g.it) ks g.gives)
    (both_so (is_of_kind f.it (value c.left r)) (row_is_of g.it (left_columns columns r))
    (well_typed c.left ls f.it r t h) (set_left columns ls rs g.it r h g.is))

pub set_right : (columns : List SetColumn) (ls rs ks : List Kind) (r : List Value)
    → row_is_of rs r ≡ true → set_kinds columns ls rs ≡ Some ks
    → row_is_of ks (right_columns columns r) ≡ true
set_right [] ls rs ks r h e = subst (λ z. row_is_of z [] ≡ true) (some_is [] ks e) refl
set_right (c ∷ columns) ls rs ks r h e =
    let own : Option Kind = common_kind (sort_of c.left ls) (sort_of c.right rs) in
    let rest : Option (List Kind) = set_kinds columns ls rs in
    let f : Found own (λ a. where_some rest (λ all. Some (a ∷ all))) ks =
    some_of own (λ a. where_some rest (λ all. Some (a ∷ all))) ks e in
    let g : Found rest (λ all. Some (f.it ∷ all)) ks =
    some_of rest (λ all. Some (f.it ∷ all)) ks f.gives in
    let t : gives c.right rs f.it ≡ true =
    right_kind (sort_of c.left ls) (sort_of c.right rs) f.it f.is in
    subst (λ z. row_is_of z (value c.right r ∷ right_columns columns r) ≡ true)
    (some_is (f.it ∷ g.it) ks g.gives)
    (both_so (is_of_kind f.it (value c.right r)) (row_is_of g.it (right_columns columns r))
    (well_typed c.right rs f.it r t h) (set_right columns ls rs g.it r h g.is))

pub only_is : (js : List Kind) (k : Kind) → only_kind js ≡ Some k → js ≡ k ∷ []
only_is [] k e = cc
only_is (j ∷ []) k e = ap (λ z. z ∷ []) (some_is j k e)
only_is (j ∷ i ∷ js) k e = cc

pub single_row : (k : Kind) (xs : List (Ranked Value)) → Each (Rows (k ∷ [])) xs → Each Stands xs
    → is_of_kind k (single_value xs) ≡ true
single_row k [] all stand = refl
single_row k (x ∷ []) all stand =
    value_at_kept k (slice_index_or x.values 0 Null) x.standing stand.0.not_dropped
    (row_column (k ∷ []) x.values 0 k all.0 refl)
single_row k (x ∷ y ∷ zs) all stand = refl
