-- What each node gives over rows, as the code that goes over columns sees it.
use Rattle.std.proofs.Common.{◌≡◌, ℕ, ◌<◌, ◌≤◌, suc, List, [], ◌∷◌, map, fold, refl, sym, ap, ◌∙◌, length, replicate, get_or, arith, Option, Some, None, unwrap_or, slice_index_or}
use Rattle.std.specs.List.{All}
use Rattle.std.proofs.lemmas.List.{length-map, get_or_past}
use Rattle.base_row_laws.specs.Ranked.{Ranked}
use Rattle.base_row_laws.proofs.Lists.{map-map}
use Rattle.base_value.specs.Truth.{lesser, greater, negated}
use Rattle.base_value.specs.declared.truth.Standing.TheVariants.{AtFault, AtTrue}
use Rattle.base_value.specs.declared.truth.Truth.{Truth}
use Rattle.base_value.specs.declared.truth.Truth.TheVariants.{False, Unknown, Stands}
use Rattle.base_value.specs.declared.value.Value.{Value}
use Rattle.base_value.specs.declared.value.Value.TheVariants.{Null}
use Rattle.expr_operators.specs.declared.operator.Comparison.{Comparison}
use Rattle.expr_operators.specs.declared.operator.Comparison.TheVariants.{Equal, LessOrEqual, GreaterOrEqual}
use Rattle.expr_operators.specs.declared.operator.DatePart.{DatePart}
use Rattle.expr_operators.specs.Operators.{at_scale, negative, computed, extracted, part_of, compared, between, liked, null_test, truth_of_mark}
use Rattle.expr_scalar.specs.declared.expr.Branch.{Branch}
use Rattle.expr_scalar.specs.declared.expr.Expr.{Expr}
use Rattle.expr_scalar.specs.declared.expr.Expr.TheVariants as e
use Rattle.expr_scalar.specs.declared.expr.Operation.{Operation}
use Rattle.expr_scalar.specs.Meaning.{operation_value, operated, value, truth, values, truths, chosen, decided, first_of, least, greatest, in_list}
use Rattle.expr_scalar.proofs.Opened as node
use Rattle.exec_column_operators.specs.Choices.{choice}
use Rattle.exec_column_operators.specs.Zips.{zip_with, zip_three}
use Rattle.base_columns.specs.Batches.{column_at}
use Rattle.exec_column_expr.specs.Rows.{values_over, truths_over, operated_over, least_over, greatest_over, equal_over, chosen_over}
use Rattle.exec_column_expr.proofs.Lists.{agree, alike, zip_of, three_of}

abbrev Rows : Type 0
Rows = List (Ranked Value)

pub length-values_over : (a : Expr) (rows : Rows) → length (values_over a rows) ≡ length rows
unfolding values_over
length-values_over a rows = length-map rows (λ r. value a r.values)

pub length-truths_over : (a : Expr) (rows : Rows) → length (truths_over a rows) ≡ length rows
unfolding truths_over
length-truths_over a rows = length-map rows (λ r. truth a r.values)

-- a place past the end of each row
pub past_end : (rows : Rows) (width place n : ℕ) → All (λ r. length r.values ≡ width) rows → width ≤ place → n ≡ length rows → replicate n Null ≡ column_at rows place
past_end rows width place n wide far is =
    ap (λ m. replicate m Null) is ∙ go rows wide
  where
    go : (rows : Rows) → All (λ r. length r.values ≡ width) rows → replicate (length rows) Null ≡ column_at rows place
    go [] h = refl
    go (r ∷ rows) h =
        let l : length r.values ≤ place = omega (arith, h 0 r (omega arith), far) in
        ap (λ vs. Null ∷ vs) (go rows (λ k d m. h (suc k) d (omega (arith, m)))) ∙ ap (λ v. v ∷ column_at rows place) (sym (get_or_past r.values place Null l))

-- a node whose value or truth is the same at each row
one_value : (a : Expr) (v : Value) (rows : Rows) → ((row : List Value) → value a row ≡ v) → values_over a rows ≡ replicate (length rows) v
unfolding values_over
one_value a v rows h = agree (λ (r : Ranked Value). value a r.values) (λ (r : Ranked Value). v) rows (λ r. h r.values) ∙ alike v rows

one_truth : (a : Expr) (t : Truth) (rows : Rows) → ((row : List Value) → truth a row ≡ t) → truths_over a rows ≡ replicate (length rows) t
unfolding truths_over
one_truth a t rows h = agree (λ (r : Ranked Value). truth a r.values) (λ (r : Ranked Value). t) rows (λ r. h r.values) ∙ alike t rows

-- a node made of the value or the truth of one part
value_by : (a b : Expr) (f : Value → Value) (rows : Rows) → ((row : List Value) → value a row ≡ f (value b row)) → values_over a rows ≡ map f (values_over b rows)
unfolding values_over
value_by a b f rows h =
    agree (λ (r : Ranked Value). value a r.values) (λ (r : Ranked Value). f (value b r.values)) rows (λ r. h r.values)
    ∙ sym (map-map f (λ (r : Ranked Value). value b r.values) rows)

test_by : (a b : Expr) (f : Value → Truth) (rows : Rows) → ((row : List Value) → truth a row ≡ f (value b row)) → truths_over a rows ≡ map f (values_over b rows)
unfolding values_over truths_over
test_by a b f rows h =
    agree (λ (r : Ranked Value). truth a r.values) (λ (r : Ranked Value). f (value b r.values)) rows (λ r. h r.values)
    ∙ sym (map-map f (λ (r : Ranked Value). value b r.values) rows)

-- operations, from left to right
operated_rows : (f : Ranked Value → Value) (os : List Operation) (rows : Rows) → operated_over (map f rows) os rows ≡ map (λ r. operated (f r) os r.values) rows
unfolding operated operated_over values_over
operated_rows f [] rows = refl
operated_rows f (o ∷ os) rows =
    ap (λ xs. operated_over xs os rows) (zip_of (computed o.operator) f (λ (r : Ranked Value). value o.operand r.values) rows)
    ∙ operated_rows (λ (r : Ranked Value). computed o.operator (f r) (value o.operand r.values)) os rows
    ∙ agree (λ (r : Ranked Value). operated (computed o.operator (f r) (value o.operand r.values)) os r.values) (λ (r : Ranked Value). operated (f r) (o ∷ os) r.values) rows
    (λ r. ap (λ x. operated x os r.values) (sym (node.operation_is o (f r) r.values)))

-- a branch of a CASE
choice_is : (t : Truth) (v d : Value) (o : Option Value) → choice t v (unwrap_or o d) ≡ unwrap_or (first_of (decided t v) o) d
choice_is False v d o = refl
choice_is Unknown v d o = refl
choice_is (Stands (AtFault f)) v d o = refl
choice_is (Stands AtTrue) v d o = refl

chosen_rows : (f : Ranked Value → Value) (bs : List Branch) (rows : Rows) → chosen_over bs (map f rows) rows ≡ map (λ r. unwrap_or (chosen bs r.values) (f r)) rows
unfolding chosen chosen_over values_over truths_over
chosen_rows f [] rows = refl
chosen_rows f (b ∷ bs) rows =
    ap (zip_three choice (truths_over b.when rows) (values_over b.gives rows)) (chosen_rows f bs rows)
    ∙ three_of choice (λ (r : Ranked Value). truth b.when r.values) (λ (r : Ranked Value). value b.gives r.values) (λ (r : Ranked Value). unwrap_or (chosen bs r.values) (f r)) rows
    ∙ agree (λ (r : Ranked Value). choice (truth b.when r.values) (value b.gives r.values) (unwrap_or (chosen bs r.values) (f r))) (λ (r : Ranked Value). unwrap_or (chosen (b ∷ bs) r.values) (f r)) rows
    (λ r. choice_is (truth b.when r.values) (value b.gives r.values) (f r) (chosen bs r.values)
    ∙ ap (λ o. unwrap_or (first_of o (chosen bs r.values)) (f r)) (sym (node.branch_is b r.values)))

-- AND and OR
least_rows : (t : Ranked Value → Truth) (es : List Expr) (rows : Rows) → least_over (map t rows) es rows ≡ map (λ r. fold lesser (t r) (truths es r.values)) rows
unfolding least_over truths truths_over
least_rows t [] rows = refl
least_rows t (a ∷ es) rows =
    ap (λ ts. least_over ts es rows) (zip_of lesser t (λ (r : Ranked Value). truth a r.values) rows) ∙ least_rows (λ (r : Ranked Value). lesser (t r) (truth a r.values)) es rows

greatest_rows : (t : Ranked Value → Truth) (es : List Expr) (rows : Rows) → greatest_over (map t rows) es rows ≡ map (λ r. fold greater (t r) (truths es r.values)) rows
unfolding greatest_over truths truths_over
greatest_rows t [] rows = refl
greatest_rows t (a ∷ es) rows =
    ap (λ ts. greatest_over ts es rows) (zip_of greater t (λ (r : Ranked Value). truth a r.values) rows) ∙ greatest_rows (λ (r : Ranked Value). greater (t r) (truth a r.values)) es rows

-- an IN list
equal_rows : (x : Ranked Value → Value) (t : Ranked Value → Truth) (es : List Expr) (rows : Rows)
    → equal_over (map x rows) (map t rows) es rows ≡ map (λ r. fold greater (t r) (map (compared Equal (x r)) (values es r.values))) rows
unfolding equal_over values values_over
equal_rows x t [] rows = refl
equal_rows x t (a ∷ es) rows =
    ap (λ ts. equal_over (map x rows) (zip_with greater (map t rows) ts) es rows) (zip_of (compared Equal) x (λ (r : Ranked Value). value a r.values) rows)
    ∙ ap (λ ts. equal_over (map x rows) ts es rows) (zip_of greater t (λ (r : Ranked Value). compared Equal (x r) (value a r.values)) rows)
    ∙ equal_rows x (λ (r : Ranked Value). greater (t r) (compared Equal (x r) (value a r.values))) es rows

-- the values of each node

pub values_Column : (place : ℕ) (rows : Rows) → values_over (e.Column place) rows ≡ column_at rows place
unfolding values_over
values_Column place rows =
    agree (λ (r : Ranked Value). value (e.Column place) r.values) (λ (r : Ranked Value). slice_index_or r.values place Null) rows (λ r. node.value_Column place r.values)

pub values_Literal : (v : Value) (rows : Rows) → values_over (e.Literal v) rows ≡ replicate (length rows) v
values_Literal v rows = one_value (e.Literal v) v rows (λ row. node.value_Literal v row)

pub values_Negative : (a : Expr) (rows : Rows) → values_over (e.Negative a) rows ≡ map negative (values_over a rows)
values_Negative a rows = value_by (e.Negative a) a negative rows (λ row. node.value_Negative a row)

pub values_Arithmetic : (a : Expr) (os : List Operation) (rows : Rows) → values_over (e.Arithmetic a os) rows ≡ operated_over (values_over a rows) os rows
unfolding values_over
values_Arithmetic a os rows =
    agree (λ (r : Ranked Value). value (e.Arithmetic a os) r.values) (λ (r : Ranked Value). operated (value a r.values) os r.values) rows (λ r. node.value_Arithmetic a os r.values)
    ∙ sym (operated_rows (λ (r : Ranked Value). value a r.values) os rows)

pub values_Case : (scale : ℕ) (bs : List Branch) (a : Expr) (rows : Rows) → values_over (e.Case scale bs a) rows ≡ map (at_scale scale) (chosen_over bs (values_over a rows) rows)
unfolding values_over
values_Case scale bs a rows =
    agree (λ (r : Ranked Value). value (e.Case scale bs a) r.values) (λ (r : Ranked Value). at_scale scale (unwrap_or (chosen bs r.values) (value a r.values))) rows (λ r. node.value_Case scale bs a r.values)
    ∙ sym (map-map (at_scale scale) (λ (r : Ranked Value). unwrap_or (chosen bs r.values) (value a r.values)) rows)
    ∙ ap (map (at_scale scale)) (sym (chosen_rows (λ (r : Ranked Value). value a r.values) bs rows))

pub values_Extract : (part : DatePart) (a : Expr) (rows : Rows) → values_over (e.Extract part a) rows ≡ map (extracted part) (values_over a rows)
values_Extract part a rows = value_by (e.Extract part a) a (extracted part) rows (λ row. node.value_Extract part a row)

pub values_Substring : (a : Expr) (from count : ℕ) (rows : Rows) → values_over (e.Substring a from count) rows ≡ map (part_of from count) (values_over a rows)
values_Substring a from count rows = value_by (e.Substring a from count) a (part_of from count) rows (λ row. node.value_Substring a from count row)

pub values_Compare : (c : Comparison) (a b : Expr) (rows : Rows) → values_over (e.Compare c a b) rows ≡ replicate (length rows) Null
values_Compare c a b rows = one_value (e.Compare c a b) Null rows (λ row. node.value_Compare c a b row)

pub values_Between : (a low high : Expr) (rows : Rows) → values_over (e.Between a low high) rows ≡ replicate (length rows) Null
values_Between a low high rows = one_value (e.Between a low high) Null rows (λ row. node.value_Between a low high row)

pub values_Like : (a : Expr) (pattern : List ℕ) (rows : Rows) → values_over (e.Like a pattern) rows ≡ replicate (length rows) Null
values_Like a pattern rows = one_value (e.Like a pattern) Null rows (λ row. node.value_Like a pattern row)

pub values_InList : (a : Expr) (es : List Expr) (rows : Rows) → values_over (e.InList a es) rows ≡ replicate (length rows) Null
values_InList a es rows = one_value (e.InList a es) Null rows (λ row. node.value_InList a es row)

pub values_IsNull : (a : Expr) (rows : Rows) → values_over (e.IsNull a) rows ≡ replicate (length rows) Null
values_IsNull a rows = one_value (e.IsNull a) Null rows (λ row. node.value_IsNull a row)

pub values_Not : (a : Expr) (rows : Rows) → values_over (e.Not a) rows ≡ replicate (length rows) Null
values_Not a rows = one_value (e.Not a) Null rows (λ row. node.value_Not a row)

pub values_All : (es : List Expr) (rows : Rows) → values_over (e.All es) rows ≡ replicate (length rows) Null
values_All es rows = one_value (e.All es) Null rows (λ row. node.value_All es row)

pub values_Any : (es : List Expr) (rows : Rows) → values_over (e.Any es) rows ≡ replicate (length rows) Null
values_Any es rows = one_value (e.Any es) Null rows (λ row. node.value_Any es row)

pub values_IsMarked : (a : Expr) (rows : Rows) → values_over (e.IsMarked a) rows ≡ replicate (length rows) Null
values_IsMarked a rows = one_value (e.IsMarked a) Null rows (λ row. node.value_IsMarked a row)

-- the truths of each node

pub truths_Column : (place : ℕ) (rows : Rows) → truths_over (e.Column place) rows ≡ replicate (length rows) Unknown
truths_Column place rows = one_truth (e.Column place) Unknown rows (λ row. node.truth_Column place row)

pub truths_Literal : (v : Value) (rows : Rows) → truths_over (e.Literal v) rows ≡ replicate (length rows) Unknown
truths_Literal v rows = one_truth (e.Literal v) Unknown rows (λ row. node.truth_Literal v row)

pub truths_Negative : (a : Expr) (rows : Rows) → truths_over (e.Negative a) rows ≡ replicate (length rows) Unknown
truths_Negative a rows = one_truth (e.Negative a) Unknown rows (λ row. node.truth_Negative a row)

pub truths_Arithmetic : (a : Expr) (os : List Operation) (rows : Rows) → truths_over (e.Arithmetic a os) rows ≡ replicate (length rows) Unknown
truths_Arithmetic a os rows = one_truth (e.Arithmetic a os) Unknown rows (λ row. node.truth_Arithmetic a os row)

pub truths_Case : (scale : ℕ) (bs : List Branch) (a : Expr) (rows : Rows) → truths_over (e.Case scale bs a) rows ≡ replicate (length rows) Unknown
truths_Case scale bs a rows = one_truth (e.Case scale bs a) Unknown rows (λ row. node.truth_Case scale bs a row)

pub truths_Extract : (part : DatePart) (a : Expr) (rows : Rows) → truths_over (e.Extract part a) rows ≡ replicate (length rows) Unknown
truths_Extract part a rows = one_truth (e.Extract part a) Unknown rows (λ row. node.truth_Extract part a row)

pub truths_Substring : (a : Expr) (from count : ℕ) (rows : Rows) → truths_over (e.Substring a from count) rows ≡ replicate (length rows) Unknown
truths_Substring a from count rows = one_truth (e.Substring a from count) Unknown rows (λ row. node.truth_Substring a from count row)

pub truths_Compare : (c : Comparison) (a b : Expr) (rows : Rows) → truths_over (e.Compare c a b) rows ≡ zip_with (compared c) (values_over a rows) (values_over b rows)
unfolding values_over truths_over
truths_Compare c a b rows =
    agree (λ (r : Ranked Value). truth (e.Compare c a b) r.values) (λ (r : Ranked Value). compared c (value a r.values) (value b r.values)) rows (λ r. node.truth_Compare c a b r.values)
    ∙ sym (zip_of (compared c) (λ (r : Ranked Value). value a r.values) (λ (r : Ranked Value). value b r.values) rows)

pub truths_Between : (a low high : Expr) (rows : Rows)
    → truths_over (e.Between a low high) rows
    ≡ zip_with lesser (zip_with (compared GreaterOrEqual) (values_over a rows) (values_over low rows)) (zip_with (compared LessOrEqual) (values_over a rows) (values_over high rows))
unfolding values_over truths_over
truths_Between a low high rows =
    let x = λ (r : Ranked Value). value a r.values in
    let l = λ (r : Ranked Value). value low r.values in
    let h = λ (r : Ranked Value). value high r.values in
    agree (λ (r : Ranked Value). truth (e.Between a low high) r.values) (λ (r : Ranked Value). between (x r) (l r) (h r)) rows (λ r. node.truth_Between a low high r.values)
    ∙ sym (zip_of lesser (λ (r : Ranked Value). compared GreaterOrEqual (x r) (l r)) (λ (r : Ranked Value). compared LessOrEqual (x r) (h r)) rows)
    ∙ ap (λ ts. zip_with lesser ts (map (λ (r : Ranked Value). compared LessOrEqual (x r) (h r)) rows)) (sym (zip_of (compared GreaterOrEqual) x l rows))
    ∙ ap (zip_with lesser (zip_with (compared GreaterOrEqual) (map x rows) (map l rows))) (sym (zip_of (compared LessOrEqual) x h rows))

pub truths_Like : (a : Expr) (pattern : List ℕ) (rows : Rows) → truths_over (e.Like a pattern) rows ≡ map (liked pattern) (values_over a rows)
truths_Like a pattern rows = test_by (e.Like a pattern) a (liked pattern) rows (λ row. node.truth_Like a pattern row)

pub truths_InList : (a : Expr) (es : List Expr) (rows : Rows) → truths_over (e.InList a es) rows ≡ equal_over (values_over a rows) (replicate (length rows) False) es rows
unfolding values_over truths_over
truths_InList a es rows =
    agree (λ (r : Ranked Value). truth (e.InList a es) r.values) (λ (r : Ranked Value). in_list (value a r.values) (values es r.values)) rows (λ r. node.truth_InList a es r.values)
    ∙ sym (equal_rows (λ (r : Ranked Value). value a r.values) (λ (r : Ranked Value). False) es rows)
    ∙ ap (λ ts. equal_over (values_over a rows) ts es rows) (alike False rows)

pub truths_IsNull : (a : Expr) (rows : Rows) → truths_over (e.IsNull a) rows ≡ map null_test (values_over a rows)
truths_IsNull a rows = test_by (e.IsNull a) a null_test rows (λ row. node.truth_IsNull a row)

pub truths_Not : (a : Expr) (rows : Rows) → truths_over (e.Not a) rows ≡ map negated (truths_over a rows)
unfolding truths_over
truths_Not a rows =
    agree (λ (r : Ranked Value). truth (e.Not a) r.values) (λ (r : Ranked Value). negated (truth a r.values)) rows (λ r. node.truth_Not a r.values)
    ∙ sym (map-map negated (λ (r : Ranked Value). truth a r.values) rows)

pub truths_All : (es : List Expr) (rows : Rows) → truths_over (e.All es) rows ≡ least_over (replicate (length rows) (Stands AtTrue)) es rows
unfolding truths_over
truths_All es rows =
    agree (λ (r : Ranked Value). truth (e.All es) r.values) (λ (r : Ranked Value). least (truths es r.values)) rows (λ r. node.truth_All es r.values)
    ∙ sym (least_rows (λ (r : Ranked Value). Stands AtTrue) es rows)
    ∙ ap (λ ts. least_over ts es rows) (alike (Stands AtTrue) rows)

pub truths_Any : (es : List Expr) (rows : Rows) → truths_over (e.Any es) rows ≡ greatest_over (replicate (length rows) False) es rows
unfolding truths_over
truths_Any es rows =
    agree (λ (r : Ranked Value). truth (e.Any es) r.values) (λ (r : Ranked Value). greatest (truths es r.values)) rows (λ r. node.truth_Any es r.values)
    ∙ sym (greatest_rows (λ (r : Ranked Value). False) es rows)
    ∙ ap (λ ts. greatest_over ts es rows) (alike False rows)

pub truths_IsMarked : (a : Expr) (rows : Rows) → truths_over (e.IsMarked a) rows ≡ map truth_of_mark (values_over a rows)
truths_IsMarked a rows = test_by (e.IsMarked a) a truth_of_mark rows (λ row. node.truth_IsMarked a row)

-- for the functions that go over the nodes
pub ruleset values_opened = (values_Column, values_Literal, values_Negative, values_Arithmetic, values_Case, values_Extract, values_Substring, values_Compare, values_Between, values_Like, values_InList, values_IsNull, values_Not, values_All, values_Any, values_IsMarked, length-values_over)

pub ruleset truths_opened = (truths_Column, truths_Literal, truths_Negative, truths_Arithmetic, truths_Case, truths_Extract, truths_Substring, truths_Compare, truths_Between, truths_Like, truths_InList, truths_IsNull, truths_Not, truths_All, truths_Any, truths_IsMarked, length-values_over, length-truths_over)

pub ruleset lengths = (length-values_over, length-truths_over)
