-- Places in order are rows in order.
use Rattle.std.proofs.Common.{◌≡◌, ℕ, ◌+◌, ◌<◌, ◌≤◌, List, [], ◌∷◌, false, refl, sym, ◌∙◌, ap, arith, length, get_or, drop, pos, take}
use Rattle.std.specs.declared.cmp.Ordering.{Ordering}
use Rattle.std.specs.declared.cmp.Ordering.TheVariants.{Less, Equal, Greater}
use Rattle.std.specs.Ordering.{is_lt, int_cmp, ordering_then, ordering_reverse}
use Rattle.std.specs.Cmp.{IsStrictWeakOrder, on_total, then_total}
use Rattle.std.specs.List.Sorted.{IsPermutation, IsSortedBy}
use Rattle.std.proofs.lemmas.Bool.{true≢false}
use Rattle.std.proofs.lemmas.Cmp.{int_cmp_total}
use Rattle.std.proofs.lemmas.List.{length-map, get_or-map, take-map, drop_more}
use Rattle.std.proofs.lemmas.List.Elements.{All-take}
use Rattle.std.proofs.Math.ListN.{drop_of_length-le}
use Rattle.std.proofs.lemmas.List.Sorted.{ranks_by}
use Rattle.base_row_laws.specs.Ranked.{Relation}
use Rattle.base_row_laws.proofs.Bags.{SameBag-map}
use Rattle.base_row_laws.proofs.Tables.{from_permutation}
use Rattle.base_value.specs.declared.value.Value.{Value}
use Rattle.base_value.specs.declared.value.Value.TheVariants.{Null}
use Rattle.base_value.specs.Value.{row_cmp}
use Rattle.base_columns.specs.declared.column_builder.ColumnForm.{ColumnForm}
use Rattle.base_order_limit.specs.declared.key.OrderKey.{OrderKey}
use Rattle.base_order_limit.specs.Answers.{answer_order, comes_before, in_order}
use Rattle.base_order_limit.proofs.Orders.{answer_total}
use Rattle.base_order_limit.proofs.Sorted.{sorted_is}
use Rattle.exec_ordered_rows.specs.Places.{placed_row, placed_rows}
use Rattle.exec_ordered_rows.specs.Sketches.{AreSketched, IsSketched, place_order, row_sketch}
use Rattle.exec_ordered_rows.specs.declared.place.RowPlace.{RowPlace}
use Rattle.exec_ordered_rows.proofs.SketchOrders.{row_law}

-- std's strict order, for sorting
pub place_rank : (keys : List OrderKey) (bs : List (Relation Value))
    → IsStrictWeakOrder (λ p q. is_lt (place_order keys bs p q))
place_rank keys bs =
    ranks_by (then_total (on_total (λ (p : RowPlace). p.sketch) int_cmp_total)
    (on_total (placed_row bs) (answer_total keys))) (λ x. x)

-- a place that is not before another by number and row has a row that is not before the other's
less_by : (o r s : Ordering) → r ≡ ordering_reverse s → is_lt (ordering_then o r) ≡ false
    → (o ≡ Greater → s ≡ Less) → is_lt r ≡ false
less_by Less r s e h l = absurd (true≢false h)
less_by Equal r s e h l = h
less_by Greater r s e h l = ap is_lt (e ∙ ap ordering_reverse (l refl))

not_before : (keys : List OrderKey) (form : ColumnForm) (bs : List (Relation Value))
    (p q : RowPlace) → IsSketched keys form bs p → IsSketched keys form bs q
    → is_lt (place_order keys bs q p) ≡ false
    → is_lt (answer_order keys (placed_row bs q) (placed_row bs p)) ≡ false
not_before keys form bs p q a b h =
    let x = placed_row bs p in
    let y = placed_row bs q in
    less_by (int_cmp q.sketch p.sketch) (answer_order keys y x) (answer_order keys x y)
    ((answer_total keys).antisymm y x) h
    (λ e. row_law keys form x y
    (ap (λ n. int_cmp n (row_sketch keys form y)) (sym a.sketched)
    ∙ ap (λ n. int_cmp p.sketch n) (sym b.sketched)
    ∙ int_cmp_total.antisymm p.sketch q.sketch ∙ ap ordering_reverse e))

pub sorted_rows : (keys : List OrderKey) (form : ColumnForm) (bs : List (Relation Value))
    (xs ys : List RowPlace) → AreSketched keys form bs ys → IsPermutation xs ys
    → IsSortedBy (λ p q. is_lt (place_order keys bs p q)) ys
    → placed_rows bs ys ≡ in_order (comes_before keys) (placed_rows bs xs)
sorted_rows keys form bs xs ys all same up =
    let e : RowPlace = record { sketch = pos 0; batch = 0; row = 0 } in
    let long : length (placed_rows bs ys) ≡ length ys = length-map ys (placed_row bs) in
    sorted_is keys (placed_rows bs xs) (placed_rows bs ys)
    (SameBag-map (placed_row bs) (from_permutation xs ys same))
    (λ k d l h.
    let first : k < length ys = omega (arith, long, h) in
    let second : k + 1 < length ys = omega (arith, long, h) in
    ap (λ v. is_lt (answer_order keys v (get_or (placed_rows bs ys) k d)))
    (get_or-map (placed_row bs) ys (k + 1) e d second)
    ∙ ap (λ v. is_lt (answer_order keys (placed_row bs (get_or ys (k + 1) e)) v))
    (get_or-map (placed_row bs) ys k e d first)
    ∙ not_before keys form bs (get_or ys k e) (get_or ys (k + 1) e) (all k e first)
    (all (k + 1) e second) (up k e l second))

-- the first ones
pub first_rows : (bs : List (Relation Value)) (n : ℕ) (ys : List RowPlace)
    (rows : List (List Value)) → placed_rows bs ys ≡ rows
    → placed_rows bs (take n ys) ≡ take n rows
first_rows bs n ys rows e = sym (take-map (placed_row bs) n ys) ∙ ap (take n) e

pub first_sketched : (keys : List OrderKey) (form : ColumnForm) (bs : List (Relation Value))
    (n : ℕ) (ys : List RowPlace) → AreSketched keys form bs ys
    → AreSketched keys form bs (take n ys)
first_sketched keys form bs n ys a = All-take (IsSketched keys form bs) n ys a

pub ruleset firsts = (first_rows, first_sketched)

-- rows of which one ends before the other
pub right_ends : (x y : List Value) (j : ℕ) → j < length x → length y ≤ j
    → row_cmp x y ≡ row_cmp (drop j x) (drop j y) → Greater ≡ row_cmp x y
right_ends x y j h l e =
    sym (e ∙ ap (λ v. row_cmp v (drop j y)) (drop_more x j Null h)
    ∙ ap (row_cmp (get_or x j Null ∷ drop (j + 1) x)) (drop_of_length-le y l))

pub left_ends : (x y : List Value) (j : ℕ) → j ≤ length x → length x ≤ j → length x < length y
    → row_cmp x y ≡ row_cmp (drop j x) (drop j y) → Less ≡ row_cmp x y
left_ends x y j h k l e =
    sym (e ∙ ap (λ v. row_cmp v (drop j y)) (drop_of_length-le x k)
    ∙ ap (row_cmp []) (drop_more y j Null (omega (arith, h, l))))
