-- The least fault of rows, value by value, row by row and batch by batch.
use Rattle.std.proofs.Common.{◌≡◌, ℕ, ◌+◌, ◌<◌, ◌≤◌, List, [], ◌∷◌, ◌++◌, sym, ◌∙◌, ap, refl, arith, length, take, get_or, suc}
use Rattle.std.specs.Prelude.{min}
use Rattle.std.specs.List.{All}
use Rattle.std.proofs.lemmas.List.{take_more, take_all}
use Rattle.base_row_laws.specs.Bags.{bottom}
use Rattle.base_row_laws.specs.Ranked.{Ranked, ranked, Relation}
use Rattle.base_row_laws.proofs.OfBags.{bottom-append, bottom_most}
use Rattle.base_value.specs.declared.truth.Fault.TheVariants.{TooManyRows, DivideByZero, NumberRange}
use Rattle.base_value.specs.declared.truth.Standing.{Standing}
use Rattle.base_value.specs.declared.truth.Standing.TheVariants.{AtFault, AtTrue}
use Rattle.base_value.specs.declared.value.Value.{Value}
use Rattle.base_value.specs.declared.value.Value.TheVariants.{Null}
use Rattle.base_value.specs.Truth.{standing_rank}
use Rattle.base_columns.specs.Batches.{row_at}
use Rattle.base_columns.specs.Bags.{bag_rows}
use Rattle.base_columns.proofs.BagLists.{bag_rows-more}
use Rattle.expr_aggregates.specs.Values.{value_rank}
use Rattle.base_order_limit.specs.Answers.{least_rank, row_rank}
use Rattle.exec_ordered_rows.specs.Cells.{HaveNoFault}

most_standing : (s : Standing) → standing_rank s ≤ 5
most_standing (AtFault TooManyRows) = omega arith
most_standing (AtFault DivideByZero) = omega arith
most_standing (AtFault NumberRange) = omega arith
most_standing AtTrue = omega arith

-- the values of a row
pub fault_start : (values : List Value) (s : Standing) (n : ℕ) → standing_rank s ≡ n
    → standing_rank s ≡ min n (bottom 5 value_rank (take 0 values))
fault_start values s n e = let most = most_standing s in omega (arith, e, most)

pub fault_more : (values : List Value) (i s old new : ℕ) (v : Value) → i < length values
    → v ≡ get_or values i Null → old ≡ min s (bottom 5 value_rank (take i values))
    → new ≡ min old (value_rank v)
    → new ≡ min s (bottom 5 value_rank (take (i + 1) values))
fault_more values i s old new v lt is before step =
    let longer : take (i + 1) values ≡ take i values ++ v ∷ [] =
    take_more values i Null lt ∙ ap (λ y. take i values ++ y ∷ []) (sym is) in
    let e : bottom 5 value_rank (take (i + 1) values)
    ≡ min (bottom 5 value_rank (take i values)) (min (value_rank v) 5) =
    ap (bottom 5 value_rank) longer ∙ bottom-append 5 value_rank (take i values) (v ∷ []) in
    let most = bottom_most 5 value_rank (take i values) in
    omega (arith, before, step, e, most)

pub fault_end : (values : List Value) (i s old : ℕ) → length values ≤ i
    → old ≡ min s (bottom 5 value_rank (take i values)) → old ≡ min s (bottom 5 value_rank values)
fault_end values i s old e before =
    before ∙ ap (λ l. min s (bottom 5 value_rank l)) (take_all i values e)

pub ruleset values = (fault_start, fault_more, fault_end)

-- the rows of a batch
least_append : (xs ys : List (Ranked Value))
    → least_rank (xs ++ ys) ≡ min (least_rank xs) (least_rank ys)
least_append xs ys = bottom-append 5 row_rank xs ys

row_most : (x : Ranked Value) → row_rank x ≤ 5
row_most x = let most = bottom_most 5 value_rank x.values in omega (arith, most)

pub row_more : (rows : List (Ranked Value)) (i old new this : ℕ) → i < length rows
    → this ≡ row_rank (row_at rows i) → old ≡ least_rank (take i rows) → new ≡ min old this
    → new ≡ least_rank (take (i + 1) rows)
row_more rows i old new this lt is before step =
    let longer : least_rank (take (i + 1) rows)
    ≡ min (least_rank (take i rows)) (min (row_rank (row_at rows i)) 5) =
    ap least_rank (take_more rows i (ranked [] 5) lt)
    ∙ least_append (take i rows) (row_at rows i ∷ []) in
    let most = row_most (row_at rows i) in omega (arith, longer, is, before, step, most)

pub rows_end : (rows : List (Ranked Value)) (i old : ℕ) → length rows ≤ i
    → old ≡ least_rank (take i rows) → old ≡ least_rank rows
rows_end rows i old e before = before ∙ ap least_rank (take_all i rows e)

pub ruleset rows = (row_more, rows_end)

no_rank : (values : List Value) → HaveNoFault values → bottom 5 value_rank values ≡ 5
no_rank [] a = refl
no_rank (v ∷ vs) a =
    let one : value_rank v ≡ 5 = a 0 Null (omega arith) in
    let rest = no_rank vs (λ k d h. a (suc k) d (omega (arith, h))) in omega (arith, one, rest)

pub plain_more : (rows : List (Ranked Value)) (i old new : ℕ) (s : Standing) → i < length rows
    → All (λ r. HaveNoFault r.values) rows → standing_rank s ≡ (row_at rows i).standing
    → old ≡ least_rank (take i rows) → new ≡ min old (standing_rank s)
    → new ≡ least_rank (take (i + 1) rows)
plain_more rows i old new s lt none is before step =
    let most = most_standing s in
    let values = no_rank (row_at rows i).values (none i (ranked [] 5) lt) in
    let this : standing_rank s ≡ row_rank (row_at rows i) = omega (arith, most, values, is) in
    row_more rows i old new (standing_rank s) lt this before step

pub ruleset plain = (plain_more, rows_end)

-- all batches
pub batch_more : (bs : List (Relation Value)) (i old new this : ℕ) (b : Relation Value)
    → i < length bs → b ≡ get_or bs i b → this ≡ least_rank b.rows
    → old ≡ least_rank (bag_rows (take i bs)) → new ≡ min old this
    → new ≡ least_rank (bag_rows (take (i + 1) bs))
batch_more bs i old new this b lt is one before step =
    let longer : least_rank (bag_rows (take (i + 1) bs))
    ≡ min (least_rank (bag_rows (take i bs))) (least_rank b.rows) =
    ap least_rank (bag_rows-more bs i b lt is)
    ∙ least_append (bag_rows (take i bs)) b.rows in
    omega (arith, longer, one, before, step)

pub batches_end : (bs : List (Relation Value)) (i old : ℕ) → length bs ≤ i
    → old ≡ least_rank (bag_rows (take i bs)) → old ≡ least_rank (bag_rows bs)
batches_end bs i old e before = before ∙ ap (λ l. least_rank (bag_rows l)) (take_all i bs e)

pub ruleset batches = (batch_more, batches_end)
