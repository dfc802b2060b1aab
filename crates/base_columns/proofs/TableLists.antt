-- Lemmas on the rows of a table under way.
use Rattle.std.proofs.Common.{◌≡◌, ℕ, ◌+◌, ◌-◌, ◌*◌, ◌/◌, ◌%◌, ◌^◌, ◌<◌, ◌≤◌, List, [], ◌∷◌, ◌++◌, refl, sym, ap, ◌∙◌, subst, arith, length, get_or, take, map, append_assoc, length-append, Option, ℤ}
use Rattle.std.specs.List.{All}
use Rattle.std.proofs.lemmas.List.{append-nil, get_or_append_left, get_or-append_right, length-map, map-append, get_or-map, length-take-le, length_push, nil_from_length, get_or_default}
use Rattle.std.proofs.lemmas.List.Elements.{All-push, All-take}
use Rattle.base_row_laws.specs.Ranked.{Ranked, ranked, Relation, true_rank}
use Rattle.base_value.specs.declared.value.Value.{Value}
use Rattle.base_columns.specs.Lists.{one_list}
use Rattle.base_value.specs.declared.value.Value.TheVariants.{Null}
use Rattle.base_columns.specs.Batches.{row_at}
use Rattle.base_columns.specs.Fields.{field_value}
use Rattle.base_columns.specs.declared.field.Field.{Field}
use Rattle.base_columns.specs.Numbers.{small_number}
use Rattle.base_columns.specs.Tables.{Table, table_under_way, AreFull, IsOpen, plain_rows}
use Rattle.base_columns.proofs.RowLists.{one_list-push, one_list-at, length-full}

pub table-width : (full : List (List (List Value))) (rest : Relation Value) → (table_under_way full rest).width ≡ rest.width
unfolding table_under_way
table-width full rest = refl

pub table-rows : (full : List (List (List Value))) (rest : Relation Value) → (table_under_way full rest).rows ≡ one_list full ++ plain_rows rest.rows
unfolding table_under_way
table-rows full rest = refl

pub table-nil : (rest : Relation Value) → rest.rows ≡ [] → (table_under_way [] rest).rows ≡ []
unfolding table_under_way
table-nil rest e = ap plain_rows e

pub table-length : (full : List (List (List Value))) (rest : Relation Value) → AreFull full → length (table_under_way full rest).rows ≡ length full * 4096 + length rest.rows
unfolding table_under_way
table-length full rest f =
    length-append (one_list full) (plain_rows rest.rows) ∙ rw (length-full full f.each, length-map rest.rows (λ r. r.values)) refl

pub full-length : (full : List (List (List Value))) → AreFull full → length full * 4096 ≡ length (one_list full)
full-length full f = sym (length-full full f.each)

pub no_rest : (xs : List (List Value)) (rows : List (Ranked Value)) → length rows ≡ 0 → xs ≡ xs ++ plain_rows rows
no_rest xs rows e = sym (append-nil xs) ∙ ap (λ rs. xs ++ plain_rows rs) (sym (nil_from_length rows e))

pub table-push : (full : List (List (List Value))) (rest new : Relation Value) (row : List Value) (n : ℕ) → new.rows ≡ rest.rows ++ ranked row n ∷ []
    → (table_under_way full new).rows ≡ (table_under_way full rest).rows ++ row ∷ []
unfolding table_under_way
table-push full rest new row n e =
    ap (λ rows. one_list full ++ plain_rows rows) e
    ∙ ap (λ rows. one_list full ++ rows) (map-append (λ r. r.values) rest.rows (ranked row n ∷ []))
    ∙ sym (append_assoc (one_list full) (plain_rows rest.rows) (row ∷ []))

pub table-same : (full : List (List (List Value))) (rest new : Relation Value) → new.rows ≡ rest.rows → (table_under_way full new).rows ≡ (table_under_way full rest).rows
unfolding table_under_way
table-same full rest new e = ap (λ rows. one_list full ++ plain_rows rows) e

-- the rows that were rest are a full segment
pub table-closed : (full : List (List (List Value))) (rest new : Relation Value) → new.width ≡ rest.width → new.rows ≡ []
    → table_under_way (full ++ plain_rows rest.rows ∷ []) new ≡ table_under_way full rest
unfolding table_under_way
table-closed full rest new w e =
    let rows : one_list (full ++ plain_rows rest.rows ∷ []) ++ plain_rows new.rows ≡ one_list full ++ plain_rows rest.rows =
    ap (λ xs. one_list (full ++ plain_rows rest.rows ∷ []) ++ plain_rows xs) e ∙ append-nil _ ∙ one_list-push full (plain_rows rest.rows) in
    rw (w, rows) refl

pub full-nil : AreFull []
full-nil = record { each = λ k d h. absurd (omega (arith, h)); few = omega arith }

pub full-push : (full : List (List (List Value))) (rows : List (Ranked Value)) → AreFull full → length rows ≡ 4096 → length full < 2 ^ 50 - 1 → AreFull (full ++ plain_rows rows ∷ [])
full-push full rows f e h = record {
  each = All-push (λ s. length s ≡ 4096) full (plain_rows rows) f.each (length-map rows (λ r. r.values) ∙ e);
  few = omega (arith, h, length_push full (plain_rows rows));
}

pub open-nil : (batch : Relation Value) → batch.rows ≡ [] → IsOpen batch
open-nil batch e =
    let l : length batch.rows ≡ 0 = ap length e in
    record { most = omega (arith, l); stand = λ k d h. absurd (omega (arith, h, l)); wide = λ k d h. absurd (omega (arith, h, l)) }

pub open-push : (batch new : Relation Value) (row : List Value) → IsOpen batch → length batch.rows < 4096 → new.width ≡ batch.width
    → new.rows ≡ batch.rows ++ ranked row true_rank ∷ [] → length row ≡ batch.width → IsOpen new
open-push batch new row o h w e l = record {
  most = omega (arith, h, ap length e, length_push batch.rows (ranked row true_rank));
  stand = subst (All (λ r. r.standing ≡ true_rank)) (sym e) (All-push (λ r. r.standing ≡ true_rank) batch.rows (ranked row true_rank) o.stand refl);
  wide = subst (λ n. All (λ r. length r.values ≡ n) new.rows) (sym w) (subst (All (λ r. length r.values ≡ batch.width)) (sym e) (All-push (λ r. length r.values ≡ batch.width) batch.rows (ranked row true_rank) o.wide l));
}

-- as many fields as values
pub fields-open : (batch new : Relation Value) (row : List Field) → IsOpen batch → length batch.rows < 4096 → new.width ≡ batch.width
    → new.rows ≡ batch.rows ++ ranked (map field_value row) true_rank ∷ [] → length row ≡ batch.width → IsOpen new
fields-open batch new row o h w e l = open-push batch new (map field_value row) o h w e (length-map row field_value ∙ l)

pub open-same : (batch new : Relation Value) → IsOpen batch → new.width ≡ batch.width → new.rows ≡ batch.rows → IsOpen new
open-same batch new o w e = record {
  most = rw e o.most;
  stand = subst (All (λ r. r.standing ≡ true_rank)) (sym e) o.stand;
  wide = subst (λ n. All (λ r. length r.values ≡ n) new.rows) (sym w) (subst (All (λ r. length r.values ≡ batch.width)) (sym e) o.wide);
}

pub open-most : (batch : Relation Value) → IsOpen batch → length batch.rows ≤ 4096
open-most batch o = o.most

pub open-stand : (batch : Relation Value) → IsOpen batch → All (λ r. r.standing ≡ true_rank) batch.rows
open-stand batch o = o.stand

-- a row of a full segment, and one of those that come after them
pub row-full : (full : List (List (List Value))) (rest : Relation Value) (i q r : ℕ) → AreFull full → q ≡ i / 4096 → r ≡ i % 4096 → q < length full
    → get_or (table_under_way full rest).rows i [] ≡ get_or (get_or full q []) r []
unfolding table_under_way
row-full full rest i q r f eq er h =
    let before : length (one_list (take q full)) ≡ q * 4096 =
    length-full (take q full) (All-take (λ s. length s ≡ 4096) q full f.each) ∙ ap (λ n. n * 4096) (length-take-le q full (omega (arith, h))) in
    let here : length (get_or full q []) ≡ 4096 = f.each q [] h in
    let all : length (one_list full) ≡ length full * 4096 = length-full full f.each in
    let place : i ≡ q * 4096 + r = omega (arith, eq, er) in
    let small : r < 4096 = omega (arith, er) in
    get_or_append_left (one_list full) (plain_rows rest.rows) [] i (omega (arith, all, place, small, h))
    ∙ one_list-at full [] q i r h (omega (arith, before, place)) (omega (arith, here, small))

pub row-open : (full : List (List (List Value))) (rest : Relation Value) (i left : ℕ) → AreFull full → left ≡ i - length full * 4096 → length full * 4096 ≤ i → left < length rest.rows
    → get_or (table_under_way full rest).rows i [] ≡ (row_at rest.rows left).values
unfolding table_under_way
row-open full rest i left f e h l =
    let all : length (one_list full) ≡ length full * 4096 = length-full full f.each in
    get_or-append_right (one_list full) (plain_rows rest.rows) (length full * 4096) i [] all h
    ∙ ap (λ n. get_or (plain_rows rest.rows) n []) (sym e)
    ∙ get_or-map (λ r. r.values) rest.rows left (ranked [] true_rank) [] l

-- the number of a row
pub number_full : (table : Table) (full : List (List (List Value))) (rest : Relation Value) (i j : ℕ) (segment : List (List Value)) (r : Option ℤ) → table ≡ table_under_way full rest → AreFull full
    → i / 4096 < length full → segment ≡ get_or full (i / 4096) segment → r ≡ small_number (get_or (get_or segment (i % 4096) []) j Null)
    → r ≡ small_number (get_or (get_or table.rows i []) j Null)
number_full table full rest i j segment r t f h s e =
    e ∙ ap (λ row. small_number (get_or row j Null))
    (ap (λ x. get_or x (i % 4096) []) (s ∙ get_or_default full (i / 4096) segment [] h)
    ∙ sym (row-full full rest i (i / 4096) (i % 4096) f refl refl h)
    ∙ ap (λ x. get_or x.rows i []) (sym t))

pub number_rest : (table : Table) (full : List (List (List Value))) (rest : Relation Value) (i j left : ℕ) (r : Option ℤ) → table ≡ table_under_way full rest → AreFull full
    → length full ≤ i / 4096 → i < length table.rows → left ≡ i - length full * 4096 → r ≡ small_number (get_or (row_at rest.rows left).values j Null)
    → r ≡ small_number (get_or (get_or table.rows i []) j Null)
number_rest table full rest i j left r t f h l m e =
    let n : length table.rows ≡ length full * 4096 + length rest.rows = ap (λ x. length x.rows) t ∙ table-length full rest f in
    let o : length full * 4096 ≤ i = omega (arith, h) in
    e ∙ ap (λ row. small_number (get_or row j Null))
    (sym (row-open full rest i left f m o (omega (arith, l, n, m, o)))
    ∙ ap (λ x. get_or x.rows i []) (sym t))

pub ruleset tables = (fields-open, full-length, no_rest, table-width, table-rows, table-nil, table-length, table-push, table-same, table-closed, full-nil, full-push, open-nil, open-push, open-same, open-most, open-stand)
