-- Lemmas on segments.
use Rattle.std.proofs.Common.{◌≡◌, ℕ, suc, zero, ◌<◌, ◌≤◌, List, [], ◌∷◌, refl, sym, ap, ◌∙◌, subst, arith, length, get_or, None}
use Rattle.std.specs.List.{All}
use Rattle.std.proofs.lemmas.List.{length-map, get_or-map, get_or_past}
use Rattle.base_row_laws.specs.Ranked.{Ranked, ranked, Relation, true_rank}
use Rattle.base_value.specs.declared.value.Value.{Value}
use Rattle.base_value.specs.declared.value.Value.TheVariants.{Null}
use Rattle.base_columns.specs.Batches.{column_at}
use Rattle.base_columns.specs.Numbers.{small_number}
use Rattle.base_columns.specs.Tables.{IsStored, plain_rows, standing_rows}

pub standing-plain : (rows : List (Ranked Value)) → All (λ r. r.standing ≡ true_rank) rows → rows ≡ standing_rows (plain_rows rows)
standing-plain [] h = refl
standing-plain (r ∷ rows) h =
    let e : r.standing ≡ true_rank = h 0 r (omega arith) in
    let f : r ≡ ranked r.values true_rank = ap (λ n. ranked r.values n) e in
    ap (λ x. x ∷ rows) f ∙ ap (λ xs. ranked r.values true_rank ∷ xs) (standing-plain rows (λ k d l. h (suc k) d (omega (arith, l))))

pub wide-plain : (n : ℕ) (rows : List (Ranked Value)) → All (λ r. length r.values ≡ n) rows → All (λ row. length row ≡ n) (plain_rows rows)
wide-plain n [] h k d l = absurd (omega (arith, l))
wide-plain n (r ∷ rows) h zero d l = h 0 r (omega arith)
wide-plain n (r ∷ rows) h (suc k) d l = wide-plain n rows (λ j c m. h (suc j) c (omega (arith, m))) k d (omega (arith, l))

pub length-plain : (rows : List (Ranked Value)) → length (plain_rows rows) ≡ length rows
length-plain rows = length-map rows (λ r. r.values)

pub stored-rows : (batch : Relation Value) → IsStored batch → batch.rows ≡ standing_rows (plain_rows batch.rows)
stored-rows batch h = standing-plain batch.rows h.stand

pub stored-wide : (batch : Relation Value) → IsStored batch → All (λ row. length row ≡ batch.width) (plain_rows batch.rows)
stored-wide batch h = wide-plain batch.width batch.rows h.wide

pub stored-some : (batch : Relation Value) → IsStored batch → 0 < length (plain_rows batch.rows)
stored-some batch h = rw (length-plain batch.rows) h.some

pub stored-most : (batch : Relation Value) → IsStored batch → length (plain_rows batch.rows) ≤ 4096
stored-most batch h = rw (length-plain batch.rows) h.most

-- a row, and a cell of it
pub stored-row : (rows : List (Ranked Value)) (plain : List (List Value)) (i : ℕ) → rows ≡ standing_rows plain → i < length plain
    → (get_or rows i (ranked [] true_rank)).values ≡ get_or plain i []
stored-row rows plain i e h = rw e (ap (λ r. r.values) (get_or-map (λ vs. ranked vs true_rank) plain i [] (ranked [] true_rank) h))

pub stored-cell : (rows : List (Ranked Value)) (plain : List (List Value)) (i j : ℕ) → rows ≡ standing_rows plain → i < length plain
    → get_or (column_at rows j) i Null ≡ get_or (get_or plain i []) j Null
stored-cell rows plain i j e h =
    get_or-map (λ r. get_or r.values j Null) rows i (ranked [] true_rank) Null (subst (λ n. i < n) (sym (ap length e ∙ length-map plain (λ vs. ranked vs true_rank))) h)
    ∙ ap (λ row. get_or row j Null) (stored-row rows plain i e h)

pub length-standing : (plain : List (List Value)) → length (standing_rows plain) ≡ length plain
length-standing plain = length-map plain (λ vs. ranked vs true_rank)

-- no cell past a row's end
pub no_cell : (plain : List (List Value)) (n i j : ℕ) → All (λ row. length row ≡ n) plain → i < length plain → n ≤ j → small_number (get_or (get_or plain i []) j Null) ≡ None
no_cell plain n i j w h l = rw (get_or_past (get_or plain i []) j Null (omega (arith, l, w i [] h))) refl

pub is_stored : (batch : Relation Value) → 0 < length batch.rows → length batch.rows ≤ 4096 → All (λ r. r.standing ≡ true_rank) batch.rows
    → All (λ r. length r.values ≡ batch.width) batch.rows → IsStored batch
is_stored batch s m t w = record { some = s; most = m; stand = t; wide = w }

pub ruleset segments = (is_stored, stored-row, stored-cell, length-standing, no_cell, stored-rows, stored-wide, stored-some, stored-most, length-plain)
