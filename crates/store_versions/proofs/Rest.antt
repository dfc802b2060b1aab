-- Rows that are not stored yet, with a part more.
use Rattle.std.proofs.Common.{◌≡◌, ◌+◌, ◌≤◌, List, [], ◌∷◌, ◌++◌, length, refl, sym, ap, ◌∙◌}
use Rattle.std.proofs.Common.{subst, arith, append_assoc, length-append}
use Rattle.std.specs.List.{All}
use Rattle.std.proofs.lemmas.List.{length-map, map-append}
use Rattle.std.proofs.lemmas.List.Elements.{All-append, All-map}
use Rattle.base_row_laws.specs.Ranked.{Ranked, ranked, Relation, true_rank}
use Rattle.base_value.specs.declared.value.Value.{Value}
use Rattle.base_columns.specs.Tables.{IsOpen, plain_rows, standing_rows}

pub plain_standing : (rows : List (List Value)) → plain_rows (standing_rows rows) ≡ rows
plain_standing [] = refl
plain_standing (r ∷ rows) = ap (λ l. r ∷ l) (plain_standing rows)

all_stand : (rows : List (List Value)) → All (λ r. r.standing ≡ true_rank) (standing_rows rows)
all_stand rows = All-map (λ (r : Ranked Value). r.standing ≡ true_rank) (λ values. ranked values true_rank) rows (λ k d less. refl)

count_standing : (rows : List (List Value)) → length (standing_rows rows) ≡ length rows
count_standing rows = length-map rows (λ values. ranked values true_rank)

-- what is not stored yet, with a part more
pub rows_joined : (done : List (List Value)) (before rest batch after : List (Ranked Value)) (old part : List (List Value))
    → after ≡ rest ++ batch → batch ≡ standing_rows part → done ++ plain_rows rest ≡ old ++ plain_rows before
    → done ++ plain_rows after ≡ (old ++ plain_rows before) ++ part
rows_joined done before rest batch after old part e is same =
    ap (λ rows. done ++ plain_rows rows) e
    ∙ ap (λ rows. done ++ rows) (map-append (λ r. r.values) rest batch)
    ∙ sym (append_assoc done (plain_rows rest) (plain_rows batch))
    ∙ ap (λ rows. rows ++ plain_rows batch) same
    ∙ ap (λ rows. (old ++ plain_rows before) ++ plain_rows rows) is
    ∙ ap (λ rows. (old ++ plain_rows before) ++ rows) (plain_standing part)

pub open_joined : (rest batch new : Relation Value) (part : List (List Value)) → IsOpen rest → new.width ≡ rest.width → rest.width ≡ batch.width
    → new.rows ≡ rest.rows ++ batch.rows → batch.rows ≡ standing_rows part → All (λ r. length r.values ≡ batch.width) batch.rows
    → length rest.rows + length part ≤ 4096 → IsOpen new
open_joined rest batch new part is_open width same rows standing wide room =
    let count : length batch.rows ≡ length part = ap length standing ∙ count_standing part in
    let all : length new.rows ≡ length rest.rows + length batch.rows = ap length rows ∙ length-append rest.rows batch.rows in
    record {
      most = omega (arith, count, all, room);
      stand = subst (All (λ r. r.standing ≡ true_rank)) (sym rows)
          (All-append (λ (r : Ranked Value). r.standing ≡ true_rank) rest.rows batch.rows is_open.stand (subst (All (λ r. r.standing ≡ true_rank)) (sym standing) (all_stand part)));
      wide = subst (λ n. All (λ r. length r.values ≡ n) new.rows) (sym width)
          (subst (All (λ r. length r.values ≡ rest.width)) (sym rows)
          (All-append (λ (r : Ranked Value). length r.values ≡ rest.width) rest.rows batch.rows is_open.wide (subst (λ n. All (λ r. length r.values ≡ n) batch.rows) (sym same) wide)));
    }
