use Rattle.std.proofs.Common.{◌≡◌, ℕ, List, length, map, ap, sym, subst, ◌∙◌}
use Rattle.std.specs.List.{range_with_len}
use Rattle.std.proofs.lemmas.List.{length-map}
use Rattle.std.proofs.lemmas.List.FromFn.{length-range_with_len}
use Rattle.base_row_laws.specs.Rows.{same_row}
use Rattle.base_row_laws.specs.Numbers.{numbers_of}
use Rattle.base_key_tables.specs.Distinct.{first_places}
use Rattle.base_value.specs.Truth.{standing_rank}
use Rattle.base_value.specs.Value.{same_value}
use Rattle.base_value.specs.declared.value.Value.TheVariants.{Null}
use Rattle.base_columns.specs.Lists.{gathered, AreBelow}
use Rattle.exec_hash_group.specs.Keys.{key_rows, key_columns}
use Rattle.exec_hash_group.specs.Standings.{ranks, row_ranks, greatest_of, AreOfNumbers}
use Rattle.exec_hash_group.proofs.KeyCells.{keys_below, picked_long, picked_width, all_numbers_below}
use Rattle.exec_hash_group.proofs.Ranks.{are_firsts, distinct_relation}
use Rattle.exec_hash_group.proofs.identical.distinct.Goals as goal

pub at_places-requires : goal.at_places-requires
at_places-requires c =
    keys_below c.args.rows.now.rows (range_with_len 0 c.args.rows.now.width) c.as_slice-4.result.now c.as_slice-5.result.now
    (c.as_slice-4.ensures.value ∙ c.in_ok-keys.ensures ∙ ap (key_columns c.args.rows.now.rows) (c.as_slice.ensures ∙ c.in_ok-all.ensures.places))
    (c.as_slice-5.ensures.value ∙ c.in_ok-numbered.ensures.firsts ∙ ap (λ b. first_places (same_row same_value) (key_rows b c.args.rows.now.rows)) (c.as_slice-2.ensures ∙ c.in_ok-all.ensures.places))

pub greatest_standings-requires-clause-numbers : goal.greatest_standings-requires-clause-numbers
greatest_standings-requires-clause-numbers c =
    let is_n : c.as_slice-7.result.now ≡ numbers_of (same_row same_value) (key_rows (range_with_len 0 c.args.rows.now.width) c.args.rows.now.rows) =
    c.as_slice-7.ensures.value ∙ c.in_ok-numbered.ensures.numbers ∙ ap (λ b. numbers_of (same_row same_value) (key_rows b c.args.rows.now.rows)) (c.as_slice-2.ensures ∙ c.in_ok-all.ensures.places) in
    let is_f : c.as_slice-8.result.now ≡ first_places (same_row same_value) (key_rows (range_with_len 0 c.args.rows.now.width) c.args.rows.now.rows) =
    c.as_slice-8.ensures.value ∙ c.in_ok-numbered.ensures.firsts ∙ ap (λ b. first_places (same_row same_value) (key_rows b c.args.rows.now.rows)) (c.as_slice-2.ensures ∙ c.in_ok-all.ensures.places) in
    let B : List ℕ → Type 0 = λ fs. AreBelow (length fs) c.as_slice-7.result.now in
    let N : List ℕ → Type 0 = λ ns. AreBelow (length (first_places (same_row same_value) (key_rows (range_with_len 0 c.args.rows.now.width) c.args.rows.now.rows))) ns in
    subst B (sym is_f) (subst N (sym is_n) (all_numbers_below c.args.rows.now.rows (range_with_len 0 c.args.rows.now.width)))

pub greatest_standings-requires-clause-firsts : goal.greatest_standings-requires-clause-firsts
greatest_standings-requires-clause-firsts c =
    are_firsts c.args.rows.now.rows (range_with_len 0 c.args.rows.now.width) c.as_slice-7.result.now c.as_slice-8.result.now
    (c.as_slice-7.ensures.value ∙ c.in_ok-numbered.ensures.numbers ∙ ap (λ b. numbers_of (same_row same_value) (key_rows b c.args.rows.now.rows)) (c.as_slice-2.ensures ∙ c.in_ok-all.ensures.places))
    (c.as_slice-8.ensures.value ∙ c.in_ok-numbered.ensures.firsts ∙ ap (λ b. first_places (same_row same_value) (key_rows b c.args.rows.now.rows)) (c.as_slice-2.ensures ∙ c.in_ok-all.ensures.places))

pub of-requires : goal.of-requires
of-requires c =
    let n : length c.in_ok-greatest.greatest.items ≡ length c.as_slice-8.result.now = sym (length-map c.in_ok-greatest.greatest.items standing_rank) ∙ c.in_ok-greatest.ensures.long in
    picked_long c.as_slice-4.result.now c.in_ok-firsts.firsts.items c.as_slice-5.result.now (length c.in_ok-greatest.greatest.items) c.in_ok-firsts.ensures
    (n ∙ ap length (c.as_slice-8.ensures.value ∙ sym c.as_slice-5.ensures.value))

pub returns-clause-width : goal.returns-clause-width
returns-clause-width c =
    c.in_ok-bag.ensures.width ∙ ap (λ r. r.width) c.of.ensures
    ∙ picked_width c.args.rows.now.rows (range_with_len 0 c.args.rows.now.width) c.as_slice-4.result.now c.in_ok-firsts.firsts.items c.as_slice-5.result.now c.in_ok-greatest.greatest.items
    (c.as_slice-4.ensures.value ∙ c.in_ok-keys.ensures ∙ ap (key_columns c.args.rows.now.rows) (c.as_slice.ensures ∙ c.in_ok-all.ensures.places)) c.in_ok-firsts.ensures
    ∙ length-range_with_len 0 c.args.rows.now.width

pub returns-clause-rows : goal.returns-clause-rows
returns-clause-rows c =
    let is_k : c.as_slice-4.result.now ≡ key_columns c.args.rows.now.rows (range_with_len 0 c.args.rows.now.width) =
    c.as_slice-4.ensures.value ∙ c.in_ok-keys.ensures ∙ ap (key_columns c.args.rows.now.rows) (c.as_slice.ensures ∙ c.in_ok-all.ensures.places) in
    let G : List ℕ → Type 0 = λ all. AreOfNumbers (greatest_of c.as_slice-7.result.now all) (length c.as_slice-8.result.now) (ranks c.in_ok-greatest.greatest.items) in
    let H : List ℕ → Type 0 = λ fs. AreOfNumbers (greatest_of c.as_slice-7.result.now (row_ranks c.args.rows.now.rows)) (length fs) (ranks c.in_ok-greatest.greatest.items) in
    let are = subst H (c.as_slice-8.ensures.value ∙ sym c.as_slice-5.ensures.value) (subst G (ap ranks c.as_slice-6.ensures.value ∙ c.in_ok-standings.ensures) c.in_ok-greatest.ensures) in
    c.in_ok-bag.ensures.rows ∙ ap (λ r. r.rows) c.of.ensures
    ∙ distinct_relation c.args.rows.now.rows c.args.rows.now.width c.in_ok-firsts.firsts.items c.as_slice-7.result.now c.as_slice-5.result.now c.in_ok-greatest.greatest.items
    c.all_places.ensures.wide
    (c.as_slice-7.ensures.value ∙ c.in_ok-numbered.ensures.numbers ∙ ap (λ b. numbers_of (same_row same_value) (key_rows b c.args.rows.now.rows)) (c.as_slice-2.ensures ∙ c.in_ok-all.ensures.places))
    (c.as_slice-5.ensures.value ∙ c.in_ok-numbered.ensures.firsts ∙ ap (λ b. first_places (same_row same_value) (key_rows b c.args.rows.now.rows)) (c.as_slice-2.ensures ∙ c.in_ok-all.ensures.places))
    (c.in_ok-firsts.ensures ∙ ap (λ ks. map (λ x. gathered Null x c.as_slice-5.result.now) ks) is_k)
    are
