use Rattle.std.proofs.Common.{ℕ, List, ◌++◌, map, ap, sym, subst, ◌∙◌}
use Rattle.base_columns.specs.Lists.{AreBelow}
use Rattle.exec_hash_group.specs.Grouping.{aggregate_column}
use Rattle.exec_hash_group.specs.Standings.{ranks, row_ranks, least_of, AreOfNumbers}
use Rattle.exec_hash_group.proofs.GroupRows.{groups_below, groups_long, groups_width, group_relation}
use Rattle.exec_hash_group.proofs.group_by.grouped.Goals as goal

pub least_standings-requires-clause-numbers : goal.least_standings-requires-clause-numbers
least_standings-requires-clause-numbers g c =
    let B : List ℕ → Type 0 = λ ns. AreBelow c.in_ok-keys.field-0.count ns in
    subst B (sym c.as_slice-2.ensures.value) (groups_below c.args.by.now c.args.rows.now.rows c.in_ok-keys.field-0.keys.items c.in_ok-keys.field-0.numbers.items c.in_ok-keys.field-0.count c.in_ok-keys.ensures).0

pub put_aggregates-requires-clause-numbers : goal.put_aggregates-requires-clause-numbers
put_aggregates-requires-clause-numbers g c =
    let B : List ℕ → Type 0 = λ ns. AreBelow c.in_ok-keys.field-0.count ns in
    subst B (sym c.as_slice-3.ensures.value) (groups_below c.args.by.now c.args.rows.now.rows c.in_ok-keys.field-0.keys.items c.in_ok-keys.field-0.numbers.items c.in_ok-keys.field-0.count c.in_ok-keys.ensures).0

pub of-requires : goal.of-requires
of-requires g c =
    let A : List ℕ → Type 0 = λ all. AreOfNumbers (least_of c.as_slice-2.result.now all) c.in_ok-keys.field-0.count (ranks c.in_ok-least.least.items) in
    let B : List ℕ → Type 0 = λ ns. AreOfNumbers (least_of ns (row_ranks c.args.rows.now.rows)) c.in_ok-keys.field-0.count (ranks c.in_ok-least.least.items) in
    let are = subst B c.as_slice-2.ensures.value (subst A (ap ranks c.as_slice.ensures.value ∙ c.in_ok-standings.ensures) c.in_ok-least.ensures) in
    groups_long c.args.by.now c.args.aggregates.now c.args.rows.now.rows c.in_ok-keys.field-0.keys.items c.put_aggregates.new.columns.items c.in_ok-keys.field-0.numbers.items c.in_ok-keys.field-0.count c.in_ok-least.least.items c.in_ok-keys.ensures
    (c.in_ok-put_aggregates.ensures ∙ ap (λ ns. c.in_ok-keys.field-0.keys.items ++ map (aggregate_column c.args.rows.now.rows ns c.in_ok-keys.field-0.count) c.args.aggregates.now) c.as_slice-3.ensures.value) are

pub returns-clause-width : goal.returns-clause-width
returns-clause-width g c =
    c.in_ok-bag.ensures.width ∙ ap (λ b. b.width) c.of.ensures
    ∙ groups_width c.args.by.now c.args.aggregates.now c.args.rows.now.rows c.in_ok-keys.field-0.keys.items c.put_aggregates.new.columns.items c.in_ok-keys.field-0.numbers.items c.in_ok-keys.field-0.count c.in_ok-least.least.items c.in_ok-keys.ensures
    (c.in_ok-put_aggregates.ensures ∙ ap (λ ns. c.in_ok-keys.field-0.keys.items ++ map (aggregate_column c.args.rows.now.rows ns c.in_ok-keys.field-0.count) c.args.aggregates.now) c.as_slice-3.ensures.value)

pub returns-clause-rows : goal.returns-clause-rows
returns-clause-rows g c =
    let A : List ℕ → Type 0 = λ all. AreOfNumbers (least_of c.as_slice-2.result.now all) c.in_ok-keys.field-0.count (ranks c.in_ok-least.least.items) in
    let B : List ℕ → Type 0 = λ ns. AreOfNumbers (least_of ns (row_ranks c.args.rows.now.rows)) c.in_ok-keys.field-0.count (ranks c.in_ok-least.least.items) in
    let are = subst B c.as_slice-2.ensures.value (subst A (ap ranks c.as_slice.ensures.value ∙ c.in_ok-standings.ensures) c.in_ok-least.ensures) in
    c.in_ok-bag.ensures.rows ∙ ap (λ b. b.rows) c.of.ensures
    ∙ group_relation c.args.by.now c.args.aggregates.now c.args.rows.now.rows c.in_ok-keys.field-0.keys.items c.put_aggregates.new.columns.items c.in_ok-keys.field-0.numbers.items c.in_ok-keys.field-0.count c.in_ok-least.least.items c.in_ok-keys.ensures
    (c.in_ok-put_aggregates.ensures ∙ ap (λ ns. c.in_ok-keys.field-0.keys.items ++ map (aggregate_column c.args.rows.now.rows ns c.in_ok-keys.field-0.count) c.args.aggregates.now) c.as_slice-3.ensures.value) are
