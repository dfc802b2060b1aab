use Rattle.std.proofs.Common.{rules, ◌+◌, ◌<◌, ◌≤◌, sym, ap, ◌∙◌, arith, length, map, take}
use Rattle.std.specs.Prelude.{min}
use Rattle.std.proofs.lemmas.List.{take_all}
use Rattle.base_row_laws.specs.Operators.{select}
use Rattle.base_value.specs.Truth.{truth_rank}
use Rattle.expr_conditions.specs.Ranks.{rank_of, all_rank}
use Rattle.exec_parallel_scan.proofs.Narrowing.{stand_of_same, first_alone, one_part_more}
use Rattle.exec_parallel_scan.proofs.kept.kept_by_all.Goals as goal

pub loop-k-init : goal.loop-k-init
loop-k-init c =
    let es = c.args.es.now in
    let first = c.index-es-0.result in
    record {
      some = omega arith;
      width = c.in_ok-kept.ensures.width;
      rows = stand_of_same c.args.batch.now.rows (rank_of first) (all_rank (take 1 es)) c.in_ok-kept.kept.rows.rows c.in_ok-kept.kept.truths.items
          (first_alone es first c.requires c.index-es-0.is) c.in_ok-kept.ensures.rows;
    }

pub loop-k-preserved : goal.loop-k-preserved
loop-k-preserved c =
    let es = c.args.es.now in
    let k = c.loop-k.k in
    let e = c.index-es-k.result in
    let all = c.args.batch.now.rows in
    let lt : k < length es = search rules in
    record {
      some = omega arith;
      width = c.in_ok-kept-2.ensures.width ∙ c.loop-k.invariant.width;
      rows = stand_of_same all (λ row. min (all_rank (take k es) row) (rank_of e row)) (all_rank (take (k + 1) es)) c.in_ok-kept-2.kept.rows.rows c.in_ok-kept-2.kept.truths.items
          (one_part_more es k e lt c.index-es-k.is) (c.in_ok-kept-2.ensures.rows (all_rank (take k es)) all c.loop-k.invariant.rows);
    }

pub returns-clause-rows : goal.returns-clause-rows
returns-clause-rows c =
    let es = c.args.es.now in
    let s = c.loop-k.invariant.rows in
    let le : length es ≤ c.loop-k.k = search rules in
    c.in_ok-rows.ensures.rows s.says (ap (map truth_rank) c.as_slice.ensures.value ∙ s.ranks) ∙ s.kept
    ∙ ap (λ l. select (all_rank l) c.args.batch.now.rows) (take_all c.loop-k.k es le)
