-- The plan of a query, run, gives its rows and reads as much.
use Rattle.std.proofs.Common.{◌≡◌, ◌∙◌, ℕ, List, [], ap, inl, inr, length, map, refl}
use Rattle.std.proofs.Math.Path.{fun_ext}
use Rattle.std.specs.Prelude.{Option, nat_lt, Ok, Err, if◌then◌else◌}
use Rattle.base_row_laws.specs.Ranked.{Ranked, true_rank}
use Rattle.base_row_laws.proofs.Bags.{SameBag-map, SameBag-trans}
use Rattle.base_row_laws.proofs.OfBags.{OfBag-bottom}
use Rattle.base_value.specs.declared.value.Value.{Value}
use Rattle.expr_aggregates.specs.Values.{written}
use Rattle.base_order_limit.specs.Answers.{comes_before, finished, in_order, least_rank, limited, row_rank, row_values}
use Rattle.base_order_limit.specs.declared.key.OrderKey.{OrderKey}
use Rattle.base_order_limit.proofs.Sorted.{in_order_alike}
use Rattle.sql_bound_query.specs.Answer.{answer}
use Rattle.sql_bound_query.specs.Meaning.{rows}
use Rattle.base_row_laws.specs.Bags.{SameBag, weigh}
use Rattle.base_row_laws.proofs.Tables.{sum_is}
use Rattle.plan_algebra.specs.Plans.{plan_reads, plan_scans, reads_of, result_rows, rows_read}
use Rattle.plan_algebra.specs.declared.plan.FlatPlan.{FlatPlan}
use Rattle.plan_algebra.specs.Trees.{Occurrence}
use Rattle.plan_kept_queries.specs.Scans.{reads, rows_in, tables}
use Rattle.sql_bound_query.specs.Typing.{StateIsOf}
use Rattle.sql_bound_query.specs.declared.query.BoundQuery.{BoundQuery}
use Rattle.base_schema.specs.State.{State, table_rows}
use Rattle.app_sessions.specs.Laws.{PlansRun}
use Rattle.plan_planner.specs.Planned.{IsPlanOf}

-- a table and a kept view have as many rows over the tables of a state as in it
same_weights : (state : State) (o : Occurrence) → rows_read (table_rows state) o ≡ rows_in state o
same_weights state (inl table) = refl
same_weights state (inr count) = refl

pub same_reads : (q : BoundQuery) (plan : FlatPlan) (state : State) → SameBag (plan_scans plan.nodes) (tables q.block) → plan_reads (table_rows state) plan.nodes ≡ reads q.block state
unfolding reads_of reads
same_reads q plan state same = sum_is (rows_read (table_rows state)) (plan_scans plan.nodes) ∙ same.weighs (rows_read (table_rows state))
    ∙ ap (λ (f : Occurrence → ℕ). weigh f (tables q.block)) (fun_ext (same_weights state))

pub plans_run : PlansRun
plans_run q plan state ok is = (is.rows state ok, same_reads q plan state is.scans)

-- rows in another order have the same answer
same_answer : (keys : List OrderKey) (limit : Option ℕ) (xs ys : List (Ranked Value)) → SameBag xs ys → finished keys limit xs ≡ finished keys limit ys
same_answer keys limit xs ys same =
    let rank : least_rank xs ≡ least_rank ys = (OfBag-bottom true_rank row_rank).alike xs ys same in
    let in_both = in_order_alike keys (map row_values xs) (map row_values ys) (SameBag-map row_values same) in
    ap (λ n. if nat_lt n true_rank then Err (written n) else Ok (limited limit (in_order (comes_before keys) (map row_values xs)))) rank
    ∙ ap (λ l. if nat_lt (least_rank ys) true_rank then Err (written (least_rank ys)) else Ok (limited limit l)) in_both

-- the rows of a query's plan, finished by its order and limit, are the query's answer
pub answer_of_plan : (q : BoundQuery) (plan : FlatPlan) (state : State) (xs : List (Ranked Value)) → StateIsOf state → IsPlanOf q plan → SameBag xs (result_rows (table_rows state) plan.nodes)
    → finished plan.order plan.limit xs ≡ answer q state
unfolding answer
answer_of_plan q plan state xs ok is same =
    ap (λ o. finished o plan.limit xs) is.order ∙ ap (λ l. finished q.order l xs) is.limit
    ∙ same_answer q.order q.limit xs (rows q.block [] state) (SameBag-trans same (is.rows state ok))
