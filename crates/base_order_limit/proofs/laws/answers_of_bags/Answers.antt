use Rattle.std.proofs.Common.{◌≡◌, ap, ◌∙◌}
use Rattle.std.specs.Prelude.{map, nat_lt, Ok, Err, if◌then◌else◌}
use Rattle.base_row_laws.specs.Ranked.{true_rank}
use Rattle.base_row_laws.proofs.Bags.{SameBag-map}
use Rattle.base_row_laws.proofs.OfBags.{OfBag-bottom}
use Rattle.expr_aggregates.specs.Values.{written}
use Rattle.base_order_limit.specs.Answers.{least_rank, row_rank, row_values, limited, in_order, comes_before}
use Rattle.base_order_limit.proofs.Sorted.{in_order_alike}
use Rattle.base_order_limit.proofs.laws.answers_of_bags.Goals as goal

pub returns : goal.returns
returns c = λ keys limit xs ys same.
    let rank : least_rank xs ≡ least_rank ys = (OfBag-bottom true_rank row_rank).alike xs ys same in
    let rows = in_order_alike keys (map row_values xs) (map row_values ys) (SameBag-map row_values same) in
    ap (λ n. if nat_lt n true_rank then Err (written n) else Ok (limited limit (in_order (comes_before keys) (map row_values xs)))) rank
    ∙ ap (λ l. if nat_lt (least_rank ys) true_rank then Err (written (least_rank ys)) else Ok (limited limit l)) rows
