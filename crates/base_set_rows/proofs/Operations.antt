-- The laws of every set operation.
use Rattle.std.proofs.Common.{◌≡◌, List, Bool, true}
use Rattle.base_row_laws.specs.Ranked.{Ranked}
use Rattle.base_row_laws.specs.Bags.{IsIdentity, Each}
use Rattle.base_set_rows.specs.declared.kind.SetOperation.{SetOperation}
use Rattle.base_set_rows.specs.declared.kind.SetOperation.TheVariants.{Union, Classes}
use Rattle.base_set_rows.specs.SetOperations.{set_rows}
use Rattle.base_set_rows.specs.SetLaws.{SetRowsAlike, SetRowsAnswer, SetRowsStand, SetRowsKeep, SelectBelowSetRows}
use Rattle.base_set_rows.proofs.SetRows.{by_classes_alike, by_classes_each, by_classes_answers, union_answers}
use Rattle.base_set_rows.proofs.Counted.{by_classes_stand, union_stands, union_any, union_alike}
use Rattle.base_set_rows.proofs.Sunk.{select_below_union, select_below_classes'}

module _ {V : Type 0} (same : V → V → Bool) (is : IsIdentity same) where
  pub set_rows_alike : SetRowsAlike same
  set_rows_alike Union xs us ys vs e f = union_alike same is true xs us ys vs e f
  set_rows_alike (Classes kind all) xs us ys vs e f = by_classes_alike same is kind all xs us ys vs e f

  pub set_rows_answer : SetRowsAnswer same
  set_rows_answer Union ds xs ys L R a b = union_answers same is true ds xs ys L R a b
  set_rows_answer (Classes kind all) ds xs ys L R a b = by_classes_answers same is kind all ds xs ys L R a b

  pub set_rows_stand : SetRowsStand same
  set_rows_stand Union xs ys a b = union_stands same is true xs ys a b
  set_rows_stand (Classes kind all) xs ys a b = by_classes_stand same is kind all xs ys a b

  -- what is so of the values of both sides' rows
  pub set_rows_each : (P : List V → Type 0) (operation : SetOperation) (xs ys : List (Ranked V)) → Each (λ (x : Ranked V). P x.values) xs → Each (λ (x : Ranked V). P x.values) ys
      → Each (λ (x : Ranked V). P x.values) (set_rows same operation xs ys)
  set_rows_each P Union xs ys a b = union_any same is P true xs ys a b
  set_rows_each P (Classes kind all) xs ys a b = by_classes_each same is P kind all xs ys a b

  pub set_rows_keep : SetRowsKeep same
  set_rows_keep p operation xs ys a b = set_rows_each (λ k. p k ≡ true) operation xs ys a b

  pub select_below_set_rows : SelectBelowSetRows same
  select_below_set_rows Union c xs ys a b = select_below_union same is true c xs ys a b
  select_below_set_rows (Classes kind all) c xs ys a b = select_below_classes' same is kind all c xs ys a b
