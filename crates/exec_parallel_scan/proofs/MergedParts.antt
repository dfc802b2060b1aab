-- What threads made of chunks of parts, put together.
use Rattle.std.proofs.Common.{◌≡◌, ℕ, zero, suc, ◌+◌, ◌*◌, ◌/◌, ◌%◌, ◌<◌, List, [], ◌∷◌, ◌++◌, refl, sym, ap, ◌∙◌, subst, arith, length, get_or, map, take}
use Rattle.std.specs.Prelude.{min, IfOk, Result, Ok, Err}
use Rattle.std.specs.Global.{Vec}
use Rattle.std.specs.List.{All, range_with_len}
use Rattle.std.specs.Fork.{slice_chunk}
use Rattle.std.proofs.lemmas.List.{length-map, map-append, get_or-map, length-append}
use Rattle.std.proofs.lemmas.List.FromFn.{length-range_with_len, get_or-range_with_len}
use Rattle.base_row_laws.specs.Ranked.{Ranked, Relation}
use Rattle.base_row_laws.proofs.Lists.{map-ext}
use Rattle.base_value.specs.declared.truth.Standing.{Standing}
use Rattle.base_value.specs.declared.value.Value.{Value}
use Rattle.exec_accumulators.specs.Accumulators.{OfValues}
use Rattle.base_columns.specs.Bags.{bag_rows}
use Rattle.base_columns.specs.Batches.{AreLong, column_relation}
use Rattle.base_columns.specs.Lists.{one_list}
use Rattle.plan_algebra.specs.declared.aggregate.Aggregate.{Aggregate}
use Rattle.plan_algebra.specs.Plans.{groups}
use Rattle.exec_hash_group.specs.declared.part.GroupedPart.{GroupedPart}
use Rattle.exec_hash_group.specs.Grouping.{group_numbers, aggregate_column}
use Rattle.exec_hash_group.specs.PartGroups.{part_rows, part_keys, group_arguments, part_arguments, merged_column, AreMerged}
use Rattle.exec_hash_group.specs.States.{HaveTaken}
use Rattle.exec_hash_group.proofs.GroupRows.{groups_long, groups_width, group_relation}
use Rattle.exec_hash_group.proofs.Merging.{have_all}
use Rattle.exec_hash_group.proofs.Regrouped.{lists-append, lists-length}
use Rattle.exec_parallel_scan.proofs.Chunks.{chunks_joined, mapped_at}
use Rattle.exec_parallel_scan.proofs.StageRows.{bag_rows-append}

arguments-append : (a : Aggregate) (ps qs : List GroupedPart) → part_arguments a (ps ++ qs) ≡ part_arguments a ps ++ part_arguments a qs
arguments-append a ps qs = ap one_list (map-append (group_arguments a) ps qs) ∙ lists-append (map (group_arguments a) ps) (map (group_arguments a) qs)

-- the accumulators of all parts
pub all_have : {S : Type 0} (has_taken : S → OfValues → List Value → Type 0) (terms : S → ℕ) (aggregate : OfValues) (a : Aggregate) (size : ℕ) (parts : List GroupedPart) (sss : List (List S))
    → 0 < size → length sss ≡ length parts / size + min 1 (length parts % size)
    → ((n : ℕ) → n < length sss → HaveTaken has_taken terms aggregate (part_arguments a (slice_chunk parts size n)) (get_or sss n []))
    → HaveTaken has_taken terms aggregate (part_arguments a parts) (one_list sss)
all_have has_taken terms aggregate a size parts sss p long each =
    let m : ℕ = length sss in
    let f : ℕ → List (List Value) = λ n. part_arguments a (slice_chunk parts size n) in
    let lss : List (List (List Value)) = map f (range_with_len 0 m) in
    let lr : length (range_with_len 0 m) ≡ m = length-range_with_len 0 m in
    let ll : length lss ≡ m = length-map (range_with_len 0 m) f ∙ lr in
    let at : (n : ℕ) → n < m → get_or lss n [] ≡ f n =
    λ n l. let z : 0 + n ≡ n = omega arith in get_or-map f (range_with_len 0 m) n 0 [] (omega (arith, l, lr)) ∙ ap f (get_or-range_with_len 0 m n 0 l ∙ z) in
    let whole : one_list lss ≡ part_arguments a parts = chunks_joined (part_arguments a) size parts lss (arguments-append a) refl (λ n l. at n (omega (arith, l, ll))) p (ll ∙ long) in
    subst (λ ls. HaveTaken has_taken terms aggregate ls (one_list sss)) whole
    (have_all has_taken terms aggregate lss sss ll (λ n l. subst (λ ls. HaveTaken has_taken terms aggregate ls (get_or sss n [])) (sym (at n l)) (each n l)))

-- the rows of all parts
pub all_rows : (size : ℕ) (batches : List (Relation Value)) (parts : List GroupedPart) → 0 < size → length parts ≡ length batches / size + min 1 (length batches % size)
    → ((n : ℕ) (d : GroupedPart) → n < length parts → (get_or parts n d).rows.rows ≡ bag_rows (slice_chunk batches size n)) → part_rows parts ≡ bag_rows batches
all_rows size batches parts p long each =
    let lm : length (map (λ q. q.rows.rows) parts) ≡ length parts = length-map parts (λ q. q.rows.rows) in
    chunks_joined bag_rows size batches (map (λ q. q.rows.rows) parts) bag_rows-append refl
    (λ n l. mapped_at (λ q. q.rows.rows) parts n (bag_rows (slice_chunk batches size n)) (omega (arith, l, lm)) (λ d. each n d (omega (arith, l, lm)))) p (lm ∙ long)

-- as many as there are groups of parts
pub as_many : (a : Aggregate) (parts : List GroupedPart) → length (part_arguments a parts) ≡ length (part_keys parts)
as_many a [] = refl
as_many a (p ∷ parts) =
    let first : length (group_arguments a p) ≡ length p.keys.rows = lists-length p.numbers.items _ 0 (length p.keys.rows) in
    let rest = as_many a parts in
    let u = length-append (group_arguments a p) (part_arguments a parts) in
    let v = length-append p.keys.rows (part_keys parts) in
    omega (arith, first, rest, u, v)

-- the rows of the groups of all parts
module _ (by : List ℕ) (aggregates : List Aggregate) (parts : List GroupedPart) (keys all : List (List Value)) (least : List Standing) (numbers : List ℕ) (count : ℕ)
    (m : AreMerged by parts keys least numbers count) (is : all ≡ keys ++ map (merged_column parts numbers count) aggregates) where
  columns_are : all ≡ keys ++ map (aggregate_column (part_rows parts) (group_numbers by (part_rows parts)) count) aggregates
  columns_are =
      is ∙ ap (λ l. keys ++ l) (map-ext (merged_column parts numbers count) (aggregate_column (part_rows parts) (group_numbers by (part_rows parts)) count) aggregates m.column_is)

  pub merged_long : AreLong (length least) all
  merged_long = groups_long by aggregates (part_rows parts) keys all (group_numbers by (part_rows parts)) count least m.groups columns_are m.least_are

  pub merged_width : (column_relation all least).width ≡ length by + length aggregates
  merged_width = groups_width by aggregates (part_rows parts) keys all (group_numbers by (part_rows parts)) count least m.groups columns_are

  pub merged_rows : (column_relation all least).rows ≡ groups by aggregates (part_rows parts)
  merged_rows = group_relation by aggregates (part_rows parts) keys all (group_numbers by (part_rows parts)) count least m.groups columns_are m.least_are
