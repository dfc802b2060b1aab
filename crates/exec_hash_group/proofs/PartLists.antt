-- The groups of parts, put together, are the groups of all rows.
use Rattle.std.proofs.Common.{◌≡◌, ℕ, zero, suc, ◌+◌, ◌<◌, List, [], ◌∷◌, ◌++◌, map, length, get_or, replicate, refl, sym, ◌∙◌, ap, subst, arith, append-nil, ◌^◌, Bool, take}
use Rattle.std.specs.Prelude.{min}
use Rattle.std.specs.List.{All, range_with_len, filter}
use Rattle.std.proofs.lemmas.List.{length-map, map-append, map-id, get_or-map, take_more}
use Rattle.std.proofs.lemmas.List.FromFn.{length-range_with_len}
use Rattle.base_row_laws.specs.Ranked.{Ranked, Relation, ranked, true_rank}
use Rattle.base_row_laws.specs.Bags.{bottom, each_once}
use Rattle.base_row_laws.specs.Rows.{same_row, columns}
use Rattle.base_row_laws.specs.Operators.{least}
use Rattle.base_row_laws.specs.Numbers.{numbers_of}
use Rattle.base_row_laws.specs.TableLaws.{with_number}
use Rattle.base_row_laws.proofs.Groups.{bottom-map}
use Rattle.base_row_laws.proofs.Lists.{map-map, map-ext}
use Rattle.base_row_laws.proofs.LoopLists.{classes_by_numbers}
use Rattle.base_row_laws.proofs.OfBags.{bottom-append}
use Rattle.base_value.specs.declared.truth.Standing.{Standing}
use Rattle.base_value.specs.declared.value.Value.{Value}
use Rattle.base_value.specs.declared.value.Value.TheVariants.{Null}
use Rattle.base_value.specs.Truth.{standing_rank}
use Rattle.base_value.specs.Value.{same_value}
use Rattle.base_columns.specs.Lists.{one_list, AreBelow}
use Rattle.base_columns.specs.Batches.{AreLong, column_relation}
use Rattle.base_columns.proofs.BatchRows.{relation-length, relation-width}
use Rattle.base_columns.proofs.RowLists.{one_list-push}
use Rattle.exec_accumulators.specs.Accumulators.{OfValues}
use Rattle.plan_algebra.specs.declared.aggregate.Aggregate.{Aggregate}
use Rattle.plan_algebra.specs.declared.aggregate.Aggregate.TheVariants.{CountRows}
use Rattle.plan_algebra.specs.Aggregates.{argument_and_function, aggregates_of}
use Rattle.plan_algebra.specs.Plans.{groups}
use Rattle.exec_hash_group.specs.declared.part.GroupedPart.{GroupedPart}
use Rattle.exec_hash_group.specs.Grouping.{group_keys, group_numbers, AreGroups, arguments_of, aggregate_column}
use Rattle.exec_hash_group.specs.Keys.{key_rows}
use Rattle.exec_hash_group.specs.PartGroups.{IsGrouped, part_keys, group_arguments, part_arguments, AreMerged}
use Rattle.exec_hash_group.specs.Regrouping.{lists_by_number, groups_by, members}
use Rattle.exec_hash_group.specs.Standings.{ranks, row_ranks, least_of, AreOfNumbers}
use Rattle.exec_hash_group.proofs.Grouped.{with_images}
use Rattle.exec_hash_group.proofs.GroupRows.{with_zeros, groups_below, groups_long, group_relation, nulls_of}
use Rattle.exec_hash_group.proofs.KeyCells.{row_identity}
use Rattle.exec_hash_group.proofs.Merging.{values_lists}
use Rattle.exec_hash_group.proofs.Ranks.{all_keys}
use Rattle.exec_hash_group.proofs.Regrouped.{numbered, lists_at, lists-length, part_groups, numbers_regrouped}

-- a group: its key and its rows
abbrev Group : Type 0
Group = List Value × List (Ranked Value)

abbrev S : List Value → List Value → Bool
S = same_row same_value

-- the groups of rows by columns; by no column all rows are one group
abbrev row_groups : List ℕ → List (Ranked Value) → List Group
row_groups [] rows = ([], rows) ∷ []
row_groups (c ∷ cs) rows = groups_by S (λ r. columns Null (c ∷ cs) r.values) rows

-- those of several lists of rows
abbrev all_groups : List ℕ → List (List (Ranked Value)) → List Group
all_groups by parts = one_list (map (row_groups by) parts)

-- a group's key at the least standing of its rows
abbrev key_row : Group → Ranked Value
key_row g = ranked (g.0 ++ []) (least g.1)

-- the numbers of groups by their keys
abbrev entry_numbers : List ℕ → List Group → List ℕ
entry_numbers [] gs = replicate (length gs) 0
entry_numbers (c ∷ cs) gs = numbers_of S (map (λ g. g.0) gs)

-- images of the elements by numbers
lists_images : {X Y : Type 0} (f : X → Y) (is : List ℕ) (xs : List X) (n count : ℕ) → map (map f) (lists_by_number is xs n count) ≡ lists_by_number is (map f xs) n count
lists_images f is xs n zero = refl
lists_images f is xs n (suc count) = ap (λ l. l ∷ map (map f) (lists_by_number is xs (suc n) count)) (with_images f is xs n) ∙ ap (λ l. with_number is (map f xs) n ∷ l) (lists_images f is xs (suc n) count)

-- the keys of groups, as rows
groups_are : (by : List ℕ) (rows : List (Ranked Value)) → groups by [] rows ≡ map key_row (row_groups by rows)
unfolding aggregates_of
groups_are [] rows = refl
groups_are (c ∷ cs) rows =
    let key : Ranked Value → List Value = λ r. columns Null (c ∷ cs) r.values in
    sym (map-map key_row (λ k. (k, filter (λ r. S (key r) k) rows)) (each_once S (map key rows)))

keys_of_parts : (by : List ℕ) (parts : List GroupedPart) → All (IsGrouped by) parts → part_keys parts ≡ map key_row (all_groups by (map (λ p. p.rows.rows) parts))
keys_of_parts by [] h = refl
keys_of_parts by (p ∷ parts) h =
    let first : p.keys.rows ≡ map key_row (row_groups by p.rows.rows) = (h 0 p (omega arith)).keys_are ∙ groups_are by p.rows.rows in
    ap (λ l. l ++ part_keys parts) first ∙ ap (λ l. map key_row (row_groups by p.rows.rows) ++ l) (keys_of_parts by parts (λ k d l. h (suc k) d (omega (arith, l))))
    ∙ sym (map-append key_row (row_groups by p.rows.rows) (all_groups by (map (λ p. p.rows.rows) parts)))

-- the rows of each group by their numbers
own_lists : (by : List ℕ) (rows : List (Ranked Value)) → lists_by_number (group_numbers by rows) rows 0 (length (group_keys by rows)) ≡ map (λ g. g.1) (row_groups by rows)
own_lists [] rows = ap (λ l. l ∷ []) (with_zeros rows (length rows) refl)
own_lists (c ∷ cs) rows =
    let key : Ranked Value → List Value = λ r. columns Null (c ∷ cs) r.values in
    let N : List ℕ = numbers_of S (map key rows) in
    let ks : List (List Value) = each_once S (map key rows) in
    sym (map-id (lists_by_number N rows 0 (length ks))) ∙ sym (numbered (λ ys. ys) N rows 0 ks)
    ∙ ap (map (λ g. g.1)) (sym (classes_by_numbers S row_identity key (λ k ys. (k, ys)) rows))

keys_count : (by : List ℕ) (rows : List (Ranked Value)) → length (groups by [] rows) ≡ length (group_keys by rows)
keys_count [] rows = refl
keys_count (c ∷ cs) rows = length-map (each_once S (key_rows (c ∷ cs) rows)) _

-- the arguments of each group by their numbers
own_arguments : (by : List ℕ) (a : Aggregate) (p : GroupedPart) → IsGrouped by p → group_arguments a p ≡ map (λ g. map (λ r. (argument_and_function a).0 r.values) g.1) (row_groups by p.rows.rows)
own_arguments by a p g =
    let rows : List (Ranked Value) = p.rows.rows in
    let arg : Ranked Value → Value = λ r. (argument_and_function a).0 r.values in
    ap (λ n. lists_by_number p.numbers.items (map arg rows) 0 n) (ap length g.keys_are ∙ keys_count by rows)
    ∙ ap (λ ns. lists_by_number ns (map arg rows) 0 (length (group_keys by rows))) g.numbers_are
    ∙ sym (lists_images arg (group_numbers by rows) rows 0 (length (group_keys by rows)))
    ∙ ap (map (map arg)) (own_lists by rows) ∙ map-map (map arg) (λ g. g.1) (row_groups by rows)

arguments_of_parts : (by : List ℕ) (a : Aggregate) (parts : List GroupedPart) → All (IsGrouped by) parts
    → part_arguments a parts ≡ map (λ g. map (λ r. (argument_and_function a).0 r.values) g.1) (all_groups by (map (λ p. p.rows.rows) parts))
arguments_of_parts by a [] h = refl
arguments_of_parts by a (p ∷ parts) h =
    let f : Group → List Value = λ g. map (λ r. (argument_and_function a).0 r.values) g.1 in
    ap (λ l. l ++ part_arguments a parts) (own_arguments by a p (h 0 p (omega arith)))
    ∙ ap (λ l. map f (row_groups by p.rows.rows) ++ l) (arguments_of_parts by a parts (λ k d l. h (suc k) d (omega (arith, l))))
    ∙ sym (map-append f (row_groups by p.rows.rows) (all_groups by (map (λ p. p.rows.rows) parts)))

-- one group of all rows
one_group : (rss : List (List (Ranked Value))) → members (all_groups [] rss) ≡ one_list rss
one_group [] = refl
one_group (rs ∷ rss) = ap (λ l. rs ++ l) (one_group rss)

-- The rows of each group are those of the parts' groups with its number.
regrouped : (by : List ℕ) (rss : List (List (Ranked Value)))
    → lists_by_number (group_numbers by (one_list rss)) (one_list rss) 0 (length (group_keys by (one_list rss)))
    ≡ map members (lists_by_number (entry_numbers by (all_groups by rss)) (all_groups by rss) 0 (length (group_keys by (one_list rss))))
regrouped [] rss =
    let gs : List Group = all_groups [] rss in
    ap (λ l. l ∷ []) (with_zeros (one_list rss) (length (one_list rss)) refl ∙ sym (one_group rss) ∙ ap members (sym (with_zeros gs (length gs) refl)))
regrouped (c ∷ cs) rss =
    let key : Ranked Value → List Value = λ r. columns Null (c ∷ cs) r.values in
    numbers_regrouped S row_identity key (all_groups (c ∷ cs) rss) (one_list rss) (part_groups S row_identity key rss)

-- the keys of the parts' groups by all their columns
entry_values : (gs : List Group) → map (λ r. r.values) (map key_row gs) ≡ map (λ g. g.0) gs
entry_values gs = map-map (λ r. r.values) key_row gs ∙ map-ext (λ g. g.0 ++ []) (λ g. g.0) gs (λ g. append-nil g.0)

module _ (rss : List (List (Ranked Value))) (entries : List (Ranked Value)) where
  numbers_are : (by : List ℕ) → entries ≡ map key_row (all_groups by rss) → All (λ r. length r.values ≡ length by) entries
      → group_numbers (range_with_len 0 (length by)) entries ≡ entry_numbers by (all_groups by rss)
  numbers_are [] is wide = ap (λ n. replicate n 0) (ap length is ∙ length-map (all_groups [] rss) key_row)
  numbers_are (c ∷ cs) is wide =
      ap (numbers_of S) (all_keys (length (c ∷ cs)) entries wide ∙ ap (map (λ r. r.values)) is ∙ entry_values (all_groups (c ∷ cs) rss))

  keys_are : (by : List ℕ) → entries ≡ map key_row (all_groups by rss) → All (λ r. length r.values ≡ length by) entries
      → group_keys (range_with_len 0 (length by)) entries ≡ group_keys by (one_list rss)
  keys_are [] is wide = refl
  keys_are (c ∷ cs) is wide =
      ap (each_once S) (all_keys (length (c ∷ cs)) entries wide ∙ ap (map (λ r. r.values)) is ∙ entry_values (all_groups (c ∷ cs) rss))
      ∙ (part_groups S row_identity (λ r. columns Null (c ∷ cs) r.values) rss).keys_are

-- an aggregate of what the parts' groups have
members_images : (f : Ranked Value → Value) (gs : List Group) → one_list (map (λ g. map f g.1) gs) ≡ map f (members gs)
members_images f [] = refl
members_images f (g ∷ gs) = ap (λ l. map f g.1 ++ l) (members_images f gs) ∙ sym (map-append f g.1 (members gs))

column_by_entries : (by : List ℕ) (rss : List (List (Ranked Value))) (a : Aggregate) (args : List (List Value)) (numbers : List ℕ) (count : ℕ)
    → args ≡ map (λ g. map (λ r. (argument_and_function a).0 r.values) g.1) (all_groups by rss) → numbers ≡ entry_numbers by (all_groups by rss) → count ≡ length (group_keys by (one_list rss))
    → map (λ ls. (argument_and_function a).1 (one_list ls)) (lists_by_number numbers args 0 count) ≡ aggregate_column (one_list rss) (group_numbers by (one_list rss)) count a
column_by_entries by rss a args numbers count is_a is_n is_c =
    let rows : List (Ranked Value) = one_list rss in
    let N : List ℕ = group_numbers by rows in
    let gs : List Group = all_groups by rss in
    let G : List ℕ = entry_numbers by gs in
    let arg : Ranked Value → Value = λ r. (argument_and_function a).0 r.values in
    let h : Group → List Value = λ g. map arg g.1 in
    let F : OfValues = (argument_and_function a).1 in
    let n : ℕ = length (group_keys by rows) in
    let L : List (List Group) = lists_by_number G gs 0 n in
    let F1 : List (List Value) → Value = λ ls. F (one_list ls) in
    ap (λ c. map F1 (lists_by_number numbers args 0 c)) is_c ∙ ap (λ ns. map F1 (lists_by_number ns args 0 n)) is_n ∙ ap (λ xs. map F1 (lists_by_number G xs 0 n)) is_a
    ∙ ap (map F1) (sym (lists_images h G gs 0 n)) ∙ map-map F1 (map h) L
    ∙ map-ext (λ hs. F (one_list (map h hs))) (λ hs. F (map arg (members hs))) L (λ hs. ap F (members_images arg hs))
    ∙ sym (map-map (λ rs. F (map arg rs)) members L) ∙ ap (map (λ rs. F (map arg rs))) (sym (regrouped by rss))
    ∙ sym (map-map F (map arg) (lists_by_number N rows 0 n)) ∙ ap (map F) (lists_images arg N rows 0 n)
    ∙ values_lists F N (map arg rows) 0 n ∙ ap (λ c. aggregate_column rows N c a) (sym is_c)

-- the least standings
least_members : (gs : List Group) → bottom true_rank (λ g. least g.1) gs ≡ least (members gs)
least_members [] = refl
least_members (g ∷ gs) = ap (min (least g.1)) (least_members gs) ∙ sym (bottom-append true_rank (λ (r : Ranked Value). r.standing) g.1 (members gs))

least_by_entries : (by : List ℕ) (rss : List (List (Ranked Value))) (entries : List (Ranked Value)) (numbers : List ℕ) (count : ℕ) (results : List ℕ)
    → entries ≡ map key_row (all_groups by rss) → numbers ≡ entry_numbers by (all_groups by rss) → count ≡ length (group_keys by (one_list rss))
    → AreOfNumbers (least_of numbers (row_ranks entries)) count results → AreOfNumbers (least_of (group_numbers by (one_list rss)) (row_ranks (one_list rss))) count results
least_by_entries by rss entries numbers count results is_e is_n is_c are =
    let rows : List (Ranked Value) = one_list rss in
    let N : List ℕ = group_numbers by rows in
    let gs : List Group = all_groups by rss in
    let G : List ℕ = entry_numbers by gs in
    let n : ℕ = length (group_keys by rows) in
    let st : Ranked Value → ℕ = λ r. r.standing in
    let least_group : Group → ℕ = λ g. least g.1 in
    record {
      long = are.long;
      each = λ i l.
          let li : i < n = omega (arith, l, is_c) in
          let z : 0 + i ≡ i = omega arith in
          let lm : i < length (lists_by_number G gs 0 n) = (let e = lists-length G gs 0 n in omega (arith, e, li)) in
          let whole : with_number N rows i ≡ members (with_number G gs i) =
          ap (with_number N rows) (sym z) ∙ sym (lists_at N rows 0 n i [] li) ∙ ap (λ ls. get_or ls i []) (regrouped by rss)
          ∙ get_or-map members (lists_by_number G gs 0 n) i [] [] lm ∙ ap members (lists_at G gs 0 n i [] li ∙ ap (with_number G gs) z) in
          let parts : least_of numbers (row_ranks entries) i ≡ bottom true_rank least_group (with_number G gs i) =
          ap (λ es. least_of numbers (row_ranks es) i) is_e ∙ ap (λ ns. least_of ns (row_ranks (map key_row gs)) i) is_n
          ∙ ap (λ xs. bottom true_rank (λ s. s) (with_number G xs i)) (map-map st key_row gs)
          ∙ ap (bottom true_rank (λ s. s)) (sym (with_images least_group G gs i)) ∙ bottom-map true_rank (λ s. s) least_group (with_number G gs i) in
          let own : least_of N (row_ranks rows) i ≡ least (with_number N rows i) =
          ap (bottom true_rank (λ s. s)) (sym (with_images st N rows i)) ∙ bottom-map true_rank (λ s. s) st (with_number N rows i) in
          are.each i l ∙ parts ∙ least_members (with_number G gs i) ∙ ap least (sym whole) ∙ sym own;
    }

-- one part more
pub keys_more : (parts : List GroupedPart) (i : ℕ) (p : GroupedPart) → i < length parts → p ≡ get_or parts i p → part_keys (take (i + 1) parts) ≡ part_keys (take i parts) ++ p.keys.rows
keys_more parts i p l is =
    ap part_keys (take_more parts i p l ∙ ap (λ q. take i parts ++ q ∷ []) (sym is)) ∙ ap one_list (map-append (λ q. q.keys.rows) (take i parts) (p ∷ []))
    ∙ one_list-push (map (λ q. q.keys.rows) (take i parts)) p.keys.rows

pub arguments_more : (a : Aggregate) (parts : List GroupedPart) (i : ℕ) (p : GroupedPart) → i < length parts → p ≡ get_or parts i p
    → part_arguments a (take (i + 1) parts) ≡ part_arguments a (take i parts) ++ group_arguments a p
arguments_more a parts i p l is =
    ap (part_arguments a) (take_more parts i p l ∙ ap (λ q. take i parts ++ q ∷ []) (sym is)) ∙ ap one_list (map-append (group_arguments a) (take i parts) (p ∷ []))
    ∙ one_list-push (map (group_arguments a) (take i parts)) (group_arguments a p)

-- in the words of the code
pub merged_is : (by : List ℕ) (parts : List GroupedPart) (entries : Relation Value) (places : List ℕ) (keys : List (List Value)) (numbers : List ℕ) (count : ℕ) (standings : List Standing)
    → All (IsGrouped by) parts → entries.width ≡ length by → entries.rows ≡ part_keys parts → All (λ r. length r.values ≡ entries.width) entries.rows → places ≡ range_with_len 0 entries.width
    → length entries.rows < 2 ^ 32 → AreGroups places entries.rows keys numbers count → AreOfNumbers (least_of numbers (row_ranks entries.rows)) count (ranks standings)
    → AreMerged by parts keys standings numbers count
merged_is by parts entries places keys numbers count standings grouped w is_e wide is_p small g are =
    let rss : List (List (Ranked Value)) = map (λ p. p.rows.rows) parts in
    let rows : List (Ranked Value) = one_list rss in
    let gs : List Group = all_groups by rss in
    let es : List (Ranked Value) = entries.rows in
    let es_are : es ≡ map key_row gs = is_e ∙ keys_of_parts by parts grouped in
    let W : ℕ → Type 0 = λ n. All (λ r. length r.values ≡ n) es in
    let wide_by : All (λ r. length r.values ≡ length by) es = subst W w wide in
    let by_all : places ≡ range_with_len 0 (length by) = is_p ∙ ap (range_with_len 0) w in
    let ns : numbers ≡ entry_numbers by gs = g.numbers_are ∙ ap (λ b. group_numbers b es) by_all ∙ numbers_are rss es by es_are wide_by in
    let ks : group_keys places es ≡ group_keys by rows = ap (λ b. group_keys b es) by_all ∙ keys_are rss es by es_are wide_by in
    let cs : count ≡ length (group_keys by rows) = g.count_is ∙ ap length ks in
    let below = groups_below places es keys numbers count g in
    record {
      groups = record {
        numbers_are = refl;
        count_is = cs;
        wide = g.wide ∙ ap length by_all ∙ length-range_with_len 0 (length by);
        long = g.long;
        keys_are = λ i l. g.keys_are i l ∙ ap (λ k. get_or k i []) ks;
      };
      least_are = least_by_entries by rss es numbers count (ranks standings) es_are ns cs are;
      long = below.1 ∙ ap length is_e;
      few = let e = below.1 in omega (arith, e, small);
      below = below.0;
      column_is = λ a. column_by_entries by rss a (part_arguments a parts) numbers count (arguments_of_parts by a parts grouped) ns cs;
    }

pub part_below : (by : List ℕ) (rows : List (Ranked Value)) (keys : List (List Value)) (numbers : List ℕ) (count : ℕ) (least : List Standing) → AreGroups by rows keys numbers count
    → AreOfNumbers (least_of numbers (row_ranks rows)) count (ranks least) → AreBelow (length (column_relation keys least).rows) numbers
part_below by rows keys numbers count least g are =
    let n : length (column_relation keys least).rows ≡ count = relation-length keys least ∙ sym (length-map least standing_rank) ∙ are.long in
    let B : ℕ → Type 0 = λ m. AreBelow m numbers in
    subst B (sym n) (groups_below by rows keys numbers count g).0

pub part_keys_are : (by : List ℕ) (rows : List (Ranked Value)) (keys : List (List Value)) (numbers : List ℕ) (count : ℕ) (least : List Standing) → AreGroups by rows keys numbers count
    → AreOfNumbers (least_of numbers (row_ranks rows)) count (ranks least) → (column_relation keys least).rows ≡ groups by [] rows
part_keys_are by rows keys numbers count least g are = group_relation by [] rows keys keys numbers count least g (sym (append-nil keys)) are

pub part_long : (by : List ℕ) (rows : List (Ranked Value)) (keys : List (List Value)) (numbers : List ℕ) (count : ℕ) (least : List Standing) → AreGroups by rows keys numbers count
    → AreOfNumbers (least_of numbers (row_ranks rows)) count (ranks least) → AreLong (length least) keys
part_long by rows keys numbers count least g are = groups_long by [] rows keys keys numbers count least g (sym (append-nil keys)) are

pub part_width : (by : List ℕ) (rows : List (Ranked Value)) (keys : List (List Value)) (numbers : List ℕ) (count : ℕ) (least : List Standing) → AreGroups by rows keys numbers count
    → (column_relation keys least).width ≡ length by
part_width by rows keys numbers count least g = relation-width keys least ∙ g.wide

-- nulls for count(*)
pub counts_are : (part : GroupedPart) (ns : List ℕ) (shown : List Value) (n count : ℕ) → ns ≡ part.numbers.items → shown ≡ replicate n Null → n ≡ length part.numbers.items → count ≡ length part.keys.rows
    → lists_by_number ns shown 0 count ≡ group_arguments CountRows part
counts_are part ns shown n count is_n is_s e is_c =
    let long : length part.numbers.items ≡ length part.rows.rows = part.long in
    ap (λ l. lists_by_number l shown 0 count) is_n ∙ ap (λ vs. lists_by_number part.numbers.items vs 0 count) (is_s ∙ nulls_of part.rows.rows n (e ∙ long))
    ∙ ap (lists_by_number part.numbers.items (arguments_of CountRows part.rows.rows) 0) is_c
