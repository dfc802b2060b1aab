-- Rows that are shown column by column.
use Rattle.std.proofs.Common.{◌≡◌, ℕ, ◌+◌, List, [], ◌∷◌, ◌++◌, refl, sym, ◌∙◌, ap, subst, arith, Some, length, zero, suc}
use Rattle.std.specs.List.{slice_get}
use Rattle.std.specs.Option.{option_map}
use Rattle.std.specs.Prelude.{drop, map, take}
use lib.ListN.{get_or}
use Rattle.std.proofs.lemmas.List.{append_assoc, length-map}
use Rattle.base_columns.specs.Batches.{AreLong, cells, column_relation, rows_from}
use Rattle.base_row_laws.specs.Ranked.{Relation, ranked}
use Rattle.base_row_laws.specs.Rows.{columns}
use Rattle.base_row_laws.proofs.Lists.{map-ext, map-map}
use Rattle.base_value.specs.Truth.{standing_rank}
use Rattle.base_value.specs.declared.truth.Standing.{Standing}
use Rattle.base_value.specs.declared.value.Value.{Value}
use Rattle.base_value.specs.declared.value.Value.TheVariants.{Null}
use Rattle.plan_algebra.specs.declared.kept_plan.KeptPlan.{KeptPlan}
use Rattle.store_groups.specs.Entries.{Entries}
use Rattle.store_groups.specs.Groups.{Group}
use Rattle.store_kept_views.specs.Output.{output_row, shown_columns, value_in}
use Rattle.store_kept_views.specs.RowGroups.{row_of}

-- the standing of one more entry
least_suc : (es : Entries) (i : ℕ) (g : Group) → option_map (λ (e : List Value × Group). e.1) (slice_get es i) ≡ Some g
    → map (λ (e : List Value × Group). e.1.least) (take (suc i) es) ≡ map (λ (e : List Value × Group). e.1.least) (take i es) ++ g.least ∷ []
least_suc [] i g is = cc
least_suc (e ∷ es) zero g is = let a : e.1 ≡ g = cc in ap (λ (x : Group). x.least ∷ []) a
least_suc (e ∷ es) (suc i) g is = ap (λ l. e.1.least ∷ l) (least_suc es i g is)

pub least_more : (first old new : List ℕ) (es : Entries) (i : ℕ) (g : Group) → option_map (λ (e : List Value × Group). e.1) (slice_get es i) ≡ Some g
    → old ≡ first ++ map (λ (e : List Value × Group). e.1.least) (take i es) → new ≡ old ++ g.least ∷ [] → new ≡ first ++ map (λ (e : List Value × Group). e.1.least) (take (i + 1) es)
least_more first old new es i g is before more =
    more ∙ ap (λ l. l ++ g.least ∷ []) before ∙ append_assoc first (map (λ (e : List Value × Group). e.1.least) (take i es)) (g.least ∷ [])
    ∙ ap (λ l. first ++ l) (sym (least_suc es i g is) ∙ (let s : suc i ≡ i + 1 = omega arith in ap (λ n. map (λ (e : List Value × Group). e.1.least) (take n es)) s))

-- each column has a value of each entry
pub columns_long : (p : KeptPlan) (places : List ℕ) (es : Entries) (n : ℕ) → length es ≡ n → AreLong n (shown_columns p places es)
unfolding AreLong
columns_long p [] es n many = tt {0}
columns_long p (place ∷ places) es n many = (length-map es (value_in p place) ∙ many, columns_long p places es n many)

-- the value of an entry in a column
in_column : (f : List Value × Group → Value) (all es : Entries) (i : ℕ) (e : List Value × Group) → drop i all ≡ e ∷ es → get_or (map f all) i Null ≡ f e
in_column f [] es zero e is = cc
in_column f [] es (suc i) e is = cc
in_column f (x ∷ all) es zero e is = let a : x ≡ e = cc in ap f a
in_column f (x ∷ all) es (suc i) e is = in_column f all es i e is

drop_suc : (all es : Entries) (i : ℕ) (e : List Value × Group) → drop i all ≡ e ∷ es → drop (suc i) all ≡ es
drop_suc [] es zero e is = cc
drop_suc [] es (suc i) e is = cc
drop_suc (x ∷ all) es zero e is = cc
drop_suc (x ∷ all) es (suc i) e is = drop_suc all es i e is

row_in : (p : KeptPlan) (places : List ℕ) (all es : Entries) (i : ℕ) (e : List Value × Group) → drop i all ≡ e ∷ es
    → cells (shown_columns p places all) i ≡ columns Null places (row_of p.aggregates e.0 e.1).values
row_in p places all es i e is =
    map-map (λ c. get_or c i Null) (λ place. map (value_in p place) all) places
    ∙ map-ext (λ place. get_or (map (value_in p place) all) i Null) (λ place. value_in p place e) places (λ place. in_column (value_in p place) all es i e is)

rows_in : (p : KeptPlan) (all es : Entries) (i : ℕ) (ss : List Standing) → drop i all ≡ es → map standing_rank ss ≡ map (λ (e : List Value × Group). e.1.least) es
    → rows_from (shown_columns p p.list all) i ss ≡ map (λ (e : List Value × Group). output_row p e.0 e.1) es
unfolding rows_from
rows_in p all [] i [] is stand = refl
rows_in p all [] i (s ∷ ss) is stand = cc
rows_in p all (e ∷ es) i [] is stand = cc
rows_in p all (e ∷ es) i (s ∷ ss) is stand =
    let at : standing_rank s ≡ e.1.least = cc in
    let rest : map standing_rank ss ≡ map (λ (e : List Value × Group). e.1.least) es = cc in
    ap (λ l. ranked l (standing_rank s) ∷ rows_from (shown_columns p p.list all) (suc i) ss) (row_in p p.list all es i e is)
    ∙ ap (λ n. ranked (columns Null p.list (row_of p.aggregates e.0 e.1).values) n ∷ rows_from (shown_columns p p.list all) (suc i) ss) at
    ∙ ap (λ l. output_row p e.0 e.1 ∷ l) (rows_in p all es (suc i) ss (drop_suc all es i e is) rest)

many_standings : (ss : List Standing) (es : Entries) → map standing_rank ss ≡ map (λ (e : List Value × Group). e.1.least) es → length es ≡ length ss
many_standings ss es stand = sym (length-map es (λ (e : List Value × Group). e.1.least)) ∙ ap length (sym stand) ∙ length-map ss standing_rank

-- the columns and the standings are those of the entries' rows
module _ (p : KeptPlan) (es : Entries) (cs : List (List Value)) (ss : List Standing) (shown : cs ≡ shown_columns p p.list es) (stand : map standing_rank ss ≡ map (λ (e : List Value × Group). e.1.least) es) where
  pub shown_long : AreLong (length ss) cs
  shown_long = subst (AreLong (length ss)) (sym shown) (columns_long p p.list es (length ss) (many_standings ss es stand))

  pub shown_rows : (b : Relation Value) → b ≡ column_relation cs ss → b.rows ≡ map (λ (e : List Value × Group). output_row p e.0 e.1) es
  unfolding column_relation
  shown_rows b is = ap (λ r. r.rows) is ∙ ap (λ l. rows_from l 0 ss) shown ∙ rows_in p es es 0 ss refl stand

  pub shown_width : (b : Relation Value) → b ≡ column_relation cs ss → b.width ≡ length p.list
  unfolding column_relation
  shown_width b is = ap (λ r. r.width) is ∙ ap length shown ∙ length-map p.list (λ place. map (value_in p place) es)
