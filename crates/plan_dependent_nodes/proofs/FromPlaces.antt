-- Where the columns of an item of FROM stand in its domain row.
use Rattle.std.proofs.Common.{◌≡◌, ℕ, suc, ◌+◌, ◌-◌, ◌<◌, ◌≤◌, List, [], ◌∷◌, ◌++◌, map, refl}
use Rattle.std.proofs.Common.{sym, ap, ◌∙◌, arith, length}
use Rattle.std.specs.Prelude.{Some, slice_get, slice_index_or, option_map}
use Rattle.std.proofs.lemmas.List.{append_assoc, length-map, map-append}
use Rattle.std.proofs.lemmas.List.{get_or_append_left, get_or-append-add}
use Rattle.std.proofs.lemmas.Option.{slice_get_within, slice_get-map, get_or_from_slice_get}
use Rattle.base_row_laws.specs.Rows.{columns}
use Rattle.base_row_laws.proofs.Lists.{map-map}
use Rattle.base_value.specs.declared.value.Value.{Value}
use Rattle.base_value.specs.declared.value.Value.TheVariants.{Null}
use Rattle.plan_algebra.specs.declared.tree.Side.TheVariants.{Dependent}
use Rattle.plan_algebra.specs.Trees.{right_row}
use Rattle.sql_bound_query.specs.Meaning.{Env, column}
use Rattle.plan_dependent_nodes.specs.declared.sight.OuterColumn.{OuterColumn}
use Rattle.plan_dependent_nodes.specs.Dependence.{domain_row}
use Rattle.plan_dependent_nodes.specs.Growth.{IsDomain}
use Rattle.plan_dependent_nodes.specs.FromGrowth.{IsFromDomain, IsRightPlace}
use Rattle.plan_dependent_nodes.specs.FromGrowth.{lateral_columns}

abbrev column_of : Env → OuterColumn → Value
column_of env c = column env c.level c.place

abbrev value_of : List Value → ℕ → Value
value_of row i = slice_index_or row i Null

-- ---- domain rows

-- what the rows around see of it
pub from_sees : (outer : List OuterColumn) (so_far : List ℕ) (start : ℕ) (p : List Value)
    (env : Env) (d : List Value) → IsFromDomain outer so_far start p env d
    → IsDomain outer start env d
from_sees outer so_far start p env d i =
    record { gap = columns Null so_far p ++ i.gap; begins = i.begins; size = i.size }

-- FROM begins with a row so far of no columns
pub from_begins : (outer : List OuterColumn) (start : ℕ) (env : Env) (d : List Value)
    → IsDomain outer start env d → IsFromDomain outer [] start [] env d
from_begins outer start env d i = record { gap = i.gap; begins = i.begins; size = i.size }

-- the same domain row, where no column of a row so far is needed
pub from_shared : (outer : List OuterColumn) (so_far : List ℕ) (start : ℕ) (p q : List Value)
    (env : Env) (d : List Value) → IsFromDomain outer so_far start p env d
    → IsFromDomain outer [] start q env d
from_shared outer so_far start p q env d i =
    record { gap = columns Null so_far p ++ i.gap; begins = i.begins; size = i.size }

-- no domain row
pub from_closed : (q : List Value) (env : Env) → IsFromDomain [] [] 0 q env []
from_closed q env = record { gap = []; begins = refl; size = refl }

-- the columns that are wanted, and then others
pub from_wanted : (wanted : List OuterColumn) (others : List ℕ) (start : ℕ) (q : List Value)
    (env : Env) (d l : List Value) → d ≡ (domain_row wanted env ++ columns Null others q) ++ l
    → length d ≡ start → IsFromDomain wanted others start q env d
from_wanted wanted others start q env d l e n = record {
  gap = l;
  begins = e ∙ append_assoc (domain_row wanted env) (columns Null others q) l;
  size = n;
}

lateral_row : (outer : List OuterColumn) (so_far : List ℕ) (p : List Value) (env : Env)
    → domain_row (lateral_columns outer so_far) (p ∷ env)
    ≡ domain_row outer env ++ columns Null so_far p
lateral_row outer so_far p env =
    let up : OuterColumn → OuterColumn = λ c. record { level = suc c.level; place = c.place } in
    let near : ℕ → OuterColumn = λ i. record { level = 0; place = i } in
    map-append (column_of (p ∷ env)) (map up outer) (map near so_far)
    ∙ ap (λ l. l ++ map (column_of (p ∷ env)) (map near so_far))
    (map-map (column_of (p ∷ env)) up outer)
    ∙ ap (λ l. domain_row outer env ++ l) (map-map (column_of (p ∷ env)) near so_far)

-- what a lateral item's query sees of it
pub lateral_sees : (outer : List OuterColumn) (so_far : List ℕ) (start : ℕ) (p : List Value)
    (env : Env) (d : List Value) → IsFromDomain outer so_far start p env d
    → IsDomain (lateral_columns outer so_far) start (p ∷ env) d
lateral_sees outer so_far start p env d i = record {
  gap = i.gap;
  begins = i.begins ∙ sym (append_assoc (domain_row outer env) (columns Null so_far p) i.gap)
      ∙ ap (λ l. l ++ i.gap) (sym (lateral_row outer so_far p env));
  size = i.size;
}

-- ---- the domain row of a dependent right side

pub dependent_row : (places : List ℕ) (d l : List Value)
    → right_row (Dependent places) d l ≡ columns Null places (d ++ l)
unfolding right_row
dependent_row [] d l = refl
dependent_row (i ∷ places) d l = refl

-- ---- places of columns

pub front_of : {X : Type 0} (f : X → Value) (xs : List X) (rest : List Value) (i : ℕ) (x : X)
    → slice_get xs i ≡ Some x → slice_index_or (map f xs ++ rest) i Null ≡ f x
front_of f xs rest i x e =
    let within : i < length xs = slice_get_within xs i x e in
    let n : length (map f xs) ≡ length xs = length-map xs f in
    get_or_append_left (map f xs) rest Null i (omega (arith, within, n))
    ∙ get_or_from_slice_get (map f xs) i (f x) Null
    (slice_get-map f xs i ∙ ap (option_map f) e)

module _ (outer : List OuterColumn) (so_far : List ℕ) (n start : ℕ) where
  -- a column that stood in the row so far before the left row
  pub place_before : (place index count at : ℕ) → place < n → slice_get so_far index ≡ Some place
      → count ≡ length outer → at ≡ count + index → IsRightPlace outer so_far n start place at
  place_before place index count at below found same e = record {
    reads = λ env p d l m i.
        let D : List Value = domain_row outer env in
        let C : List Value = columns Null so_far p in
        let k : length D ≡ length outer = length-map outer (column_of env) in
        let whole : d ++ l ≡ D ++ (C ++ (i.gap ++ l)) =
        ap (λ v. v ++ l) i.begins ∙ append_assoc D (C ++ i.gap) l
        ∙ ap (λ v. D ++ v) (append_assoc C i.gap l) in
        ap (λ v. slice_index_or v at Null) whole
        ∙ ap (λ z. slice_index_or (D ++ (C ++ (i.gap ++ l))) z Null)
        (let z : at ≡ length D + index = omega (arith, e, same, k) in z)
        ∙ get_or-append-add D (C ++ (i.gap ++ l)) index Null
        ∙ front_of (value_of p) so_far (i.gap ++ l) index place found
        ∙ sym (get_or_append_left p l Null place (omega (arith, below, m)));
  }

  -- a column of the left row
  pub place_behind : (place at : ℕ) → n ≤ place → at ≡ start + (place - n)
      → IsRightPlace outer so_far n start place at
  place_behind place at above e = record {
    reads = λ env p d l m i.
        let size : length d ≡ start = i.size in
        ap (λ z. slice_index_or (d ++ l) z Null)
        (let z : at ≡ length d + (place - n) = omega (arith, e, size) in z)
        ∙ get_or-append-add d l (place - n) Null
        ∙ sym (get_or-append-add p l (place - n) Null)
        ∙ ap (λ z. slice_index_or (p ++ l) z Null)
        (let z : length p + (place - n) ≡ place = omega (arith, above, m) in z);
  }
