-- Where columns stand in a flat row.
use Rattle.std.proofs.Common.{◌≡◌, ℕ, zero, suc, ◌+◌, ◌-◌, ◌<◌, List, [], ◌++◌, map, refl, sym}
use Rattle.std.proofs.Common.{ap, ◌∙◌, subst, arith, length}
use Rattle.std.specs.Prelude.{Some, slice_get, slice_index_or, option_map}
use Rattle.std.proofs.lemmas.List.{append-nil, append_assoc, length-append, length-map}
use Rattle.std.proofs.lemmas.List.{get_or_append_left, get_or-append-add}
use Rattle.std.proofs.lemmas.Option.{slice_get_within, slice_get-map, get_or_from_slice_get}
use Rattle.base_value.specs.declared.value.Value.{Value}
use Rattle.base_value.specs.declared.value.Value.TheVariants.{Null}
use Rattle.sql_bound_query.specs.Meaning.{Env, column}
use Rattle.plan_dependent_nodes.specs.declared.sight.OuterColumn.{OuterColumn}
use Rattle.plan_dependent_nodes.specs.Dependence.{domain_row}
use Rattle.plan_dependent_nodes.specs.Growth.{IsDomain, Sees, IsAt}

pub column_of : Env → OuterColumn → Value
column_of env c = column env c.level c.place

front_at : (f : OuterColumn → Value) (outer : List OuterColumn) (rest : List Value) (i : ℕ)
    (c : OuterColumn) → slice_get outer i ≡ Some c
    → slice_index_or (map f outer ++ rest) i Null ≡ f c
front_at f outer rest i c e =
    let within : i < length outer = slice_get_within outer i c e in
    let n : length (map f outer) ≡ length outer = length-map outer f in
    get_or_append_left (map f outer) rest Null i (omega (arith, within, n))
    ∙ get_or_from_slice_get (map f outer) i (f c) Null
    (slice_get-map f outer i ∙ ap (option_map f) e)

-- a column of a row around
pub place_outer : (outer : List OuterColumn) (start w level place at : ℕ) → 0 < level
    → slice_get outer at ≡ Some (record { level = level - 1; place = place })
    → IsAt outer start w level place at
place_outer outer start w zero place at h e = absurd (omega arith)
place_outer outer start w (suc k) place at h e =
    let less : suc k - 1 ≡ k = omega arith in
    let found : slice_get outer at ≡ Some (record { level = k; place = place }) =
    subst (λ l. slice_get outer at ≡ Some (record { level = l; place = place })) less e in
    record {
      reads = λ env r flat s.
          ap (λ v. slice_index_or v at Null) s.is
          ∙ front_at (λ (c : OuterColumn). column env c.level c.place) outer
          (s.gap ++ (r ++ s.tail)) at (record { level = k; place = place }) found;
    }

begin_at : (outer : List OuterColumn) (env : Env) (gap : List Value) (start : ℕ)
    → length outer + length gap ≡ start → length (domain_row outer env ++ gap) ≡ start
begin_at outer env gap start e =
    length-append (domain_row outer env) gap
    ∙ ap (λ n. n + length gap) (length-map outer (λ (c : OuterColumn). column env c.level c.place))
    ∙ e

own_at : (outer : List OuterColumn) (start w : ℕ) (env : Env) (r flat : List Value) (place : ℕ)
    → Sees outer start w env r flat → place < w
    → slice_index_or flat (start + place) Null ≡ slice_index_or r place Null
own_at outer start w env r flat place s h =
    let D : List Value = domain_row outer env ++ s.gap in
    let n : length D ≡ start = begin_at outer env s.gap start s.begin in
    let m : length r ≡ w = s.size in
    ap (λ v. slice_index_or v (start + place) Null)
    (s.is ∙ sym (append_assoc (domain_row outer env) s.gap (r ++ s.tail)))
    ∙ ap (λ k. slice_index_or (D ++ (r ++ s.tail)) (k + place) Null) (sym n)
    ∙ get_or-append-add D (r ++ s.tail) place Null
    ∙ get_or_append_left r s.tail Null place (omega (arith, h, m))

-- a column of the query's own row
pub place_own : (outer : List OuterColumn) (start w level place at : ℕ) → level ≡ 0 → place < w
    → at ≡ start + place → IsAt outer start w level place at
place_own outer start w level place at l h e =
    subst (λ k. IsAt outer start w k place at) (sym l)
    (record {
      reads = λ env r flat s. ap (λ n. slice_index_or flat n Null) e
          ∙ own_at outer start w env r flat place s h;
    })

-- ---- flat rows

pub sees_more : (outer : List OuterColumn) (start w : ℕ) (env : Env) (r flat z : List Value)
    → Sees outer start w env r flat → Sees outer start w env r (flat ++ z)
sees_more outer start w env r flat z s =
    let D : List Value = domain_row outer env in
    record {
      gap = s.gap;
      tail = s.tail ++ z;
      is = ap (λ v. v ++ z) s.is ∙ append_assoc D (s.gap ++ (r ++ s.tail)) z
          ∙ ap (λ v. D ++ v) (append_assoc s.gap (r ++ s.tail) z
          ∙ ap (λ v. s.gap ++ v) (append_assoc r s.tail z));
      begin = s.begin;
      size = s.size;
    }

pub sees_row : (outer : List OuterColumn) (start w : ℕ) (env : Env) (d r : List Value)
    → IsDomain outer start env d → length r ≡ w → Sees outer start w env r (d ++ r)
sees_row outer start w env d r i e =
    let D : List Value = domain_row outer env in
    let n : length D ≡ length outer =
    length-map outer (λ (c : OuterColumn). column env c.level c.place) in
    let m : length d ≡ length D + length i.gap = ap length i.begins ∙ length-append D i.gap in
    let k : length d ≡ start = i.size in
    record {
      gap = i.gap;
      tail = [];
      is = ap (λ v. v ++ r) i.begins ∙ append_assoc D i.gap r
          ∙ ap (λ v. D ++ (i.gap ++ v)) (sym (append-nil r));
      begin = omega (arith, n, m, k);
      size = e;
    }

-- the row with columns after it
pub sees_grown : (outer : List OuterColumn) (start w : ℕ) (env : Env) (d r f : List Value)
    → IsDomain outer start env d → length r ≡ w
    → Sees outer start w env r (d ++ (r ++ f))
sees_grown outer start w env d r f i e =
    subst (Sees outer start w env r) (append_assoc d r f)
    (sees_more outer start w env r (d ++ r) f (sees_row outer start w env d r i e))

-- a row of two parts, of which the first stands in the domain row
pub sees_right : (outer : List OuterColumn) (start a b : ℕ) (env : Env) (d l r : List Value)
    → IsDomain outer start env d → length l ≡ a → length r ≡ b
    → Sees outer start (a + b) env (l ++ r) ((d ++ l) ++ r)
sees_right outer start a b env d l r i e h =
    subst (Sees outer start (a + b) env (l ++ r)) (sym (append_assoc d l r))
    (sees_row outer start (a + b) env d (l ++ r) i
    (length-append l r ∙ ap (λ n. n + length r) e ∙ ap (λ n. a + n) h))

-- ---- domain rows

pub domain_wider : (outer : List OuterColumn) (start a : ℕ) (env : Env) (d l : List Value)
    → IsDomain outer start env d → length l ≡ a → IsDomain outer (start + a) env (d ++ l)
domain_wider outer start a env d l i e = record {
  gap = i.gap ++ l;
  begins = ap (λ v. v ++ l) i.begins ∙ append_assoc (domain_row outer env) i.gap l;
  size = length-append d l ∙ ap (λ n. n + length l) i.size ∙ ap (λ n. start + n) e;
}

pub domain_none : (start : ℕ) (env : Env) (d : List Value) → length d ≡ start
    → IsDomain [] start env d
domain_none start env d e = record { gap = d; begins = refl; size = e }

pub domain_whole : (outer : List OuterColumn) (env : Env)
    → IsDomain outer (length outer) env (domain_row outer env)
domain_whole outer env = record {
  gap = [];
  begins = sym (append-nil (domain_row outer env));
  size = length-map outer (λ (c : OuterColumn). column env c.level c.place);
}
