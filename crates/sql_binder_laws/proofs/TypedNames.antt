-- A name stands for a column of the kind that is said.
use Rattle.std.proofs.Common.{◌≡◌, ℕ, ◌+◌, ◌-◌, ◌<◌, ◌==◌, List, [], ◌∷◌, length, suc, Bool}
use Rattle.std.proofs.Common.{true, false, if◌then◌else◌, nat_lt, refl, sym, ap, ◌∙◌, subst, arith}
use Rattle.std.specs.Prelude.{Option, Some, None, Ok, Err, slice_get, slice_index_or}
use Rattle.std.proofs.lemmas.Bool.{ltb-true}
use Rattle.std.proofs.lemmas.Bool.Decides.{Decides-eqb}
use Rattle.std.proofs.lemmas.List.Quantifiers.{position-Some}
use Rattle.std.proofs.lemmas.Option.{slice_get-get_or}
use Rattle.std.proofs.Common.{get_or}
use Rattle.base_row_laws.specs.Bags.{Each}
use Rattle.sql_bound_query.proofs.TypingOpened.{kind_Column}
use Rattle.sql_bound_query.specs.Typing.{EnvKinds, kind_of_input}
use Rattle.sql_bound_query.specs.declared.query.Input.TheVariants as input
use Rattle.base_refusals.specs.declared.bind.BindRefusal.TheVariants.{LateralReference}
use Rattle.expr_scalar.specs.declared.kind.Kind.{Kind}
use Rattle.sql_ast.specs.declared.words.Column.{Column}
use Rattle.sql_binder_steps.specs.declared.scope.ColumnAt.{ColumnAt}
use Rattle.sql_binder_steps.specs.declared.scope.Place.{Place}
use Rattle.sql_binder_steps.specs.declared.scope.ScopeColumn.{ScopeColumn}
use Rattle.sql_binder_steps.specs.Steps.{Checked, and_then}
use Rattle.sql_binder_steps.specs.Names.{Around, Sight, places, only, the_one, key_at, key_of, placed}
use Rattle.sql_binder_steps.specs.Names.{found, ends, means, resolved, resolved_from}
use Rattle.sql_binder_laws.proofs.TypedOperands.{went, ok_is}
use Rattle.sql_binder_laws.proofs.TypedSteps.{row_kinds, RowFits, Fits}

-- a place has the kind that is said, n columns after a number
abbrev PlaceIs : ℕ → List ScopeColumn → Place → Type 0
PlaceIs at cs p = (n : ℕ) × (p.at ≡ at + n) × (slice_get (row_kinds cs) n ≡ Some p.kind)

shifted : (at : ℕ) (c : ScopeColumn) (cs : List ScopeColumn) (ps : List Place)
    → Each (PlaceIs (at + 1) cs) ps → Each (PlaceIs at (c ∷ cs)) ps
shifted at c cs [] h = tt
shifted at c cs (p ∷ ps) h = let x = h.0 in
    ((suc x.0, omega (arith, x.1), x.2), shifted at c cs ps h.1)

places_step : (b : Bool) (at : ℕ) (c : ScopeColumn) (cs : List ScopeColumn) (ps : List Place)
    → Each (PlaceIs (at + 1) cs) ps
    → Each (PlaceIs at (c ∷ cs)) (if b then record { at = at; kind = c.kind } ∷ ps else ps)
places_step true at c cs ps h = ((0, omega arith, refl), shifted at c cs ps h)
places_step false at c cs ps h = shifted at c cs ps h

places_of : (test : ScopeColumn → Bool) (at : ℕ) (cs : List ScopeColumn)
    → Each (PlaceIs at cs) (places test at cs)
places_of test at [] = tt
places_of test at (c ∷ cs) =
    places_step (test c) at c cs (places test (at + 1) cs) (places_of test (at + 1) cs)

single : (ps : List Place) (q : Place) → only ps ≡ Ok q → ps ≡ q ∷ []
single [] q e = cc
single (p ∷ []) q e = let same : p ≡ q = ok_is p q e in ap (λ x. x ∷ []) same
single (p ∷ r ∷ ps) q e = cc

pub the_one_kind : (wanted : Column) (cs : List ScopeColumn) (p : Place) → the_one wanted cs ≡ Ok p
    → slice_get (row_kinds cs) p.at ≡ Some p.kind
unfolding the_one
the_one_kind wanted cs p h =
    let one = subst (Each (PlaceIs 0 cs)) (single (places (means wanted) 0 cs) p h)
    (places_of (means wanted) 0 cs) in
    let e : p.at ≡ one.0.0 = omega (arith, one.0.1) in
    ap (slice_get (row_kinds cs)) e ∙ one.0.2

key_is : (o : Option ℕ) (j : ℕ) → key_at o ≡ Ok j → o ≡ Some j
key_is (Some i) j h = ap Some (ok_is i j h)
key_is None j h = cc

key_stands : (keys : List ℕ) (at j : ℕ) → key_of keys at ≡ Some j → slice_get keys j ≡ Some at
unfolding key_of
key_stands keys at j h =
    let p = position-Some (λ k. k == at) keys j 0 h in
    slice_get-get_or keys j 0 p.0 ∙ ap Some ((Decides-eqb (get_or keys j 0) at).0 p.1)

pub placed_kind : (keys : Option (List ℕ)) (cs : List ScopeColumn) (row : List Kind) (at j : ℕ)
    (k : Kind) → placed keys at ≡ Ok j → RowFits keys cs row → slice_get (row_kinds cs) at ≡ Some k
    → slice_get row j ≡ Some k
placed_kind None cs row at j k h fits is = ap (λ r. slice_get r j) fits
    ∙ ap (slice_get (row_kinds cs)) (sym (ok_is at j h)) ∙ is
placed_kind (Some keys) cs row at j k h fits is =
    fits j at k (key_stands keys at j (key_is (key_of keys at) j h)) is

-- a column that was found, `out` levels out
record FoundIs (keys : Option (List ℕ)) (columns : List ScopeColumn) (out seen : ℕ) (c : ColumnAt) :
    Type 0 where
  level : c.level ≡ out
  below : out < seen
  row : (row : List Kind) → RowFits keys columns row → slice_get row c.at ≡ Some c.kind

seen_by : (b : Bool) (r : Checked ColumnAt) (c : ColumnAt)
    → (let a : Checked ColumnAt = if b then r else Err LateralReference in a ≡ Ok c)
    → (b ≡ true) × (r ≡ Ok c)
seen_by true r c h = (refl, h)
seen_by false r c h = cc

found_is : (wanted : Column) (q : Around) (out seen : ℕ) (c : ColumnAt)
    → found wanted q out seen ≡ Ok c → FoundIs q.keys q.columns out seen c
unfolding found
found_is wanted q out seen c h =
    let w = went (the_one wanted q.columns) _ c h in
    let p = w.it in
    let s = seen_by (nat_lt out seen)
    (and_then (placed q.keys p.at) (λ at. Ok (record { level = out; at = at; kind = p.kind }))) c
    w.gives in
    let v = went (placed q.keys p.at) _ c s.1 in
    let made : ColumnAt = record { level = out; at = v.it; kind = p.kind } in
    let e : made ≡ c = ok_is made c v.gives in
    subst (FoundIs q.keys q.columns out seen) e (record {
      level = refl;
      below = ltb-true out seen s.0;
      row = λ row fits. placed_kind q.keys q.columns row p.at v.it p.kind v.is fits
          (the_one_kind wanted q.columns p w.is);
    })

-- a column that was resolved among the queries around from a number of levels on
record ResolvedIs (out seen : ℕ) (levels : List Around) (c : ColumnAt) : Type 0 where
  n : ℕ
  q : Around
  at : slice_get levels n ≡ Some q
  is : FoundIs q.keys q.columns (out + n) seen c

resolved_step : (b : Bool) (wanted : Column) (out seen : ℕ) (q : Around) (outer : List Around)
    (c : ColumnAt)
    → (let a : Checked ColumnAt =
    if b then found wanted q out seen else resolved_from wanted seen (out + 1) outer in a ≡ Ok c)
    → (resolved_from wanted seen (out + 1) outer ≡ Ok c → ResolvedIs (out + 1) seen outer c)
    → ResolvedIs out seen (q ∷ outer) c
resolved_step true wanted out seen q outer c h ih =
    let f = found_is wanted q out seen c h in
    let e : out ≡ out + 0 = omega arith in
    record { n = 0; q = q; at = refl; is = subst (λ m. FoundIs q.keys q.columns m seen c) e f }
resolved_step false wanted out seen q outer c h ih =
    let r = ih h in
    let e : (out + 1) + r.n ≡ out + suc r.n = omega arith in
    record {
      n = suc r.n;
      q = r.q;
      at = r.at;
      is = subst (λ m. FoundIs r.q.keys r.q.columns m seen c) e r.is;
    }

resolved_is : (wanted : Column) (out seen : ℕ) (levels : List Around) (c : ColumnAt)
    → resolved_from wanted seen out levels ≡ Ok c → ResolvedIs out seen levels c
resolved_is wanted out seen [] c h = cc
resolved_is wanted out seen (q ∷ outer) c h =
    resolved_step (ends wanted q.columns) wanted out seen q outer c h
    (λ g. resolved_is wanted (out + 1) seen outer c g)

-- the column's input has the column's kind
pub resolved_kind : (sight : Sight) (env : EnvKinds) (wanted : Column) (c : ColumnAt)
    → Fits sight env → resolved sight wanted ≡ Ok c
    → kind_of_input (input.Column c.level c.at) env ≡ Some c.kind
unfolding resolved
resolved_kind sight env wanted c fits h =
    let r = resolved_is wanted 0 (length sight.levels - sight.hidden) sight.levels c h in
    let e : c.level ≡ r.n = r.is.level ∙ omega arith in
    let below : r.n < length sight.levels - sight.hidden =
    (let b = r.is.below in omega (arith, b)) in
    ap (λ (k : EnvKinds → Option Kind). k env) (kind_Column c.level c.at)
    ∙ ap (λ l. slice_get (slice_index_or env l []) c.at) e
    ∙ r.is.row (slice_index_or env r.n []) (fits.row r.n r.q below r.at)
