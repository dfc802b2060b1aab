-- A name that is resolved stands for the one column of the innermost query that has it.
use Rattle.std.proofs.Common.{◌≡◌, ℕ, ◌+◌, ◌-◌, ◌<◌, zero, suc, Bool, true, false, List, [], ◌∷◌}
use Rattle.std.proofs.Common.{length, if◌then◌else◌, refl, sym, ap, ◌∙◌, subst, arith}
use Rattle.std.specs.Prelude.{Some, Ok, Err, slice_get, nat_lt}
use Rattle.std.proofs.lemmas.Bool.{ltb-true}
use Rattle.base_row_laws.specs.Bags.{Each}
use Rattle.base_refusals.specs.declared.bind.BindRefusal.TheVariants.{LateralReference}
use Rattle.sql_ast.specs.declared.words.Column.{Column}
use Rattle.sql_binder_steps.specs.declared.scope.ColumnAt.{ColumnAt}
use Rattle.sql_binder_steps.specs.declared.scope.Place.{Place}
use Rattle.sql_binder_steps.specs.declared.scope.ScopeColumn.{ScopeColumn}
use Rattle.sql_binder_steps.specs.Names.{Around, ends, means, places, only, the_one, placed, found}
use Rattle.sql_binder_steps.specs.Names.{resolved_from, resolved}
use Rattle.sql_binder_steps.specs.Steps.{Checked, and_then}
use Rattle.sql_binder.proofs.OnlyProofs.{only_column}
use Rattle.sql_binder_laws.specs.Names.{NamesStand}
use Rattle.sql_binder_laws.proofs.TypedOperands.{went, ok_is}

-- the place is that of a column that passes a test, n columns after a number
record Stood (test : ScopeColumn → Bool) (at : ℕ) (cs : List ScopeColumn) (p : Place)
    : Type 0 where
  n : ℕ
  column : ScopeColumn
  is : p.at ≡ at + n
  there : slice_get cs n ≡ Some column
  passes : test column ≡ true
  kind : column.kind ≡ p.kind

stood_on : (test : ScopeColumn → Bool) (at : ℕ) (c : ScopeColumn) (cs : List ScopeColumn)
    (ps : List Place) → Each (Stood test (at + 1) cs) ps → Each (Stood test at (c ∷ cs)) ps
stood_on test at c cs [] h = tt
stood_on test at c cs (p ∷ ps) h =
    let e : p.at ≡ (at + 1) + h.0.n = h.0.is in (
      record {
        n = suc h.0.n;
        column = h.0.column;
        is = omega (arith, e);
        there = h.0.there;
        passes = h.0.passes;
        kind = h.0.kind;
      },
      stood_on test at c cs ps h.1,
    )

stood_step : (b : Bool) (test : ScopeColumn → Bool) (at : ℕ) (c : ScopeColumn)
    (cs : List ScopeColumn) (ps : List Place) → test c ≡ b → Each (Stood test (at + 1) cs) ps
    → Each (Stood test at (c ∷ cs)) (if b then record { at = at; kind = c.kind } ∷ ps else ps)
stood_step true test at c cs ps t h = (
  record { n = 0; column = c; is = omega arith; there = refl; passes = t; kind = refl },
  stood_on test at c cs ps h,
)
stood_step false test at c cs ps t h = stood_on test at c cs ps h

all_stood : (test : ScopeColumn → Bool) (at : ℕ) (cs : List ScopeColumn)
    → Each (Stood test at cs) (places test at cs)
all_stood test at [] = tt
all_stood test at (c ∷ cs) =
    stood_step (test c) test at c cs (places test (at + 1) cs) refl (all_stood test (at + 1) cs)

only_is : (ps : List Place) (q : Place) → only ps ≡ Ok q → ps ≡ q ∷ []
only_is [] q e = cc
only_is (p ∷ []) q e = ap (λ x. x ∷ []) (ok_is p q e)
only_is (p ∷ r ∷ ps) q e = cc

stands_at : (wanted : Column) (cs : List ScopeColumn) (p : Place) → the_one wanted cs ≡ Ok p
    → Stood (means wanted) 0 cs p
unfolding the_one
stands_at wanted cs p h =
    (subst (Each (Stood (means wanted) 0 cs)) (only_is (places (means wanted) 0 cs) p h)
    (all_stood (means wanted) 0 cs)).0

seen_by : (b : Bool) (r : Checked ColumnAt) (c : ColumnAt)
    → (let a : Checked ColumnAt = if b then r else Err LateralReference in a ≡ Ok c)
    → (b ≡ true) × (r ≡ Ok c)
seen_by true r c h = (refl, h)
seen_by false r c h = cc

-- what was found in a query
record Found (wanted : Column) (q : Around) (out seen : ℕ) (c : ColumnAt) : Type 0 where
  level : c.level ≡ out
  below : out < seen
  place : Place
  one : the_one wanted q.columns ≡ Ok place
  kind : place.kind ≡ c.kind
  at : placed q.keys place.at ≡ Ok c.at

found_is : (wanted : Column) (q : Around) (out seen : ℕ) (c : ColumnAt)
    → found wanted q out seen ≡ Ok c → Found wanted q out seen c
unfolding found
found_is wanted q out seen c h =
    let w = went (the_one wanted q.columns) _ c h in
    let p = w.it in
    let s = seen_by (nat_lt out seen)
    (and_then (placed q.keys p.at)
    (λ at. Ok (record { level = out; at = at; kind = p.kind }))) c w.gives in
    let v = went (placed q.keys p.at) _ c s.1 in
    let made : ColumnAt = record { level = out; at = v.it; kind = p.kind } in
    let e : made ≡ c = ok_is made c v.gives in
    subst (Found wanted q out seen) e (record {
      level = refl;
      below = ltb-true out seen s.0;
      place = p;
      one = w.is;
      kind = refl;
      at = v.is;
    })

-- a query n levels out, the first that has the name
record Reached (wanted : Column) (out seen : ℕ) (levels : List Around) (c : ColumnAt)
    : Type 0 where
  n : ℕ
  query : Around
  there : slice_get levels n ≡ Some query
  has : ends wanted query.columns ≡ true
  inner : (k : ℕ) (other : Around) → k < n → slice_get levels k ≡ Some other
      → ends wanted other.columns ≡ false
  gives : found wanted query (out + n) seen ≡ Ok c

first_other : (wanted : Column) (q other : Around) (outer : List Around)
    → ends wanted q.columns ≡ false → slice_get (q ∷ outer) 0 ≡ Some other
    → ends wanted other.columns ≡ false
first_other wanted q other outer f e =
    let same : q ≡ other = cc in subst (λ (x : Around). ends wanted x.columns ≡ false) same f

further : (wanted : Column) (q : Around) (outer : List Around) (n : ℕ)
    → ends wanted q.columns ≡ false
    → ((k : ℕ) (other : Around) → k < n → slice_get outer k ≡ Some other
    → ends wanted other.columns ≡ false)
    → (k : ℕ) (other : Around) → k < suc n → slice_get (q ∷ outer) k ≡ Some other
    → ends wanted other.columns ≡ false
further wanted q outer n t inner zero other below at = first_other wanted q other outer t at
further wanted q outer n t inner (suc k) other below at = inner k other (omega (arith, below)) at

reached_step : (b : Bool) (wanted : Column) (out seen : ℕ) (q : Around) (outer : List Around)
    (c : ColumnAt) → ends wanted q.columns ≡ b
    → (let a : Checked ColumnAt = if b
    then found wanted q out seen
    else resolved_from wanted seen (out + 1) outer in a ≡ Ok c)
    → (resolved_from wanted seen (out + 1) outer ≡ Ok c → Reached wanted (out + 1) seen outer c)
    → Reached wanted out seen (q ∷ outer) c
reached_step true wanted out seen q outer c t h ih =
    let e : out ≡ out + 0 = omega arith in
    record {
      n = 0;
      query = q;
      there = refl;
      has = t;
      inner = λ k other below at. absurd (omega (arith, below));
      gives = subst (λ m. found wanted q m seen ≡ Ok c) e h;
    }
reached_step false wanted out seen q outer c t h ih =
    let r = ih h in
    let e : (out + 1) + r.n ≡ out + suc r.n = omega arith in
    let inner : (k : ℕ) (other : Around) → k < suc r.n → slice_get (q ∷ outer) k ≡ Some other
    → ends wanted other.columns ≡ false =
    further wanted q outer r.n t r.inner in
    record {
      n = suc r.n;
      query = r.query;
      there = r.there;
      has = r.has;
      inner = inner;
      gives = subst (λ m. found wanted r.query m seen ≡ Ok c) e r.gives;
    }

reached : (wanted : Column) (out seen : ℕ) (levels : List Around) (c : ColumnAt)
    → resolved_from wanted seen out levels ≡ Ok c → Reached wanted out seen levels c
reached wanted out seen [] c h = cc
reached wanted out seen (q ∷ outer) c h =
    reached_step (ends wanted q.columns) wanted out seen q outer c refl h
    (λ g. reached wanted (out + 1) seen outer c g)

pub names_stand : NamesStand
unfolding resolved
names_stand sight wanted c h =
    let r = reached wanted 0 (length sight.levels - sight.hidden) sight.levels c h in
    let f = found_is wanted r.query (0 + r.n) (length sight.levels - sight.hidden) c r.gives in
    let s = stands_at wanted r.query.columns f.place f.one in
    let level : c.level ≡ 0 + r.n = f.level in
    let e : c.level ≡ r.n = omega (arith, level) in
    let is : f.place.at ≡ 0 + s.n = s.is in
    let p : f.place.at ≡ s.n = omega (arith, is) in
    let below : 0 + r.n < length sight.levels - sight.hidden = f.below in
    record {
      query = r.query;
      innermost = record {
        there = subst (λ m. slice_get sight.levels m ≡ Some r.query) (sym e) r.there;
        has = r.has;
        inner = λ k other before at. r.inner k other (omega (arith, before, e)) at;
      };
      seen = omega (arith, below, e);
      place = s.n;
      column = s.column;
      there = s.there;
      meant = s.passes;
      kind = s.kind ∙ f.kind;
      only = λ k other at t. only_column wanted r.query.columns f.place k other f.one at t ∙ p;
      at = subst (λ m. placed r.query.keys m ≡ Ok c.at) p f.at;
    }
