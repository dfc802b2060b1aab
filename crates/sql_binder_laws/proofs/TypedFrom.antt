-- What FROM binds is typed: its joins and commas.
use Rattle.std.proofs.Common.{◌≡◌, ◌≤◌, ◌==◌, List, [], ◌∷◌, ◌++◌, length}
use Rattle.std.proofs.Common.{drop, suc, true, refl, sym, ap, ◌∙◌}
use Rattle.std.proofs.Common.{subst, arith}
use Rattle.std.specs.Prelude.{Option, Some, None, Ok}
use Rattle.std.proofs.lemmas.Bool.Decides.{Decides-eqb}
use Rattle.std.proofs.lemmas.List.{map-append}
use Rattle.std.proofs.Math.Seq.{drop-append_seam}
use Rattle.base_row_laws.specs.Bags.{Each}
use Rattle.sql_bound_query.proofs.TypingOpened.{kinds_Cross, kinds_Inner}
use Rattle.sql_bound_query.proofs.TypingOpened.{kinds_Outer}
use Rattle.sql_bound_query.specs.declared.query.BoundExpr.{BoundExpr}
use Rattle.sql_bound_query.specs.declared.query.BoundSource.{BoundSource}
use Rattle.sql_bound_query.specs.Typing.{EnvKinds, FromKinds}
use Rattle.sql_bound_query.specs.Typing.{from_kinds}
use Rattle.sql_bound_query.specs.Typing.{typing_of}
use Rattle.expr_scalar.specs.declared.kind.Kind.{Kind}
use Rattle.sql_ast.specs.declared.words.JoinKind.{JoinKind}
use Rattle.sql_ast.specs.declared.words.JoinKind.TheVariants.{Inner, LeftOuter}
use Rattle.sql_binder_steps.specs.declared.collected.BoundKind.{BoundKind}
use Rattle.sql_binder_steps.specs.declared.collected.BoundKind.TheVariants.{Value, Condition}
use Rattle.sql_binder_steps.specs.declared.collected.Collected.{Collected}
use Rattle.sql_binder_steps.specs.declared.collected.FromRows.{FromRows}
use Rattle.sql_binder_steps.specs.declared.collected.Part.{Part as Bound}
use Rattle.sql_binder_steps.specs.declared.from.Joining.{Joining}
use Rattle.sql_binder_steps.specs.declared.scope.ScopeColumn.{ScopeColumn}
use Rattle.sql_binder.specs.FromLists.{on_condition, on_joining, joins_from, joins, chained}
use Rattle.sql_binder.specs.FromLists.{from_list_after, from_list}
use Rattle.sql_binder_steps.specs.Kinds.{is_condition}
use Rattle.sql_binder.specs.Meanings.{Meaning, FromItemMeaning, JoinMeaning, JoinedMeaning}
use Rattle.sql_binder_steps.specs.Names.{Sight}
use Rattle.sql_binder_steps.specs.Parts.{keys_by, within_on}
use Rattle.sql_binder_steps.specs.Parts.{columns_so_far, first_rows, crossed, joining, joined_rows}
use Rattle.sql_binder_steps.specs.Parts.{present, holding}
use Rattle.sql_binder_steps.specs.Steps.{◌>>=◌, alone}
use Rattle.sql_binder_laws.proofs.TypedOperands.{went, ok_is, fit}
use Rattle.sql_binder_laws.proofs.TypedSteps.{Ready, row_kinds, Fits, BoundIs, same_pair}
use Rattle.sql_binder_laws.proofs.TypedSteps.{closed_part}
use Rattle.sql_binder_laws.proofs.TypedNodes.{MeaningIs}
use Rattle.sql_binder_laws.proofs.TypedItems.{lifted, fits_inner, FromItemMeaningIs}

-- ---- joins

-- rows of a chain under the row so far and the rows around: its own columns stand after those
-- before it
pub record ChainRows (sight : Sight) (before : List ScopeColumn) (f : FromRows) : Type 0 where
  pub own : List ScopeColumn
  pub columns : f.columns ≡ before ++ own
  pub kinds : (env : EnvKinds) → Fits sight env
      → from_kinds f.source (row_kinds before) env ≡ Some (row_kinds own)

-- nothing is collected in FROM
pub record Passed (s t : Collected) : Type 0 where
  pub inputs : t.inputs ≡ s.inputs
  pub aggregates : t.aggregates ≡ []

-- a join is typed on each chain
abbrev pub JoinMeaningIs : JoinMeaning → Type 0
JoinMeaningIs m = (sight : Sight) (before : List ScopeColumn) (done : FromRows) (s : Collected)
    → Ready sight → s.aggregates ≡ [] → ChainRows sight before done
    → (f : FromRows) (t : Collected) → m (length before) sight done s ≡ Ok (f, t)
    → Passed s t × ChainRows sight before f

-- a condition is one
test_by : (k : BoundKind) (x : BoundExpr) (env : EnvKinds) → is_condition k ≡ true → BoundIs x k env
    → (typing_of x).is_condition env ≡ true
test_by Condition x env t h = h
test_by (Value k) x env t h = cc

-- the rows around ON
fits_on : (sight : Sight) (columns : List ScopeColumn) (env : EnvKinds) → Fits sight env
    → Fits (within_on sight columns) (row_kinds columns ∷ env)
unfolding within_on
fits_on sight columns env f =
    record { row = fits_inner sight columns None env (row_kinds columns) f refl }

ready_on : (sight : Sight) (columns : List ScopeColumn) → Ready sight
    → Ready (within_on sight columns)
unfolding within_on
ready_on sight columns r =
    record {
      views = r.views;
      hidden = let h = r.hidden in
          let more : sight.hidden ≤ suc (length sight.levels) = omega (arith, h) in more;
    }

none_on : (sight : Sight) (columns : List ScopeColumn)
    → keys_by (within_on sight columns).levels ≡ None
unfolding within_on
none_on sight columns = refl

-- a condition
pub holding_is : (p : Bound) (b : BoundExpr) (env : EnvKinds) → holding p ≡ Ok b
    → BoundIs p.expr p.kind env → (typing_of b).is_condition env ≡ true
unfolding holding
holding_is p b env h is =
    let f = fit (is_condition p.kind) p.expr b h in
    subst (λ (x : BoundExpr). (typing_of x).is_condition env ≡ true) f.same
    (test_by p.kind p.expr env f.test is)

-- ON of a join
pub record OnIs (sight : Sight) (columns : List ScopeColumn) (s t : Collected) (on : BoundExpr) :
    Type 0 where
  pub passed : Passed s t
  pub is : (env : EnvKinds) → Fits sight env
      → (typing_of on).is_condition (row_kinds columns ∷ env) ≡ true

on_is : (sight : Sight) (columns : List ScopeColumn) (m : Meaning) (s : Collected) → Ready sight
    → s.aggregates ≡ [] → MeaningIs m
    → (on : BoundExpr) (t : Collected) → on_condition sight columns m s ≡ Ok (on, t)
    → OnIs sight columns s t on
unfolding on_condition
on_is sight columns m s ready empty is on t h =
    let w = went (alone (m.binds (within_on sight columns)) s) _ (on, t) h in
    let c = closed_part (within_on sight columns) (m.binds (within_on sight columns)) s
    (none_on sight columns) empty
    (is (within_on sight columns) (record s { inputs = [] }) (ready_on sight columns ready))
    w.it.0 w.it.1 w.is in
    let l = lifted (holding w.it.0) w.it.1 on t w.gives in
    record {
      passed = record {
        inputs = ap (λ (x : Collected). x.inputs) l.same ∙ c.inputs;
        aggregates = ap (λ (x : Collected). x.aggregates) l.same ∙ c.aggregates;
      };
      is = λ env f. holding_is w.it.0 on (row_kinds columns ∷ env) l.is
          (c.is (row_kinds columns ∷ env) (fits_on sight columns env f));
    }

row_of_both : (a b : List ScopeColumn) → row_kinds (a ++ b) ≡ row_kinds a ++ row_kinds b
row_of_both a b = map-append (λ (c : ScopeColumn). c.kind) a b

kinds_length : (a : List ScopeColumn) → length (row_kinds a) ≡ length a
kinds_length [] = refl
kinds_length (c ∷ a) = ap suc (kinds_length a)

append_twice : {X : Type 0} (xs ys zs : List X) → (xs ++ ys) ++ zs ≡ xs ++ (ys ++ zs)
append_twice [] ys zs = refl
append_twice (x ∷ xs) ys zs = ap (λ l. x ∷ l) (append_twice xs ys zs)

-- the kinds of a join
joined_are : (k : JoinKind) (a b : BoundSource) (on : BoundExpr) (own right : List ScopeColumn)
    (all : List ScopeColumn) (js : List Kind) (env : EnvKinds)
    → from_kinds a js env ≡ Some (row_kinds own)
    → from_kinds b (js ++ row_kinds own) env ≡ Some (row_kinds right)
    → (typing_of on).is_condition (row_kinds (own ++ right) ∷ env) ≡ true
    → from_kinds (joined_rows k
    (record { left = a; right = b; width = length right; columns = all }) on).source js env
    ≡ Some (row_kinds (own ++ right))
unfolding joined_rows
joined_are Inner a b on own right all js env h i c =
    let e = row_of_both own right in
    let both : (typing_of on).is_condition ((row_kinds own ++ row_kinds right) ∷ env) ≡ true =
    subst (λ ks. (typing_of on).is_condition (ks ∷ env) ≡ true) e c in
    ap (λ (m : FromKinds). m js env) (kinds_Inner a b on) ∙ rw (h, i, both) (ap Some (sym e))
joined_are LeftOuter a b on own right all js env h i c =
    let e = row_of_both own right in
    let both : (typing_of on).is_condition ((row_kinds own ++ row_kinds right) ∷ env) ≡ true =
    subst (λ ks. (typing_of on).is_condition (ks ∷ env) ≡ true) e c in
    let wide : (length right == length (row_kinds right))
    ≡ true = (Decides-eqb (length right) (length (row_kinds right))).1 (sym (kinds_length right)) in
    ap (λ (m : FromKinds). m js env) (kinds_Outer a b (length right) on)
    ∙ rw (h, i, wide, both) (ap Some (sym e))

chain_joined : (sight : Sight) (before : List ScopeColumn) (k : JoinKind) (j : Joining)
    (on : BoundExpr) (own : List ScopeColumn) → j.columns ≡ before ++ own
    → ((env : EnvKinds) → Fits sight env
    → from_kinds (joined_rows k j on).source (row_kinds before) env ≡ Some (row_kinds own))
    → ChainRows sight before (joined_rows k j on)
unfolding joined_rows
chain_joined sight before k j on own columns is =
    record { own = own; columns = columns; kinds = is }

-- a join
pub join_is_typed : (item : FromItemMeaning) (k : JoinKind) (m : Meaning) → FromItemMeaningIs item
    → MeaningIs m
    → JoinMeaningIs (λ start sight done.
    item sight done.columns >>= (λ o. on_joining start sight k (joining done o) m))
unfolding on_joining joining
join_is_typed item k m is also sight before done s ready empty chain f t h =
    let w = went (item sight done.columns s) _ (f, t) h in
    let o = w.it.0 in
    let i = is sight done.columns s ready o w.it.1 w.is in
    let columns : done.columns ++ o.columns ≡ before ++ (chain.own ++ o.columns) =
    ap (λ l. l ++ o.columns) chain.columns ∙ append_twice before chain.own o.columns in
    let so_far : row_kinds done.columns ≡ row_kinds before ++ row_kinds chain.own =
    ap row_kinds chain.columns ∙ row_of_both before chain.own in
    let own : drop (length before) (done.columns ++ o.columns) ≡ chain.own ++ o.columns =
    ap (drop (length before)) columns ∙ drop-append_seam before (chain.own ++ o.columns) in
    let v = went (on_condition sight (drop (length before) (done.columns ++ o.columns)) m w.it.1) _
    (f, t) w.gives in
    let c = on_is sight (drop (length before) (done.columns ++ o.columns)) m w.it.1 ready
    (i.aggregates ∙ empty) also v.it.0 v.it.1 v.is in
    let j : Joining = record {
      left = done.source;
      right = o.source;
      width = length o.columns;
      columns = done.columns ++ o.columns;
    } in
    let made = joined_rows k j v.it.0 in
    let e = same_pair (made, v.it.1) f t (ok_is (made, v.it.1) (f, t) v.gives) in
    let rows : ChainRows sight before made =
    chain_joined sight before k j v.it.0 (chain.own ++ o.columns) columns
    (λ env fits. joined_are k done.source o.source v.it.0 chain.own o.columns
    (done.columns ++ o.columns) (row_kinds before) env (chain.kinds env fits)
    (subst (λ js. from_kinds o.source js env ≡ Some (row_kinds o.columns)) so_far
    (i.kinds env fits))
    (subst (λ l. (typing_of v.it.0).is_condition (row_kinds l ∷ env) ≡ true) own
    (c.is env fits))) in (
      record {
        inputs = ap (λ (x : Collected). x.inputs) (sym e.1) ∙ c.passed.inputs ∙ i.inputs;
        aggregates = ap (λ (x : Collected). x.aggregates) (sym e.1) ∙ c.passed.aggregates;
      },
      subst (ChainRows sight before) e.0 rows,
    )

-- the joins of a chain
joins_are : (js : List JoinMeaning) (sight : Sight) (before : List ScopeColumn) (done : FromRows)
    (s : Collected) → Each JoinMeaningIs js → Ready sight → s.aggregates ≡ []
    → ChainRows sight before done
    → (f : FromRows) (t : Collected) → joins_from (length before) sight done js s ≡ Ok (f, t)
    → Passed s t × ChainRows sight before f
joins_are [] sight before done s is ready empty chain f t h =
    let e = same_pair (done, s) f t (ok_is (done, s) (f, t) h) in (
      record {
        inputs = ap (λ (x : Collected). x.inputs) (sym e.1);
        aggregates = ap (λ (x : Collected). x.aggregates) (sym e.1) ∙ empty;
      },
      subst (ChainRows sight before) e.0 chain,
    )
joins_are (j ∷ js) sight before done s is ready empty chain f t h =
    let w = went (j (length before) sight done s) _ (f, t) h in
    let one = is.0 sight before done s ready empty chain w.it.0 w.it.1 w.is in
    let rest = joins_are js sight before w.it.0 w.it.1 is.1 ready one.0.aggregates one.1 f t
    w.gives in
    (record { inputs = rest.0.inputs ∙ one.0.inputs; aggregates = rest.0.aggregates }, rest.1)

-- ---- the whole list

-- rows of a list so far, under the rows around
abbrev pub ListRows : Sight → FromRows → Type 0
ListRows sight f = (env : EnvKinds) → Fits sight env
    → from_kinds f.source [] env ≡ Some (row_kinds f.columns)

abbrev pub DoneIs : Sight → Option FromRows → Type 0
DoneIs sight None = Unit {0}
DoneIs sight (Some f) = ListRows sight f

-- what stands between commas is typed wherever it stands
abbrev pub JoinedMeaningIs : JoinedMeaning → Type 0
JoinedMeaningIs m = (sight : Sight) (done : Option FromRows) (s : Collected) → Ready sight
    → s.aggregates ≡ [] → DoneIs sight done
    → (f : FromRows) (t : Collected) → m sight done s ≡ Ok (f, t) → Passed s t × ListRows sight f

first_chain : (sight : Sight) (done : Option FromRows) (o : FromRows)
    → ((env : EnvKinds) → Fits sight env
    → from_kinds o.source (row_kinds (columns_so_far done)) env ≡ Some (row_kinds o.columns))
    → ChainRows sight (columns_so_far done) (first_rows done o).1
unfolding first_rows
first_chain sight None o is = record { own = o.columns; columns = refl; kinds = is }
first_chain sight (Some d) o is = record { own = o.columns; columns = refl; kinds = is }

crossed_rows : (sight : Sight) (done : Option FromRows) (o f : FromRows) → DoneIs sight done
    → ChainRows sight (columns_so_far done) f → ListRows sight (crossed (first_rows done o).0 f)
unfolding first_rows crossed
crossed_rows sight None o f d c env fits = c.kinds env fits
    ∙ ap (λ l. Some (row_kinds l)) (sym c.columns)
crossed_rows sight (Some b) o f d c env fits =
    ap (λ (m : FromKinds). m [] env) (kinds_Cross b.source f.source)
    ∙ rw (d env fits, c.kinds env fits)
    (ap Some (sym (row_of_both b.columns c.own)) ∙ ap (λ l. Some (row_kinds l)) (sym c.columns))

pub joined_is_typed : (item : FromItemMeaning) (js : List JoinMeaning) → FromItemMeaningIs item
    → Each JoinMeaningIs js
    → JoinedMeaningIs (λ sight done.
    item sight (columns_so_far done) >>=
    (λ o. chained (length (columns_so_far done)) sight (first_rows done o) js))
unfolding chained joins
joined_is_typed item js is also sight done s ready empty d f t h =
    let w = went (item sight (columns_so_far done) s) _ (f, t) h in
    let o = w.it.0 in
    let i = is sight (columns_so_far done) s ready o w.it.1 w.is in
    let v = went (joins_from (length (columns_so_far done)) sight (first_rows done o).1 js w.it.1) _
    (f, t) w.gives in
    let c = joins_are js sight (columns_so_far done) (first_rows done o).1 w.it.1 also ready
    (i.aggregates ∙ empty) (first_chain sight done o i.kinds) v.it.0 v.it.1 v.is in
    let made = crossed (first_rows done o).0 v.it.0 in
    let e = same_pair (made, v.it.1) f t (ok_is (made, v.it.1) (f, t) v.gives) in (
      record {
        inputs = ap (λ (x : Collected). x.inputs) (sym e.1) ∙ c.0.inputs ∙ i.inputs;
        aggregates = ap (λ (x : Collected). x.aggregates) (sym e.1) ∙ c.0.aggregates;
      },
      subst (ListRows sight) e.0 (crossed_rows sight done o v.it.0 d c.1),
    )

present_is : (done : Option FromRows) (f : FromRows) → present done ≡ Ok f → done ≡ Some f
unfolding present
present_is None f h = cc
present_is (Some d) f h = ap Some (ok_is d f h)

list_after : (js : List JoinedMeaning) (sight : Sight) (done : Option FromRows) (s : Collected)
    → Each JoinedMeaningIs js → Ready sight → s.aggregates ≡ [] → DoneIs sight done
    → (f : FromRows) (t : Collected) → from_list_after sight done js s ≡ Ok (f, t)
    → Passed s t × ListRows sight f
list_after [] sight done s is ready empty d f t h =
    let l = lifted (present done) s f t h in (
      record {
        inputs = ap (λ (x : Collected). x.inputs) l.same;
        aggregates = ap (λ (x : Collected). x.aggregates) l.same ∙ empty;
      },
      subst (DoneIs sight) (present_is done f l.is) d,
    )
list_after (j ∷ js) sight done s is ready empty d f t h =
    let w = went (j sight done s) _ (f, t) h in
    let one = is.0 sight done s ready empty d w.it.0 w.it.1 w.is in
    let rest = list_after js sight (Some w.it.0) w.it.1 is.1 ready one.0.aggregates one.1 f t
    w.gives in
    (record { inputs = rest.0.inputs ∙ one.0.inputs; aggregates = rest.0.aggregates }, rest.1)

pub from_list_is : (js : List JoinedMeaning) (sight : Sight) (s : Collected)
    → Each JoinedMeaningIs js → Ready sight → s.aggregates ≡ []
    → (f : FromRows) (t : Collected) → from_list sight js s ≡ Ok (f, t)
    → Passed s t × ListRows sight f
unfolding from_list
from_list_is js sight s is ready empty f t h = list_after js sight None s is ready empty tt f t h
