-- What a query binds is typed.
use Rattle.std.proofs.Common.{◌≡◌, ℕ, ◌+◌, List, [], ◌∷◌, ◌++◌, length, map, arith, zero, suc}
use Rattle.std.proofs.Common.{Bool, true, false, if◌then◌else◌, refl, sym, ap, ◌∙◌}
use Rattle.std.proofs.Common.{subst}
use Rattle.std.specs.Prelude.{Option, Some, None, Ok, slice_get}
use Rattle.base_row_laws.specs.Bags.{Each}
use Rattle.sql_bound_query.proofs.TypingOpened.{kinds_Plain, kinds_Grouped}
use Rattle.sql_bound_query.proofs.TypingOpened.{kinds_Distinct}
use Rattle.sql_bound_query.specs.declared.query.BoundAggregate.{BoundAggregate}
use Rattle.sql_bound_query.specs.declared.query.BoundBlock.TheVariants as block
use Rattle.sql_bound_query.specs.declared.query.BoundExpr.{BoundExpr}
use Rattle.sql_bound_query.specs.Typing.{EnvKinds, KindMeaning, KindsMeaning, all_some}
use Rattle.sql_bound_query.specs.Typing.{block_kinds}
use Rattle.sql_bound_query.specs.Typing.{from_kinds, kind_of_aggregate}
use Rattle.expr_scalar.specs.declared.kind.Kind.{Kind}
use Rattle.expr_scalar.specs.declared.kind.Kind.TheVariants.{Text}
use Rattle.sql_ast.specs.declared.words.Column.{Column}
use Rattle.sql_binder_steps.specs.declared.collected.BoundTable.{BoundTable}
use Rattle.sql_binder_steps.specs.declared.collected.Collected.{Collected}
use Rattle.sql_binder_steps.specs.declared.collected.FromRows.{FromRows}
use Rattle.sql_binder_steps.specs.declared.collected.Shown.{Shown}
use Rattle.sql_binder_steps.specs.declared.scope.ScopeColumn.{ScopeColumn}
use Rattle.sql_binder.specs.Blocks.{is_grouped, from_where, over_rows, group_lists, over_groups}
use Rattle.sql_binder.specs.Blocks.{clauses, select_step}
use Rattle.sql_binder.specs.Clauses.{condition_in, condition}
use Rattle.sql_binder.specs.Clauses.{select_in, select}
use Rattle.sql_binder.specs.FromLists.{from_list}
use Rattle.sql_binder.specs.Meanings.{SelectedMeaning, ClauseMeaning}
use Rattle.sql_binder.specs.Meanings.{JoinedMeaning, SelectNode}
use Rattle.sql_binder_steps.specs.Names.{Sight, the_one}
use Rattle.sql_binder_steps.specs.Parts.{inside}
use Rattle.sql_binder_steps.specs.Parts.{keys_from, keys_of, plain, closing, once_each}
use Rattle.sql_binder_steps.specs.Steps.{Binding, ◌>>=◌, pure, lift}
use Rattle.sql_binder_steps.specs.Steps.{apart, take_aggregates}
use Rattle.sql_binder_laws.specs.WellTyped.{header_kinds}
use Rattle.sql_binder_laws.proofs.TypedOperands.{went, ok_is}
use Rattle.sql_binder_laws.proofs.TypedNames.{the_one_kind}
use Rattle.sql_binder_laws.proofs.TypedSteps.{Ready, Front, front_self, front_on, row_kinds, RowFits}
use Rattle.sql_binder_laws.proofs.TypedSteps.{Fits, own_rows, Counted, HasKind}
use Rattle.sql_binder_laws.proofs.TypedSteps.{AggregatesHave}
use Rattle.sql_binder_laws.proofs.TypedSteps.{same_pair, no_place}
use Rattle.sql_binder_laws.proofs.TypedQueries.{BlockMeaningIs}
use Rattle.sql_binder_laws.proofs.TypedItems.{lifted, ready_inside, fits_inside}
use Rattle.sql_binder_laws.proofs.TypedFrom.{Passed, ListRows}
use Rattle.sql_binder_laws.proofs.TypedFrom.{JoinedMeaningIs, from_list_is}
use Rattle.sql_binder_laws.proofs.TypedClauses.{ClauseIs, ClauseGoes, clause_on, IsTest}
use Rattle.sql_binder_laws.proofs.TypedClauses.{ClauseMeaningIs, condition_goes, ShownIs, shown_kinds}
use Rattle.sql_binder_laws.proofs.TypedClauses.{SelectedMeaningIs}
use Rattle.sql_binder_laws.proofs.TypedClauses.{keys_inside, own_inside, select_goes}

-- ---- a clause over the rows of FROM

pub record OverRows {A : Type 0} (sight : Sight) (columns : List ScopeColumn)
    (H : EnvKinds → A → Type 0) (s t : Collected) (a : A) : Type 0 where
  pub passed : Passed s t
  pub is : (env : EnvKinds) → Fits sight env → H (row_kinds columns ∷ env) a

clause_over_rows : {A : Type 0} (sight : Sight) (columns : List ScopeColumn)
    (H : EnvKinds → A → Type 0) (p : Binding A) (s : Collected) → s.aggregates ≡ []
    → ClauseGoes (inside sight columns None) H p s → (a : A) (t : Collected) → p s ≡ Ok (a, t)
    → OverRows sight columns H s t a
clause_over_rows sight columns H p s empty goes a t h =
    let one = goes a t h in
    let none = keys_inside sight columns None in
    let all : t.aggregates ≡ [] = one.no_groups none ∙ empty in
    record {
      passed = record { inputs = one.inputs; aggregates = all };
      is = λ env f.
          let inner = row_kinds columns ∷ env in
          one.gives inner t.aggregates
          (fits_inside sight columns None env (row_kinds columns) f refl)
          (no_place (inside sight columns None) inner t.aggregates none)
          (subst (AggregatesHave (own_rows (inside sight columns None).levels inner)) (sym all) tt)
          (front_self t.aggregates);
    }

-- ---- FROM and WHERE

pub record FromWhere (sight : Sight) (s t : Collected) (p : FromRows × BoundExpr) : Type 0 where
  pub passed : Passed s t
  pub rows : ListRows sight p.0
  pub kept : (env : EnvKinds) → Fits sight env → IsTest (row_kinds p.0.columns ∷ env) p.1

from_where_is : (js : List JoinedMeaning) (m : ClauseMeaning) (sight : Sight) (s : Collected)
    → Ready sight → s.aggregates ≡ [] → Each JoinedMeaningIs js → ClauseMeaningIs m
    → (p : FromRows × BoundExpr) (t : Collected) → from_where sight js m s ≡ Ok (p, t)
    → FromWhere sight s t p
unfolding from_where condition
from_where_is js m sight s ready empty is also p t h =
    let w = went (from_list sight js s) _ (p, t) h in
    let from = w.it.0 in
    let list = from_list_is js sight s is ready empty from w.it.1 w.is in
    let v = went (condition_in (inside sight from.columns None) m w.it.1) _ (p, t) w.gives in
    let kept = clause_over_rows sight from.columns IsTest
    (condition_in (inside sight from.columns None) m) w.it.1 list.0.aggregates
    (condition_goes m (inside sight from.columns None) w.it.1
    (ready_inside sight from.columns None ready) also) v.it.0 v.it.1 v.is in
    let made : FromRows × BoundExpr = (from, v.it.0) in
    let e = same_pair (made, v.it.1) p t (ok_is (made, v.it.1) (p, t) v.gives) in
    subst (λ u. FromWhere sight s u p) e.1 (subst (FromWhere sight s v.it.1) e.0 (record {
      passed = record {
        inputs = kept.passed.inputs ∙ list.0.inputs;
        aggregates = kept.passed.aggregates;
      };
      rows = list.1;
      kept = kept.is;
    }))

-- ---- a query without groups

pub record TableIs (sight : Sight) (s t : Collected) (b : BoundTable) : Type 0 where
  pub inputs : t.inputs ≡ s.inputs
  pub kinds : (env : EnvKinds) → Fits sight env
      → block_kinds b.block env ≡ Some (header_kinds b.headers)

plain_kinds : (from : FromRows) (kept : BoundExpr) (sh : Shown) (env : EnvKinds)
    → from_kinds from.source [] env ≡ Some (row_kinds from.columns)
    → IsTest (row_kinds from.columns ∷ env) kept
    → ShownIs (row_kinds from.columns ∷ env) sh
    → block_kinds (block.Plain from.source kept sh.list) env ≡ Some (header_kinds sh.headers)
plain_kinds from kept sh env rows test are =
    let list = shown_kinds (row_kinds from.columns ∷ env) sh.list sh.headers are in
    ap (λ (m : KindsMeaning). m env) (kinds_Plain from.source kept sh.list) ∙ rw (rows, test) list

over_rows_is : (from : FromRows) (kept : BoundExpr) (selected : SelectedMeaning) (sight : Sight)
    (s : Collected) → Ready sight → s.aggregates ≡ [] → ListRows sight from
    → ((env : EnvKinds) → Fits sight env → IsTest (row_kinds from.columns ∷ env) kept)
    → SelectedMeaningIs selected
    → (b : BoundTable) (t : Collected) → over_rows sight from kept selected s ≡ Ok (b, t)
    → TableIs sight s t b
unfolding over_rows select plain
over_rows_is from kept selected sight s ready empty rows test is b t h =
    let w = went (select_in (inside sight from.columns None) None from.columns selected s) _ (b, t)
    h in
    let list = clause_over_rows sight from.columns ShownIs
    (select_in (inside sight from.columns None) None from.columns selected) s empty
    (select_goes selected sight from.columns None s ready is) w.it.0 w.it.1 w.is in
    let made : BoundTable = record {
      block = block.Plain from.source kept w.it.0.list;
      headers = w.it.0.headers;
    } in
    let e = same_pair (made, w.it.1) b t (ok_is (made, w.it.1) (b, t) w.gives) in
    subst (λ u. TableIs sight s u b) e.1 (subst (TableIs sight s w.it.1) e.0 (record {
      inputs = list.passed.inputs;
      kinds = λ env f. plain_kinds from kept w.it.0 env (rows env f) (test env f) (list.is env f);
    }))

-- ---- a query with groups

-- a kind that is there, or any
abbrev kind_or : Option Kind → Kind
kind_or (Some k) = k
kind_or None = Text

-- the kinds of what has one
abbrev kinds_by : {X : Type 0} → (X → Option Kind) → List X → List Kind
kinds_by f xs = map (λ x. kind_or (f x)) xs

all_kinds : {X : Type 0} (f : X → Option Kind) (xs : List X) → Each (λ x. HasKind (f x)) xs
    → all_some (map f xs) ≡ Some (kinds_by f xs)
all_kinds f [] h = refl
all_kinds f (x ∷ xs) h = let rest = all_kinds f xs h.1 in rw (h.0.1, rest) refl

get_kind : {X : Type 0} (f : X → Option Kind) (xs : List X) (j : ℕ) (x : X) (k : Kind)
    → slice_get xs j ≡ Some x → f x ≡ Some k → slice_get (kinds_by f xs) j ≡ Some k
get_kind f [] j x k at is = cc
get_kind f (y ∷ xs) zero x k at is = let same : y ≡ x = cc in
    ap (λ z. Some (kind_or (f z))) same ∙ ap (λ o. Some (kind_or o)) is
get_kind f (y ∷ xs) (suc j) x k at is = get_kind f xs j x k at is

get_first : (xs ys : List Kind) (j : ℕ) (k : Kind) → slice_get xs j ≡ Some k
    → slice_get (xs ++ ys) j ≡ Some k
get_first [] ys j k h = cc
get_first (x ∷ xs) ys zero k h = h
get_first (x ∷ xs) ys (suc j) k h = get_first xs ys j k h

get_second : {X : Type 0} (f : X → Option Kind) (keys : List X) (ys : List Kind) (j : ℕ)
    → slice_get (kinds_by f keys ++ ys) (length keys + j) ≡ slice_get ys j
get_second f [] ys j = let e : 0 + j ≡ j = omega arith in ap (slice_get ys) e
get_second f (x ∷ keys) ys j =
    let e : suc (length keys) + j ≡ suc (length keys + j) = omega arith in
    ap (slice_get (kinds_by f (x ∷ keys) ++ ys)) e ∙ get_second f keys ys j

-- GROUP BY columns have kinds
abbrev KeysHave : List Kind → List ℕ → Type 0
KeysHave ls keys = Each (λ at. HasKind (slice_get ls at)) keys

keys_more : (ls : List Kind) (keys : List ℕ) (at : ℕ) → KeysHave ls keys → HasKind (slice_get ls at)
    → KeysHave ls (keys ++ at ∷ [])
keys_more ls [] at h is = (is, tt)
keys_more ls (k ∷ keys) at h is = (h.0, keys_more ls keys at h.1 is)

keys_from_are : (columns : List ScopeColumn) (done : List ℕ) (group : List Column) (keys : List ℕ)
    → KeysHave (row_kinds columns) done → keys_from columns done group ≡ Ok keys
    → KeysHave (row_kinds columns) keys
keys_from_are columns done [] keys have h =
    subst (KeysHave (row_kinds columns)) (ok_is done keys h) have
keys_from_are columns done (n ∷ group) keys have h =
    let w = went (the_one n columns) _ keys h in
    keys_from_are columns (done ++ w.it.at ∷ []) group keys
    (keys_more (row_kinds columns) done w.it.at have (w.it.kind, the_one_kind n columns w.it w.is))
    w.gives

keys_are : (columns : List ScopeColumn) (group : List Column) (keys : List ℕ)
    → keys_of columns group ≡ Ok keys → KeysHave (row_kinds columns) keys
unfolding keys_of
keys_are columns group keys h = keys_from_are columns [] group keys tt h

-- a group's row
abbrev group_row : List Kind → List ℕ → List BoundAggregate → EnvKinds → List Kind
group_row ls keys all env = kinds_by (slice_get ls) keys
    ++ kinds_by (λ (a : BoundAggregate). kind_of_aggregate a (ls ∷ env)) all

group_fits : (columns : List ScopeColumn) (keys : List ℕ) (all : List BoundAggregate)
    (env : EnvKinds) → RowFits (Some keys) columns (group_row (row_kinds columns) keys all env)
group_fits columns keys all env j at k there is =
    get_first (kinds_by (slice_get (row_kinds columns)) keys)
    (kinds_by (λ (a : BoundAggregate). kind_of_aggregate a (row_kinds columns ∷ env)) all) j k
    (get_kind (slice_get (row_kinds columns)) keys j at k there is)

group_counted : (sight : Sight) (columns : List ScopeColumn) (keys : List ℕ)
    (all : List BoundAggregate) (env : EnvKinds)
    → Counted (inside sight columns (Some keys)) (group_row (row_kinds columns) keys all env ∷ env)
    all
unfolding inside
group_counted sight columns keys all env = record {
  place = λ js j a k by at is.
      let same : keys ≡ js = cc in
      let f = λ (b : BoundAggregate). kind_of_aggregate b (row_kinds columns ∷ env) in
      ap (λ (l : List ℕ). slice_get (group_row (row_kinds columns) keys all env) (length l + j))
      (sym same)
      ∙ get_second (slice_get (row_kinds columns)) keys (kinds_by f all) j
      ∙ get_kind f all j a k at is;
}

map_twice : (all : List BoundAggregate) (env : EnvKinds)
    → map (λ (m : KindMeaning). m env) (map kind_of_aggregate all)
    ≡ map (λ (a : BoundAggregate). kind_of_aggregate a env) all
map_twice [] env = refl
map_twice (a ∷ all) env = ap (λ l. kind_of_aggregate a env ∷ l) (map_twice all env)

grouped_kinds : (from : FromRows) (kept : BoundExpr) (keys : List ℕ) (all : List BoundAggregate)
    (having : BoundExpr) (sh : Shown) (env : EnvKinds)
    → from_kinds from.source [] env ≡ Some (row_kinds from.columns)
    → IsTest (row_kinds from.columns ∷ env) kept → KeysHave (row_kinds from.columns) keys
    → AggregatesHave (row_kinds from.columns ∷ env) all
    → IsTest (group_row (row_kinds from.columns) keys all env ∷ env) having
    → ShownIs (group_row (row_kinds from.columns) keys all env ∷ env) sh
    → block_kinds (block.Grouped from.source kept keys all having sh.list) env
    ≡ Some (header_kinds sh.headers)
grouped_kinds from kept keys all having sh env rows test have are holds shown =
    let ls = row_kinds from.columns in
    let f = λ (a : BoundAggregate). kind_of_aggregate a (ls ∷ env) in
    let js = all_kinds (slice_get ls) keys have in
    let ms = ap all_some (map_twice all (ls ∷ env)) ∙ all_kinds f all are in
    let list = shown_kinds (group_row ls keys all env ∷ env) sh.list sh.headers shown in
    ap (λ (m : KindsMeaning). m env) (kinds_Grouped from.source kept keys all having sh.list)
    ∙ rw (rows, test, js, ms, holds) list

second_of : (inner : Sight) (shown : Shown) (m : ClauseMeaning) (u : Collected) → Ready inner
    → ClauseMeaningIs m
    → ((env : EnvKinds) (all : List BoundAggregate) → Fits inner env → Counted inner env all
    → AggregatesHave (own_rows inner.levels env) all → Front u.aggregates all → ShownIs env shown)
    → ClauseGoes inner (λ env (p : Shown × BoundExpr). ShownIs env p.0 × IsTest env p.1)
    (condition_in inner m >>= (λ having. pure (shown, having))) u
second_of inner shown m u ready also one p t h =
    let w = went (condition_in inner m u) _ (p, t) h in
    let c = condition_goes m inner u ready also w.it.0 w.it.1 w.is in
    let made : Shown × BoundExpr = (shown, w.it.0) in
    let e = same_pair (made, w.it.1) p t (ok_is (made, w.it.1) (p, t) w.gives) in
    let H = λ (env : EnvKinds) (x : Shown × BoundExpr). ShownIs env x.0 × IsTest env x.1 in
    let both : ClauseIs inner H u w.it.1 made = record {
      inputs = c.inputs;
      aggregates = c.aggregates;
      no_groups = c.no_groups;
      have = c.have;
      gives = λ env all f n a front.
          (one env all f n a (front_on c.aggregates front), c.gives env all f n a front);
    } in
    subst (λ x. ClauseIs inner H u x p) e.1 (subst (ClauseIs inner H u w.it.1) e.0 both)

over_groups_is : (from : FromRows) (kept : BoundExpr) (group : List Column)
    (selected : SelectedMeaning) (m : ClauseMeaning) (sight : Sight) (s : Collected) → Ready sight
    → s.aggregates ≡ [] → ListRows sight from
    → ((env : EnvKinds) → Fits sight env → IsTest (row_kinds from.columns ∷ env) kept)
    → SelectedMeaningIs selected → ClauseMeaningIs m
    → (b : BoundTable) (t : Collected) → over_groups sight from kept group selected m s ≡ Ok (b, t)
    → TableIs sight s t b
unfolding over_groups group_lists select condition closing take_aggregates
over_groups_is from kept group selected m sight s ready empty rows test is also b t h =
    let w = went (lift (keys_of from.columns group) s) _ (b, t) h in
    let keys = w.it.0 in
    let l = lifted (keys_of from.columns group) s keys w.it.1 w.is in
    let inner = inside sight from.columns (Some keys) in
    let both = select_in inner (Some keys) from.columns selected >>=
    (λ shown. condition_in inner m >>= (λ having. pure (shown, having))) in
    let v = went (both w.it.1) _ (b, t) w.gives in
    let goes : ClauseGoes inner (λ env (p : Shown × BoundExpr). ShownIs env p.0 × IsTest env p.1)
    both w.it.1 =
    clause_on inner ShownIs (λ env (p : Shown × BoundExpr). ShownIs env p.0 × IsTest env p.1)
    (select_in inner (Some keys) from.columns selected)
    (λ shown. condition_in inner m >>= (λ having. pure (shown, having))) w.it.1
    (select_goes selected sight from.columns (Some keys) w.it.1 ready is)
    (λ shown u one. second_of inner shown m u
    (ready_inside sight from.columns (Some keys) ready) also one) in
    let lists = goes v.it.0 v.it.1 v.is in
    let all = v.it.1.aggregates in
    let last : Collected = record v.it.1 { aggregates = [] } in
    let made : BoundTable = record {
      block =
          block.Grouped from.source kept keys all v.it.0.1 v.it.0.0.list;
      headers = v.it.0.0.headers;
    } in
    let e = same_pair (made, last) b t (ok_is (made, last) (b, t) v.gives) in
    subst (λ u. TableIs sight s u b) {x = last} e.1 (subst (TableIs sight s last) {x = made} e.0
    (record {
      inputs = lists.inputs ∙ ap (λ (x : Collected). x.inputs) l.same;
      kinds = λ env f.
          let ls = row_kinds from.columns in
          let row = group_row ls keys all env in
          let fits = fits_inside sight from.columns (Some keys) env row f
          (group_fits from.columns keys all env) in
          let counted = group_counted sight from.columns keys all env in
          let none : w.it.1.aggregates ≡ [] = ap (λ (x : Collected). x.aggregates) l.same ∙ empty in
          let own = own_inside sight from.columns (Some keys) row env in
          let have = lists.have (row ∷ env) fits counted
          (subst (AggregatesHave (own_rows inner.levels (row ∷ env))) (sym none) tt) in
          let are : AggregatesHave (ls ∷ env) all =
          subst (λ x. AggregatesHave x all) {x = own_rows inner.levels (row ∷ env)} own have in
          let g = lists.gives (row ∷ env) all fits counted have (front_self all) in
          grouped_kinds from kept keys all v.it.0.1 v.it.0.0 env (rows env f) (test env f)
          (keys_are from.columns group keys l.is) are g.1 g.0;
    }))

-- ---- whole queries

clauses_are : (b : Bool) (sight : Sight) (from : FromRows) (kept : BoundExpr) (group : List Column)
    (selected : SelectedMeaning) (m : ClauseMeaning) (s : Collected) → Ready sight
    → s.aggregates ≡ [] → ListRows sight from
    → ((env : EnvKinds) → Fits sight env → IsTest (row_kinds from.columns ∷ env) kept)
    → SelectedMeaningIs selected → ClauseMeaningIs m → (t : BoundTable) (u : Collected)
    → (if b then over_groups sight from kept group selected m else over_rows sight from kept
    selected) s ≡ Ok (t, u) → TableIs sight s u t
clauses_are true sight from kept group selected m s ready empty rows test is also t u h =
    over_groups_is from kept group selected m sight s ready empty rows test is also t u h
clauses_are false sight from kept group selected m s ready empty rows test is also t u h =
    over_rows_is from kept selected sight s ready empty rows test is t u h

once_kinds : (b : Bool) (t : BoundTable) (env : EnvKinds)
    → block_kinds t.block env ≡ Some (header_kinds t.headers)
    → block_kinds (once_each b t).block env ≡ Some (header_kinds (once_each b t).headers)
unfolding once_each
once_kinds true t env h = ap (λ (m : KindsMeaning). m env) (kinds_Distinct t.block) ∙ h
once_kinds false t env h = h

-- what one SELECT means is typed, where its parts are
pub select_typed : (q : SelectNode) → SelectedMeaningIs q.selected → Each JoinedMeaningIs q.from
    → ClauseMeaningIs q.condition → ClauseMeaningIs q.having → BlockMeaningIs (select_step q)
unfolding apart
select_typed q selected from condition having sight s ready b t h =
    let w = went (apart (clauses q sight) s) _ (b, t) h in
    let s0 : Collected = record s { aggregates = [] } in
    let v = went (clauses q sight s0) (λ r. Ok (r.0, record r.1 { aggregates = s.aggregates })) w.it
    w.is in
    let x = went (from_where sight q.from q.condition s0) _ v.it v.is in
    let rows = from_where_is q.from q.condition sight s0 ready refl from condition x.it.0 x.it.1
    x.is in
    let table = clauses_are (is_grouped q) sight x.it.0.0 x.it.0.1 q.group q.selected q.having
    x.it.1 ready rows.passed.aggregates rows.rows rows.kept selected having v.it.0 v.it.1 x.gives in
    let kept : BoundTable × Collected = (v.it.0, record v.it.1 { aggregates = s.aggregates }) in
    let same : kept ≡ w.it = ok_is kept w.it v.gives in
    let made = once_each q.is_distinct w.it.0 in
    let e = same_pair (made, w.it.1) b t (ok_is (made, w.it.1) (b, t) w.gives) in
    let after = ap (λ (r : BoundTable × Collected). r.1) same ∙ e.1 in
    record {
      inputs = ap (λ (c : Collected). c.inputs) (sym after) ∙ table.inputs ∙ rows.passed.inputs;
      aggregates = ap (λ (c : Collected). c.aggregates) (sym after);
      kinds = λ env f.
          subst (λ (y : BoundTable). block_kinds y.block env ≡ Some (header_kinds y.headers)) e.0
          (once_kinds q.is_distinct w.it.0 env
          (subst (λ (r : BoundTable × Collected). block_kinds r.0.block env
          ≡ Some (header_kinds r.0.headers)) same (table.kinds env f)));
    }
