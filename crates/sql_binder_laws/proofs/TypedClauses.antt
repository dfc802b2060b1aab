-- What WHERE, HAVING and the select list bind is typed.
use Rattle.std.proofs.Common.{◌≡◌, ℕ, ◌+◌, ◌-◌, ◌<◌, List, [], ◌∷◌, ◌++◌, length, map}
use Rattle.std.proofs.Common.{suc, true, refl, sym, ap, ◌∙◌}
use Rattle.std.proofs.Common.{subst, arith}
use Rattle.std.specs.Prelude.{Option, Some, None, Ok, slice_get, slice_index_or}
use Rattle.base_row_laws.specs.Bags.{Each}
use Rattle.sql_bound_query.proofs.TypingOpened.{kind_Column}
use Rattle.sql_bound_query.specs.declared.query.BoundAggregate.{BoundAggregate}
use Rattle.sql_bound_query.specs.declared.query.BoundExpr.{BoundExpr}
use Rattle.sql_bound_query.specs.declared.query.Input.TheVariants as input
use Rattle.sql_bound_query.specs.Typing.{EnvKinds, KindMeaning}
use Rattle.sql_bound_query.specs.Typing.{listed_kinds}
use Rattle.sql_bound_query.specs.Typing.{kind_of_aggregate, typing_of}
use Rattle.expr_scalar.specs.declared.expr.Expr.TheVariants as e
use Rattle.expr_scalar.specs.declared.kind.Kind.{Kind}
use Rattle.expr_scalar.specs.Typing.Sort.{Of}
use Rattle.sql_binder_steps.specs.declared.collected.BoundKind.{BoundKind}
use Rattle.sql_binder_steps.specs.declared.collected.BoundKind.TheVariants.{Value, Condition}
use Rattle.sql_binder_steps.specs.declared.collected.Collected.{Collected}
use Rattle.sql_binder_steps.specs.declared.collected.Part.{Part}
use Rattle.sql_binder_steps.specs.declared.collected.Shown.{Shown}
use Rattle.sql_binder_steps.specs.declared.collected.Typed.{Typed}
use Rattle.sql_binder_steps.specs.declared.scope.ScopeColumn.{ScopeColumn}
use Rattle.sql_binder_steps.specs.declared.view.Header.{Header}
use Rattle.sql_binder.specs.Clauses.{condition_in, shown_item, items_from, shown_items}
use Rattle.sql_binder.specs.Clauses.{select_in}
use Rattle.sql_binder.specs.Meanings.{ItemMeaning, SelectedMeaning, ClauseMeaning}
use Rattle.sql_binder_steps.specs.Names.{Sight, placed}
use Rattle.sql_binder_steps.specs.Parts.{keys_by, inside, no_condition, holding, listed, shown_by}
use Rattle.sql_binder_steps.specs.Parts.{shown_part, nothing_shown, one_column, star_from, star}
use Rattle.sql_binder_steps.specs.Steps.{Name, Checked, Binding, ◌>>=◌, pure, lift, alone}
use Rattle.sql_binder_laws.specs.WellTyped.{header_kinds}
use Rattle.sql_binder_laws.proofs.TypedOperands.{went, ok_is, column_typed, all_typed}
use Rattle.sql_binder_laws.proofs.TypedNames.{placed_kind}
use Rattle.sql_binder_laws.proofs.TypedSteps.{Ready, Front, front_self, front_on, row_kinds, RowFits}
use Rattle.sql_binder_laws.proofs.TypedSteps.{Fits, own_rows, Counted, counted_front, HasKind}
use Rattle.sql_binder_laws.proofs.TypedSteps.{AggregatesHave, each_front, world_at, Goes, BoundIs}
use Rattle.sql_binder_laws.proofs.TypedSteps.{bound_is, same_pair}
use Rattle.sql_binder_laws.proofs.TypedNodes.{TypedIn, MeaningIs}
use Rattle.sql_binder_laws.proofs.TypedItems.{lifted}
use Rattle.sql_binder_laws.proofs.TypedItems.{ready_inside}
use Rattle.sql_binder_laws.proofs.TypedFrom.{holding_is}

-- ---- steps of a clause, which keep the inputs that were collected before

-- what such a step gives, under all rows around over which the aggregates that are collected in the
-- end have kinds
pub record ClauseIs {A : Type 0} (sight : Sight) (H : EnvKinds → A → Type 0) (s t : Collected)
    (a : A) : Type 0 where
  pub inputs : t.inputs ≡ s.inputs
  pub aggregates : Front s.aggregates t.aggregates
  pub no_groups : keys_by sight.levels ≡ None → t.aggregates ≡ s.aggregates
  pub have : (env : EnvKinds) → Fits sight env → Counted sight env t.aggregates
      → AggregatesHave (own_rows sight.levels env) s.aggregates
      → AggregatesHave (own_rows sight.levels env) t.aggregates
  pub gives : (env : EnvKinds) (all : List BoundAggregate) → Fits sight env → Counted sight env all
      → AggregatesHave (own_rows sight.levels env) all → Front t.aggregates all → H env a

abbrev pub ClauseGoes : {A : Type 0} → (sight : Sight) → (EnvKinds → A → Type 0) → Binding A
    → Collected → Type 0
ClauseGoes {A = A} sight H p s = (a : A) (t : Collected) → p s ≡ Ok (a, t)
    → ClauseIs sight H s t a

-- one step after another
pub clause_on : {A B : Type 0} (sight : Sight) (H : EnvKinds → A → Type 0)
    (J : EnvKinds → B → Type 0)
    (p : Binding A) (f : A → Binding B) (s : Collected) → ClauseGoes sight H p s
    → ((a : A) (t : Collected)
    → ((env : EnvKinds) (all : List BoundAggregate) → Fits sight env → Counted sight env all
    → AggregatesHave (own_rows sight.levels env) all → Front t.aggregates all → H env a)
    → ClauseGoes sight J (f a) t)
    → ClauseGoes sight J (p >>= f) s
clause_on sight H J p f s first then b u h =
    let w = went (p s) (λ r. f r.0 r.1) (b, u) h in
    let one = first w.it.0 w.it.1 w.is in
    let two = then w.it.0 w.it.1 one.gives b u w.gives in
    record {
      inputs = two.inputs ∙ one.inputs;
      aggregates = front_on one.aggregates two.aggregates;
      no_groups = λ none. two.no_groups none ∙ one.no_groups none;
      have = λ env f c a. two.have env f c
          (one.have env f (counted_front sight env w.it.1.aggregates u.aggregates two.aggregates c)
          a);
      gives = two.gives;
    }

clause_pure : {A : Type 0} (sight : Sight) (H : EnvKinds → A → Type 0) (a : A) (s : Collected)
    → ((env : EnvKinds) (all : List BoundAggregate) → Fits sight env → Counted sight env all
    → AggregatesHave (own_rows sight.levels env) all → Front s.aggregates all → H env a)
    → ClauseGoes sight H (pure a) s
clause_pure sight H a s is b t h =
    let e = same_pair (a, s) b t (ok_is (a, s) (b, t) h) in
    let made : ClauseIs sight H s s a =
    record {
      inputs = refl;
      aggregates = front_self s.aggregates;
      no_groups = λ none. refl;
      have = λ env f c x. x;
      gives = is;
    } in
    subst (λ u. ClauseIs sight H s u b) e.1 (subst (λ c. ClauseIs sight H s s c) e.0 made)

clause_lift : {A : Type 0} (sight : Sight) (H : EnvKinds → A → Type 0) (r : Checked A)
    (s : Collected)
    → ((a : A) → r ≡ Ok a → (env : EnvKinds) (all : List BoundAggregate) → Fits sight env
    → Counted sight env all → AggregatesHave (own_rows sight.levels env) all
    → Front s.aggregates all → H env a)
    → ClauseGoes sight H (lift r) s
clause_lift sight H r s is a t h =
    let l = lifted r s a t h in
    subst (λ u. ClauseIs sight H s u a) (sym l.same)
    (record {
      inputs = refl;
      aggregates = front_self s.aggregates;
      no_groups = λ none. refl;
      have = λ env f c x. x;
      gives = is a l.is;
    })

-- an expression with inputs of its own
clause_alone : (sight : Sight) (p : Binding Typed) (s : Collected)
    → Goes sight (TypedIn sight) p (record s { inputs = [] })
    → ClauseGoes sight (λ env (q : Part). BoundIs q.expr q.kind env) (alone p) s
unfolding alone
clause_alone sight p s first q t h =
    let s0 : Collected = record s { inputs = [] } in
    let w = went (p s0) (λ r.
    Ok (
      record { expr = record { inputs = r.1.inputs; expr = r.0.value }; kind = r.0.kind },
      record r.1 { inputs = s.inputs },
    )) (q, t) h in
    let r = w.it in
    let part : Part = record {
      expr = record { inputs = r.1.inputs; expr = r.0.value };
      kind = r.0.kind;
    } in
    let u : Collected = record r.1 { inputs = s.inputs } in
    let e = same_pair (part, u) q t (ok_is (part, u) (q, t) w.gives) in
    let one = first r.0 r.1 w.is in
    let made : ClauseIs sight (λ env (x : Part). BoundIs x.expr x.kind env) s u part = record {
      inputs = refl;
      aggregates = one.grows.aggregates;
      no_groups = one.grows.no_groups;
      have = λ env f c a. (one.grows.have env f c tt a).1;
      gives = λ env all f c a front.
          let mine = counted_front sight env r.1.aggregates all front c in
          let before = each_front (λ (b : BoundAggregate).
          HasKind (kind_of_aggregate b (own_rows sight.levels env))) s.aggregates all
          (front_on one.grows.aggregates front) a in
          let m = one.grows.have env f mine tt before in
          bound_is env r.1.inputs m.0 r.0.value r.0.kind
          (one.gives (world_at sight r.1 env f mine m.0 m.1) (front_self r.1.inputs)
          (front_self r.1.aggregates));
    } in
    subst (λ x. ClauseIs sight (λ env (y : Part). BoundIs y.expr y.kind env) s x q) e.1
    (subst (λ y. ClauseIs sight (λ env (z : Part). BoundIs z.expr z.kind env) s u y) e.0 made)

-- ---- WHERE and HAVING

-- an expression is a condition
abbrev pub IsTest : EnvKinds → BoundExpr → Type 0
IsTest env b = (typing_of b).is_condition env ≡ true

-- a clause is typed wherever it stands
abbrev pub ClauseMeaningIs : ClauseMeaning → Type 0
ClauseMeaningIs None = Unit {0}
ClauseMeaningIs (Some m) = MeaningIs m

always_holds : (env : EnvKinds) → IsTest env no_condition
always_holds env = bound_is env [] tt (e.All []) Condition (all_typed [] [] tt)

pub condition_goes : (m : ClauseMeaning) (sight : Sight) (s : Collected) → Ready sight
    → ClauseMeaningIs m → ClauseGoes sight IsTest (condition_in sight m) s
condition_goes None sight s ready is =
    clause_pure sight IsTest no_condition s (λ env all f c a front. always_holds env)
condition_goes (Some m) sight s ready is =
    clause_on sight (λ env (q : Part). BoundIs q.expr q.kind env) IsTest (alone (m.binds sight))
    (λ p. lift (holding p)) s
    (clause_alone sight (m.binds sight) s (is sight (record s { inputs = [] }) ready))
    (λ p t known. clause_lift sight IsTest (holding p) t
    (λ b h env all f c a front. holding_is p b env h (known env all f c a front)))

-- ---- select lists

-- columns of a select list have the kinds that are said
abbrev pub AreShown : EnvKinds → List BoundExpr → List Header → Type 0
AreShown env [] [] = Unit {0}
AreShown env [] (h ∷ headers) = ⊥
AreShown env (b ∷ list) [] = ⊥
AreShown env (b ∷ list) (h ∷ headers) = ((typing_of b).sort env ≡ Of h.kind)
    × AreShown env list headers

abbrev pub ShownIs : EnvKinds → Shown → Type 0
ShownIs env sh = AreShown env sh.list sh.headers

shown_more : (env : EnvKinds) (list : List BoundExpr) (headers : List Header) (b : BoundExpr)
    (h : Header) → AreShown env list headers → (typing_of b).sort env ≡ Of h.kind
    → AreShown env (list ++ b ∷ []) (headers ++ h ∷ [])
shown_more env [] [] b h are is = (is, tt)
shown_more env [] (g ∷ headers) b h are is = absurd are
shown_more env (x ∷ list) [] b h are is = absurd are
shown_more env (x ∷ list) (g ∷ headers) b h are is =
    (are.0, shown_more env list headers b h are.1 is)

pub shown_kinds : (env : EnvKinds) (list : List BoundExpr) (headers : List Header)
    → AreShown env list headers
    → listed_kinds (map typing_of list) env ≡ Some (header_kinds headers)
shown_kinds env [] [] are = refl
shown_kinds env [] (h ∷ headers) are = absurd are
shown_kinds env (b ∷ list) [] are = absurd are
shown_kinds env (b ∷ list) (h ∷ headers) are = let rest = shown_kinds env list headers are.1 in
    rw (are.0, rest) refl

-- an item is typed wherever it stands
abbrev pub ItemMeaningIs : ItemMeaning → Type 0
ItemMeaningIs m = (sight : Sight) (s : Collected) → Ready sight
    → Goes sight (TypedIn sight) (m.binds sight) s

abbrev pub SelectedMeaningIs : SelectedMeaning → Type 0
SelectedMeaningIs None = Unit {0}
SelectedMeaningIs (Some items) = Each ItemMeaningIs items

shown_by_is : (done : Shown) (b : BoundExpr) (name : Name) (k : BoundKind) (sh : Shown)
    (env : EnvKinds) → shown_by done b name k ≡ Ok sh → ShownIs env done → BoundIs b k env
    → ShownIs env sh
shown_by_is done b name (Value k) sh env h are is =
    subst (ShownIs env) (ok_is (listed done b name k) sh h)
    (shown_more env done.list done.headers b (record { name = name; kind = k }) are is)
shown_by_is done b name Condition sh env h are is = cc

item_goes : (sight : Sight) (done : Shown) (m : ItemMeaning) (s : Collected) → Ready sight
    → ItemMeaningIs m
    → ((env : EnvKinds) (all : List BoundAggregate) → Fits sight env → Counted sight env all
    → AggregatesHave (own_rows sight.levels env) all → Front s.aggregates all → ShownIs env done)
    → ClauseGoes sight ShownIs (shown_item sight done m) s
unfolding shown_item shown_part
item_goes sight done m s ready is known a t h =
    let w = went (alone (m.binds sight) s) _ (a, t) h in
    let one = clause_alone sight (m.binds sight) s (is sight (record s { inputs = [] }) ready)
    w.it.0 w.it.1 w.is in
    let l = lifted _ w.it.1 a t w.gives in
    subst (λ u. ClauseIs sight ShownIs s u a) (sym l.same) (record {
      inputs = one.inputs;
      aggregates = one.aggregates;
      no_groups = one.no_groups;
      have = one.have;
      gives = λ env all f c x front.
          shown_by_is done w.it.0.expr m.name w.it.0.kind a env l.is
          (known env all f c x (front_on one.aggregates front)) (one.gives env all f c x front);
    })

items_go : (items : List ItemMeaning) (sight : Sight) (done : Shown) (s : Collected) → Ready sight
    → Each ItemMeaningIs items
    → ((env : EnvKinds) (all : List BoundAggregate) → Fits sight env → Counted sight env all
    → AggregatesHave (own_rows sight.levels env) all → Front s.aggregates all → ShownIs env done)
    → ClauseGoes sight ShownIs (items_from sight done items) s
items_go [] sight done s ready is known = clause_pure sight ShownIs done s known
items_go (m ∷ items) sight done s ready is known =
    clause_on sight ShownIs ShownIs (shown_item sight done m) (λ d. items_from sight d items) s
    (item_goes sight done m s ready is.0 known)
    (λ d t more. items_go items sight d t ready is.1 more)

get_between : (before : List ScopeColumn) (c : ScopeColumn) (cs : List ScopeColumn)
    → slice_get (row_kinds (before ++ c ∷ cs)) (length before) ≡ Some c.kind
get_between [] c cs = refl
get_between (b ∷ before) c cs = get_between before c cs

length_more : {X : Type 0} (xs : List X) (x : X) → length (xs ++ x ∷ []) ≡ length xs + 1
length_more [] x = refl
length_more (y ∷ xs) x = let h = length_more xs x in omega (arith, h)

append_once : {X : Type 0} (xs : List X) (x : X) (ys : List X) → xs ++ x ∷ ys ≡ (xs ++ x ∷ []) ++ ys
append_once [] x ys = refl
append_once (y ∷ xs) x ys = ap (λ l. y ∷ l) (append_once xs x ys)

-- a column of the innermost row
one_column_is : (at : ℕ) (k : Kind) (env : EnvKinds)
    → slice_get (slice_index_or env 0 []) at ≡ Some k → (typing_of (one_column at)).sort env ≡ Of k
one_column_is at k env h =
    let i = ap (λ (m : KindMeaning). m env) (kind_Column 0 at) ∙ h in
    bound_is env (input.Column 0 at ∷ []) ((k, i), tt) (e.Column 0) (Value k)
    (column_typed 0 k (k ∷ []) refl)

star_is : (keys : Option (List ℕ)) (columns before cs : List ScopeColumn) (at : ℕ) (done sh : Shown)
    (env : EnvKinds) → RowFits keys columns (slice_index_or env 0 []) → columns ≡ before ++ cs
    → at ≡ length before
    → ShownIs env done → star_from keys done at cs ≡ Ok sh → ShownIs env sh
star_is keys columns before [] at done sh env fits same n are h =
    subst (ShownIs env) (ok_is done sh h) are
star_is keys columns before (c ∷ cs) at done sh env fits same n are h =
    let w = went (placed keys at) _ sh h in
    let kind : slice_get (row_kinds columns) at ≡ Some c.kind =
    ap (λ l. slice_get (row_kinds l) at) same ∙ ap (slice_get (row_kinds (before ++ c ∷ cs))) n
    ∙ get_between before c cs in
    let row = placed_kind keys columns (slice_index_or env 0 []) at w.it c.kind w.is fits kind in
    let more = shown_more env done.list done.headers (one_column w.it)
    (record { name = c.name; kind = c.kind }) are (one_column_is w.it c.kind env row) in
    let len = length_more before c in
    star_is keys columns (before ++ c ∷ []) cs (at + 1)
    (listed done (one_column w.it) c.name c.kind) sh env fits (same ∙ append_once before c cs)
    (omega (arith, n, len)) more w.gives

-- ---- inside a query

pub keys_inside : (sight : Sight) (columns : List ScopeColumn) (keys : Option (List ℕ))
    → keys_by (inside sight columns keys).levels ≡ keys
unfolding inside
keys_inside sight columns keys = refl

pub own_inside : (sight : Sight) (columns : List ScopeColumn) (keys : Option (List ℕ))
    (row : List Kind)
    (env : EnvKinds) → own_rows (inside sight columns keys).levels (row ∷ env)
    ≡ row_kinds columns ∷ env
unfolding inside
own_inside sight columns keys row env = refl

row_inside : (sight : Sight) (columns : List ScopeColumn) (keys : Option (List ℕ)) (env : EnvKinds)
    → Ready sight → Fits (inside sight columns keys) env
    → RowFits keys columns (slice_index_or env 0 [])
unfolding inside
row_inside sight columns keys env ready f =
    let h = ready.hidden in
    let below : 0 < suc (length sight.levels) - sight.hidden = omega (arith, h) in
    f.row 0 (record { columns = columns; keys = keys }) below refl

pub select_goes : (selected : SelectedMeaning) (sight : Sight) (columns : List ScopeColumn)
    (keys : Option (List ℕ)) (s : Collected) → Ready sight → SelectedMeaningIs selected
    → ClauseGoes (inside sight columns keys) ShownIs
    (select_in (inside sight columns keys) keys columns selected) s
unfolding star shown_items
select_goes None sight columns keys s ready is =
    clause_lift (inside sight columns keys) ShownIs (star_from keys nothing_shown 0 columns) s
    (λ sh h env all f c a front.
    star_is keys columns [] columns 0 nothing_shown sh env
    (row_inside sight columns keys env ready f) refl refl tt h)
select_goes (Some items) sight columns keys s ready is =
    items_go items (inside sight columns keys) nothing_shown s
    (ready_inside sight columns keys ready) is (λ env all f c a front. tt)
