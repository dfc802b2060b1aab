-- Aggregates and subqueries in expressions are typed.
use Rattle.std.proofs.Common.{◌≡◌, ℕ, ◌+◌, ◌-◌, ◌<◌, ◌≤◌, ◌==◌, ◌&&◌, List, [], ◌∷◌, length}
use Rattle.std.proofs.Common.{drop, zero, suc, Bool, true, false, if◌then◌else◌, refl, sym, ap, ◌∙◌}
use Rattle.std.proofs.Common.{subst}
use Rattle.std.specs.Prelude.{Option, Some, None, Ok, slice_get, slice_index_or}
use Rattle.std.proofs.lemmas.Bool.Decides.{Decides-eqb}
use Rattle.expr_aggregates.specs.declared.function.AggregateFunction.{AggregateFunction}
use Rattle.expr_aggregates.specs.declared.function.AggregateFunction.TheVariants.{Count, CountDistinct}
use Rattle.expr_aggregates.specs.declared.function.AggregateFunction.TheVariants.{Sum, Avg, Min, Max}
use Rattle.sql_bound_query.proofs.TypingOpened.{kind_Column, kind_Exists, kind_Any, kind_Scalar}
use Rattle.sql_bound_query.proofs.TypingOpened.{kind_CountRows, kind_Of}
use Rattle.sql_bound_query.specs.declared.query.BoundAggregate.{BoundAggregate}
use Rattle.sql_bound_query.specs.declared.query.BoundAggregate.TheVariants as aggregate
use Rattle.sql_bound_query.specs.declared.query.BoundBlock.{BoundBlock}
use Rattle.sql_bound_query.specs.declared.query.BoundExpr.{BoundExpr}
use Rattle.sql_ast.specs.declared.words.Comparison.{Comparison as Compared}
use Rattle.sql_ast.specs.declared.words.Quantifier.{Quantifier}
use Rattle.sql_ast.specs.declared.words.Quantifier.TheVariants as quantifier
use Rattle.sql_bound_query.specs.declared.query.Input.{Input}
use Rattle.sql_bound_query.specs.declared.query.Input.TheVariants as input
use Rattle.sql_bound_query.specs.Typing.{EnvKinds, KindMeaning, where_some, where_true}
use Rattle.sql_bound_query.specs.Typing.{only_kind, aggregate_sort, block_kinds, kind_of_input}
use Rattle.sql_bound_query.specs.Typing.{kind_of_aggregate, typing_of}
use Rattle.base_refusals.specs.declared.bind.BindRefusal.{BindRefusal}
use Rattle.expr_operators.specs.declared.operator.Comparison.{Comparison}
use Rattle.expr_operators.specs.declared.operator.Comparison.TheVariants.{Equal}
use Rattle.expr_scalar.specs.declared.expr.Expr.TheVariants as e
use Rattle.expr_scalar.specs.declared.kind.Kind.{Kind}
use Rattle.expr_scalar.specs.declared.kind.Kind.TheVariants.{Number, Text, Date}
use Rattle.expr_scalar.specs.Typing.{Of, comparable}
use Rattle.sql_binder_steps.specs.declared.collected.BoundKind.{BoundKind}
use Rattle.sql_binder_steps.specs.declared.collected.BoundKind.TheVariants.{Value, Condition}
use Rattle.sql_binder_steps.specs.declared.collected.BoundTable.{BoundTable}
use Rattle.sql_binder_steps.specs.declared.collected.Collected.{Collected}
use Rattle.sql_binder_steps.specs.declared.collected.Part.{Part}
use Rattle.sql_binder_steps.specs.declared.collected.Typed.{Typed}
use Rattle.sql_binder_steps.specs.declared.view.Header.{Header}
use Rattle.sql_binder_steps.specs.Kinds as kinds
use Rattle.sql_binder_steps.specs.Kinds.{fits}
use Rattle.sql_binder.specs.Meanings.{Meaning, BlockMeaning}
use Rattle.sql_binder_steps.specs.Names.{Around, Sight}
use Rattle.sql_binder_steps.specs.Parts.{keys_by, rows_of, among_rows, grouped_by, grouped, aggregated}
use Rattle.sql_binder_steps.specs.Parts.{reads_groups, any_outer, place_of, single, member, existing}
use Rattle.sql_binder_steps.specs.Parts.{containing, only_value, mark}
use Rattle.sql_binder_steps.specs.Sets.{comparing, asked, quantified}
use Rattle.sql_binder_steps.specs.Steps.{Binding, ◌>>=◌, pure, refuse, lift, alone}
use Rattle.sql_binder_steps.specs.Steps.{aggregate as one_aggregate, input as one_input}
use Rattle.sql_binder_steps.specs.Values.{typed}
use Rattle.sql_binder_laws.specs.WellTyped.{header_kinds}
use Rattle.sql_binder_laws.proofs.TypedOperands.{went, ok_is, fit}
use Rattle.sql_binder_laws.proofs.TypedSteps.{Ready, row_kinds, RowFits, Fits, own_rows, Counted}
use Rattle.sql_binder_laws.proofs.TypedSteps.{HasKind, AggregatesHave, World, world_at, Known}
use Rattle.sql_binder_laws.proofs.TypedSteps.{Outcome, Goes, BoundIs, bound_is, same_pair, front_self}
use Rattle.sql_binder_laws.proofs.TypedSteps.{each_front, goes_on, goes_lift, goes_aggregate}
use Rattle.sql_binder_laws.proofs.TypedSteps.{goes_alone, known_on, grows_by}
use Rattle.sql_binder_laws.proofs.TypedNodes.{TypedIn, MeaningIs, value_goes, mark_goes, denied_mark_goes}

some_is : {A : Type 0} (a b : A) → Some a ≡ Some b → a ≡ b
some_is a b h = cc

-- ---- the sight of an aggregate's argument

hidden_rows : (ls : List Around) (hidden : ℕ) → hidden ≤ length ls → hidden ≤ length (rows_of ls)
hidden_rows [] hidden h = h
hidden_rows (q ∷ ls) hidden h = h

dropped : (env : EnvKinds) (level : ℕ)
    → slice_index_or (drop 1 env) level [] ≡ slice_index_or env (suc level) []
dropped [] level = refl
dropped (r ∷ env) level = refl

fits_own : (ls : List Around) (env : EnvKinds) (hidden : ℕ)
    → ((level : ℕ) (q : Around) → level < length ls - hidden → slice_get ls level ≡ Some q
    → RowFits q.keys q.columns (slice_index_or env level []))
    → (level : ℕ) (q : Around) → level < length (rows_of ls) - hidden
    → slice_get (rows_of ls) level ≡ Some q
    → RowFits q.keys q.columns (slice_index_or (own_rows ls env) level [])
fits_own [] env hidden f level q below at = cc
fits_own (r ∷ ls) env hidden f zero q below at =
    let rows : Around = record r { keys = None } in
    subst (λ (x : Around). RowFits x.keys x.columns (row_kinds r.columns)) (some_is rows q at) refl
fits_own (r ∷ ls) env hidden f (suc level) q below at =
    subst (RowFits q.keys q.columns) (sym (dropped env level)) (f (suc level) q below at)

pub fits_argument : (sight : Sight) (env : EnvKinds) → Fits sight env
    → Fits (among_rows sight) (own_rows sight.levels env)
unfolding among_rows
fits_argument sight env f = record { row = fits_own sight.levels env sight.hidden f.row }

none_by : (ls : List Around) → keys_by (rows_of ls) ≡ None
none_by [] = refl
none_by (q ∷ ls) = refl

own_twice : (ls : List Around) (env : EnvKinds)
    → own_rows (rows_of ls) (own_rows ls env) ≡ own_rows ls env
own_twice [] env = refl
own_twice (q ∷ ls) env = refl

ready_argument : (sight : Sight) → Ready sight → Ready (among_rows sight)
unfolding among_rows
ready_argument sight r =
    record { views = r.views; hidden = hidden_rows sight.levels sight.hidden r.hidden }

-- an aggregate's argument, under the rows of the groups
pub goes_argument : (sight : Sight) (p : Binding Typed) (s : Collected)
    → Goes (among_rows sight) (TypedIn (among_rows sight)) p (record s { inputs = [] })
    → Goes sight (λ w (q : Part). BoundIs q.expr q.kind (own_rows sight.levels w.env)) (alone p) s
unfolding alone among_rows
goes_argument sight p s first q t h =
    let s0 : Collected = record s { inputs = [] } in
    let w = went (p s0) (λ r.
    Ok (
      record { expr = record { inputs = r.1.inputs; expr = r.0.value }; kind = r.0.kind },
      record r.1 { inputs = s.inputs },
    )) (q, t) h in
    let r = w.it in
    let part : Part = record {
      expr = record { inputs = r.1.inputs; expr = r.0.value };
      kind = r.0.kind;
    } in
    let u : Collected = record r.1 { inputs = s.inputs } in
    let e = same_pair (part, u) q t (ok_is (part, u) (q, t) w.gives) in
    let one = first r.0 r.1 w.is in
    let same : r.1.aggregates ≡ s.aggregates = one.grows.no_groups (none_by sight.levels) in
    let k : Known sight (λ v. BoundIs part.expr part.kind (own_rows sight.levels v.env)) u =
    λ v f a.
    let env = own_rows sight.levels v.env in
    let fit = fits_argument sight v.env v.fits in
    let c : Counted (among_rows sight) env r.1.aggregates =
    record {
      place = λ keys j b i by at is.
          let no : (let o : Option (List ℕ) = None in o ≡ Some keys) =
          sym (none_by sight.levels) ∙ by in cc;
    } in
    let before = each_front (λ (b : BoundAggregate). HasKind (kind_of_aggregate b env))
    r.1.aggregates v.aggregates a v.have in
    let have : AggregatesHave (own_rows (rows_of sight.levels) env) s.aggregates =
    subst (λ x. AggregatesHave x s.aggregates) (sym (own_twice sight.levels v.env))
    (subst (AggregatesHave env) same before) in
    let m = one.grows.have env fit c tt have in
    bound_is env r.1.inputs m.0 r.0.value r.0.kind
    (one.gives (world_at (among_rows sight) r.1 env fit c m.0 m.1) (front_self r.1.inputs)
    (front_self r.1.aggregates)) in
    subst (λ x. Outcome sight (λ v (y : Part). BoundIs y.expr y.kind (own_rows sight.levels v.env))
    s x q) e.1
    (subst (λ y. Outcome sight (λ v (z : Part). BoundIs z.expr z.kind (own_rows sight.levels v.env))
    s u y) e.0 (record { grows = grows_by sight s u refl same; gives = k }))

-- ---- kinds of aggregates

same_scale : (s : ℕ) → (s == s) ≡ true
same_scale s = (Decides-eqb s s).1 refl

function_is : (f : AggregateFunction) (k r : Kind) → kinds.function_kind f k ≡ Ok r
    → aggregate_sort f (kinds.scale_of k) (Of k) ≡ Some r
function_is Count k r h = ap Some (ok_is (Number 0) r h)
function_is CountDistinct k r h = ap Some (ok_is (Number 0) r h)
function_is Sum (Number s) r h = rw (same_scale s) (ap Some (ok_is (Number s) r h))
function_is Sum Text r h = cc
function_is Sum Date r h = cc
function_is Avg (Number s) r h = rw (same_scale s) (ap Some (ok_is _ r h))
function_is Avg Text r h = cc
function_is Avg Date r h = cc
function_is Min k r h = ap Some (ok_is k r h)
function_is Max k r h = ap Some (ok_is k r h)

aggregate_is : (f : AggregateFunction) (x : BoundExpr) (k : BoundKind) (r : Kind) (env : EnvKinds)
    → kinds.aggregate_kind f k ≡ Ok r → BoundIs x k env
    → kind_of_aggregate (aggregate.Of f (kinds.argument_scale k) x) env ≡ Some r
aggregate_is f x (Value k) r env h is =
    ap (λ (m : KindMeaning). m env) (kind_Of f (kinds.scale_of k) x)
    ∙ ap (aggregate_sort f (kinds.scale_of k)) is ∙ function_is f k r h
aggregate_is f x Condition r env h is = cc

module _ (sight : Sight) (ready : Ready sight) where
  grouped_by_goes : (o : Option (List ℕ)) (a : BoundAggregate) (k : Kind) (s : Collected)
      → keys_by sight.levels ≡ o
      → Known sight (λ w. kind_of_aggregate a (own_rows sight.levels w.env) ≡ Some k) s
      → Goes sight (TypedIn sight) (grouped_by o a k) s
  grouped_by_goes None a k s by known = λ t u h. cc
  grouped_by_goes (Some keys) a k s by known =
      goes_on sight (λ w j. slice_get w.aggregates j ≡ Some a) (TypedIn sight) (one_aggregate a)
      (λ j. one_input (input.Column 0 (length keys + j)) >>=
      (λ n. pure (typed (e.Column n) (Value k)))) s
      (goes_aggregate sight a s (λ none. let no : Some keys ≡ None = sym by ∙ none in cc)
      (λ env f c i h. (
        k,
        known (world_at sight s env f c i h) (front_self s.inputs)
            (front_self s.aggregates),
      )))
      (λ j t g at. value_goes sight ready (input.Column 0 (length keys + j)) k t
      (λ w p q. ap (λ (m : KindMeaning). m w.env) (kind_Column 0 (length keys + j))
      ∙ w.counted.place keys j a k by (at w p q)
      (known_on sight (λ v. kind_of_aggregate a (own_rows sight.levels v.env) ≡ Some k) s t g known
      w p q)))

  pub count_rows_goes : (s : Collected)
      → Goes sight (TypedIn sight) (grouped sight aggregate.CountRows (Number 0)) s
  unfolding grouped
  count_rows_goes s = grouped_by_goes (keys_by sight.levels) aggregate.CountRows (Number 0) s refl
      (λ w p q. ap (λ (m : KindMeaning). m (own_rows sight.levels w.env)) kind_CountRows)

  goes_unless : (b : Bool) (why : BindRefusal) (p : Binding Typed) (s : Collected)
      → Goes sight (TypedIn sight) p s → Goes sight (TypedIn sight) (if b then refuse why else p) s
  goes_unless true why p s g = λ t u h. cc
  goes_unless false why p s g = g

  aggregated_goes : (f : AggregateFunction) (q : Part) (s : Collected)
      → Known sight (λ w. BoundIs q.expr q.kind (own_rows sight.levels w.env)) s
      → Goes sight (TypedIn sight) (aggregated sight f q) s
  unfolding aggregated grouped
  aggregated_goes f q s known =
      goes_on sight (λ w k. kinds.aggregate_kind f q.kind ≡ Ok k) (TypedIn sight)
      (lift (kinds.aggregate_kind f q.kind)) _ s
      (goes_lift sight (λ w k. kinds.aggregate_kind f q.kind ≡ Ok k) (kinds.aggregate_kind f q.kind)
      s (λ k h. λ w a b. h))
      (λ k t g is. goes_unless (reads_groups sight && any_outer q.expr.inputs) _
      (grouped_by (keys_by sight.levels) (aggregate.Of f (kinds.argument_scale q.kind) q.expr) k) t
      (grouped_by_goes (keys_by sight.levels) (aggregate.Of f (kinds.argument_scale q.kind) q.expr)
      k t refl
      (λ w a b. aggregate_is f q.expr q.kind k (own_rows sight.levels w.env) (is w a b)
      (known_on sight (λ v. BoundIs q.expr q.kind (own_rows sight.levels v.env)) s t g known w a
      b))))

  -- an aggregate of an argument
  pub aggregate_goes : (f : AggregateFunction) (a : Meaning) (s : Collected) → MeaningIs a
      → Goes sight (TypedIn sight) (alone (a.binds (among_rows sight)) >>= aggregated sight f) s
  aggregate_goes f a s is =
      goes_on sight (λ w (q : Part). BoundIs q.expr q.kind (own_rows sight.levels w.env))
      (TypedIn sight) (alone (a.binds (among_rows sight))) (aggregated sight f) s
      (goes_argument sight (a.binds (among_rows sight)) s
      (is (among_rows sight) (record s { inputs = [] }) (ready_argument sight ready)))
      (λ q t g k. aggregated_goes f q t k)

-- ---- subqueries

-- what a query binds
pub record BlockIs (sight : Sight) (s t : Collected) (b : BoundTable) : Type 0 where
  pub inputs : t.inputs ≡ s.inputs
  pub aggregates : t.aggregates ≡ s.aggregates
  pub kinds : (env : EnvKinds) → Fits sight env
      → block_kinds b.block env ≡ Some (header_kinds b.headers)

-- a query is typed wherever it stands
abbrev pub BlockMeaningIs : BlockMeaning → Type 0
BlockMeaningIs m = (sight : Sight) (s : Collected) → Ready sight → (b : BoundTable) (t : Collected)
    → m sight s ≡ Ok (b, t) → BlockIs sight s t b

abbrev KindsIn : (sight : Sight) → World sight → BoundTable → Type 0
KindsIn sight w b = block_kinds b.block w.env ≡ Some (header_kinds b.headers)

-- of a mark
exists_kind : (q : BoundBlock) (ks : List Kind) (env : EnvKinds) → block_kinds q env ≡ Some ks
    → kind_of_input (input.Exists q) env ≡ Some (Number 0)
exists_kind q ks env h = ap (λ (m : KindMeaning). m env) (kind_Exists q)
    ∙ ap (λ o. where_some o (λ js. Some (Number 0))) h

single_is : (headers : List Header) (k : Kind) → single headers ≡ Ok k
    → header_kinds headers ≡ k ∷ []
single_is [] k h = cc
single_is (x ∷ []) k h = ap (λ j. j ∷ []) (ok_is x.kind k h)
single_is (x ∷ y ∷ more) k h = cc

scalar_kind : (q : BoundBlock) (headers : List Header) (k : Kind) (env : EnvKinds)
    → single headers ≡ Ok k → block_kinds q env ≡ Some (header_kinds headers)
    → kind_of_input (input.Scalar q) env ≡ Some k
scalar_kind q headers k env one h =
    ap (λ (m : KindMeaning). m env) (kind_Scalar q) ∙ ap (λ o. where_some o only_kind) h
    ∙ ap only_kind (single_is headers k one)

comparable_by : (left : BoundKind) (k : Kind) (x : BoundExpr) (env : EnvKinds)
    → fits left (Value k) ≡ true → BoundIs x left env
    → comparable ((typing_of x).sort env) (Of k) ≡ true
comparable_by (Value (Number s)) (Number t) x env f h = rw h refl
comparable_by (Value Text) Text x env f h = rw h refl
comparable_by (Value Date) Date x env f h = rw h refl
comparable_by (Value (Number s)) Text x env f h = cc
comparable_by (Value (Number s)) Date x env f h = cc
comparable_by (Value Text) (Number t) x env f h = cc
comparable_by (Value Text) Date x env f h = cc
comparable_by (Value Date) (Number t) x env f h = cc
comparable_by (Value Date) Text x env f h = cc
comparable_by Condition k x env f h = cc

any_kind : (c : Comparison) (left : BoundKind) (x : BoundExpr) (q : BoundBlock) (headers : List Header) (k : Kind)
    (env : EnvKinds) → single headers ≡ Ok k → fits left (Value k) ≡ true
    → BoundIs x left env → block_kinds q env ≡ Some (header_kinds headers)
    → kind_of_input (input.Any c x q) env ≡ Some (Number 0)
any_kind c left x q headers k env one f is h =
    ap (λ (m : KindMeaning). m env) (kind_Any c x q)
    ∙ ap (λ o. where_some o (λ js.
    where_some (only_kind js)
    (λ j. where_true (comparable ((typing_of x).sort env) (Of j)) (Number 0)))) h
    ∙ ap (λ js. where_some (only_kind js)
    (λ j. where_true (comparable ((typing_of x).sort env) (Of j)) (Number 0)))
    (single_is headers k one)
    ∙ ap (λ b. where_true b (Number 0)) (comparable_by left k x env f is)

module _ (sight : Sight) (ready : Ready sight) where
  block_goes : (q : BlockMeaning) (s : Collected) → BlockMeaningIs q
      → Goes sight (KindsIn sight) (q sight) s
  block_goes q s is b t h =
      let x = is sight s ready b t h in
      record {
        grows = grows_by sight s t x.inputs x.aggregates;
        gives = λ w p r. x.kinds w.env w.fits;
      }

  -- where a subquery may stand
  placed_goes : (s : Collected)
      → Goes sight (λ w (u : Unit {0}). Unit {0}) (lift (place_of sight)) s
  placed_goes s = goes_lift sight (λ w (u : Unit {0}). Unit {0}) (place_of sight) s
      (λ u h. λ w p q. tt)

  existing_goes : (b : BoundTable) (s : Collected) → Known sight (λ w. KindsIn sight w b) s
      → Goes sight (TypedIn sight) (existing sight b) s
  unfolding existing
  existing_goes b s known =
      goes_on sight (λ w (u : Unit {0}). Unit {0}) (TypedIn sight) (lift (place_of sight))
      (λ u. one_input (input.Exists b.block) >>= (λ k. pure (mark k))) s (placed_goes s)
      (λ u t g k. mark_goes sight ready (input.Exists b.block) t
      (λ w p q. exists_kind b.block (header_kinds b.headers) w.env
      (known_on sight (λ v. KindsIn sight v b) s t g known w p q)))

  pub exists_goes : (q : BlockMeaning) (s : Collected) → BlockMeaningIs q
      → Goes sight (TypedIn sight) (q sight >>= existing sight) s
  exists_goes q s is = goes_on sight (KindsIn sight) (TypedIn sight) (q sight) (existing sight) s
      (block_goes q s is) (λ b t g k. existing_goes b t k)

  only_value_goes : (b : BoundTable) (s : Collected) → Known sight (λ w. KindsIn sight w b) s
      → Goes sight (TypedIn sight) (only_value sight b) s
  unfolding only_value
  only_value_goes b s known =
      goes_on sight (λ w k. single b.headers ≡ Ok k) (TypedIn sight) (lift (single b.headers))
      (λ kind. lift (place_of sight) >>=
      (λ u. one_input (input.Scalar b.block) >>= (λ k. pure (typed (e.Column k) (Value kind))))) s
      (goes_lift sight (λ w k. single b.headers ≡ Ok k) (single b.headers) s (λ k h. λ w p q. h))
      (λ kind t g one. goes_on sight (λ w (u : Unit {0}). Unit {0}) (TypedIn sight)
      (lift (place_of sight)) (λ u.
      one_input (input.Scalar b.block) >>= (λ k. pure (typed (e.Column k) (Value kind)))) t
      (placed_goes t)
      (λ u v g' x. value_goes sight ready (input.Scalar b.block) kind v
      (λ w p q. scalar_kind b.block b.headers kind w.env
      (known_on sight (λ m. single b.headers ≡ Ok kind) t v g' one w p q)
      (known_on sight (λ m. KindsIn sight m b) t v g'
      (known_on sight (λ m. KindsIn sight m b) s t g known) w p q))))

  pub scalar_goes : (q : BlockMeaning) (s : Collected) → BlockMeaningIs q
      → Goes sight (TypedIn sight) (q sight >>= only_value sight) s
  scalar_goes q s is = goes_on sight (KindsIn sight) (TypedIn sight) (q sight) (only_value sight) s
      (block_goes q s is) (λ b t g k. only_value_goes b t k)

  -- IN's test
  abbrev Member : BoundKind → List Header → Type 0
  Member left headers = (k : Kind) × (single headers ≡ Ok k) × (fits left (Value k) ≡ true)

  member_is : (left : BoundKind) (headers : List Header) (u : Unit {0}) → member left headers ≡ Ok u
      → Member left headers
  unfolding member
  member_is left headers u h =
      let w = went (single headers) _ u h in
      let f = fit _ _ u w.gives in
      (w.it, w.is, f.test)

  containing_goes : (left : Part) (b : BoundTable) (s : Collected)
      → Known sight (λ w. BoundIs left.expr left.kind w.env) s
      → Known sight (λ w. KindsIn sight w b) s
      → Goes sight (TypedIn sight) (containing sight left b) s
  unfolding containing
  containing_goes left b s bound known =
      goes_on sight (λ w (u : Unit {0}). Member left.kind b.headers) (TypedIn sight)
      (lift (member left.kind b.headers))
      (λ u. lift (place_of sight) >>=
      (λ v. one_input (input.Any Equal left.expr b.block) >>= (λ k. pure (mark k)))) s
      (goes_lift sight (λ w (u : Unit {0}). Member left.kind b.headers) (member left.kind b.headers)
      s (λ u h. λ w p q. member_is left.kind b.headers u h))
      (λ u t g m. goes_on sight (λ w (v : Unit {0}). Unit {0}) (TypedIn sight)
      (lift (place_of sight)) (λ v. one_input (input.Any Equal left.expr b.block) >>= (λ k. pure (mark k)))
      t (placed_goes t)
      (λ v x g' y. mark_goes sight ready (input.Any Equal left.expr b.block) x
      (λ w p q.
      let is = known_on sight (λ n. Member left.kind b.headers) t x g' m w p q in
      any_kind Equal left.kind left.expr b.block b.headers is.0 w.env is.1 is.2
      (known_on sight (λ n. BoundIs left.expr left.kind n.env) t x g'
      (known_on sight (λ n. BoundIs left.expr left.kind n.env) s t g bound) w p q)
      (known_on sight (λ n. KindsIn sight n b) t x g'
      (known_on sight (λ n. KindsIn sight n b) s t g known) w p q))))

  -- a mark, or what denies it
  quantified_goes : (k : Quantifier) (i : Input) (s : Collected)
      → Known sight (λ w. kind_of_input i w.env ≡ Some (Number 0)) s
      → Goes sight (TypedIn sight) (one_input i >>= (λ j. pure (quantified k (mark j)))) s
  quantified_goes quantifier.Any i s known = mark_goes sight ready i s known
  quantified_goes quantifier.All i s known = denied_mark_goes sight ready i s known

  comparing_goes : (c : Compared) (k : Quantifier) (left : Part) (b : BoundTable) (s : Collected)
      → Known sight (λ w. BoundIs left.expr left.kind w.env) s
      → Known sight (λ w. KindsIn sight w b) s
      → Goes sight (TypedIn sight) (comparing sight c k left b) s
  unfolding comparing
  comparing_goes c k left b s bound known =
      goes_on sight (λ w (u : Unit {0}). Member left.kind b.headers) (TypedIn sight)
      (lift (member left.kind b.headers))
      (λ u. lift (place_of sight) >>=
      (λ v. one_input (input.Any (asked k c) left.expr b.block) >>= (λ j. pure (quantified k (mark j))))) s
      (goes_lift sight (λ w (u : Unit {0}). Member left.kind b.headers) (member left.kind b.headers)
      s (λ u h. λ w p q. member_is left.kind b.headers u h))
      (λ u t g m. goes_on sight (λ w (v : Unit {0}). Unit {0}) (TypedIn sight)
      (lift (place_of sight)) (λ v. one_input (input.Any (asked k c) left.expr b.block) >>= (λ j. pure (quantified k (mark j))))
      t (placed_goes t)
      (λ v x g' y. quantified_goes k (input.Any (asked k c) left.expr b.block) x
      (λ w p q.
      let is = known_on sight (λ n. Member left.kind b.headers) t x g' m w p q in
      any_kind (asked k c) left.kind left.expr b.block b.headers is.0 w.env is.1 is.2
      (known_on sight (λ n. BoundIs left.expr left.kind n.env) t x g'
      (known_on sight (λ n. BoundIs left.expr left.kind n.env) s t g bound) w p q)
      (known_on sight (λ n. KindsIn sight n b) t x g'
      (known_on sight (λ n. KindsIn sight n b) s t g known) w p q))))

  pub in_query_goes : (a : Meaning) (q : BlockMeaning) (s : Collected) → MeaningIs a
      → BlockMeaningIs q
      → Goes sight (TypedIn sight)
      (alone (a.binds sight) >>= (λ left. q sight >>= (λ t. containing sight left t))) s
  in_query_goes a q s is also =
      goes_on sight (λ w (p : Part). BoundIs p.expr p.kind w.env) (TypedIn sight)
      (alone (a.binds sight)) (λ left. q sight >>= (λ t. containing sight left t)) s
      (goes_alone sight (a.binds sight) s (is sight (record s { inputs = [] }) ready))
      (λ left t g bound. goes_on sight (KindsIn sight) (TypedIn sight) (q sight)
      (λ b. containing sight left b) t (block_goes q t also)
      (λ b u g' k. containing_goes left b u
      (known_on sight (λ w. BoundIs left.expr left.kind w.env) t u g' bound) k))

  pub compare_query_goes : (c : Compared) (k : Quantifier) (a : Meaning) (q : BlockMeaning)
      (s : Collected) → MeaningIs a → BlockMeaningIs q
      → Goes sight (TypedIn sight)
      (alone (a.binds sight) >>= (λ left. q sight >>= (λ t. comparing sight c k left t))) s
  compare_query_goes c k a q s is also =
      goes_on sight (λ w (p : Part). BoundIs p.expr p.kind w.env) (TypedIn sight)
      (alone (a.binds sight)) (λ left. q sight >>= (λ t. comparing sight c k left t)) s
      (goes_alone sight (a.binds sight) s (is sight (record s { inputs = [] }) ready))
      (λ left t g bound. goes_on sight (KindsIn sight) (TypedIn sight) (q sight)
      (λ b. comparing sight c k left b) t (block_goes q t also)
      (λ b u g' there. comparing_goes c k left b u
      (known_on sight (λ w. BoundIs left.expr left.kind w.env) t u g' bound) there))
