-- Steps of binding that keep what is collected typed.
use Rattle.std.proofs.Common.{◌≡◌, ℕ, ◌+◌, ◌-◌, ◌<◌, ◌≤◌, true, List, [], ◌∷◌, ◌++◌, length, map}
use Rattle.std.proofs.Common.{drop, zero, suc, refl, sym, ap, ◌∙◌, subst}
use Rattle.std.specs.Prelude.{Option, Some, None, Ok, slice_get, slice_index_or}
use Rattle.base_row_laws.specs.Bags.{Each}
use Rattle.sql_bound_query.specs.Typing.{EnvKinds, ExprTyping, all_some, kind_of_input}
use Rattle.sql_bound_query.specs.Typing.{kind_of_aggregate, sort_over, is_condition_over, typing_of}
use Rattle.sql_bound_query.proofs.TypingOpened.{typing_is}
use Rattle.sql_bound_query.specs.declared.query.BoundAggregate.{BoundAggregate}
use Rattle.sql_bound_query.specs.declared.query.BoundExpr.{BoundExpr}
use Rattle.sql_bound_query.specs.declared.query.Input.{Input}
use Rattle.expr_scalar.specs.Typing.Sort.{Of}
use Rattle.expr_scalar.specs.declared.expr.Expr.{Expr}
use Rattle.expr_scalar.specs.declared.kind.Kind.{Kind}
use Rattle.sql_binder_steps.specs.declared.collected.BoundKind.{BoundKind}
use Rattle.sql_binder_steps.specs.declared.collected.BoundKind.TheVariants.{Value, Condition}
use Rattle.sql_binder_steps.specs.declared.collected.Collected.{Collected}
use Rattle.sql_binder_steps.specs.declared.collected.Part.{Part}
use Rattle.sql_binder_steps.specs.declared.collected.Typed.{Typed}
use Rattle.sql_binder_steps.specs.declared.scope.ScopeColumn.{ScopeColumn}
use Rattle.sql_binder_steps.specs.Steps.{Checked, Binding, ◌>>=◌, pure, lift, input, aggregate}
use Rattle.sql_binder_steps.specs.Steps.{alone}
use Rattle.sql_binder_steps.specs.Names.{Around, Sight}
use Rattle.sql_binder_steps.specs.Parts.{keys_by}
use Rattle.sql_binder_laws.specs.WellTyped.{ViewsAreTyped}
use Rattle.sql_binder_laws.proofs.TypedOperands.{went, ok_is, IsOf}

-- ---- what stands at the front of a list

pub record Front {X : Type 0} (xs ys : List X) : Type 0 where
  pub more : List X
  pub is : ys ≡ xs ++ more

append_nil : {X : Type 0} (xs : List X) → xs ++ [] ≡ xs
append_nil [] = refl
append_nil (x ∷ xs) = ap (λ ys. x ∷ ys) (append_nil xs)

append_twice : {X : Type 0} (xs ys zs : List X) → (xs ++ ys) ++ zs ≡ xs ++ (ys ++ zs)
append_twice [] ys zs = refl
append_twice (x ∷ xs) ys zs = ap (λ l. x ∷ l) (append_twice xs ys zs)

pub front_self : {X : Type 0} (xs : List X) → Front xs xs
front_self xs = record { more = []; is = sym (append_nil xs) }

pub front_on : {X : Type 0} {xs ys zs : List X} → Front xs ys → Front ys zs → Front xs zs
front_on {xs = xs} p q =
    record {
      more = p.more ++ q.more;
      is = q.is ∙ ap (λ l. l ++ q.more) p.is ∙ append_twice xs p.more q.more;
    }

pub front_by : {X : Type 0} {xs ys : List X} → ys ≡ xs → Front xs ys
front_by {xs = xs} e = record { more = []; is = e ∙ sym (append_nil xs) }

get_front : {X : Type 0} (xs ys : List X) (k : ℕ) (x : X) → slice_get xs k ≡ Some x
    → slice_get (xs ++ ys) k ≡ Some x
get_front [] ys k x h = cc
get_front (y ∷ xs) ys zero x h = h
get_front (y ∷ xs) ys (suc k) x h = get_front xs ys k x h

pub get_on : {X : Type 0} {xs ys : List X} → Front xs ys → (k : ℕ) (x : X) → slice_get xs k ≡ Some x
    → slice_get ys k ≡ Some x
get_on {xs = xs} p k x h = ap (λ l. slice_get l k) p.is ∙ get_front xs p.more k x h

pub get_last : {X : Type 0} (xs : List X) (x : X) → slice_get (xs ++ x ∷ []) (length xs) ≡ Some x
get_last [] x = refl
get_last (y ∷ xs) x = get_last xs x

-- ---- sights

-- what stands in a sight: views that are well typed, and no more hidden queries than there are
pub record Ready (sight : Sight) : Type 0 where
  pub views : ViewsAreTyped sight.views
  pub hidden : sight.hidden ≤ length sight.levels

-- ---- rows

-- the kinds of columns
abbrev pub row_kinds : List ScopeColumn → List Kind
row_kinds columns = map (λ (c : ScopeColumn). c.kind) columns

-- a row of these kinds is a row of the query, or of its groups
abbrev pub RowFits : Option (List ℕ) → List ScopeColumn → List Kind → Type 0
RowFits None columns row = row ≡ row_kinds columns
RowFits (Some keys) columns row = (j at : ℕ) (k : Kind) → slice_get keys j ≡ Some at
    → slice_get (row_kinds columns) at ≡ Some k → slice_get row j ≡ Some k

-- rows of these kinds stand around
pub record Fits (sight : Sight) (env : EnvKinds) : Type 0 where
  pub row : (level : ℕ) (q : Around) → level < length sight.levels - sight.hidden
      → slice_get sight.levels level ≡ Some q
      → RowFits q.keys q.columns (slice_index_or env level [])

-- the rows around an aggregate's argument: the innermost query's own rows in the place of its
-- groups
abbrev pub own_rows : List Around → EnvKinds → EnvKinds
own_rows [] env = env
own_rows (q ∷ outer) env = row_kinds q.columns ∷ drop 1 env

-- a group's row has each aggregate's kind after its GROUP BY columns
pub record Counted (sight : Sight) (env : EnvKinds) (aggregates : List BoundAggregate) : Type 0
  where
    pub place : (keys : List ℕ) (j : ℕ) (a : BoundAggregate) (k : Kind)
        → keys_by sight.levels ≡ Some keys → slice_get aggregates j ≡ Some a
        → kind_of_aggregate a (own_rows sight.levels env) ≡ Some k
        → slice_get (slice_index_or env 0 []) (length keys + j) ≡ Some k

-- it has a kind
abbrev pub HasKind : Option Kind → Type 0
HasKind o = (k : Kind) × o ≡ Some k

abbrev pub InputsHave : EnvKinds → List Input → Type 0
InputsHave env inputs = Each (λ (i : Input). HasKind (kind_of_input i env)) inputs

abbrev pub AggregatesHave : EnvKinds → List BoundAggregate → Type 0
AggregatesHave env all = Each (λ (a : BoundAggregate). HasKind (kind_of_aggregate a env)) all

-- What is collected in the end, and the kinds of the inputs.
pub record World (sight : Sight) : Type 0 where
  pub env : EnvKinds
  pub inputs : List Input
  pub kinds : List Kind
  pub aggregates : List BoundAggregate
  pub fits : Fits sight env
  pub counted : Counted sight env aggregates
  pub have : AggregatesHave (own_rows sight.levels env) aggregates
  pub are : (n : ℕ) (i : Input) → slice_get inputs n ≡ Some i
      → slice_get kinds n ≡ kind_of_input i env

-- a fact that holds whatever is collected after it
abbrev pub Known : (sight : Sight) → (World sight → Type 0) → Collected → Type 0
Known sight F s = (w : World sight) → Front s.inputs w.inputs → Front s.aggregates w.aggregates
    → F w

-- What a step leaves: it has added inputs and aggregates, which have kinds, and aggregates over
-- groups alone.
pub record Grows (sight : Sight) (s t : Collected) : Type 0 where
  pub inputs : Front s.inputs t.inputs
  pub aggregates : Front s.aggregates t.aggregates
  pub no_groups : keys_by sight.levels ≡ None → t.aggregates ≡ s.aggregates
  pub have : (env : EnvKinds) → Fits sight env → Counted sight env t.aggregates
      → InputsHave env s.inputs → AggregatesHave (own_rows sight.levels env) s.aggregates
      → InputsHave env t.inputs × AggregatesHave (own_rows sight.levels env) t.aggregates

-- a step's value and what it leaves
pub record Outcome {A : Type 0} (sight : Sight) (G : World sight → A → Type 0) (s t : Collected)
    (a : A) : Type 0 where
  pub grows : Grows sight s t
  pub gives : Known sight (λ w. G w a) t

-- the step goes so, where it isn't refused
abbrev pub Goes : {A : Type 0} → (sight : Sight) → (World sight → A → Type 0) → Binding A
    → Collected → Type 0
Goes {A = A} sight G p s = (a : A) (t : Collected) → p s ≡ Ok (a, t) → Outcome sight G s t a

pub counted_front : (sight : Sight) (env : EnvKinds) (xs ys : List BoundAggregate) → Front xs ys
    → Counted sight env ys → Counted sight env xs
counted_front sight env xs ys f c =
    record { place = λ keys j a k by at is. c.place keys j a k by (get_on f j a at) is }

pub known_on : (sight : Sight) (F : World sight → Type 0) (s t : Collected) → Grows sight s t
    → Known sight F s → Known sight F t
known_on sight F s t g k w p q = k w (front_on g.inputs p) (front_on g.aggregates q)

pub grows_self : (sight : Sight) (s : Collected) → Grows sight s s
grows_self sight s = record {
  inputs = front_self s.inputs;
  aggregates = front_self s.aggregates;
  no_groups = λ none. refl;
  have = λ env f c i a. (i, a);
}

pub grows_on : (sight : Sight) (s t u : Collected) → Grows sight s t → Grows sight t u
    → Grows sight s u
grows_on sight s t u g h = record {
  inputs = front_on g.inputs h.inputs;
  aggregates = front_on g.aggregates h.aggregates;
  no_groups = λ none. h.no_groups none ∙ g.no_groups none;
  have = λ env f c i a. let m =
      g.have env f (counted_front sight env t.aggregates u.aggregates h.aggregates c) i a in
      h.have env f c m.0 m.1;
}

-- one step after another
pub goes_on : {A B : Type 0} (sight : Sight) (G : World sight → A → Type 0)
    (H : World sight → B → Type 0) (p : Binding A) (f : A → Binding B) (s : Collected)
    → Goes sight G p s → ((a : A) (t : Collected) → Grows sight s t → Known sight (λ w. G w a) t
    → Goes sight H (f a) t) → Goes sight H (p >>= f) s
goes_on sight G H p f s first then b u h =
    let w = went (p s) (λ r. f r.0 r.1) (b, u) h in
    let one = first w.it.0 w.it.1 w.is in
    let two = then w.it.0 w.it.1 one.grows one.gives b u w.gives in
    record { grows = grows_on sight s w.it.1 u one.grows two.grows; gives = two.gives }

pub same_pair : {A : Type 0} (r : A × Collected) (a : A) (t : Collected) → r ≡ (a, t)
    → (r.0 ≡ a) × (r.1 ≡ t)
same_pair {A = A} r a t e = (ap (λ (x : A × Collected). x.0) e, ap (λ (x : A × Collected). x.1) e)

-- a value or a refusal
pub goes_lift : {A : Type 0} (sight : Sight) (G : World sight → A → Type 0) (r : Checked A)
    (s : Collected)
    → ((a : A) → r ≡ Ok a → Known sight (λ w. G w a) s) → Goes sight G (lift r) s
goes_lift sight G r s known a t h =
    let w = went r (λ x. Ok (x, s)) (a, t) h in
    let e = same_pair (w.it, s) a t (ok_is (w.it, s) (a, t) w.gives) in
    let k : Known sight (λ v. G v a) s = known a (w.is ∙ ap Ok e.0) in
    subst (λ u. Outcome sight G s u a) e.1 (record { grows = grows_self sight s; gives = k })

pub goes_pure : {A : Type 0} (sight : Sight) (G : World sight → A → Type 0) (a : A) (s : Collected)
    → Known sight (λ w. G w a) s → Goes sight G (pure a) s
goes_pure sight G a s known b t h =
    let e = same_pair (a, s) b t (ok_is (a, s) (b, t) h) in
    subst (λ u. Outcome sight G s u b) e.1
    (subst (λ c. Outcome sight G s s c) e.0 (record { grows = grows_self sight s; gives = known }))

each_more : {X : Type 0} (P : X → Type 0) (xs : List X) (x : X) → Each P xs → P x
    → Each P (xs ++ x ∷ [])
each_more P [] x h p = (p, tt)
each_more P (y ∷ xs) x h p = (h.0, each_more P xs x h.1 p)

each_left : {X : Type 0} (P : X → Type 0) (xs ys : List X) → Each P (xs ++ ys) → Each P xs
each_left P [] ys h = tt
each_left P (x ∷ xs) ys h = (h.0, each_left P xs ys h.1)

pub each_front : {X : Type 0} (P : X → Type 0) (xs ys : List X) → Front xs ys → Each P ys
    → Each P xs
each_front P xs ys f h = each_left P xs f.more (subst (Each P) f.is h)

-- an input that has a kind wherever the step stands
pub goes_input : (sight : Sight) (i : Input) (s : Collected)
    → ((env : EnvKinds) → Fits sight env → Counted sight env s.aggregates → InputsHave env s.inputs
    → AggregatesHave (own_rows sight.levels env) s.aggregates → HasKind (kind_of_input i env))
    → Goes sight (λ w n. slice_get w.inputs n ≡ Some i) (input i) s
unfolding input
goes_input sight i s has n t h =
    let u : Collected = record s { inputs = s.inputs ++ i ∷ [] } in
    let e = same_pair (length s.inputs, u) n t (ok_is (length s.inputs, u) (n, t) h) in
    let g : Grows sight s u = record {
      inputs = record { more = i ∷ []; is = refl };
      aggregates = front_self s.aggregates;
      no_groups = λ none. refl;
      have = λ env f c ih ah. (
        each_more (λ (j : Input). HasKind (kind_of_input j env)) s.inputs i
            ih (has env f c ih ah),
        ah,
      );
    } in
    let k : Known sight (λ w. slice_get w.inputs (length s.inputs) ≡ Some i) u =
    λ w p q. get_on p (length s.inputs) i (get_last s.inputs i) in
    subst (λ v. Outcome sight (λ w m. slice_get w.inputs m ≡ Some i) s v n) e.1
    (subst (λ m. Outcome sight (λ w m'. slice_get w.inputs m' ≡ Some i) s u m) e.0
    (record { grows = g; gives = k }))

-- an aggregate that has a kind over the innermost query's rows
pub goes_aggregate : (sight : Sight) (a : BoundAggregate) (s : Collected)
    → (keys_by sight.levels ≡ None → ⊥)
    → ((env : EnvKinds) → Fits sight env → Counted sight env s.aggregates → InputsHave env s.inputs
    → AggregatesHave (own_rows sight.levels env) s.aggregates
    → HasKind (kind_of_aggregate a (own_rows sight.levels env)))
    → Goes sight (λ w n. slice_get w.aggregates n ≡ Some a) (aggregate a) s
unfolding aggregate
goes_aggregate sight a s groups has n t h =
    let u : Collected = record s { aggregates = s.aggregates ++ a ∷ [] } in
    let e = same_pair (length s.aggregates, u) n t (ok_is (length s.aggregates, u) (n, t) h) in
    let f : Front s.aggregates u.aggregates = record { more = a ∷ []; is = refl } in
    let g : Grows sight s u = record {
      inputs = front_self s.inputs;
      aggregates = f;
      no_groups = λ none. absurd (groups none);
      have = λ env fits c ih ah. (
        ih,
        each_more (λ (b : BoundAggregate).
            HasKind (kind_of_aggregate b (own_rows sight.levels env))) s.aggregates a ah
            (has env fits (counted_front sight env s.aggregates u.aggregates f c) ih ah),
      );
    } in
    let k : Known sight (λ w. slice_get w.aggregates (length s.aggregates) ≡ Some a) u =
    λ w p q. get_on q (length s.aggregates) a (get_last s.aggregates a) in
    subst (λ v. Outcome sight (λ w m. slice_get w.aggregates m ≡ Some a) s v n) e.1
    (subst (λ m. Outcome sight (λ w m'. slice_get w.aggregates m' ≡ Some a) s u m) e.0
    (record { grows = g; gives = k }))

-- ---- where all inputs have kinds

abbrev pub kinds_in : (env : EnvKinds) (inputs : List Input) → InputsHave env inputs → List Kind
kinds_in env [] h = []
kinds_in env (i ∷ inputs) h = h.0.0 ∷ kinds_in env inputs h.1

pub are_in : (env : EnvKinds) (inputs : List Input) (h : InputsHave env inputs) (n : ℕ) (i : Input)
    → slice_get inputs n ≡ Some i → slice_get (kinds_in env inputs h) n ≡ kind_of_input i env
are_in env [] h n i at = cc
are_in env (j ∷ inputs) h zero i at = let same : j ≡ i = cc in
    sym h.0.1 ∙ ap (λ (x : Input). kind_of_input x env) same
are_in env (j ∷ inputs) h (suc n) i at = are_in env inputs h.1 n i at

all_in : (env : EnvKinds) (inputs : List Input) (h : InputsHave env inputs)
    → all_some (map (λ (m : EnvKinds → Option Kind). m env) (map kind_of_input inputs))
    ≡ Some (kinds_in env inputs h)
all_in env [] h = refl
all_in env (i ∷ inputs) h = rw (h.0.1, all_in env inputs h.1) refl

-- the world where nothing more is collected
abbrev pub world_at : (sight : Sight) (s : Collected) (env : EnvKinds) → Fits sight env
    → Counted sight env s.aggregates → (h : InputsHave env s.inputs)
    → AggregatesHave (own_rows sight.levels env) s.aggregates → World sight
world_at sight s env fits counted h have = record {
  env = env;
  inputs = s.inputs;
  kinds = kinds_in env s.inputs h;
  aggregates = s.aggregates;
  fits = fits;
  counted = counted;
  have = have;
  are = are_in env s.inputs h;
}

-- a bound expression is of this kind under rows of these kinds
abbrev pub BoundIs : BoundExpr → BoundKind → EnvKinds → Type 0
BoundIs b (Value k) env = (typing_of b).sort env ≡ Of k
BoundIs b Condition env = (typing_of b).is_condition env ≡ true

pub bound_is : (env : EnvKinds) (inputs : List Input) (h : InputsHave env inputs) (v : Expr)
    (k : BoundKind) → IsOf v k (kinds_in env inputs h)
    → BoundIs (record { inputs = inputs; expr = v }) k env
bound_is env inputs h v (Value k) is =
    ap (λ (t : ExprTyping). t.sort env) (typing_is (record { inputs = inputs; expr = v }))
    ∙ ap (sort_over v) (all_in env inputs h) ∙ is
bound_is env inputs h v Condition is =
    ap (λ (t : ExprTyping). t.is_condition env) (typing_is (record { inputs = inputs; expr = v }))
    ∙ ap (is_condition_over v) (all_in env inputs h) ∙ is

-- an expression with inputs of its own
pub goes_alone : (sight : Sight) (p : Binding Typed) (s : Collected)
    → Goes sight (λ w (t : Typed). IsOf t.value t.kind w.kinds) p (record s { inputs = [] })
    → Goes sight (λ w (q : Part). BoundIs q.expr q.kind w.env) (alone p) s
unfolding alone
goes_alone sight p s first q t h =
    let s0 : Collected = record s { inputs = [] } in
    let w = went (p s0) (λ r.
    Ok (
      record { expr = record { inputs = r.1.inputs; expr = r.0.value }; kind = r.0.kind },
      record r.1 { inputs = s.inputs },
    )) (q, t) h in
    let r = w.it in
    let part : Part = record {
      expr = record { inputs = r.1.inputs; expr = r.0.value };
      kind = r.0.kind;
    } in
    let u : Collected = record r.1 { inputs = s.inputs } in
    let e = same_pair (part, u) q t (ok_is (part, u) (q, t) w.gives) in
    let one = first r.0 r.1 w.is in
    let g : Grows sight s u = record {
      inputs = front_self s.inputs;
      aggregates = one.grows.aggregates;
      no_groups = one.grows.no_groups;
      have = λ env fits c ih ah. (ih, (one.grows.have env fits c tt ah).1);
    } in
    let k : Known sight (λ v. BoundIs part.expr part.kind v.env) u = λ v f a.
    let c = counted_front sight v.env r.1.aggregates v.aggregates a v.counted in
    let before = each_front (λ (b : BoundAggregate).
    HasKind (kind_of_aggregate b (own_rows sight.levels v.env))) s.aggregates v.aggregates
    (front_on one.grows.aggregates a) v.have in
    let m = one.grows.have v.env v.fits c tt before in
    let is = one.gives (world_at sight r.1 v.env v.fits c m.0 m.1) (front_self r.1.inputs)
    (front_self r.1.aggregates) in
    bound_is v.env r.1.inputs m.0 r.0.value r.0.kind is in
    subst (λ x. Outcome sight (λ v (y : Part). BoundIs y.expr y.kind v.env) s x q) e.1
    (subst (λ y. Outcome sight (λ v (z : Part). BoundIs z.expr z.kind v.env) s u y) e.0
    (record { grows = g; gives = k }))

-- a step that adds nothing
pub grows_by : (sight : Sight) (s t : Collected) → t.inputs ≡ s.inputs → t.aggregates ≡ s.aggregates
    → Grows sight s t
grows_by sight s t inputs aggregates = record {
  inputs = front_by inputs;
  aggregates = front_by aggregates;
  no_groups = λ none. aggregates;
  have = λ env f c i a. (
    subst (InputsHave env) (sym inputs) i,
    subst (AggregatesHave (own_rows sight.levels env)) (sym aggregates) a,
  );
}

-- a part of a clause where no groups are read, before any aggregate
pub record ClosedPart (sight : Sight) (s t : Collected) (q : Part) : Type 0 where
  pub inputs : t.inputs ≡ s.inputs
  pub aggregates : t.aggregates ≡ []
  pub is : (env : EnvKinds) → Fits sight env → BoundIs q.expr q.kind env

pub no_place : (sight : Sight) (env : EnvKinds) (all : List BoundAggregate)
    → keys_by sight.levels ≡ None → Counted sight env all
no_place sight env all none =
    record {
      place = λ keys j a k by at is.
          let no : (let o : Option (List ℕ) = None in o ≡ Some keys) = sym none ∙ by in cc;
    }

pub closed_part : (sight : Sight) (p : Binding Typed) (s : Collected) → keys_by sight.levels ≡ None
    → s.aggregates ≡ []
    → Goes sight (λ w (t : Typed). IsOf t.value t.kind w.kinds) p (record s { inputs = [] })
    → (q : Part) (t : Collected) → alone p s ≡ Ok (q, t) → ClosedPart sight s t q
unfolding alone
closed_part sight p s none empty first q t h =
    let s0 : Collected = record s { inputs = [] } in
    let w = went (p s0) (λ r.
    Ok (
      record { expr = record { inputs = r.1.inputs; expr = r.0.value }; kind = r.0.kind },
      record r.1 { inputs = s.inputs },
    )) (q, t) h in
    let r = w.it in
    let part : Part = record {
      expr = record { inputs = r.1.inputs; expr = r.0.value };
      kind = r.0.kind;
    } in
    let u : Collected = record r.1 { inputs = s.inputs } in
    let e = same_pair (part, u) q t (ok_is (part, u) (q, t) w.gives) in
    let one = first r.0 r.1 w.is in
    let all : r.1.aggregates ≡ [] = one.grows.no_groups none ∙ empty in
    let made : ClosedPart sight s u part = record {
      inputs = refl;
      aggregates = all;
      is = λ env f.
          let c = no_place sight env r.1.aggregates none in
          let m = one.grows.have env f c tt
          (subst (AggregatesHave (own_rows sight.levels env)) (sym empty) tt) in
          bound_is env r.1.inputs m.0 r.0.value r.0.kind
          (one.gives (world_at sight r.1 env f c m.0 m.1) (front_self r.1.inputs)
          (front_self r.1.aggregates));
    } in
    subst (λ x. ClosedPart sight s x q) e.1 (subst (λ y. ClosedPart sight s u y) e.0 made)
