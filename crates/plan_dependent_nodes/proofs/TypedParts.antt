-- The well-typed parts of a well-typed part of a query.
use Rattle.std.proofs.Common.{◌≡◌, ℕ, List, [], ◌∷◌, ◌++◌, true, ◌==◌, map, length, refl, sym, ap}
use Rattle.std.proofs.Common.{◌∙◌}
use Rattle.std.specs.Prelude.{Option, Some, None, slice_get, if◌then◌else◌}
use Rattle.std.proofs.lemmas.Bool.Decides.{Decides-eqb}
use Rattle.base_set_rows.specs.declared.kind.SetOperation.{SetOperation}
use Rattle.expr_aggregates.specs.declared.function.AggregateFunction.{AggregateFunction}
use Rattle.expr_aggregates.specs.declared.function.AggregateFunction.TheVariants.{Count}
use Rattle.expr_aggregates.specs.declared.function.AggregateFunction.TheVariants.{CountDistinct}
use Rattle.expr_aggregates.specs.declared.function.AggregateFunction.TheVariants.{Sum, Avg, Min}
use Rattle.expr_aggregates.specs.declared.function.AggregateFunction.TheVariants.{Max}
use Rattle.expr_operators.specs.declared.operator.Comparison.{Comparison}
use Rattle.expr_scalar.specs.declared.expr.Expr.{Expr}
use Rattle.expr_scalar.specs.declared.kind.Kind.{Kind}
use Rattle.expr_scalar.specs.declared.kind.Kind.TheVariants as kind
use Rattle.expr_scalar.specs.Typing.{comparable}
use Rattle.expr_scalar.specs.Typing.Sort.{Of}
use Rattle.sql_bound_query.specs.declared.query.BoundAggregate.{BoundAggregate}
use Rattle.sql_bound_query.specs.declared.query.BoundAggregate.TheVariants as aggregate
use Rattle.sql_bound_query.specs.declared.query.BoundBlock.{BoundBlock}
use Rattle.sql_bound_query.specs.declared.query.BoundBlock.TheVariants as block
use Rattle.sql_bound_query.specs.declared.query.BoundExpr.{BoundExpr}
use Rattle.sql_bound_query.specs.declared.query.BoundSource.{BoundSource}
use Rattle.sql_bound_query.specs.declared.query.BoundSource.TheVariants as source
use Rattle.sql_bound_query.specs.declared.query.Input.{Input}
use Rattle.sql_bound_query.specs.declared.query.Input.TheVariants as input
use Rattle.sql_bound_query.specs.declared.query.SetColumn.{SetColumn}
use Rattle.sql_bound_query.specs.Typing.{EnvKinds, KindMeaning, KindsMeaning, FromKinds, ExprTyping}
use Rattle.sql_bound_query.specs.Typing.{where_some}
use Rattle.sql_bound_query.specs.Typing.{where_true, all_some, kind_of_sort, sort_over, only_kind}
use Rattle.sql_bound_query.specs.Typing.{is_condition_over, aggregate_sort, joined_kinds}
use Rattle.sql_bound_query.specs.Typing.{listed_kinds}
use Rattle.sql_bound_query.specs.Typing.{group_kinds, kind_of_aggregate, block_kinds, from_kinds}
use Rattle.sql_bound_query.specs.Typing.{kind_of_input, typing_of, set_kinds}
use Rattle.sql_bound_query.proofs.TypingOpened.{kind_Exists, kind_Any, kind_Scalar, kind_Of}
use Rattle.sql_bound_query.proofs.TypingOpened.{kinds_Cross, kinds_Inner, kinds_Outer, kinds_Plain}
use Rattle.sql_bound_query.proofs.TypingOpened.{kinds_Grouped, kinds_Set, typing_is}
use Rattle.sql_bound_query.proofs.Keeps.{Found, some_of, Passed, passed, some_is}

-- ---- inputs of expressions

-- the kinds of inputs
abbrev pub input_kinds : List Input → EnvKinds → Option (List Kind)
input_kinds inputs kinds = all_some (map (λ (i : KindMeaning). i kinds) (map kind_of_input inputs))

-- what is there
pub record There {A : Type 0} (o : Option A) : Type 0 where
  pub it : A
  pub is : o ≡ Some it

there_of_sort : (x : Expr) (o : Option (List Kind)) (k : Kind)
    → kind_of_sort (sort_over x o) ≡ Some k → There o
there_of_sort x (Some ks) k e = record { it = ks; is = refl }
there_of_sort x None k e = cc

there_of_condition : (x : Expr) (o : Option (List Kind)) → is_condition_over x o ≡ true → There o
there_of_condition x (Some ks) e = record { it = ks; is = refl }
there_of_condition x None e = cc

there_of_comparable : (x : Expr) (o : Option (List Kind)) (j : Kind)
    → comparable (sort_over x o) (Of j) ≡ true → There o
there_of_comparable x (Some ks) j e = record { it = ks; is = refl }
there_of_comparable x None j e = cc

there_of_aggregate : (function : AggregateFunction) (scale : ℕ) (x : Expr)
    (o : Option (List Kind)) (k : Kind) → aggregate_sort function scale (sort_over x o) ≡ Some k
    → There o
there_of_aggregate function scale x (Some ks) k e = record { it = ks; is = refl }
there_of_aggregate Count scale x None k e = cc
there_of_aggregate CountDistinct scale x None k e = cc
there_of_aggregate Sum scale x None k e = cc
there_of_aggregate Avg scale x None k e = cc
there_of_aggregate Min scale x None k e = cc
there_of_aggregate Max scale x None k e = cc

pub sort_inputs : (e : BoundExpr) (kinds : EnvKinds) (k : Kind)
    → kind_of_sort ((typing_of e).sort kinds) ≡ Some k → There (input_kinds e.inputs kinds)
sort_inputs e kinds k h =
    there_of_sort e.expr (input_kinds e.inputs kinds) k
    (sym (ap (λ (t : ExprTyping). kind_of_sort (t.sort kinds)) (typing_is e)) ∙ h)

pub condition_inputs : (e : BoundExpr) (kinds : EnvKinds) → (typing_of e).is_condition kinds ≡ true
    → There (input_kinds e.inputs kinds)
condition_inputs e kinds h =
    there_of_condition e.expr (input_kinds e.inputs kinds)
    (sym (ap (λ (t : ExprTyping). t.is_condition kinds) (typing_is e)) ∙ h)

-- ---- inputs

pub exists_typed : (q : BoundBlock) (kinds : EnvKinds) (k : Kind)
    → kind_of_input (input.Exists q) kinds ≡ Some k → There (block_kinds q kinds)
exists_typed q kinds k e =
    let t : where_some (block_kinds q kinds) (λ js. Some (kind.Number 0)) ≡ Some k =
    sym (ap (λ (m : KindMeaning). m kinds) (kind_Exists q)) ∙ e in
    let f : Found (block_kinds q kinds) (λ js. Some (kind.Number 0)) k =
    some_of (block_kinds q kinds) (λ js. Some (kind.Number 0)) k t in
    record { it = f.it; is = f.is }

pub scalar_typed : (q : BoundBlock) (kinds : EnvKinds) (k : Kind)
    → kind_of_input (input.Scalar q) kinds ≡ Some k → There (block_kinds q kinds)
scalar_typed q kinds k e =
    let t : where_some (block_kinds q kinds) only_kind ≡ Some k =
    sym (ap (λ (m : KindMeaning). m kinds) (kind_Scalar q)) ∙ e in
    let f : Found (block_kinds q kinds) only_kind k =
    some_of (block_kinds q kinds) only_kind k t in
    record { it = f.it; is = f.is }

pub record AnyTyped (x : BoundExpr) (q : BoundBlock) (kinds : EnvKinds) : Type 0 where
  pub left : There (input_kinds x.inputs kinds)
  pub right : There (block_kinds q kinds)

pub any_typed : (c : Comparison) (x : BoundExpr) (q : BoundBlock) (kinds : EnvKinds) (k : Kind)
    → kind_of_input (input.Any c x q) kinds ≡ Some k → AnyTyped x q kinds
any_typed c x q kinds k e =
    let last : Kind → Option Kind =
    λ j. where_true (comparable ((typing_of x).sort kinds) (Of j)) (kind.Number 0) in
    let t : where_some (block_kinds q kinds) (λ js. where_some (only_kind js) last) ≡ Some k =
    sym (ap (λ (m : KindMeaning). m kinds) (kind_Any c x q)) ∙ e in
    let f : Found (block_kinds q kinds) (λ js. where_some (only_kind js) last) k =
    some_of (block_kinds q kinds) (λ js. where_some (only_kind js) last) k t in
    let g : Found (only_kind f.it) last k = some_of (only_kind f.it) last k f.gives in
    let p : Passed (comparable ((typing_of x).sort kinds) (Of g.it)) (Some (kind.Number 0)) k =
    passed (comparable ((typing_of x).sort kinds) (Of g.it)) (Some (kind.Number 0)) k g.gives in
    record {
      left = there_of_comparable x.expr (input_kinds x.inputs kinds) g.it
          (sym (ap (λ (t : ExprTyping). comparable (t.sort kinds) (Of g.it)) (typing_is x))
          ∙ p.test);
      right = record { it = f.it; is = f.is };
    }

-- ---- aggregates

pub of_typed : (function : AggregateFunction) (scale : ℕ) (a : BoundExpr) (kinds : EnvKinds)
    (k : Kind) → kind_of_aggregate (aggregate.Of function scale a) kinds ≡ Some k
    → There (input_kinds a.inputs kinds)
of_typed function scale a kinds k e =
    there_of_aggregate function scale a.expr (input_kinds a.inputs kinds) k
    (sym (ap (λ (t : ExprTyping). aggregate_sort function scale (t.sort kinds)) (typing_is a))
    ∙ sym (ap (λ (m : KindMeaning). m kinds) (kind_Of function scale a)) ∙ e)

-- ---- sources

-- the sides of a source under a row so far of the kinds js: the right one under the left one's
-- columns too
pub record CrossTyped (a b : BoundSource) (js : List Kind) (kinds : EnvKinds) (ks : List Kind)
    : Type 0 where
  pub ls : List Kind
  pub rs : List Kind
  pub left : from_kinds a js kinds ≡ Some ls
  pub right : from_kinds b (js ++ ls) kinds ≡ Some rs
  pub both : ls ++ rs ≡ ks

pub cross_typed : (a b : BoundSource) (js : List Kind) (kinds : EnvKinds) (ks : List Kind)
    → from_kinds (source.Cross a b) js kinds ≡ Some ks → CrossTyped a b js kinds ks
cross_typed a b js kinds ks e =
    let right : List Kind → Option (List Kind) = λ ls. from_kinds b (js ++ ls) kinds in
    let last : List Kind → List Kind → Option (List Kind) = λ ls rs. Some (ls ++ rs) in
    let t : where_some (from_kinds a js kinds) (λ ls. where_some (right ls) (last ls))
    ≡ Some ks = sym (ap (λ (m : FromKinds). m js kinds) (kinds_Cross a b)) ∙ e in
    let f : Found (from_kinds a js kinds) (λ ls. where_some (right ls) (last ls)) ks =
    some_of (from_kinds a js kinds) (λ ls. where_some (right ls) (last ls)) ks t in
    let g : Found (right f.it) (last f.it) ks = some_of (right f.it) (last f.it) ks f.gives in
    record {
      ls = f.it;
      rs = g.it;
      left = f.is;
      right = g.is;
      both = some_is (f.it ++ g.it) ks g.gives;
    }

pub record JoinTyped (a b : BoundSource) (on : BoundExpr) (js : List Kind) (kinds : EnvKinds)
    (ks : List Kind) : Type 0 where
  pub sides : CrossTyped a b js kinds ks
  pub inputs : There (input_kinds on.inputs (ks ∷ kinds))

joined : (a b : BoundSource) (on : BoundExpr) (js : List Kind) (kinds : EnvKinds)
    (ks ls rs : List Kind) → from_kinds a js kinds ≡ Some ls
    → from_kinds b (js ++ ls) kinds ≡ Some rs
    → joined_kinds (typing_of on) kinds ls rs ≡ Some ks → JoinTyped a b on js kinds ks
joined a b on js kinds ks ls rs l r e =
    let p : Passed ((typing_of on).is_condition ((ls ++ rs) ∷ kinds)) (Some (ls ++ rs)) ks =
    passed ((typing_of on).is_condition ((ls ++ rs) ∷ kinds)) (Some (ls ++ rs)) ks e in
    let both : ls ++ rs ≡ ks = some_is (ls ++ rs) ks p.is in
    record {
      sides = record { ls = ls; rs = rs; left = l; right = r; both = both };
      inputs = condition_inputs on (ks ∷ kinds)
          (sym (ap (λ z. (typing_of on).is_condition (z ∷ kinds)) both) ∙ p.test);
    }

pub inner_typed : (a b : BoundSource) (on : BoundExpr) (js : List Kind) (kinds : EnvKinds)
    (ks : List Kind) → from_kinds (source.Inner a b on) js kinds ≡ Some ks
    → JoinTyped a b on js kinds ks
inner_typed a b on js kinds ks e =
    let right : List Kind → Option (List Kind) = λ ls. from_kinds b (js ++ ls) kinds in
    let last : List Kind → List Kind → Option (List Kind) =
    λ ls rs. joined_kinds (typing_of on) kinds ls rs in
    let t : where_some (from_kinds a js kinds) (λ ls. where_some (right ls) (last ls))
    ≡ Some ks = sym (ap (λ (m : FromKinds). m js kinds) (kinds_Inner a b on)) ∙ e in
    let f : Found (from_kinds a js kinds) (λ ls. where_some (right ls) (last ls)) ks =
    some_of (from_kinds a js kinds) (λ ls. where_some (right ls) (last ls)) ks t in
    let g : Found (right f.it) (last f.it) ks = some_of (right f.it) (last f.it) ks f.gives in
    joined a b on js kinds ks f.it g.it f.is g.is g.gives

pub record OuterTyped (a b : BoundSource) (width : ℕ) (on : BoundExpr) (js : List Kind)
    (kinds : EnvKinds) (ks : List Kind) : Type 0 where
  pub join : JoinTyped a b on js kinds ks
  pub nulls : width ≡ length join.sides.rs

pub outer_typed : (a b : BoundSource) (width : ℕ) (on : BoundExpr) (js : List Kind)
    (kinds : EnvKinds) (ks : List Kind) → from_kinds (source.Outer a b width on) js kinds ≡ Some ks
    → OuterTyped a b width on js kinds ks
unfolding joined
outer_typed a b width on js kinds ks e =
    let right : List Kind → Option (List Kind) = λ ls. from_kinds b (js ++ ls) kinds in
    let last : List Kind → List Kind → Option (List Kind) =
    λ ls rs. if width == length rs then joined_kinds (typing_of on) kinds ls rs else None in
    let t : where_some (from_kinds a js kinds) (λ ls. where_some (right ls) (last ls))
    ≡ Some ks = sym (ap (λ (m : FromKinds). m js kinds) (kinds_Outer a b width on)) ∙ e in
    let f : Found (from_kinds a js kinds) (λ ls. where_some (right ls) (last ls)) ks =
    some_of (from_kinds a js kinds) (λ ls. where_some (right ls) (last ls)) ks t in
    let g : Found (right f.it) (last f.it) ks = some_of (right f.it) (last f.it) ks f.gives in
    let w : Passed (width == length g.it) (joined_kinds (typing_of on) kinds f.it g.it) ks =
    passed (width == length g.it) (joined_kinds (typing_of on) kinds f.it g.it) ks g.gives in
    record {
      join = joined a b on js kinds ks f.it g.it f.is g.is w.is;
      nulls = (Decides-eqb width (length g.it)).0 w.test;
    }

-- ---- queries

pub record PlainTyped (f : BoundSource) (c : BoundExpr) (es : List BoundExpr) (kinds : EnvKinds)
    (ks : List Kind) : Type 0 where
  pub own : List Kind
  pub from : from_kinds f [] kinds ≡ Some own
  pub condition : There (input_kinds c.inputs (own ∷ kinds))
  pub list : listed_kinds (map typing_of es) (own ∷ kinds) ≡ Some ks

pub plain_typed : (f : BoundSource) (c : BoundExpr) (es : List BoundExpr) (kinds : EnvKinds)
    (ks : List Kind) → block_kinds (block.Plain f c es) kinds ≡ Some ks
    → PlainTyped f c es kinds ks
plain_typed f c es kinds ks e =
    let shown : List Kind → Option (List Kind) =
    λ ls. listed_kinds (map typing_of es) (ls ∷ kinds) in
    let last : List Kind → Option (List Kind) =
    λ ls. if (typing_of c).is_condition (ls ∷ kinds) then shown ls else None in
    let t : where_some (from_kinds f [] kinds) last ≡ Some ks =
    sym (ap (λ (m : KindsMeaning). m kinds) (kinds_Plain f c es)) ∙ e in
    let g : Found (from_kinds f [] kinds) last ks = some_of (from_kinds f [] kinds) last ks t in
    let p : Passed ((typing_of c).is_condition (g.it ∷ kinds)) (shown g.it) ks =
    passed ((typing_of c).is_condition (g.it ∷ kinds)) (shown g.it) ks g.gives in
    record {
      own = g.it;
      from = g.is;
      condition = condition_inputs c (g.it ∷ kinds) p.test;
      list = p.is;
    }

pub record GroupedTyped (f : BoundSource) (c : BoundExpr) (keys : List ℕ)
    (as' : List BoundAggregate) (h : BoundExpr) (es : List BoundExpr) (kinds : EnvKinds)
    (ks : List Kind) : Type 0 where
  pub own : List Kind
  pub js : List Kind
  pub ms : List Kind
  pub from : from_kinds f [] kinds ≡ Some own
  pub condition : There (input_kinds c.inputs (own ∷ kinds))
  pub key_kinds : all_some (map (slice_get own) keys) ≡ Some js
  pub aggregates : all_some (map (λ (a : KindMeaning). a (own ∷ kinds)) (map kind_of_aggregate as'))
      ≡ Some ms
  pub having : There (input_kinds h.inputs ((js ++ ms) ∷ kinds))
  pub list : listed_kinds (map typing_of es) ((js ++ ms) ∷ kinds) ≡ Some ks

pub grouped_typed : (f : BoundSource) (c : BoundExpr) (keys : List ℕ) (as' : List BoundAggregate)
    (h : BoundExpr) (es : List BoundExpr) (kinds : EnvKinds) (ks : List Kind)
    → block_kinds (block.Grouped f c keys as' h es) kinds ≡ Some ks
    → GroupedTyped f c keys as' h es kinds ks
grouped_typed f c keys as' h es kinds ks e =
    let shown : List Kind → Option (List Kind) =
    λ gs. listed_kinds (map typing_of es) (gs ∷ kinds) in
    let kept_groups : List Kind → Option (List Kind) =
    λ gs. if (typing_of h).is_condition (gs ∷ kinds) then shown gs else None in
    let made : List Kind → Option (List Kind) =
    λ ls. group_kinds keys (map kind_of_aggregate as') ls kinds in
    let last : List Kind → Option (List Kind) =
    λ ls. if (typing_of c).is_condition (ls ∷ kinds) then where_some (made ls) kept_groups
    else None in
    let t : where_some (from_kinds f [] kinds) last ≡ Some ks =
    sym (ap (λ (m : KindsMeaning). m kinds) (kinds_Grouped f c keys as' h es)) ∙ e in
    let x : Found (from_kinds f [] kinds) last ks = some_of (from_kinds f [] kinds) last ks t in
    let p : Passed ((typing_of c).is_condition (x.it ∷ kinds)) (where_some (made x.it) kept_groups)
    ks = passed ((typing_of c).is_condition (x.it ∷ kinds)) (where_some (made x.it) kept_groups)
    ks x.gives in
    let g : Found (made x.it) kept_groups ks = some_of (made x.it) kept_groups ks p.is in
    let q : Passed ((typing_of h).is_condition (g.it ∷ kinds)) (shown g.it) ks =
    passed ((typing_of h).is_condition (g.it ∷ kinds)) (shown g.it) ks g.gives in
    let own : Option (List Kind) = all_some (map (slice_get x.it) keys) in
    let folded : Option (List Kind) =
    all_some (map (λ (a : KindMeaning). a (x.it ∷ kinds)) (map kind_of_aggregate as')) in
    let j : Found own (λ js. where_some folded (λ ms. Some (js ++ ms))) g.it =
    some_of own (λ js. where_some folded (λ ms. Some (js ++ ms))) g.it g.is in
    let m : Found folded (λ ms. Some (j.it ++ ms)) g.it =
    some_of folded (λ ms. Some (j.it ++ ms)) g.it j.gives in
    let both : j.it ++ m.it ≡ g.it = some_is (j.it ++ m.it) g.it m.gives in
    record {
      own = x.it;
      js = j.it;
      ms = m.it;
      from = x.is;
      condition = condition_inputs c (x.it ∷ kinds) p.test;
      key_kinds = j.is;
      aggregates = m.is;
      having = condition_inputs h ((j.it ++ m.it) ∷ kinds)
          (ap (λ z. (typing_of h).is_condition (z ∷ kinds)) both ∙ q.test);
      list = ap (λ z. listed_kinds (map typing_of es) (z ∷ kinds)) both ∙ q.is;
    }

pub record SetTyped (a b : BoundBlock) (columns : List SetColumn) (kinds : EnvKinds)
    (ks : List Kind) : Type 0 where
  pub ls : List Kind
  pub rs : List Kind
  pub left : block_kinds a kinds ≡ Some ls
  pub right : block_kinds b kinds ≡ Some rs
  pub both : set_kinds columns ls rs ≡ Some ks

pub set_typed : (a b : BoundBlock) (columns : List SetColumn) (operation : SetOperation)
    (kinds : EnvKinds) (ks : List Kind)
    → block_kinds (block.Set a b columns operation) kinds ≡ Some ks
    → SetTyped a b columns kinds ks
set_typed a b columns operation kinds ks e =
    let last : List Kind → List Kind → Option (List Kind) = λ ls rs. set_kinds columns ls rs in
    let right : Option (List Kind) = block_kinds b kinds in
    let t : where_some (block_kinds a kinds) (λ ls. where_some right (last ls)) ≡ Some ks =
    sym (ap (λ (m : KindsMeaning). m kinds) (kinds_Set a b columns operation)) ∙ e in
    let f : Found (block_kinds a kinds) (λ ls. where_some right (last ls)) ks =
    some_of (block_kinds a kinds) (λ ls. where_some right (last ls)) ks t in
    let g : Found right (last f.it) ks = some_of right (last f.it) ks f.gives in
    record { ls = f.it; rs = g.it; left = f.is; right = g.is; both = g.gives }
