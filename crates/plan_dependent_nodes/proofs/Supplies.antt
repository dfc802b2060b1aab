-- The parts of a well-typed part of a query are supplied where it is.
use Rattle.std.proofs.Common.{◌≡◌, ℕ, zero, suc, ◌-◌, ◌<◌, List, [], ◌∷◌, Bool, true, false}
use Rattle.std.proofs.Common.{◌&&◌, ◌||◌, ◌==◌, map, length, refl, sym, ap, ◌∙◌, subst, arith}
use Rattle.std.proofs.Common.{get_or}
use Rattle.std.specs.Prelude.{Option, Some, slice_get, slice_index_or}
use Rattle.std.specs.List.{All}
use Rattle.std.proofs.lemmas.Bool.Decides.{Decides-eqb}
use Rattle.std.proofs.lemmas.List.Folds.{list_any_at}
use Rattle.std.proofs.lemmas.Option.{slice_get_within}
use Rattle.expr_aggregates.specs.declared.function.AggregateFunction.{AggregateFunction}
use Rattle.expr_operators.specs.declared.operator.Comparison.{Comparison}
use Rattle.expr_scalar.specs.declared.kind.Kind.{Kind}
use Rattle.sql_bound_query.specs.declared.query.BoundAggregate.{BoundAggregate}
use Rattle.sql_bound_query.specs.declared.query.BoundAggregate.TheVariants as aggregate
use Rattle.sql_bound_query.specs.declared.query.BoundBlock.{BoundBlock}
use Rattle.sql_bound_query.specs.declared.query.BoundExpr.{BoundExpr}
use Rattle.sql_bound_query.specs.declared.query.Input.{Input}
use Rattle.sql_bound_query.specs.declared.query.Input.TheVariants as input
use Rattle.sql_bound_query.specs.Typing.{EnvKinds, KindMeaning, where_some}
use Rattle.sql_bound_query.specs.Typing.{all_some, kind_of_sort}
use Rattle.sql_bound_query.specs.Typing.{listed_kinds, kind_of_aggregate, block_kinds}
use Rattle.sql_bound_query.specs.Typing.{kind_of_input, typing_of}
use Rattle.sql_bound_query.proofs.TypingOpened.{kind_Column}
use Rattle.sql_bound_query.proofs.Keeps.{Found, some_of}
use Rattle.plan_dependent_nodes.specs.declared.sight.OuterColumn.{OuterColumn}
use Rattle.plan_dependent_nodes.specs.Seeks.{Seeks, any_seeks, has, seeks_of}
use Rattle.plan_dependent_nodes.specs.Seeks.{seeks_of_input, seeks_of_expr, seeks_of_aggregate}
use Rattle.plan_dependent_nodes.specs.Supplied.{QueryIsSupplied}
use Rattle.plan_dependent_nodes.specs.Supplied.{SubqueryIsSupplied, InputIsSupplied}
use Rattle.plan_dependent_nodes.specs.Supplied.{InputsAreSupplied, ExprIsSupplied, ListIsSupplied}
use Rattle.plan_dependent_nodes.specs.Supplied.{AggregateIsSupplied, AggregatesAreSupplied, IsSeen}
use Rattle.plan_dependent_nodes.specs.Supplied.{AreSeen}
use Rattle.plan_dependent_nodes.proofs.SeeksOpened.{seeks_Column, seeks_Exists, seeks_Any}
use Rattle.plan_dependent_nodes.proofs.SeeksOpened.{seeks_Scalar}
use Rattle.plan_dependent_nodes.proofs.SeeksOpened.{seeks_Of}
use Rattle.plan_dependent_nodes.proofs.SeeksOpened.{seeks_expr}
use Rattle.plan_dependent_nodes.proofs.TypedParts.{There, input_kinds, sort_inputs, exists_typed}
use Rattle.plan_dependent_nodes.proofs.TypedParts.{scalar_typed, AnyTyped, any_typed, of_typed}
use Rattle.plan_dependent_nodes.proofs.Within.{query_within}

pub or_left : (a b : Bool) → a ≡ true → (a || b) ≡ true
or_left true b e = refl
or_left false b e = cc

pub or_right : (a b : Bool) → b ≡ true → (a || b) ≡ true
or_right true b e = refl
or_right false b e = e

both_same : (out at : ℕ) → ((out == out) && (at == at)) ≡ true
both_same out at = rw ((Decides-eqb out out).1 refl, (Decides-eqb at at).1 refl) refl

-- a list has its columns
pub has_at : (outer : List OuterColumn) (k : ℕ) (d : OuterColumn) → k < length outer
    → has outer (get_or outer k d).level (get_or outer k d).place ≡ true
has_at outer k d below =
    list_any_at (λ (c : OuterColumn). (c.level == (get_or outer k d).level)
    && (c.place == (get_or outer k d).place)) outer k d below
    (both_same (get_or outer k d).level (get_or outer k d).place)

-- what is read in rows further out is among these columns
abbrev pub Further : Seeks → List OuterColumn → Type 0
Further seeks outer = (level place : ℕ) → seeks (suc level) place ≡ true
    → has outer level place ≡ true

first_further : (a b : Seeks) (outer : List OuterColumn)
    → Further (λ level place. a level place || b level place) outer → Further a outer
first_further a b outer f level place e =
    f level place (or_left (a (suc level) place) (b (suc level) place) e)

second_further : (a b : Seeks) (outer : List OuterColumn)
    → Further (λ level place. a level place || b level place) outer → Further b outer
second_further a b outer f level place e =
    f level place (or_right (a (suc level) place) (b (suc level) place) e)

-- ---- lists

module _ (own : List Kind) (around : EnvKinds) (outer : List OuterColumn) (w : ℕ)
    (wide : w ≡ length own) where
  inputs_supplied : (is : List Input) (ks : List Kind) → input_kinds is (own ∷ around) ≡ Some ks
      → Further (any_seeks (map seeks_of_input is)) outer → InputsAreSupplied is outer w
  inputs_supplied [] ks e f k d below = absurd (let n : k < 0 = below in omega (arith, n))
  inputs_supplied (i ∷ is) ks e f zero d below =
      let rest : Option (List Kind) = input_kinds is (own ∷ around) in
      let g : Found (kind_of_input i (own ∷ around))
      (λ a. where_some rest (λ all. Some (a ∷ all))) ks =
      some_of (kind_of_input i (own ∷ around)) (λ a. where_some rest (λ all. Some (a ∷ all))) ks e
      in
      record {
        own = own;
        around = around;
        kinds = g.it;
        width = wide;
        typed = g.is;
        there = first_further (seeks_of_input i) (any_seeks (map seeks_of_input is)) outer f;
      }
  inputs_supplied (i ∷ is) ks e f (suc k) d below =
      let rest : Option (List Kind) = input_kinds is (own ∷ around) in
      let g : Found (kind_of_input i (own ∷ around))
      (λ a. where_some rest (λ all. Some (a ∷ all))) ks =
      some_of (kind_of_input i (own ∷ around)) (λ a. where_some rest (λ all. Some (a ∷ all))) ks e
      in
      let h : Found rest (λ all. Some (g.it ∷ all)) ks =
      some_of rest (λ all. Some (g.it ∷ all)) ks g.gives in
      let n : suc k < suc (length is) = below in
      inputs_supplied is h.it h.is
      (second_further (seeks_of_input i) (any_seeks (map seeks_of_input is)) outer f) k d
      (omega (arith, n))

  pub expr_supplied : (e : BoundExpr) → There (input_kinds e.inputs (own ∷ around))
      → Further (seeks_of_expr e) outer → ExprIsSupplied e outer w
  expr_supplied e t f =
      inputs_supplied e.inputs t.it t.is
      (subst (λ (z : Seeks). Further z outer) (seeks_expr e) f)

  pub list_supplied : (es : List BoundExpr) (ks : List Kind)
      → listed_kinds (map typing_of es) (own ∷ around) ≡ Some ks
      → Further (any_seeks (map seeks_of_expr es)) outer → ListIsSupplied es outer w
  list_supplied [] ks e f k d below = absurd (let n : k < 0 = below in omega (arith, n))
  list_supplied (x ∷ es) ks e f zero d below =
      let rest : Option (List Kind) = listed_kinds (map typing_of es) (own ∷ around) in
      let kind : Option Kind = kind_of_sort ((typing_of x).sort (own ∷ around)) in
      let g : Found kind (λ a. where_some rest (λ all. Some (a ∷ all))) ks =
      some_of kind (λ a. where_some rest (λ all. Some (a ∷ all))) ks e in
      expr_supplied x (sort_inputs x (own ∷ around) g.it g.is)
      (first_further (seeks_of_expr x) (any_seeks (map seeks_of_expr es)) outer f)
  list_supplied (x ∷ es) ks e f (suc k) d below =
      let rest : Option (List Kind) = listed_kinds (map typing_of es) (own ∷ around) in
      let kind : Option Kind = kind_of_sort ((typing_of x).sort (own ∷ around)) in
      let g : Found kind (λ a. where_some rest (λ all. Some (a ∷ all))) ks =
      some_of kind (λ a. where_some rest (λ all. Some (a ∷ all))) ks e in
      let h : Found rest (λ all. Some (g.it ∷ all)) ks =
      some_of rest (λ all. Some (g.it ∷ all)) ks g.gives in
      let n : suc k < suc (length es) = below in
      list_supplied es h.it h.is
      (second_further (seeks_of_expr x) (any_seeks (map seeks_of_expr es)) outer f) k d
      (omega (arith, n))

  pub aggregates_supplied : (as' : List BoundAggregate) (ks : List Kind)
      → all_some (map (λ (a : KindMeaning). a (own ∷ around)) (map kind_of_aggregate as'))
      ≡ Some ks
      → Further (any_seeks (map seeks_of_aggregate as')) outer → AggregatesAreSupplied as' outer w
  aggregates_supplied [] ks e f k d below = absurd (let n : k < 0 = below in omega (arith, n))
  aggregates_supplied (x ∷ as') ks e f zero d below =
      let rest : Option (List Kind) =
      all_some (map (λ (a : KindMeaning). a (own ∷ around)) (map kind_of_aggregate as')) in
      let g : Found (kind_of_aggregate x (own ∷ around))
      (λ a. where_some rest (λ all. Some (a ∷ all))) ks =
      some_of (kind_of_aggregate x (own ∷ around)) (λ a. where_some rest (λ all. Some (a ∷ all)))
      ks e in
      record {
        own = own;
        around = around;
        kinds = g.it;
        width = wide;
        typed = g.is;
        there = first_further (seeks_of_aggregate x) (any_seeks (map seeks_of_aggregate as')) outer
            f;
      }
  aggregates_supplied (x ∷ as') ks e f (suc k) d below =
      let rest : Option (List Kind) =
      all_some (map (λ (a : KindMeaning). a (own ∷ around)) (map kind_of_aggregate as')) in
      let g : Found (kind_of_aggregate x (own ∷ around))
      (λ a. where_some rest (λ all. Some (a ∷ all))) ks =
      some_of (kind_of_aggregate x (own ∷ around)) (λ a. where_some rest (λ all. Some (a ∷ all)))
      ks e in
      let h : Found rest (λ all. Some (g.it ∷ all)) ks =
      some_of rest (λ all. Some (g.it ∷ all)) ks g.gives in
      let n : suc k < suc (length as') = below in
      aggregates_supplied as' h.it h.is
      (second_further (seeks_of_aggregate x) (any_seeks (map seeks_of_aggregate as')) outer f) k d
      (omega (arith, n))

  -- the places of GROUP BY columns
  pub keys_within : (keys : List ℕ) (js : List Kind) → all_some (map (slice_get own) keys) ≡ Some js
      → All (λ key. key < w) keys
  keys_within [] js e k d below = absurd (let n : k < 0 = below in omega (arith, n))
  keys_within (c ∷ keys) js e zero d below =
      let rest : Option (List Kind) = all_some (map (slice_get own) keys) in
      let g : Found (slice_get own c) (λ a. where_some rest (λ all. Some (a ∷ all))) js =
      some_of (slice_get own c) (λ a. where_some rest (λ all. Some (a ∷ all))) js e in
      subst (λ n. c < n) (sym wide) (slice_get_within own c g.it g.is)
  keys_within (c ∷ keys) js e (suc k) d below =
      let rest : Option (List Kind) = all_some (map (slice_get own) keys) in
      let g : Found (slice_get own c) (λ a. where_some rest (λ all. Some (a ∷ all))) js =
      some_of (slice_get own c) (λ a. where_some rest (λ all. Some (a ∷ all))) js e in
      let h : Found rest (λ all. Some (g.it ∷ all)) js =
      some_of rest (λ all. Some (g.it ∷ all)) js g.gives in
      let n : suc k < suc (length keys) = below in
      keys_within keys h.it h.is k d (omega (arith, n))

-- ---- inputs

pub item_supplied : {X : Type 0} (P : X → Type 0) (xs : List X) (k : ℕ) {x : X} → k < length xs
    → x ≡ get_or xs k x → All P xs → P x
item_supplied P xs k {x} below item all = subst P (sym item) (all k x below)

module _ (outer : List OuterColumn) (w : ℕ) where
  pub column_is_seen : {i : Input} {out at : ℕ} → InputIsSupplied i outer w
      → i ≡ input.Column out at → IsSeen outer w out at
  column_is_seen {i} {out} {at} supplied is =
      let t : slice_get (slice_index_or (supplied.own ∷ supplied.around) out []) at
      ≡ Some supplied.kinds =
      sym (ap (λ (m : KindMeaning). m (supplied.own ∷ supplied.around)) (kind_Column out at))
      ∙ sym (ap (λ z. kind_of_input z (supplied.own ∷ supplied.around)) is) ∙ supplied.typed in
      record {
        own = λ zero_out.
            subst (λ n. at < n) (sym supplied.width)
            (slice_get_within supplied.own at supplied.kinds
            (subst (λ z. slice_get (slice_index_or (supplied.own ∷ supplied.around) z []) at
            ≡ Some supplied.kinds) zero_out t));
        around = λ further.
            supplied.there (out - 1) at
            (ap (λ z. seeks_of_input z (suc (out - 1)) at) is
            ∙ ap (λ (m : Seeks). m (suc (out - 1)) at) (seeks_Column out at)
            ∙ ap (λ z. (out == z) && (at == at)) (omega (arith, further))
            ∙ both_same out at);
      }

  pub key_seen : (keys : List ℕ) (k : ℕ) → k < length keys → All (λ key. key < w) keys
      → IsSeen outer w 0 (get_or keys k 0)
  key_seen keys k below all = record {
    own = λ is. all k 0 below;
    around = λ further. absurd (let n : 0 < 0 = further in omega (arith, n));
  }

  pub plain_input_seen : (inputs : List Input) (k : ℕ) {i : Input} {out at : ℕ}
      → k < length inputs → i ≡ get_or inputs k i → InputsAreSupplied inputs outer w
      → i ≡ input.Column out at → IsSeen outer w out at
  plain_input_seen inputs k {i} {out} {at} below item supplied is =
      column_is_seen
      (subst (λ z. InputIsSupplied z outer w) (sym item) (supplied k i below)) is

  -- subqueries of inputs
  pub exists_supplied : {i : Input} (q : BoundBlock) → InputIsSupplied i outer w
      → i ≡ input.Exists q → SubqueryIsSupplied q outer w
  exists_supplied {i} q supplied is =
      let t : There (block_kinds q (supplied.own ∷ supplied.around)) =
      exists_typed q (supplied.own ∷ supplied.around) supplied.kinds
      (sym (ap (λ z. kind_of_input z (supplied.own ∷ supplied.around)) is) ∙ supplied.typed) in
      record {
        own = supplied.own;
        around = supplied.around;
        kinds = t.it;
        width = supplied.width;
        typed = t.is;
        there = λ level place e.
            supplied.there level place
            (ap (λ z. seeks_of_input z (suc level) place) is
            ∙ ap (λ (m : Seeks). m (suc level) place) (seeks_Exists q) ∙ e);
      }

  pub scalar_supplied : {i : Input} (q : BoundBlock) → InputIsSupplied i outer w
      → i ≡ input.Scalar q → SubqueryIsSupplied q outer w
  scalar_supplied {i} q supplied is =
      let t : There (block_kinds q (supplied.own ∷ supplied.around)) =
      scalar_typed q (supplied.own ∷ supplied.around) supplied.kinds
      (sym (ap (λ z. kind_of_input z (supplied.own ∷ supplied.around)) is) ∙ supplied.typed) in
      record {
        own = supplied.own;
        around = supplied.around;
        kinds = t.it;
        width = supplied.width;
        typed = t.is;
        there = λ level place e.
            supplied.there level place
            (ap (λ z. seeks_of_input z (suc level) place) is
            ∙ ap (λ (m : Seeks). m (suc level) place) (seeks_Scalar q) ∙ e);
      }

  pub any_supplied : {i : Input} (c : Comparison) (x : BoundExpr) (q : BoundBlock)
      → InputIsSupplied i outer w → i ≡ input.Any c x q → SubqueryIsSupplied q outer w
  any_supplied {i} c x q supplied is =
      let t : AnyTyped x q (supplied.own ∷ supplied.around) =
      any_typed c x q (supplied.own ∷ supplied.around) supplied.kinds
      (sym (ap (λ z. kind_of_input z (supplied.own ∷ supplied.around)) is) ∙ supplied.typed) in
      record {
        own = supplied.own;
        around = supplied.around;
        kinds = t.right.it;
        width = supplied.width;
        typed = t.right.is;
        there = λ level place e.
            supplied.there level place
            (ap (λ z. seeks_of_input z (suc level) place) is
            ∙ ap (λ (m : Seeks). m (suc level) place) (seeks_Any c x q)
            ∙ or_right (seeks_of_expr x (suc level) place) (seeks_of q (suc level) place) e);
      }

  -- the left side of ANY
  pub left_supplied : {i : Input} {c : Comparison} {x seen : BoundExpr} (q : BoundBlock)
      → InputIsSupplied i outer w → i ≡ input.Any c x q → seen ≡ x → ExprIsSupplied seen outer w
  left_supplied {i} {c} {x} {seen} q supplied is get =
      let t : AnyTyped x q (supplied.own ∷ supplied.around) =
      any_typed c x q (supplied.own ∷ supplied.around) supplied.kinds
      (sym (ap (λ z. kind_of_input z (supplied.own ∷ supplied.around)) is) ∙ supplied.typed) in
      subst (λ z. ExprIsSupplied z outer w) (sym get)
      (expr_supplied supplied.own supplied.around outer w supplied.width x t.left
      (λ level place e.
      supplied.there level place
      (ap (λ z. seeks_of_input z (suc level) place) is
      ∙ ap (λ (m : Seeks). m (suc level) place) (seeks_Any c x q)
      ∙ or_left (seeks_of_expr x (suc level) place) (seeks_of q (suc level) place) e)))

  -- the argument of an aggregate
  pub argument_supplied : {a : BoundAggregate} {function : AggregateFunction} {scale : ℕ}
      (x : BoundExpr) → AggregateIsSupplied a outer w → a ≡ aggregate.Of function scale x
      → ExprIsSupplied x outer w
  argument_supplied {a} {function} {scale} x supplied is =
      expr_supplied supplied.own supplied.around outer w supplied.width x
      (of_typed function scale x (supplied.own ∷ supplied.around) supplied.kinds
      (sym (ap (λ z. kind_of_aggregate z (supplied.own ∷ supplied.around)) is) ∙ supplied.typed))
      (λ level place e.
      supplied.there level place
      (ap (λ z. seeks_of_aggregate z (suc level) place) is
      ∙ ap (λ (m : Seeks). m (suc level) place) (seeks_Of function scale x) ∙ e))

  -- ---- subqueries

  -- by the columns that it reads
  pub found_supplied : {q seen read : BoundBlock} {wanted listed : List OuterColumn}
      → SubqueryIsSupplied q outer w → seen ≡ q → read ≡ q → listed ≡ wanted
      → ((level place : ℕ) → has wanted level place ≡ seeks_of read level place)
      → QueryIsSupplied seen listed
  found_supplied {q} {seen} {read} {wanted} {listed} supplied get got same found =
      subst (λ z. QueryIsSupplied seen z) (sym same) (record {
        around = supplied.own ∷ supplied.around;
        kinds = supplied.kinds;
        typed = ap (λ z. block_kinds z (supplied.own ∷ supplied.around)) get ∙ supplied.typed;
        there = λ level place e.
            found level place ∙ ap (λ z. seeks_of z level place) (got ∙ sym get) ∙ e;
      })

  seen_at : (q : BoundBlock) (supplied : SubqueryIsSupplied q outer w) (level place : ℕ)
      → seeks_of q level place ≡ true → IsSeen outer w level place
  seen_at q supplied zero place e = record {
    own = λ is.
        subst (λ n. place < n) (sym supplied.width)
        (query_within q (supplied.own ∷ supplied.around) supplied.kinds supplied.typed zero place
        e);
    around = λ further. absurd (let n : 0 < 0 = further in omega (arith, n));
  }
  seen_at q supplied (suc level) place e = record {
    own = λ is. absurd (let n : suc level ≡ 0 = is in omega (arith, n));
    around = λ further.
        ap (λ z. has outer z place) (let n : suc level - 1 ≡ level = omega arith in n)
        ∙ supplied.there level place e;
  }

  -- the columns that it reads are seen
  pub found_seen : {q seen : BoundBlock} {wanted listed : List OuterColumn}
      → SubqueryIsSupplied q outer w → seen ≡ q → listed ≡ wanted
      → ((level place : ℕ) → has wanted level place ≡ seeks_of seen level place)
      → AreSeen outer w listed
  found_seen {q} {seen} {wanted} {listed} supplied get same found =
      subst (AreSeen outer w) (sym same)
      (λ k d below.
      seen_at q supplied (get_or wanted k d).level (get_or wanted k d).place
      (ap (λ z. seeks_of z (get_or wanted k d).level (get_or wanted k d).place) (sym get)
      ∙ sym (found (get_or wanted k d).level (get_or wanted k d).place)
      ∙ has_at wanted k d below))
