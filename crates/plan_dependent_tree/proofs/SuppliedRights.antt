-- Right sides are supplied by just what they read.
use Rattle.std.proofs.Common.{◌≡◌, ℕ, suc, ◌+◌, ◌<◌, List, [], ◌∷◌, ◌++◌, Bool, true}
use Rattle.std.proofs.Common.{◌||◌, ◌==◌, length, refl, sym, ap, ◌∙◌, subst, arith}
use Rattle.std.proofs.lemmas.Bool.{eqb-true}
use Rattle.std.proofs.lemmas.List.{length-append}
use Rattle.sql_bound_query.specs.declared.query.BoundExpr.{BoundExpr}
use Rattle.sql_bound_query.specs.declared.query.BoundSource.{BoundSource}
use Rattle.plan_dependent_nodes.specs.declared.sight.OuterColumn.{OuterColumn}
use Rattle.plan_dependent_nodes.specs.Seeks.{has, has_place, seeks_of_source, seeks_so_far}
use Rattle.plan_dependent_nodes.specs.Seeks.{seeks_of_expr}
use Rattle.plan_dependent_nodes.specs.Supplied.{SourceIsSupplied, JoinIsSupplied, ExprIsSupplied}
use Rattle.plan_dependent_nodes.specs.Supplied.{IsSourceWidth}
use Rattle.plan_dependent_nodes.proofs.Supplies.{or_left, or_right, expr_supplied}
use Rattle.plan_dependent_nodes.proofs.Within.{either}

-- a slice that is found empty
pub no_items : {X : Type 0} (items : List X) (result : Bool) → result ≡ (length items == 0)
    → result ≡ true → items ≡ []
no_items [] result is found = refl
no_items (x ∷ items) result is found =
    let l = eqb-true (length (x ∷ items)) 0 (sym is ∙ found) in absurd (omega (arith, l))

-- ---- by other names

pub read_width : {x y : BoundSource} {w : ℕ} → x ≡ y → IsSourceWidth x w → IsSourceWidth y w
read_width {x} {y} {w} same width = subst (λ z. IsSourceWidth z w) same width

pub read_supplied : {x y : BoundSource} {outer : List OuterColumn} {so_far : List ℕ} {n w : ℕ}
    → x ≡ y → SourceIsSupplied x outer so_far n w → SourceIsSupplied y outer so_far n w
read_supplied {x} {y} {outer} {so_far} {n} {w} same supplied =
    subst (λ z. SourceIsSupplied z outer so_far n w) same supplied

pub resupplied : (on : BoundExpr) {outer listed : List OuterColumn} {w m : ℕ} → listed ≡ outer
    → m ≡ w → ExprIsSupplied on outer w → ExprIsSupplied on listed m
resupplied on {outer} {listed} {w} {m} e f supplied =
    subst (λ z. ExprIsSupplied on z m) (sym e)
    (subst (λ k. ExprIsSupplied on outer k) (sym f) supplied)

-- ---- an item of FROM that reads this

module _ (outer : List OuterColumn) (so_far : List ℕ) (n w v : ℕ) (s : BoundSource)
    (supplied : SourceIsSupplied s outer so_far n w) (same : v ≡ w)
    (wanted : List OuterColumn) (others : List ℕ)
    (reads : (level place : ℕ) → has wanted level place ≡ seeks_of_source s level place)
    (near : (place : ℕ) → has_place others place ≡ seeks_so_far s place) where
  pub dependent_supplied : {listed : List OuterColumn} {places : List ℕ} → listed ≡ wanted
      → places ≡ others → SourceIsSupplied s listed places v v
  dependent_supplied {listed} {places} f g = record {
    before = supplied.before;
    around = supplied.around;
    kinds = supplied.kinds;
    width = same ∙ supplied.width;
    typed = supplied.typed;
    there = λ level place e. ap (λ z. has z level place) f ∙ reads level place ∙ e;
    stands = λ place below e. ap (λ z. has_place z place) g ∙ near place ∙ e;
  }

  -- its columns are at hand
  pub dependent_there : {listed : List OuterColumn} → listed ≡ wanted → (level place : ℕ)
      → has listed level place ≡ true → has outer level place ≡ true
  dependent_there {listed} f level place e =
      supplied.there level place
      (sym (reads level place) ∙ ap (λ z. has z level place) (sym f) ∙ e)

  pub dependent_stands : {places : List ℕ} → places ≡ others → (place : ℕ)
      → has_place places place ≡ true → place < n → has_place so_far place ≡ true
  dependent_stands {places} g place e below =
      supplied.stands place below (sym (near place) ∙ ap (λ z. has_place z place) (sym g) ∙ e)

  -- without columns of the row so far
  pub shared_supplied : others ≡ [] → SourceIsSupplied s outer [] v v
  shared_supplied none = record {
    before = supplied.before;
    around = supplied.around;
    kinds = supplied.kinds;
    width = same ∙ supplied.width;
    typed = supplied.typed;
    there = supplied.there;
    stands = λ place below e.
        absurd (let f = sym e ∙ sym (near place) ∙ ap (λ z. has_place z place) none in cc);
  }

  -- without any columns
  pub closed_supplied : others ≡ [] → wanted ≡ [] → SourceIsSupplied s [] [] v v
  closed_supplied none empty = record {
    before = supplied.before;
    around = supplied.around;
    kinds = supplied.kinds;
    width = same ∙ supplied.width;
    typed = supplied.typed;
    there = λ level place e.
        absurd (let f = sym e ∙ sym (reads level place) ∙ ap (λ z. has z level place) empty in cc);
    stands = λ place below e.
        absurd (let f = sym e ∙ sym (near place) ∙ ap (λ z. has_place z place) none in cc);
  }

-- the right side of a left outer join has as many columns as nulls stand for
pub kept_nulls : (s : BoundSource) (on : BoundExpr) (nulls : ℕ) (outer : List OuterColumn)
    (so_far : List ℕ) (n a : ℕ) → JoinIsSupplied s on nulls outer so_far n a → {u : ℕ}
    → IsSourceWidth s u → u ≡ nulls
kept_nulls s on nulls outer so_far n a supplied {u} right =
    right.is (supplied.before ++ supplied.left) supplied.around supplied.kinds supplied.right
    ∙ sym supplied.nulls_stand

-- it, and its ON condition, by what both read
module _ (s : BoundSource) (on : BoundExpr) (nulls : ℕ) (outer : List OuterColumn)
    (so_far : List ℕ) (n a : ℕ) (supplied : JoinIsSupplied s on nulls outer so_far n a)
    (wanted : List OuterColumn) (others : List ℕ)
    (reads : (level place : ℕ) → has wanted level place
    ≡ (seeks_of_source s level place || seeks_of_expr on (suc level) place))
    (near : (place : ℕ) → has_place others place ≡ seeks_so_far s place) where
  pub kept_supplied : {listed : List OuterColumn} {places : List ℕ} {v : ℕ} → listed ≡ wanted
      → places ≡ others → v ≡ n + a → SourceIsSupplied s listed places v v
  kept_supplied {listed} {places} {v} f g same = record {
    before = supplied.before ++ supplied.left;
    around = supplied.around;
    kinds = supplied.kinds;
    width = same ∙ ap (λ k. k + a) supplied.before_width
        ∙ ap (λ k. length supplied.before + k) supplied.width
        ∙ sym (length-append supplied.before supplied.left);
    typed = supplied.right;
    there = λ level place e.
        ap (λ z. has z level place) f ∙ reads level place
        ∙ or_left (seeks_of_source s level place) (seeks_of_expr on (suc level) place) e;
    stands = λ place below e. ap (λ z. has_place z place) g ∙ near place ∙ e;
  }

  pub kept_on_supplied : {listed : List OuterColumn} {m : ℕ} → listed ≡ wanted → m ≡ a + nulls
      → ExprIsSupplied on listed m
  kept_on_supplied {listed} {m} f wide =
      expr_supplied (supplied.left ++ supplied.kinds) supplied.around listed m
      (wide ∙ ap (λ k. k + nulls) supplied.width
      ∙ ap (λ k. length supplied.left + k) supplied.nulls_stand
      ∙ sym (length-append supplied.left supplied.kinds)) on
      (record { it = supplied.inputs; is = supplied.typed })
      (λ level place e.
      ap (λ z. has z level place) f ∙ reads level place
      ∙ or_right (seeks_of_source s level place) (seeks_of_expr on (suc level) place) e)

  pub kept_there : {listed : List OuterColumn} → listed ≡ wanted → (level place : ℕ)
      → has listed level place ≡ true → has outer level place ≡ true
  kept_there {listed} f level place e =
      either (seeks_of_source s level place) (seeks_of_expr on (suc level) place)
      (sym (reads level place) ∙ ap (λ z. has z level place) (sym f) ∙ e)
      (λ h. supplied.there level place h) (λ h. supplied.reads level place h)

  pub kept_stands : {places : List ℕ} → places ≡ others → (place : ℕ)
      → has_place places place ≡ true → place < n → has_place so_far place ≡ true
  kept_stands {places} g place e below =
      supplied.stands place below (sym (near place) ∙ ap (λ z. has_place z place) (sym g) ∙ e)
