-- Names are looked for from the innermost query on; a query is bound or refused.
use Rattle.std.proofs.Common.{ℕ, zero, suc, ◌+◌, ◌-◌, ◌<◌, ◌≡◌, ◌⊎◌, inl, inr, true, false}
use Rattle.std.proofs.Common.{List, [], ◌∷◌, length, refl, ◌∙◌, ap, arith}
use Rattle.std.specs.Prelude.{slice_get, Some, Ok, Err}
use Rattle.sql_bound_query.specs.declared.query.BoundQuery.{BoundQuery}
use Rattle.base_refusals.specs.declared.bind.BindRefusal.{BindRefusal}
use Rattle.base_refusals.specs.declared.bind.BindRefusal.TheVariants.{UnknownColumn}
use Rattle.sql_ast.specs.declared.statement.Query.{Query}
use Rattle.sql_ast.specs.declared.words.Column.{Column}
use Rattle.sql_binder_steps.specs.declared.view.View.{View}
use Rattle.sql_binder_steps.specs.Steps.{Checked}
use Rattle.sql_binder_steps.specs.Names.{Around, ends, found, resolved, resolved_from}
use Rattle.sql_binder.specs.Binding.{bound_query}
use Rattle.sql_binder.specs.Laws.{Resolution, IsBound, IsRefused}
use Rattle.sql_binder.specs.Laws.{BoundOrRefused, NotBoth, OneWay}

at_innermost : (wanted : Column) (seen at level : ℕ) (ls : List Around) (l : Around)
    → slice_get ls level ≡ Some l → ends wanted l.columns ≡ true
    → ((k : ℕ) (m : Around) → k < level → slice_get ls k ≡ Some m → ends wanted m.columns ≡ false)
    → resolved_from wanted seen at ls ≡ found wanted l (at + level) seen
at_innermost wanted seen at level [] l there has inner = cc
at_innermost wanted seen at zero (m ∷ ms) l there has inner =
    let same : m ≡ l = cc in
    rw (same, has) (ap (λ n. found wanted l n seen) (omega arith))
at_innermost wanted seen at (suc n) (m ∷ ms) l there has inner =
    let head : ends wanted m.columns ≡ false = inner 0 m (omega arith) refl in
    let step : resolved_from wanted seen (at + 1) ms ≡ found wanted l ((at + 1) + n) seen =
    at_innermost wanted seen (at + 1) n ms l there has
    (λ k m' below e. inner (suc k) m' (omega arith) e) in
    rw head (step ∙ ap (λ n. found wanted l n seen) (omega arith))

at_nowhere : (wanted : Column) (seen at : ℕ) (ls : List Around)
    → ((k : ℕ) (m : Around) → slice_get ls k ≡ Some m → ends wanted m.columns ≡ false)
    → resolved_from wanted seen at ls ≡ Err UnknownColumn
at_nowhere wanted seen at [] none = refl
at_nowhere wanted seen at (m ∷ ms) none =
    rw (none 0 m refl) (at_nowhere wanted seen (at + 1) ms (λ k m' e. none (suc k) m' e))

pub resolution : Resolution
unfolding resolved
resolution sight wanted = (
  λ level l h. at_innermost wanted (length sight.levels - sight.hidden) 0 level sight.levels l
      h.there h.has h.inner ∙ ap (λ n. found wanted l n (length sight.levels - sight.hidden))
      (omega arith),
  λ h. at_nowhere wanted (length sight.levels - sight.hidden) 0 sight.levels h.none,
)

split_result : (q : Query) (views : List View) (r : Checked BoundQuery) → bound_query q views ≡ r
    → ((bound : BoundQuery) × IsBound q views bound) ⊎ ((why : BindRefusal) × IsRefused q views why)
split_result q views (Ok b) e = inl (b, record { is = e })
split_result q views (Err why) e = inr (why, record { is = e })

pub bound_or_refused : BoundOrRefused
bound_or_refused q views = split_result q views (bound_query q views) refl

apart_results : (r : Checked BoundQuery) (bound : BoundQuery) (why : BindRefusal) → r ≡ Ok bound
    → r ≡ Err why → ⊥
apart_results r bound why e f = cc

same_bound : (r : Checked BoundQuery) (a b : BoundQuery) → r ≡ Ok a → r ≡ Ok b → a ≡ b
same_bound r a b e f = cc

same_cause : (r : Checked BoundQuery) (a b : BindRefusal) → r ≡ Err a → r ≡ Err b → a ≡ b
same_cause r a b e f = cc

pub not_both : NotBoth
not_both q views bound why b r = apart_results (bound_query q views) bound why b.is r.is

pub one_way : OneWay
one_way = (
  λ q views a b h k. same_bound (bound_query q views) a b h.is k.is,
  λ q views a b h k. same_cause (bound_query q views) a b h.is k.is,
)
