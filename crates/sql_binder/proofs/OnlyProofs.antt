-- The one column that a name means.
use Rattle.std.proofs.Common.{ℕ, zero, suc, ◌+◌, ◌≡◌, Bool, true, false, List, [], ◌∷◌, refl}
use Rattle.std.proofs.Common.{ap, arith}
use Rattle.std.specs.Prelude.{slice_get, Some, Ok, if◌then◌else◌}
use Rattle.sql_binder_steps.specs.declared.scope.Place.{Place}
use Rattle.sql_binder_steps.specs.declared.scope.ScopeColumn.{ScopeColumn}
use Rattle.sql_binder_steps.specs.Names.{means, places, only, the_one}
use Rattle.sql_binder.specs.Laws.{OnlyColumn}

none_step : (b : Bool) (test : ScopeColumn → Bool) (c d : ScopeColumn) (cs : List ScopeColumn)
    (p : Place) (rest : List Place) (k : ℕ) → test c ≡ b → (if b then p ∷ rest else rest) ≡ [] →
    (rest ≡ [] → (j : ℕ) → slice_get cs j ≡ Some d → ⊥) → test d ≡ true
    → slice_get (c ∷ cs) k ≡ Some d → ⊥
none_step true test c d cs p rest k is e ih h t = cc
none_step false test c d cs p rest zero is e ih h t = let same : c ≡ d = cc in cc (ap test same)
none_step false test c d cs p rest (suc k) is e ih h t = ih e k t

none : (test : ScopeColumn → Bool) (at : ℕ) (cs : List ScopeColumn) (d : ScopeColumn)
    → places test at cs ≡ [] → test d ≡ true → (k : ℕ) → slice_get cs k ≡ Some d → ⊥
none test at [] d e h k t = cc
none test at (c ∷ cs) d e h k t =
    none_step (test c) test c d cs (record { at = at; kind = c.kind }) (places test (at + 1) cs) k
    refl e (λ e'. none test (at + 1) cs d e' h) h t

one_step : (b : Bool) (test : ScopeColumn → Bool) (c d : ScopeColumn) (cs : List ScopeColumn)
    (at : ℕ) (p q : Place) (rest : List Place) (k : ℕ) → test c ≡ b
    → (if b then p ∷ rest else rest) ≡ q ∷ [] → p.at ≡ at →
    (rest ≡ [] → (j : ℕ) → slice_get cs j ≡ Some d → ⊥)
    → (rest ≡ q ∷ [] → (j : ℕ) → slice_get cs j ≡ Some d → (at + 1) + j ≡ q.at) → test d ≡ true
    → slice_get (c ∷ cs) k ≡ Some d → at + k ≡ q.at
one_step true test c d cs at p q rest zero is e here ih ih' h t = let same : p ≡ q = cc in
    let s : p.at ≡ q.at = ap (λ (x : Place). x.at) same in omega arith
one_step true test c d cs at p q rest (suc k) is e here ih ih' h t = let empty : rest ≡ [] = cc in
    absurd (ih empty k t)
one_step false test c d cs at p q rest zero is e here ih ih' h t = let same : c ≡ d = cc in
    cc (ap test same)
one_step false test c d cs at p q rest (suc k) is e here ih ih' h t = let s : (at + 1) + k
    ≡ q.at = ih' e k t in omega arith

one : (test : ScopeColumn → Bool) (at : ℕ) (cs : List ScopeColumn) (d : ScopeColumn) (q : Place)
    → places test at cs ≡ q ∷ [] → test d ≡ true → (k : ℕ) → slice_get cs k ≡ Some d → at + k ≡ q.at
one test at [] d q e h k t = cc
one test at (c ∷ cs) d q e h k t =
    one_step (test c) test c d cs at (record { at = at; kind = c.kind }) q (places test (at + 1) cs)
    k refl e refl (λ e'. none test (at + 1) cs d e' h) (λ e'. one test (at + 1) cs d q e' h) h t

single_of : (ps : List Place) (q : Place) → only ps ≡ Ok q → ps ≡ q ∷ []
single_of [] q e = cc
single_of (p ∷ []) q e = let same : p ≡ q = cc in ap (λ x. x ∷ []) same
single_of (p ∷ r ∷ ps) q e = cc

pub only_column : OnlyColumn
unfolding the_one
only_column wanted columns p k c e t h =
    let s : 0 + k ≡ p.at = one (means wanted) 0 columns c p (single_of _ p e) h k t in omega arith
