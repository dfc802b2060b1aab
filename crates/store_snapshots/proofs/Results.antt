-- What is known of a result, from one fact or two.
use Rattle.std.proofs.Common.{◌≡◌, Some, None, Ok, Err, ap, subst, sym}
use Rattle.std.specs.Prelude.{IfOk, MatchResult, OnOk, Option, Result}
use Rattle.std.specs.Result.{result_ok}

-- of the value that it has
pub of_value : {T E : Type 0} (P : T → Type 0) (r : Result T E) (t : T) → Some t ≡ result_ok r → IfOk r P → P t
of_value {T} P (Ok x) t is h = subst P (ap (λ (o : Option T). elim o [ Some p ↦ p | None ↦ x ]) (sym is)) h
of_value {T} P (Err e) t is h =
    let some_only : Option T → Type 0 = λ o. elim o [ Some p ↦ Unit {0} | None ↦ P t ] in
    subst some_only is tt

-- where it has one, each of two facts
pub on_both : {T E Q : Type 0} {A B : T → Type 0} (C D : E → Type 0) (r : Result T E) → MatchResult r A C → MatchResult r B D → ((t : T) → A t → B t → Q) → OnOk r Q
on_both C D (Ok t) a b both = both t a b
on_both C D (Err e) a b both = tt
