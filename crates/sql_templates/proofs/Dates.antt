-- A date that was read is spelled so.
use Rattle.std.proofs.Common.{◌≡◌, true, false, Option, Some, None, Ok, Err, refl}
use Rattle.std.specs.Prelude.{is_some}
use Rattle.std.specs.Option.{ok_or}

pub spelled : {A E : Type 0} (o : Option A) (e : E) (a : A) → ok_or o e ≡ Ok a → true ≡ is_some o
spelled (Some x) e a h = refl
spelled None e a h = absurd (let no : Err e ≡ Ok a = h in cc)

pub misspelled : {A E : Type 0} (o : Option A) (e f : E) → ok_or o e ≡ Err f → false ≡ is_some o
misspelled (Some x) e f h = absurd (let no : Ok x ≡ Err f = h in cc)
misspelled None e f h = refl
