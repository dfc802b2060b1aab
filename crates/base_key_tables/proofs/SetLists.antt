-- The words of `IndexSet` in those of `KeySet`.
use Rattle.std.proofs.Common.{◌≡◌, suc, ◌+◌, List, [], ◌∷◌, ◌++◌, Bool, true, false, cond, length, nat_lt, Some, None, refl, sym, ◌∙◌, ap, arith, inl, inr}
use Rattle.std.specs.Prelude.{if◌then◌else◌}
use Rattle.std.specs.List.{list_any, position, position_or_len}
use Rattle.std.proofs.lemmas.Bool.{cases_Bool, lt-ltb, le-ltb}
use Rattle.std.proofs.lemmas.Option.{slice_get_within}
use Rattle.base_row_laws.specs.Bags.{IsIdentity, has}
use Rattle.base_row_laws.specs.Numbers.{place_in}
use Rattle.base_key_tables.specs.Distinct.{added}
use Rattle.base_key_tables.proofs.NumberSteps.{any_is_has, place_new}
use Rattle.base_key_tables.proofs.HeadLists.{place_there}

-- the place of a key, or the length, in std's words
pub place_is_or_len : {K : Type 0} (same : K → K → Bool) (x : K) (ds : List K) → position_or_len (same x) ds ≡ place_in same ds x
place_is_or_len same x [] = refl
place_is_or_len same x (d ∷ ds) =
    let ih = place_is_or_len same x ds in
    let one : 1 + position_or_len (same x) ds ≡ suc (place_in same ds x) = omega (arith, ih) in
    elim (cases_Bool (same x d)) [ inl t ↦ rw t refl | inr f ↦ rw f one ]

-- a key that isn't there has the length for its place
pub absent_place : {K : Type 0} (same : K → K → Bool) (x : K) (ds : List K) → has same x ds ≡ false → place_in same ds x ≡ length ds
absent_place same x [] none = refl
absent_place same x (d ∷ ds) none = elim (cases_Bool (same x d)) [
  | inl t ↦ absurd (let none' : true ≡ false = rw t at none in cc)
  | inr f ↦ (let none' : has same x ds ≡ false = rw f at none in rw f (ap suc (absent_place same x ds none')))
]

module _ {K : Type 0} (same : K → K → Bool) (is : IsIdentity same) where
  -- the place of a key that may be there, in std's words
  pub place_is_position : (x : K) (ds : List K) → position (same x) ds ≡ cond (has same x ds) (Some (place_in same ds x)) None
  place_is_position x ds =
      let e = place_is_or_len same x ds in
      ap (λ n. cond (nat_lt n (length ds)) (Some n) None) e ∙ elim (cases_Bool (has same x ds)) [
        | inl t ↦ (let w = slice_get_within ds (place_in same ds x) x (place_there same is ds x t) in
            let lt : nat_lt (place_in same ds x) (length ds) ≡ true = lt-ltb (place_in same ds x) (length ds) w in rw (t, lt) refl)
        | inr f ↦ (let at = absent_place same x ds f in
            let le : nat_lt (place_in same ds x) (length ds) ≡ false = le-ltb (place_in same ds x) (length ds) (omega (arith, at)) in rw (f, le) refl)
      ]

  -- the place of a key that was put
  pub put_place : (x : K) (ds : List K) → position_or_len (same x) ds ≡ place_in same (added same ds x) x
  put_place x ds = place_is_or_len same x ds ∙ elim (cases_Bool (has same x ds)) [
    | inl t ↦ rw t refl
    | inr f ↦ rw f (absent_place same x ds f ∙ sym (place_new same is ds x f))
  ]

-- the keys after one was put, in std's words
pub put_keys : {K : Type 0} (same : K → K → Bool) (x : K) (ds : List K) → (if list_any (same x) ds then ds else ds ++ x ∷ []) ≡ added same ds x
put_keys same x ds = ap (λ b. cond b ds (ds ++ x ∷ [])) (any_is_has same x ds)
