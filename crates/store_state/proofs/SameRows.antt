-- Rows that are found to be the same.
use Rattle.std.proofs.Common.{◌≡◌, ℕ, suc, ◌<◌, List, [], ◌∷◌, length, true, refl, sym, ap, ◌∙◌, arith}
use Rattle.std.specs.Prelude.{slice_index_or}
use Rattle.std.specs.List.{All}
use Rattle.base_value.specs.declared.value.Value.{Value}
use Rattle.base_value.specs.declared.value.Value.TheVariants.{Null, Number, Text, Date, Fault}
use Rattle.base_columns.specs.Batches.{column_at}
use Rattle.base_columns.specs.Forms.{is_null}
use Rattle.base_columns.specs.Tables.{standing_rows}

head_same : {A : Type 0} (x y : A) (xs ys : List A) → (x ∷ xs) ≡ (y ∷ ys) → x ≡ y
head_same x y xs ys e = cc

tail_same : {A : Type 0} (x y : A) (xs ys : List A) → (x ∷ xs) ≡ (y ∷ ys) → xs ≡ ys
tail_same x y xs ys e = cc

-- two lists of one length have the same element at each place
pub same_places : {A : Type 0} (d : A) (xs ys : List A) → length xs ≡ length ys
    → ((j : ℕ) → j < length xs → slice_index_or xs j d ≡ slice_index_or ys j d) → xs ≡ ys
same_places d [] [] e same = refl
same_places d [] (y ∷ ys) e same = absurd (omega (arith, e))
same_places d (x ∷ xs) [] e same = absurd (omega (arith, e))
same_places d (x ∷ xs) (y ∷ ys) e same =
    let first : x ≡ y = same 0 (omega arith) in
    let rest : xs ≡ ys = same_places d xs ys (omega (arith, e)) (λ j less. same (suc j) (omega (arith, less))) in
    ap (λ z. z ∷ xs) first ∙ ap (λ l. y ∷ l) rest

-- rows of one width whose columns are the same
pub same_columns : (width : ℕ) (xs ys : List (List Value)) → All (λ row. length row ≡ width) xs
    → All (λ row. length row ≡ width) ys → length xs ≡ length ys
    → ((j : ℕ) → j < width → column_at (standing_rows xs) j ≡ column_at (standing_rows ys) j) → xs ≡ ys
same_columns width [] [] wide broad e same = refl
same_columns width [] (y ∷ ys) wide broad e same = absurd (omega (arith, e))
same_columns width (x ∷ xs) [] wide broad e same = absurd (omega (arith, e))
same_columns width (x ∷ xs) (y ∷ ys) wide broad e same =
    let long : length x ≡ width = wide 0 [] (omega arith) in
    let alike : length y ≡ width = broad 0 [] (omega arith) in
    let first : x ≡ y = same_places Null x y (long ∙ sym alike) (λ j less. head_same _ _ _ _ (same j (omega (arith, less, long)))) in
    let rest : xs ≡ ys = same_columns width xs ys (λ k other less. wide (suc k) other (omega (arith, less)))
    (λ k other less. broad (suc k) other (omega (arith, less))) (omega (arith, e)) (λ j less. tail_same _ _ _ _ (same j less)) in
    ap (λ z. z ∷ xs) first ∙ ap (λ l. y ∷ l) rest

-- two nulls
pub both_null : (v w : Value) → is_null v ≡ true → is_null w ≡ true → v ≡ w
both_null Null Null e f = refl
both_null Null (Number s c) e f = cc
both_null Null (Text t) e f = cc
both_null Null (Date d) e f = cc
both_null Null (Fault k) e f = cc
both_null (Number s c) w e f = cc
both_null (Text t) w e f = cc
both_null (Date d) w e f = cc
both_null (Fault k) w e f = cc

pub ruleset nulls = (both_null)
