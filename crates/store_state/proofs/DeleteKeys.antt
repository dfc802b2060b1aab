-- The keys in a delete file's rows.
use Rattle.std.proofs.Common.{◌≡◌, ℕ, ◌^◌, Bool, true, false, cond, ◌&&◌, List, [], ◌∷◌, Some, None, pos, negsuc, ◌<◌, refl, arith}
use Rattle.std.specs.Prelude.{◌==◌, IsTrue, nat_lt, unwrap_or}
use Rattle.std.specs.Cmp.Lexicographic.{pointwise}
use Rattle.std.specs.List.{All}
use Rattle.std.proofs.lemmas.Bool.{ltb-true}
use Rattle.std.proofs.lemmas.Int.{ints}
use Rattle.std.proofs.lemmas.List.Elements.{All-map, All-weaker}
use Rattle.base_refusals.specs.declared.refresh.RefreshFile.TheVariants.{Delete}
use Rattle.base_value.specs.declared.value.Value.{Value}
use Rattle.base_value.specs.declared.value.Value.TheVariants as value
use Rattle.base_schema.specs.Kinds.{is_narrow, can_hold}
use Rattle.base_schema.specs.LineForm.{RowsFit, fits, refresh_form}
use Rattle.store_state.specs.Keys.{order_key, order_keys}
use Rattle.store_state.specs.Refresh.{IsOrderKey}

short_key : (n : ℕ) (b : Bool) → nat_lt n (2 ^ 63) ≡ b → IsOrderKey (unwrap_or (cond b (Some (pos n)) None) (pos 0))
short_key n true e = let less : n < 2 ^ 63 = ltb-true n (2 ^ 63) e in (omega (arith, ints), omega (arith, ints))
short_key n false e = (omega (arith, ints), omega (arith, ints))

never : (b x c : Bool) → (((b && false) && x) && c) ≡ true → ⊥
never true x c e = cc
never false x c e = cc

line_order_key : (row : List Value) → IsTrue (fits (refresh_form Delete) row) → IsOrderKey (order_key row)
line_order_key [] fit = cc
line_order_key (value.Number scale (pos n) ∷ row) fit = short_key n (nat_lt n (2 ^ 63)) refl
line_order_key (value.Number scale (negsuc n) ∷ row) fit = absurd (never (scale == 0) (is_narrow (negsuc n)) (pointwise can_hold [] row) fit)
line_order_key (value.Fault kind ∷ row) fit = cc
line_order_key (value.Text bytes ∷ row) fit = cc
line_order_key (value.Date d ∷ row) fit = cc
line_order_key (value.Null ∷ row) fit = cc

pub delete_keys : (rows : List (List Value)) → RowsFit (refresh_form Delete) rows → All IsOrderKey (order_keys rows)
delete_keys rows fit = All-map IsOrderKey order_key rows (All-weaker (λ row. IsTrue (fits (refresh_form Delete) row)) (λ row. IsOrderKey (order_key row)) line_order_key rows fit)
