-- Which numbers a column can hold.
use Rattle.std.proofs.Common.{◌≡◌, ℕ, ◌≤◌, ◌^◌, false, ℤ, unsigned_abs, refl}
use Rattle.std.proofs.lemmas.Bool.{le-ltb, and_right}
use Rattle.base_value.specs.declared.value.Value.TheVariants.{Number}
use Rattle.base_schema.specs.declared.column.ColumnKind.{ColumnKind}
use Rattle.base_schema.specs.declared.column.ColumnKind.TheVariants.{Key, Whole, Decimal, Date, Text}
use Rattle.base_schema.specs.Kinds.{is_of_kind}

-- a number of more than 63 bits is held by no column
pub wide_is_not_held : (kind : ColumnKind) (scale : ℕ) (c : ℤ) → 2 ^ 63 ≤ unsigned_abs c → is_of_kind kind (Number scale c) ≡ false
wide_is_not_held Key scale c h = and_right _ _ (le-ltb (unsigned_abs c) (2 ^ 63) h)
wide_is_not_held Whole scale c h = and_right _ _ (le-ltb (unsigned_abs c) (2 ^ 63) h)
wide_is_not_held Decimal scale c h = and_right _ _ (le-ltb (unsigned_abs c) (2 ^ 63) h)
wide_is_not_held Date scale c h = refl
wide_is_not_held (Text most) scale c h = refl
