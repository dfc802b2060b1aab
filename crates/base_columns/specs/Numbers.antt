-- Numbers of 64 bits.
use Rattle.std.specs.Prelude.{ℤ, ◌^◌, Bool, Option, Some, None, if◌then◌else◌, pos, negsuc}
use Rattle.std.specs.Prelude.{nat_lt}
use Rattle.base_value.specs.declared.value.Value.{Value}
use Rattle.base_value.specs.declared.value.Value.TheVariants.{Number}

-- whether 64 bits hold a number
abbrev pub is_small : ℤ → Bool
is_small (pos n) = nat_lt n (2 ^ 63)
is_small (negsuc n) = nat_lt n (2 ^ 63)

-- a value's coefficient, where it is one of 64 bits
abbrev pub small_number : Value → Option ℤ
small_number (Number scale c) = if is_small c then Some c else None
small_number v = None
