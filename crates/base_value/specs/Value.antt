-- Identity and order of values.
use Rattle.std.specs.Prelude.{ℕ, Bool, true, false, ◌&&◌, ◌==◌, List}
use Rattle.std.specs.declared.cmp.Ordering.{Ordering}
use Rattle.std.specs.Ordering.{nat_cmp, int_cmp, int_eq, ordering_then}
use Rattle.std.specs.Cmp.Lexicographic.{pointwise, slice_cmp}
use Rattle.base_value.specs.declared.value.Value.{Value}
use Rattle.base_value.specs.declared.value.Value.TheVariants.{Null, Fault, Number, Text, Date}
use Rattle.base_value.specs.Truth.{fault_rank}

-- identity as a test: null is identical to null, a fault to the same fault, a number to the same
-- number of its scale
abbrev pub same_value : Value → Value → Bool
same_value (Fault f) (Fault g) = fault_rank f == fault_rank g
same_value (Number s a) (Number t b) = (s == t) && int_eq a b
same_value (Text a) (Text b) = pointwise ◌==◌ a b
same_value (Date a) (Date b) = a == b
same_value Null Null = true
same_value x y = false

-- identity of rows
abbrev pub same_row : List Value → List Value → Bool
same_row = pointwise same_value

-- the order of the kinds, null last
abbrev pub kind_rank : Value → ℕ
kind_rank (Fault f) = 0
kind_rank (Number s c) = 1
kind_rank (Text t) = 2
kind_rank (Date d) = 3
kind_rank Null = 4

-- the ascending order of ORDER BY: within a column, whose numbers have one scale, by the values
abbrev pub value_cmp : Value → Value → Ordering
value_cmp (Fault f) (Fault g) = nat_cmp (fault_rank f) (fault_rank g)
value_cmp (Number s a) (Number t b) = ordering_then (nat_cmp s t) (int_cmp a b)
value_cmp (Text a) (Text b) = slice_cmp nat_cmp a b
value_cmp (Date a) (Date b) = nat_cmp a b
value_cmp x y = nat_cmp (kind_rank x) (kind_rank y)

-- rows by all their columns, from left to right
abbrev pub row_cmp : List Value → List Value → Ordering
row_cmp = slice_cmp value_cmp
