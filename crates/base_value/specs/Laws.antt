-- Laws of identity, order and rank.
use Rattle.std.specs.Prelude.{◌≡◌, ◌≢◌, ℕ, ℤ, true, List}
use Rattle.std.specs.declared.cmp.Ordering.TheVariants.{Less}
use Rattle.std.specs.Ordering.{is_eq}
use Rattle.std.specs.Cmp.{IsTotalOrder}
use Rattle.base_decimal.specs.Decimal.{decimal_cmp}
use Rattle.base_row_laws.specs.Bags.{IsIdentity}
use Rattle.base_value.specs.declared.truth.Standing.{Standing}
use Rattle.base_value.specs.declared.truth.Truth.{Truth}
use Rattle.base_value.specs.declared.value.Value.{Value}
use Rattle.base_value.specs.declared.value.Value.TheVariants.{Null, Number}
use Rattle.base_value.specs.Truth.{standing_rank, truth_rank}
use Rattle.base_value.specs.Value.{same_value, same_row, value_cmp, row_cmp}

-- the tests of identity hold of each value and row with itself, and of no two that differ
abbrev pub IdentityIsTold : Type 0
IdentityIsTold = IsIdentity same_value × IsIdentity same_row

-- the order of values is total, and that of rows by all columns
abbrev pub OrderIsTotal : Type 0
OrderIsTotal = IsTotalOrder value_cmp × IsTotalOrder row_cmp

-- rows that tie are the same row
abbrev pub TiesAreIdentical : Type 0
TiesAreIdentical = (x y : List Value) → is_eq (row_cmp x y) ≡ true → x ≡ y

-- each value but null comes before null
abbrev pub NullIsLast : Type 0
NullIsLast = (v : Value) → v ≢ Null → value_cmp v Null ≡ Less

-- two standings, or two truths, of one rank are the same
abbrev pub RanksTellApart : Type 0
RanksTellApart =
    ((s t : Standing) → standing_rank s ≡ standing_rank t → s ≡ t)
    × ((a b : Truth) → truth_rank a ≡ truth_rank b → a ≡ b)

-- numbers of one scale are in the order of the decimals that they stand for
abbrev pub OrderIsOfDecimals : Type 0
OrderIsOfDecimals =
    (s : ℕ) (a b : ℤ) → value_cmp (Number s a) (Number s b) ≡ decimal_cmp a s b s
