-- The chain of truth, False < Unknown < TooManyRows < DivideByZero < NumberRange < True.
use Rattle.std.specs.Prelude.{ℕ, nat_le, if◌then◌else◌, Option, Some, None}
use Rattle.base_row_laws.specs.Ranked.{false_rank, unknown_rank, too_many_rows_rank, divide_by_zero_rank}
use Rattle.base_row_laws.specs.Ranked.{number_range_rank, true_rank}
use Rattle.base_value.specs.declared.truth.Fault.{Fault}
use Rattle.base_value.specs.declared.truth.Fault.TheVariants.{TooManyRows, DivideByZero, NumberRange}
use Rattle.base_value.specs.declared.truth.Standing.{Standing}
use Rattle.base_value.specs.declared.truth.Standing.TheVariants.{AtFault, AtTrue}
use Rattle.base_value.specs.declared.truth.Truth.{Truth}
use Rattle.base_value.specs.declared.truth.Truth.TheVariants.{False, Unknown, Stands}

-- a fault's place in the chain
abbrev pub fault_rank : Fault → ℕ
fault_rank TooManyRows = too_many_rows_rank
fault_rank DivideByZero = divide_by_zero_rank
fault_rank NumberRange = number_range_rank

-- a standing's place in the chain
abbrev pub standing_rank : Standing → ℕ
standing_rank (AtFault f) = fault_rank f
standing_rank AtTrue = true_rank

-- a truth's place in the chain
abbrev pub truth_rank : Truth → ℕ
truth_rank False = false_rank
truth_rank Unknown = unknown_rank
truth_rank (Stands s) = standing_rank s

-- AND
abbrev pub lesser : Truth → Truth → Truth
lesser a b = if nat_le (truth_rank a) (truth_rank b) then a else b

-- OR
abbrev pub greater : Truth → Truth → Truth
greater a b = if nat_le (truth_rank a) (truth_rank b) then b else a

-- NOT
abbrev pub negated : Truth → Truth
negated False = Stands AtTrue
negated Unknown = Unknown
negated (Stands (AtFault f)) = Stands (AtFault f)
negated (Stands AtTrue) = False

-- the lesser of two faults
abbrev pub least_fault : Fault → Fault → Fault
least_fault f g = if nat_le (fault_rank f) (fault_rank g) then f else g

-- the lesser of two standings
abbrev pub lesser_standing : Standing → Standing → Standing
lesser_standing a b = if nat_le (standing_rank a) (standing_rank b) then a else b

-- the greater of two standings
abbrev pub greater_standing : Standing → Standing → Standing
greater_standing a b = if nat_le (standing_rank a) (standing_rank b) then b else a

-- how a row goes on under a condition: at the lesser of both, kept where that is above Unknown
abbrev pub kept : Standing → Truth → Option Standing
kept s False = None
kept s Unknown = None
kept s (Stands t) = Some (lesser_standing s t)
