-- The worked examples, computed.
use Rattle.base_text.specs.Pattern.{is_like, some_rest}
use Rattle.base_decimal.specs.Decimal.{rescaled, sum_of, difference_of, quotient_of}
use Rattle.expr_scalar.specs.Meaning.{operated, values, truths, chosen}
use Rattle.expr_scalar.specs.Examples.{WorkedNumbers, WorkedValues, WorkedConditions, WorkedTests}
use Rattle.expr_scalar.proofs.Opened.{values_opened, truths_opened, operation_is, branch_is}

pub worked_numbers : WorkedNumbers
unfolding operated rescaled sum_of difference_of quotient_of
worked_numbers = (simp (values_opened, operation_is), simp (values_opened, operation_is), simp (values_opened, operation_is), simp (values_opened, operation_is))

pub worked_values : WorkedValues
unfolding operated chosen rescaled quotient_of
worked_values = (simp values_opened, simp values_opened, simp (values_opened, truths_opened, branch_is), simp (values_opened, truths_opened, branch_is), simp (values_opened, truths_opened, branch_is), simp (values_opened, truths_opened, branch_is, operation_is), simp values_opened, simp values_opened)

pub worked_conditions : WorkedConditions
unfolding operated values truths rescaled quotient_of
worked_conditions = (simp (values_opened, truths_opened, operation_is), simp (values_opened, truths_opened, operation_is), simp (values_opened, truths_opened, operation_is), simp (values_opened, truths_opened, operation_is), simp (values_opened, truths_opened, operation_is), simp (values_opened, truths_opened, operation_is))

pub worked_tests : WorkedTests
unfolding operated values truths rescaled quotient_of is_like some_rest
worked_tests = (simp (values_opened, truths_opened), simp (values_opened, truths_opened), simp (values_opened, truths_opened), simp (values_opened, truths_opened), simp (values_opened, truths_opened), simp (values_opened, truths_opened), simp (values_opened, truths_opened), simp (values_opened, truths_opened), simp (values_opened, truths_opened, operation_is), simp (values_opened, truths_opened), simp (values_opened, truths_opened))
