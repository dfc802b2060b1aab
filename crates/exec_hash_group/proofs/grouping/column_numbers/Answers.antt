use Rattle.std.proofs.Common.{ap, ◌∙◌}
use Rattle.std.specs.Ordering.{int_eq}
use Rattle.base_row_laws.specs.Numbers.{numbers_of}
use Rattle.base_key_tables.specs.Distinct.{first_places}
use Rattle.exec_hash_group.proofs.KeyCells.{codes_told, coefficients_told}
use Rattle.exec_hash_group.proofs.grouping.column_numbers.Goals as goal

pub returns-clause-numbers : goal.returns-clause-numbers
returns-clause-numbers g c =
    c.in_ok-coded.ensures.numbers ∙ ap (numbers_of int_eq) c.as_slice.ensures.value
    ∙ (codes_told c.args.column.now c.in_ok-codes.codes.items c.in_ok-codes.ensures).0

pub returns-clause-firsts : goal.returns-clause-firsts
returns-clause-firsts g c =
    c.in_ok-coded.ensures.firsts ∙ ap (first_places int_eq) c.as_slice.ensures.value
    ∙ (codes_told c.args.column.now c.in_ok-codes.codes.items c.in_ok-codes.ensures).1

pub returns-in-Some-clause-numbers : goal.returns-in-Some-clause-numbers
returns-in-Some-clause-numbers g c =
    c.in_ok-numbered.ensures.numbers ∙ (coefficients_told c.args.column.now _ c.in-Some.coefficients.now c.in-Some.ensures).0

pub returns-in-Some-clause-firsts : goal.returns-in-Some-clause-firsts
returns-in-Some-clause-firsts g c =
    c.in_ok-numbered.ensures.firsts ∙ (coefficients_told c.args.column.now _ c.in-Some.coefficients.now c.in-Some.ensures).1
