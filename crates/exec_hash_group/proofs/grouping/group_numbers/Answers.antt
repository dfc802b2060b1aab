use Rattle.std.proofs.Common.{ℕ, List, length, ap, sym, subst, arith, ◌∙◌}
use Rattle.base_row_laws.specs.Numbers.{numbers_of}
use Rattle.base_key_tables.specs.Distinct.{first_places}
use Rattle.base_key_tables.specs.Keys.{same_two}
use Rattle.base_value.specs.declared.value.Value.{Value}
use Rattle.base_value.specs.Value.{same_value}
use Rattle.base_columns.specs.Batches.{AreLong}
use Rattle.exec_row_keys.specs.Keys.{AreKeys}
use Rattle.exec_hash_group.proofs.KeyCells.{long_keys, keys_told, column_told}
use Rattle.exec_hash_group.proofs.grouping.group_numbers.Goals as goal

pub keys_of_columns-requires : goal.keys_of_columns-requires
keys_of_columns-requires g c =
    let L : ℕ → Type 0 = λ n. AreLong n c.args.columns.now in
    let M : List (List Value) → Type 0 = λ cs. AreLong (length c.args.bag.now.rows) cs in
    subst L (sym c.len.ensures) (subst M (sym c.requires.columns) (long_keys c.args.bag.now.rows c.args.by.now))

pub returns-clause-numbers : goal.returns-clause-numbers
returns-clause-numbers g c =
    let K : ℕ → Type 0 = λ n. AreKeys c.args.columns.now n c.in_ok-keys.keys.items in
    let M : List (List Value) → Type 0 = λ cs. AreKeys cs (length c.args.bag.now.rows) c.in_ok-keys.keys.items in
    c.in_ok-numbered.ensures.numbers ∙ ap (numbers_of same_two) c.as_slice.ensures.value
    ∙ (keys_told c.args.bag.now.rows c.args.by.now c.in_ok-keys.keys.items (subst M c.requires.columns (subst K c.len.ensures c.in_ok-keys.ensures))).0

pub returns-clause-firsts : goal.returns-clause-firsts
returns-clause-firsts g c =
    let K : ℕ → Type 0 = λ n. AreKeys c.args.columns.now n c.in_ok-keys.keys.items in
    let M : List (List Value) → Type 0 = λ cs. AreKeys cs (length c.args.bag.now.rows) c.in_ok-keys.keys.items in
    c.in_ok-numbered.ensures.firsts ∙ ap (first_places same_two) c.as_slice.ensures.value
    ∙ (keys_told c.args.bag.now.rows c.args.by.now c.in_ok-keys.keys.items (subst M c.requires.columns (subst K c.len.ensures c.in_ok-keys.ensures))).1

pub returns-then-columns-eq1-clause-numbers : goal.returns-then-columns-eq1-clause-numbers
returns-then-columns-eq1-clause-numbers g c =
    c.in_ok-alone.ensures.numbers ∙ ap (numbers_of same_value) c.index-columns-0.is
    ∙ (column_told c.args.bag.now.rows c.args.by.now c.args.columns.now c.index-columns-0.result c.requires.columns (omega arith)).0

pub returns-then-columns-eq1-clause-firsts : goal.returns-then-columns-eq1-clause-firsts
returns-then-columns-eq1-clause-firsts g c =
    c.in_ok-alone.ensures.firsts ∙ ap (first_places same_value) c.index-columns-0.is
    ∙ (column_told c.args.bag.now.rows c.args.by.now c.args.columns.now c.index-columns-0.result c.requires.columns (omega arith)).1
