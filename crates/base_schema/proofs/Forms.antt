-- The key of a line stands within it.
use Rattle.std.proofs.Common.{◌≡◌, ℕ, zero, suc, ◌<◌, ◌≤◌, true, List, [], ◌∷◌, length, get_or}
use Rattle.std.proofs.Common.{refl, arith}
use Rattle.std.specs.Prelude.{nat_lt}
use Rattle.std.specs.List.{All, list_all}
use Rattle.std.proofs.lemmas.Bool.{and_parts, ltb-true}
use Rattle.base_refusals.specs.declared.refresh.RefreshFile.TheVariants as refresh
use Rattle.base_schema.specs.declared.column.ColumnKind.{ColumnKind}
use Rattle.base_schema.specs.declared.file.DataFile.{DataFile}
use Rattle.base_schema.specs.declared.file.DataFile.TheVariants.{Table, Refresh}
use Rattle.base_schema.specs.declared.table.TableName.{TableName}
use Rattle.base_schema.specs.declared.table.TableName.TheVariants.{Region, Nation, Part, Supplier}
use Rattle.base_schema.specs.declared.table.TableName.TheVariants.{Partsupp, Customer, Orders}
use Rattle.base_schema.specs.declared.table.TableName.TheVariants.{Lineitem}
use Rattle.base_schema.specs.LineForm.{file_form}
use Rattle.base_schema.specs.Tables.{kinds_of}

all_below : (n : ℕ) (xs : List ℕ) → list_all (λ x. nat_lt x n) xs ≡ true → (k d : ℕ) → k < length xs
    → get_or xs k d < n
all_below n [] e k d h = absurd (omega (arith, h))
all_below n (x ∷ xs) e zero d h = ltb-true x n (and_parts _ _ e).0
all_below n (x ∷ xs) e (suc k) d h = all_below n xs (and_parts _ _ e).1 k d (omega (arith, h))

tested : (file : DataFile)
    → list_all (λ place. nat_lt place (length (file_form file).columns)) (file_form file).key ≡ true
tested (Table Region) = refl
tested (Table Nation) = refl
tested (Table Part) = refl
tested (Table Supplier) = refl
tested (Table Partsupp) = refl
tested (Table Customer) = refl
tested (Table Orders) = refl
tested (Table Lineitem) = refl
tested (Refresh refresh.Orders) = refl
tested (Refresh refresh.Lineitem) = refl
tested (Refresh refresh.Delete) = refl

pub keys_inside : (file : DataFile) (key : List ℕ) → key ≡ (file_form file).key
    → All (λ place. place < length (file_form file).columns) key
keys_inside file key e =
    rw e (all_below (length (file_form file).columns) (file_form file).key (tested file))
