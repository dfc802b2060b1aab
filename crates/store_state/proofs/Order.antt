-- The order of a state's lists is the schema's.
use Rattle.std.proofs.Common.{[], ◌∷◌, arith, refl}
use Rattle.base_schema.specs.declared.table.TableName.TheVariants.{Region, Nation, Part, Supplier, Partsupp, Customer, Orders, Lineitem}
use Rattle.store_state.specs.Laws.{ListsLaw, PlaceLaw}

pub place_law : PlaceLaw
place_law Region = refl
place_law Nation = refl
place_law Part = refl
place_law Supplier = refl
place_law Partsupp = refl
place_law Customer = refl
place_law Orders = refl
place_law Lineitem = refl

pub lists_law : ListsLaw
lists_law [] eight = absurd (omega arith)
lists_law (a ∷ []) eight = absurd (omega arith)
lists_law (a ∷ b ∷ []) eight = absurd (omega arith)
lists_law (a ∷ b ∷ c ∷ []) eight = absurd (omega arith)
lists_law (a ∷ b ∷ c ∷ d ∷ []) eight = absurd (omega arith)
lists_law (a ∷ b ∷ c ∷ d ∷ e ∷ []) eight = absurd (omega arith)
lists_law (a ∷ b ∷ c ∷ d ∷ e ∷ f ∷ []) eight = absurd (omega arith)
lists_law (a ∷ b ∷ c ∷ d ∷ e ∷ f ∷ g ∷ []) eight = absurd (omega arith)
lists_law (a ∷ b ∷ c ∷ d ∷ e ∷ f ∷ g ∷ h ∷ []) eight = refl
lists_law (a ∷ b ∷ c ∷ d ∷ e ∷ f ∷ g ∷ h ∷ i ∷ more) eight = absurd (omega arith)
