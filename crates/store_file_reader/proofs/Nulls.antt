-- Fields that don't spell null.
use Rattle.std.proofs.Common.{◌≡◌, ℕ, ℤ, Bool, true, false, cond, ◌&&◌, List, [], ◌∷◌, refl, sym, ◌∙◌, ap, Option, Some, None, Result, Ok, Err}
use Rattle.std.specs.Cmp.Lexicographic.{bytes_decides}
use Rattle.base_date.specs.Date.{date_of}
use Rattle.base_decimal.specs.Written.{decimal_read}
use Rattle.base_decimal.specs.declared.read.Spelling.{Spelling}
use Rattle.base_decimal.specs.declared.read.Spelling.TheVariants.{NotANumber}
use Rattle.base_refusals.specs.declared.line.LineFault.{LineFault}
use Rattle.base_value.specs.declared.value.Value.{Value}
use Rattle.base_value.specs.declared.value.Value.TheVariants as value
use Rattle.base_schema.specs.declared.column.LineColumn.{LineColumn}
use Rattle.store_file_reader.specs.Field.{kind_field, spells_null, column_value}

-- what a field says that doesn't spell null

chosen : (nullable null : Bool) (r : Result Value LineFault) → null ≡ false → cond (nullable && null) (Ok value.Null) r ≡ r
chosen true true r e = cc
chosen true false r e = refl
chosen false null r e = refl

pub value_of_other : (column : LineColumn) (field : List ℕ) (r : Result Value LineFault) → spells_null field ≡ false → kind_field column.kind field ≡ r
    → column_value column field ≡ r
value_of_other column field r other is = chosen column.nullable (spells_null field) (kind_field column.kind field) other ∙ is

-- numbers and dates don't

pub not_null : (field : List ℕ) (b : Bool) → spells_null field ≡ b → (field ≡ 92 ∷ 78 ∷ [] → ⊥) → b ≡ false
not_null field true e unlike = absurd (unlike ((bytes_decides field (92 ∷ 78 ∷ [])).0 e))
not_null field false e unlike = refl

no_number : (n : ℤ) → ◌≡◌ {A = Result ℤ Spelling} (Err NotANumber) (Ok n) → ⊥
no_number n e = cc

no_date : (date : ℕ) → ◌≡◌ {A = Option ℕ} None (Some date) → ⊥
no_date date e = cc

pub whole_is_other : (field : List ℕ) (n : ℤ) → decimal_read field 0 ≡ Ok n → spells_null field ≡ false
whole_is_other field n e = not_null field (spells_null field) refl (λ is. no_number n (ap (λ f. decimal_read f 0) (sym is) ∙ e))

pub cents_are_other : (field : List ℕ) (n : ℤ) → decimal_read field 2 ≡ Ok n → spells_null field ≡ false
cents_are_other field n e = not_null field (spells_null field) refl (λ is. no_number n (ap (λ f. decimal_read f 2) (sym is) ∙ e))

pub date_is_other : (field : List ℕ) (date : ℕ) → date_of field ≡ Some date → spells_null field ≡ false
date_is_other field date e = not_null field (spells_null field) refl (λ is. no_date date (ap date_of (sym is) ∙ e))

pub ruleset others = (whole_is_other, cents_are_other, date_is_other)
