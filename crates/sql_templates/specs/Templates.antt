-- The templates of the 22 queries, and their texts with values put in.
use Rattle.std.specs.Prelude.{ℕ, ◌+◌, ◌-◌, ◌*◌, ◌==◌, ◌&&◌, Bool, false, nat_le, min, int_le, pos}
use Rattle.std.specs.Prelude.{List, [], ◌∷◌, ◌++◌, length, map, Option, Some, None, is_some, Result}
use Rattle.std.specs.Prelude.{Ok, Err, slice_index_or, if◌then◌else◌}
use Rattle.std.specs.Char.{is_ascii_digit}
use Rattle.std.specs.List.{flat_map}
use Rattle.base_date.specs.Date.{date_of}
use Rattle.base_decimal.specs.Written.{decimal_written}
use Rattle.base_refusals.specs.declared.statement.TemplateRefusal.{TemplateRefusal}
use Rattle.base_refusals.specs.declared.statement.TemplateRefusal.TheVariants.{NoSuchQuery}
use Rattle.base_refusals.specs.declared.statement.TemplateRefusal.TheVariants.{WrongCount}
use Rattle.base_refusals.specs.declared.statement.TemplateRefusal.TheVariants.{WrongKind}
use Rattle.sql_ast.specs.declared.statement.TemplateValue.{TemplateValue}
use Rattle.sql_ast.specs.declared.statement.TemplateValue.TheVariants as value
use Rattle.sql_templates.specs.declared.kind.ValueKind.{ValueKind}
use Rattle.sql_templates.specs.declared.kind.ValueKind.TheVariants.{Text, Date, Number, Whole}
use Rattle.sql_templates.specs.declared.texts.TheConstants.{QUERY_1, QUERY_2, QUERY_3, QUERY_4}
use Rattle.sql_templates.specs.declared.texts.TheConstants.{QUERY_5, QUERY_6, QUERY_7, QUERY_8}
use Rattle.sql_templates.specs.declared.texts.TheConstants.{QUERY_9, QUERY_10, QUERY_11, QUERY_12}
use Rattle.sql_templates.specs.declared.texts.TheConstants.{QUERY_13, QUERY_14, QUERY_15}
use Rattle.sql_templates.specs.declared.texts.TheConstants.{QUERY_16, QUERY_17, QUERY_18}
use Rattle.sql_templates.specs.declared.texts.TheConstants.{QUERY_19, QUERY_20, QUERY_21}
use Rattle.sql_templates.specs.declared.texts.TheConstants.{QUERY_22}

-- a template: what its places take, and its text, with `:k` where value k stands
pub record Template : Type 0 where
  pub kinds : List ValueKind
  pub text : List ℕ

-- the templates of the queries 1 to 22
abbrev pub templates : List Template
templates =
    record { kinds = Whole ∷ []; text = QUERY_1.now }
    ∷ record { kinds = Whole ∷ Text ∷ Text ∷ []; text = QUERY_2.now }
    ∷ record { kinds = Text ∷ Date ∷ []; text = QUERY_3.now }
    ∷ record { kinds = Date ∷ []; text = QUERY_4.now }
    ∷ record { kinds = Text ∷ Date ∷ []; text = QUERY_5.now }
    ∷ record { kinds = Date ∷ Number ∷ Number ∷ []; text = QUERY_6.now }
    ∷ record { kinds = Text ∷ Text ∷ []; text = QUERY_7.now }
    ∷ record { kinds = Text ∷ Text ∷ Text ∷ []; text = QUERY_8.now }
    ∷ record { kinds = Text ∷ []; text = QUERY_9.now }
    ∷ record { kinds = Date ∷ []; text = QUERY_10.now }
    ∷ record { kinds = Text ∷ Number ∷ []; text = QUERY_11.now }
    ∷ record { kinds = Text ∷ Text ∷ Date ∷ []; text = QUERY_12.now }
    ∷ record { kinds = Text ∷ Text ∷ []; text = QUERY_13.now }
    ∷ record { kinds = Date ∷ []; text = QUERY_14.now }
    ∷ record { kinds = Date ∷ []; text = QUERY_15.now }
    ∷ record {
      kinds = Text ∷ Text ∷ Whole ∷ Whole ∷ Whole ∷ Whole ∷ Whole ∷ Whole ∷ Whole ∷ Whole
          ∷ [];
      text = QUERY_16.now;
    }
    ∷ record { kinds = Text ∷ Text ∷ []; text = QUERY_17.now }
    ∷ record { kinds = Number ∷ []; text = QUERY_18.now }
    ∷ record { kinds = Number ∷ Number ∷ Number ∷ Text ∷ Text ∷ Text ∷ []; text = QUERY_19.now }
    ∷ record { kinds = Text ∷ Date ∷ Text ∷ []; text = QUERY_20.now }
    ∷ record { kinds = Text ∷ []; text = QUERY_21.now }
    ∷ record { kinds = Text ∷ Text ∷ Text ∷ Text ∷ Text ∷ Text ∷ Text ∷ []; text = QUERY_22.now }
    ∷ []

-- a template of no places and no bytes
abbrev pub no_template : Template
no_template = record { kinds = []; text = [] }

-- the template of a query
abbrev pub template_of : ℕ → Template
template_of number = slice_index_or templates (number - 1) no_template

-- a number that a query has
abbrev pub is_query : ℕ → Bool
is_query number = nat_le 1 number && nat_le number 22

-- a place of the kind takes the value
abbrev pub fits : ValueKind → TemplateValue → Bool
fits Text (value.Text text) = nat_le (length text) 1000
fits Date (value.Text text) = is_some (date_of text)
fits Number (value.Number number places) = int_le (pos 0) number
fits Whole (value.Number number places) =
    places == 0 && (int_le (pos 0) number && int_le number (pos 999_999))
fits kind v = false

-- the number of the first place, counted on from one, that doesn't take its value
abbrev pub first_misfit : ℕ → List ValueKind → List TemplateValue → Option ℕ
first_misfit place [] values = None
first_misfit place (kind ∷ kinds) [] = None
first_misfit place (kind ∷ kinds) (v ∷ values) =
    if fits kind v then first_misfit (place + 1) kinds values else Some place

-- a text as it stands between quotes: each quote in it twice
abbrev pub doubled : List ℕ → List ℕ
doubled text = flat_map (λ b. if b == 39 then 39 ∷ b ∷ [] else b ∷ []) text

-- a value as it is put into a template: a text's bytes with each quote twice, a number as answers
-- print it
abbrev pub put : TemplateValue → List ℕ
put (value.Text text) = doubled text
put (value.Number number places) = decimal_written number places

-- the value of a number as it is put in, counted from 1
abbrev pub put_value : List TemplateValue → ℕ → List ℕ
put_value values k = slice_index_or (map put values) (k - 1) []

-- The number so far and one more digit. No template has a place of a number past 99.
abbrev pub place_with : ℕ → ℕ → ℕ
place_with k digit = min 99 (10 * k + (digit - 48))

-- A text with the values put in: each colon and all the digits after it are a place's number.
-- `Some` has the number so far, where a colon and perhaps digits came just before.
abbrev pub filled : List TemplateValue → Option ℕ → List ℕ → List ℕ
filled values None [] = []
filled values (Some k) [] = put_value values k
filled values None (b ∷ bs) = if b == 58 then filled values (Some 0) bs else b
    ∷ filled values None bs
filled values (Some k) (b ∷ bs) =
    if is_ascii_digit b then filled values (Some (place_with k b)) bs
    else put_value values k
    ++ (if b == 58 then filled values (Some 0) bs else b ∷ filled values None bs)

-- the text with the values put in, where each place takes its value
abbrev pub unless_misfit : Option ℕ → List ℕ → Result (List ℕ) TemplateRefusal
unless_misfit (Some place) text = Err (WrongKind place)
unless_misfit None text = Ok text

-- the text of a template with these values, or why there is none: first how many values, then the
-- first misfit
abbrev pub filled_template : Template → List TemplateValue → Result (List ℕ) TemplateRefusal
filled_template template values =
    if length values == length template.kinds
    then unless_misfit (first_misfit 1 template.kinds values) (filled values None template.text)
    else Err WrongCount

-- the text of a query with these values, or why there is none
abbrev pub filled_query : ℕ → List TemplateValue → Result (List ℕ) TemplateRefusal
filled_query number values =
    if is_query number then filled_template (template_of number) values else Err NoSuchQuery
