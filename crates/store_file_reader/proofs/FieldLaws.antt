-- What a line gives is what its fields say.
use Rattle.std.proofs.Common.{◌≡◌, ℕ, ◌<◌, Bool, true, false, cond, List, [], ◌∷◌, ◌++◌, length, map, refl, sym, ◌∙◌, ap, Result, Ok, Err}
use Rattle.std.specs.List.{before_first, after_first, zip}
use Rattle.base_refusals.specs.declared.line.LineFault.{LineFault}
use Rattle.base_refusals.specs.declared.line.LineFault.TheVariants.{FieldCount, BadNumber, NumberTooWide, BadDate, BadText, TextTooLong, DuplicateKey, FileTooLong}
use Rattle.base_value.specs.declared.value.Value.{Value}
use Rattle.base_schema.specs.declared.column.LineColumn.{LineColumn}
use Rattle.store_file_reader.specs.Field.{column_value}
use Rattle.store_file_reader.specs.Line.{is_bar, has_fields, put_first, values_of, row_of}
use Rattle.store_file_reader.specs.LineLaws.{AreFieldsOf, value_said, AreValuesOf, IsFirstBadField, IsBadLine}
use Rattle.store_file_reader.proofs.LineFaults.{IsOfField, values_fault_of}
use Rattle.store_file_reader.proofs.FieldCuts.{cuts, Cut, fields_are_cuts, cuts_are_fields}

-- columns with their fields

-- what the fields of columns say, up to the first fault
abbrev all_said : List (LineColumn × List ℕ) → Result (List Value) LineFault
all_said [] = Ok []
all_said (column ∷ columns) = put_first (value_said column) (all_said columns)

values_are : (columns : List LineColumn) (text : List ℕ) → values_of columns text ≡ all_said (zip columns (cuts (length columns) text))
values_are [] text = refl
values_are (column ∷ columns) text = ap (put_first (column_value column (before_first is_bar text))) (values_are columns (after_first is_bar text))

record Put (r : Result Value LineFault) (s : Result (List Value) LineFault) (values : List Value) : Type 0 where
  value : Value
  others : List Value
  first : r ≡ Ok value
  rest : s ≡ Ok others
  is : value ∷ others ≡ values

put : (r : Result Value LineFault) (s : Result (List Value) LineFault) (values : List Value) → put_first r s ≡ Ok values → Put r s values
put (Ok v) (Ok vs) values e = record { value = v; others = vs; first = refl; rest = refl; is = cc }
put (Ok v) (Err fault) values e = cc
put (Err fault) s values e = cc

each_said : (columns : List (LineColumn × List ℕ)) (values : List Value) → all_said columns ≡ Ok values → map value_said columns ≡ map Ok values
each_said [] values e = let same : [] ≡ values = cc in rw (← same) refl
each_said (column ∷ columns) values e =
    let p : Put (value_said column) (all_said columns) values = put (value_said column) (all_said columns) values e in
    rw (← p.is) (λ i. p.first i ∷ each_said columns p.others p.rest i)

said_each : (columns : List (LineColumn × List ℕ)) (values : List Value) → map value_said columns ≡ map Ok values → all_said columns ≡ Ok values
said_each [] [] e = refl
said_each [] (v ∷ vs) e = cc
said_each (column ∷ columns) [] e = cc
said_each (column ∷ columns) (v ∷ vs) e =
    let here : value_said column ≡ Ok v = cc in
    let others : map value_said columns ≡ map Ok vs = cc in
    rw (here, said_each columns vs others) refl

record FirstBad (columns : List (LineColumn × List ℕ)) (fault : LineFault) : Type 0 where
  earlier : List (LineColumn × List ℕ)
  column : LineColumn × List ℕ
  later : List (LineColumn × List ℕ)
  values : List Value
  cut : columns ≡ earlier ++ column ∷ later
  good : map value_said earlier ≡ map Ok values
  bad : value_said column ≡ Err fault

behind : (v : Value) (s : Result (List Value) LineFault) (fault : LineFault) → put_first (Ok v) s ≡ Err fault → s ≡ Err fault
behind v (Ok vs) fault e = cc
behind v (Err other) fault e = let same : other ≡ fault = cc in ap Err same

bad_at : (column : LineColumn × List ℕ) (columns : List (LineColumn × List ℕ)) (fault : LineFault) (r : Result Value LineFault) → value_said column ≡ r
    → (all_said columns ≡ Err fault → FirstBad columns fault) → put_first r (all_said columns) ≡ Err fault → FirstBad (column ∷ columns) fault
bad_at column columns fault (Err other) is others e =
    let same : other ≡ fault = cc in
    record {
      earlier = [];
      column = column;
      later = columns;
      values = [];
      cut = refl;
      good = refl;
      bad = is ∙ ap Err same;
    }
bad_at column columns fault (Ok v) is others e =
    let found : FirstBad columns fault = others (behind v (all_said columns) fault e) in
    record {
      earlier = column ∷ found.earlier;
      column = found.column;
      later = found.later;
      values = v ∷ found.values;
      cut = ap (λ l. column ∷ l) found.cut;
      good = λ i. is i ∷ found.good i;
      bad = found.bad;
    }

first_bad : (columns : List (LineColumn × List ℕ)) (fault : LineFault) → all_said columns ≡ Err fault → FirstBad columns fault
first_bad [] fault e = cc
first_bad (column ∷ columns) fault e = bad_at column columns fault (value_said column) refl (first_bad columns fault) e

bad_said : (earlier : List (LineColumn × List ℕ)) (column : LineColumn × List ℕ) (later : List (LineColumn × List ℕ)) (values : List Value) (fault : LineFault)
    → map value_said earlier ≡ map Ok values → value_said column ≡ Err fault → all_said (earlier ++ column ∷ later) ≡ Err fault
bad_said [] column later values fault good bad = rw bad refl
bad_said (other ∷ earlier) column later [] fault good bad = cc
bad_said (other ∷ earlier) column later (v ∷ values) fault good bad =
    let here : value_said other ≡ Ok v = cc in
    let others : map value_said earlier ≡ map Ok values = cc in
    rw (here, bad_said earlier column later values fault others bad) refl

-- the row of a line

whole : (b : Bool) (r : Result (List Value) LineFault) (values : List Value) → cond b r (Err FieldCount) ≡ Ok values → (b ≡ true) × (r ≡ Ok values)
whole true r values e = (refl, e)
whole false r values e = cc

module _ (columns : List LineColumn) (line : List ℕ) (some : 0 < length columns) where
  pub values_from : (values : List Value) → row_of columns line ≡ Ok values → AreValuesOf columns line values
  values_from values e =
      let w : (has_fields (length columns) line ≡ true) × (values_of columns line ≡ Ok values) = whole (has_fields (length columns) line) (values_of columns line) values e in
      record {
        fields = cuts (length columns) line;
        parted = cuts_are_fields (length columns) line some w.0;
        said = each_said (zip columns (cuts (length columns) line)) values (sym (values_are columns line) ∙ w.1);
      }

  pub values_to : (values : List Value) → AreValuesOf columns line values → row_of columns line ≡ Ok values
  values_to values are =
      let c : Cut (length columns) line are.fields = fields_are_cuts (length columns) line are.fields some are.parted in
      rw c.has (values_are columns line ∙ said_each (zip columns (cuts (length columns) line)) values (ap (λ fields. map value_said (zip columns fields)) (sym c.are) ∙ are.said))

  no_fields : (fields : List (List ℕ)) → has_fields (length columns) line ≡ false → AreFieldsOf (length columns) line fields → ⊥
  no_fields fields e are = let yes : has_fields (length columns) line ≡ true = (fields_are_cuts (length columns) line fields some are).has in cc

  first_bad_field : (fault : LineFault) → has_fields (length columns) line ≡ true → values_of columns line ≡ Err fault → IsFirstBadField columns line fault
  first_bad_field fault has e =
      let found : FirstBad (zip columns (cuts (length columns) line)) fault = first_bad (zip columns (cuts (length columns) line)) fault (sym (values_are columns line) ∙ e) in
      record {
        fields = cuts (length columns) line;
        parted = cuts_are_fields (length columns) line some has;
        earlier = found.earlier;
        column = found.column;
        later = found.later;
        values = found.values;
        cut = found.cut;
        good = found.good;
        bad = found.bad;
      }

  of_field : (fault : LineFault) → IsOfField fault → IsFirstBadField columns line fault → IsBadLine columns line fault
  of_field FieldCount is bad = absurd is
  of_field BadNumber is bad = bad
  of_field NumberTooWide is bad = bad
  of_field BadDate is bad = bad
  of_field BadText is bad = bad
  of_field TextTooLong is bad = bad
  of_field DuplicateKey is bad = bad
  of_field FileTooLong is bad = bad

  bad_by : (b : Bool) (fault : LineFault) → has_fields (length columns) line ≡ b → cond b (values_of columns line) (Err FieldCount) ≡ Err fault → IsBadLine columns line fault
  bad_by true fault has e = of_field fault (values_fault_of columns line fault e) (first_bad_field fault has e)
  bad_by false fault has e =
      let same : FieldCount ≡ fault = cc in
      rw (← same) (λ fields. no_fields fields has)

  pub bad_from : (fault : LineFault) → row_of columns line ≡ Err fault → IsBadLine columns line fault
  bad_from fault e = bad_by (has_fields (length columns) line) fault refl e

  count_by_fields : (b : Bool) → has_fields (length columns) line ≡ b → ((fields : List (List ℕ)) → ¬ AreFieldsOf (length columns) line fields)
      → cond b (values_of columns line) (Err FieldCount) ≡ Err FieldCount
  count_by_fields true has none = absurd (none (cuts (length columns) line) (cuts_are_fields (length columns) line some has))
  count_by_fields false has none = refl

  field_to : (fault : LineFault) → IsFirstBadField columns line fault → row_of columns line ≡ Err fault
  field_to fault bad =
      let c : Cut (length columns) line bad.fields = fields_are_cuts (length columns) line bad.fields some bad.parted in
      rw c.has
      (values_are columns line
      ∙ ap (λ fields. all_said (zip columns fields)) (sym c.are)
      ∙ ap all_said bad.cut
      ∙ bad_said bad.earlier bad.column bad.later bad.values fault bad.good bad.bad)

  pub bad_to : (fault : LineFault) → IsBadLine columns line fault → row_of columns line ≡ Err fault
  bad_to FieldCount none = count_by_fields (has_fields (length columns) line) refl none
  bad_to BadNumber bad = field_to BadNumber bad
  bad_to NumberTooWide bad = field_to NumberTooWide bad
  bad_to BadDate bad = field_to BadDate bad
  bad_to BadText bad = field_to BadText bad
  bad_to TextTooLong bad = field_to TextTooLong bad
  bad_to DuplicateKey bad = field_to DuplicateKey bad
  bad_to FileTooLong bad = field_to FileTooLong bad
