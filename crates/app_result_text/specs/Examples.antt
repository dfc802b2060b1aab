-- Some values of the definitions, worked out by hand.
use Rattle.std.specs.Prelude.{◌≡◌, pos, negsuc, [], ◌∷◌, codes}
use Rattle.base_value.specs.declared.value.Value.TheVariants.{Date, Number, Null, Text}
use Rattle.base_refusals.specs.declared.bind.BindRefusal.TheVariants.{DateRange}
use Rattle.base_refusals.specs.declared.line.LineFault.TheVariants.{BadNumber}
use Rattle.base_refusals.specs.declared.refresh.Cause.TheVariants.{KeyTwice, LineExists, LineTwice}
use Rattle.base_refusals.specs.declared.refresh.Cause.TheVariants.{Malformed, OrderExists}
use Rattle.base_refusals.specs.declared.refresh.Cause.TheVariants.{StrayLine}
use Rattle.base_refusals.specs.declared.refresh.RefreshFile.TheVariants.{Delete, Lineitem, Orders}
use Rattle.base_refusals.specs.declared.statement.FaultKind.TheVariants.{DivideByZero}
use Rattle.base_refusals.specs.declared.statement.Refusal.TheVariants.{Bind, Fault, Refresh}
use Rattle.base_refusals.specs.declared.statement.Refusal.TheVariants.{Template}
use Rattle.base_refusals.specs.declared.statement.Refusal.TheVariants.{ViewExists}
use Rattle.base_refusals.specs.declared.statement.TemplateRefusal.TheVariants.{NoSuchQuery}
use Rattle.base_refusals.specs.declared.statement.TemplateRefusal.TheVariants.{WrongKind}
use Rattle.app_result_text.specs.Answer.{answer_text, header, value_written}
use Rattle.app_result_text.specs.Lines.{accepted_text, done_text, refusal_text}
use Rattle.app_result_text.specs.Refusal.{file_name, refusal_written}
use Rattle.app_result_text.specs.Version.{version_refusal_text}
use Rattle.app_result_text.specs.declared.version.VersionRefusal.TheVariants.{Gone, Unknown}

-- values, rows and headers as they are printed, worked out by hand
pub record Examples : Type 0 where
  -- the line before an answer
  pub first : header 1 0 2 ≡ codes "[1] version 0 rows 2\n"
  -- a number has all digits of its scale and one before the point; a minus stands only below zero
  pub minus_half : answer_text ((Number 2 (negsuc 49) ∷ []) ∷ []) ≡ codes "-0.50\n"
  pub zero : value_written (Number 2 (pos 0)) ≡ codes "0.00"
  pub small : value_written (Number 2 (pos 7)) ≡ codes "0.07"
  pub third : value_written (Number 6 (pos 666_667)) ≡ codes "0.666667"
  pub whole : value_written (Number 0 (negsuc 6)) ≡ codes "-7"
  -- a date, and null
  pub date : value_written (Date 980102) ≡ codes "0098-01-02"
  pub null : value_written Null ≡ codes "\\N"
  -- a backslash before each bar and each backslash of a text, and nothing else is changed
  pub escaped : value_written (Text (codes "a|b\\c")) ≡ codes "a\\|b\\\\c"
  pub null_in_a_text : value_written (Text (codes "\\N")) ≡ codes "\\\\N"
  pub empty : value_written (Text []) ≡ []
  -- bars between columns only, LF after each row
  pub rows : answer_text ((Text (codes "AFRICA") ∷ Null ∷ Text [] ∷ []) ∷ (Text [] ∷ []) ∷ [])
      ≡ codes "AFRICA|\\N|\n\n"
  pub none : answer_text [] ≡ []

-- Lines of statements, and refusals with their arguments, worked out by hand.
pub record LineExamples : Type 0 where
  -- a view was made, a refresh accepted
  pub done : done_text 1 0 ≡ codes "[1] version 0 done\n"
  pub accepted : accepted_text 2 0 1 ≡ codes "[2] version 0 accepted 1\n"
  -- refusals without arguments
  pub bind : refusal_text 1 0 (Bind DateRange) ≡ codes "[1] version 0 refused 14 DateRange\n"
  pub view : refusal_written ViewExists ≡ codes "refused 20 ViewExists"
  pub template : refusal_written (Template NoSuchQuery) ≡ codes "refused 30 NoSuchQuery"
  -- a fault's kind has its own number; a place counts from 1
  pub fault : refusal_written (Fault DivideByZero) ≡ codes "refused 22 Fault 2 DivideByZero"
  pub place : refusal_written (Template (WrongKind 1)) ≡ codes "refused 32 WrongKind 1"
  -- causes of a refresh print 40 more than their number
  pub order : refusal_text 4 1 (Refresh (OrderExists (pos 9)))
      ≡ codes "[4] version 1 refused 41 OrderExists 9\n"
  pub twice : refusal_written (Refresh (LineTwice (pos 9) (negsuc 0)))
      ≡ codes "refused 43 LineTwice 9 -1"
  pub stray : refusal_written (Refresh (StrayLine (pos 6))) ≡ codes "refused 44 StrayLine 6"
  pub key : refusal_written (Refresh (KeyTwice (pos 7))) ≡ codes "refused 46 KeyTwice 7"
  pub line : refusal_written (Refresh (LineExists (pos 9) (pos 1)))
      ≡ codes "refused 48 LineExists 9 1"
  pub malformed : refusal_text 1 0
      (Refresh (Malformed Delete 1 (record { line = 1; fault = BadNumber })))
      ≡ codes "[1] version 0 refused 47 Malformed delete.1 line 1 2 BadNumber\n"
  -- the names of the two files of an insert
  pub orders : file_name Orders 1 ≡ codes "orders.tbl.u1"
  pub lineitem : file_name Lineitem 1 ≡ codes "lineitem.tbl.u1"
  -- a version that is named and is not there, after the one over which the statement began
  pub unknown : version_refusal_text 10 2 (Unknown 3)
      ≡ codes "[10] version 2 refused 23 VersionUnknown 3\n"
  pub gone : version_refusal_text 65 64 (Gone 0) ≡ codes "[65] version 64 refused 24 VersionGone 0\n"
