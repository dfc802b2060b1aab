-- Refusals as lines say them.
use Rattle.std.specs.Prelude.{ℕ, List, [], ◌++◌, ℤ, pos, codes, decimal}
use Rattle.base_decimal.specs.Written.{decimal_written}
use Rattle.base_refusals.specs.Line.{line_fault_name, line_fault_number}
use Rattle.base_refusals.specs.Refresh.{file_prefix}
use Rattle.base_refusals.specs.Statement.{fault_kind_name, fault_kind_number, refusal_name}
use Rattle.base_refusals.specs.Statement.{refusal_number}
use Rattle.base_refusals.specs.declared.line.LineRefusal.{LineRefusal}
use Rattle.base_refusals.specs.declared.refresh.Cause.{Cause}
use Rattle.base_refusals.specs.declared.refresh.Cause.TheVariants.{OrderExists, OrderTwice}
use Rattle.base_refusals.specs.declared.refresh.Cause.TheVariants.{LineTwice}
use Rattle.base_refusals.specs.declared.refresh.Cause.TheVariants.{StrayLine, UnknownOrder}
use Rattle.base_refusals.specs.declared.refresh.Cause.TheVariants.{KeyTwice}
use Rattle.base_refusals.specs.declared.refresh.Cause.TheVariants.{Malformed, LineExists}
use Rattle.base_refusals.specs.declared.refresh.RefreshFile.{RefreshFile}
use Rattle.base_refusals.specs.declared.statement.Refusal.{Refusal}
use Rattle.base_refusals.specs.declared.statement.Refusal.TheVariants.{Bind, ViewExists}
use Rattle.base_refusals.specs.declared.statement.Refusal.TheVariants.{UnknownView}
use Rattle.base_refusals.specs.declared.statement.Refusal.TheVariants.{Fault, Template, Refresh}
use Rattle.base_refusals.specs.declared.statement.TemplateRefusal.{TemplateRefusal}
use Rattle.base_refusals.specs.declared.statement.TemplateRefusal.TheVariants.{NoSuchQuery}
use Rattle.base_refusals.specs.declared.statement.TemplateRefusal.TheVariants.{WrongCount}
use Rattle.base_refusals.specs.declared.statement.TemplateRefusal.TheVariants.{WrongKind}

-- a whole number after a space
abbrev pub key_written : ℤ → List ℕ
key_written key = codes " " ++ decimal_written key 0

-- the key of a lineitem's order and its line number
abbrev pub line_written : ℤ → ℤ → List ℕ
line_written key line = key_written key ++ key_written line

-- a number and the name that goes with it, each after a space
abbrev pub tagged : ℕ → List ℕ → List ℕ
tagged number name = codes " " ++ decimal number ++ codes " " ++ name

-- the name of a file of a refresh set, without its folder
abbrev pub file_name : RefreshFile → ℕ → List ℕ
file_name file set = file_prefix file ++ decimal set

-- a malformed file, its first bad line, and that line's fault with its number
abbrev pub malformed_written : RefreshFile → ℕ → LineRefusal → List ℕ
malformed_written file set refusal =
    codes " " ++ file_name file set ++ codes " line " ++ decimal refusal.line
    ++ tagged (line_fault_number refusal.fault) (line_fault_name refusal.fault)

-- the arguments of a refresh's cause
abbrev pub cause_arguments : Cause → List ℕ
cause_arguments (OrderExists key) = key_written key
cause_arguments (OrderTwice key) = key_written key
cause_arguments (LineTwice key line) = line_written key line
cause_arguments (StrayLine key) = key_written key
cause_arguments (UnknownOrder key) = key_written key
cause_arguments (KeyTwice key) = key_written key
cause_arguments (Malformed file set refusal) = malformed_written file set refusal
cause_arguments (LineExists key line) = line_written key line

-- the arguments of a template's refusal
abbrev pub template_arguments : TemplateRefusal → List ℕ
template_arguments NoSuchQuery = []
template_arguments WrongCount = []
template_arguments (WrongKind place) = key_written (pos place)

-- the arguments of a statement's refusal
abbrev pub arguments : Refusal → List ℕ
arguments (Bind refusal) = []
arguments ViewExists = []
arguments UnknownView = []
arguments (Fault kind) = tagged (fault_kind_number kind) (fault_kind_name kind)
arguments (Template refusal) = template_arguments refusal
arguments (Refresh cause) = cause_arguments cause

-- the refusal's number and name, and its arguments
abbrev pub reason_written : Refusal → List ℕ
reason_written refusal =
    tagged (refusal_number refusal) (refusal_name refusal) ++ arguments refusal

-- the word, and these
abbrev pub refusal_written : Refusal → List ℕ
refusal_written refusal = codes "refused" ++ reason_written refusal
