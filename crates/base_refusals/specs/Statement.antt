-- Refusals of a statement, as they are printed.
use Rattle.std.specs.Prelude.{ℕ, ◌+◌, List, codes}
use Rattle.base_refusals.specs.Bind.{bind_refusal_name, bind_refusal_number}
use Rattle.base_refusals.specs.Refresh.{cause_name, cause_number}
use Rattle.base_refusals.specs.declared.statement.FaultKind.{FaultKind}
use Rattle.base_refusals.specs.declared.statement.FaultKind.TheVariants.{NumberRange, DivideByZero}
use Rattle.base_refusals.specs.declared.statement.FaultKind.TheVariants.{TooManyRows}
use Rattle.base_refusals.specs.declared.statement.TemplateRefusal.{TemplateRefusal}
use Rattle.base_refusals.specs.declared.statement.TemplateRefusal.TheVariants.{NoSuchQuery, WrongCount}
use Rattle.base_refusals.specs.declared.statement.TemplateRefusal.TheVariants.{WrongKind}
use Rattle.base_refusals.specs.declared.statement.Refusal.{Refusal}
use Rattle.base_refusals.specs.declared.statement.Refusal.TheVariants.{Bind, ViewExists, UnknownView}
use Rattle.base_refusals.specs.declared.statement.Refusal.TheVariants.{Fault, Template, Refresh}

-- the number of a kind of fault
abbrev pub fault_kind_number : FaultKind → ℕ
fault_kind_number NumberRange = 1
fault_kind_number DivideByZero = 2
fault_kind_number TooManyRows = 3

-- the name of a kind of fault
abbrev pub fault_kind_name : FaultKind → List ℕ
fault_kind_name NumberRange = codes "NumberRange"
fault_kind_name DivideByZero = codes "DivideByZero"
fault_kind_name TooManyRows = codes "TooManyRows"

-- the number of a template's refusal
abbrev pub template_refusal_number : TemplateRefusal → ℕ
template_refusal_number NoSuchQuery = 30
template_refusal_number WrongCount = 31
template_refusal_number (WrongKind place) = 32

-- the name of a template's refusal
abbrev pub template_refusal_name : TemplateRefusal → List ℕ
template_refusal_name NoSuchQuery = codes "NoSuchQuery"
template_refusal_name WrongCount = codes "WrongCount"
template_refusal_name (WrongKind place) = codes "WrongKind"

-- the number of a statement's refusal
abbrev pub refusal_number : Refusal → ℕ
refusal_number (Bind refusal) = bind_refusal_number refusal
refusal_number ViewExists = 20
refusal_number UnknownView = 21
refusal_number (Fault kind) = 22
refusal_number (Template refusal) = template_refusal_number refusal
refusal_number (Refresh cause) = 40 + cause_number cause

-- the name of a statement's refusal
abbrev pub refusal_name : Refusal → List ℕ
refusal_name (Bind refusal) = bind_refusal_name refusal
refusal_name ViewExists = codes "ViewExists"
refusal_name UnknownView = codes "UnknownView"
refusal_name (Fault kind) = codes "Fault"
refusal_name (Template refusal) = template_refusal_name refusal
refusal_name (Refresh cause) = cause_name cause
