-- Refusals of a query that does not bind, as they are printed.
use Rattle.std.specs.Prelude.{ℕ, List, codes}
use Rattle.base_refusals.specs.declared.bind.BindRefusal.{BindRefusal}
use Rattle.base_refusals.specs.declared.bind.BindRefusal.TheVariants.{UnknownTable, UnknownColumn}
use Rattle.base_refusals.specs.declared.bind.BindRefusal.TheVariants.{AmbiguousColumn, DuplicateAlias}
use Rattle.base_refusals.specs.declared.bind.BindRefusal.TheVariants.{TypeMismatch, NotGrouped}
use Rattle.base_refusals.specs.declared.bind.BindRefusal.TheVariants.{NestedAggregate, OuterAggregate}
use Rattle.base_refusals.specs.declared.bind.BindRefusal.TheVariants.{LateralReference, SubqueryColumns}
use Rattle.base_refusals.specs.declared.bind.BindRefusal.TheVariants.{ScaleTooWide, IntervalOnColumn}
use Rattle.base_refusals.specs.declared.bind.BindRefusal.TheVariants.{BadDate, DateRange, SubqueryPlace}
use Rattle.base_refusals.specs.declared.bind.BindRefusal.TheVariants.{TooManyTables, SetColumns}

-- the number of a query's refusal
abbrev pub bind_refusal_number : BindRefusal → ℕ
bind_refusal_number UnknownTable = 1
bind_refusal_number UnknownColumn = 2
bind_refusal_number AmbiguousColumn = 3
bind_refusal_number DuplicateAlias = 4
bind_refusal_number TypeMismatch = 5
bind_refusal_number NotGrouped = 6
bind_refusal_number NestedAggregate = 7
bind_refusal_number OuterAggregate = 8
bind_refusal_number LateralReference = 9
bind_refusal_number SubqueryColumns = 10
bind_refusal_number ScaleTooWide = 11
bind_refusal_number IntervalOnColumn = 12
bind_refusal_number BadDate = 13
bind_refusal_number DateRange = 14
bind_refusal_number SubqueryPlace = 15
bind_refusal_number TooManyTables = 16
bind_refusal_number SetColumns = 18

-- the name of a query's refusal
abbrev pub bind_refusal_name : BindRefusal → List ℕ
bind_refusal_name UnknownTable = codes "UnknownTable"
bind_refusal_name UnknownColumn = codes "UnknownColumn"
bind_refusal_name AmbiguousColumn = codes "AmbiguousColumn"
bind_refusal_name DuplicateAlias = codes "DuplicateAlias"
bind_refusal_name TypeMismatch = codes "TypeMismatch"
bind_refusal_name NotGrouped = codes "NotGrouped"
bind_refusal_name NestedAggregate = codes "NestedAggregate"
bind_refusal_name OuterAggregate = codes "OuterAggregate"
bind_refusal_name LateralReference = codes "LateralReference"
bind_refusal_name SubqueryColumns = codes "SubqueryColumns"
bind_refusal_name ScaleTooWide = codes "ScaleTooWide"
bind_refusal_name IntervalOnColumn = codes "IntervalOnColumn"
bind_refusal_name BadDate = codes "BadDate"
bind_refusal_name DateRange = codes "DateRange"
bind_refusal_name SubqueryPlace = codes "SubqueryPlace"
bind_refusal_name TooManyTables = codes "TooManyTables"
bind_refusal_name SetColumns = codes "SetColumns"
