-- Refusals of a script, as they are printed.
use Rattle.std.specs.Prelude.{ℕ, List, codes}
use Rattle.sql_parser.specs.declared.fault.ScriptRefusal.{ScriptRefusal}
use Rattle.sql_parser.specs.declared.fault.ScriptRefusal.TheVariants.{BadByte, OpenText}
use Rattle.sql_parser.specs.declared.fault.ScriptRefusal.TheVariants.{NumberTooWide, ScaleTooWide}
use Rattle.sql_parser.specs.declared.fault.ScriptRefusal.TheVariants.{Unexpected, TooDeep, TooLong}
use Rattle.sql_parser.specs.declared.fault.ScriptRefusal.TheVariants.{TooWide}

-- the number of a script's refusal
abbrev pub script_refusal_number : ScriptRefusal → ℕ
script_refusal_number BadByte = 1
script_refusal_number OpenText = 2
script_refusal_number NumberTooWide = 3
script_refusal_number ScaleTooWide = 4
script_refusal_number Unexpected = 5
script_refusal_number TooDeep = 6
script_refusal_number TooLong = 7
script_refusal_number TooWide = 8

-- the name of a script's refusal
abbrev pub script_refusal_name : ScriptRefusal → List ℕ
script_refusal_name BadByte = codes "BadByte"
script_refusal_name OpenText = codes "OpenText"
script_refusal_name NumberTooWide = codes "NumberTooWide"
script_refusal_name ScaleTooWide = codes "ScaleTooWide"
script_refusal_name Unexpected = codes "Unexpected"
script_refusal_name TooDeep = codes "TooDeep"
script_refusal_name TooLong = codes "TooLong"
script_refusal_name TooWide = codes "TooWide"
