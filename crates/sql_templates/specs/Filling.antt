-- What filling a template answers.
use Rattle.std.specs.Prelude.{◌≡◌, ℕ, List, Result, Ok, Err}
use Rattle.std.specs.Global.{Vec}
use Rattle.sql_ast.specs.declared.statement.TemplateValue.{TemplateValue}
use Rattle.sql_templates.specs.Templates.{filled_query}
use Rattle.sql_templates.specs.declared.fault.TemplateFault.{TemplateFault}
use Rattle.sql_templates.specs.declared.fault.TemplateFault.TheVariants.{Refused, OutOfMemory}

-- the query's text with the values, or its refusal, unless memory runs out
abbrev pub Fills : ℕ → List TemplateValue → Result (Vec ℕ) TemplateFault → Type 0
Fills number values (Ok script) = filled_query number values ≡ Ok script.items
Fills number values (Err (Refused refusal)) = filled_query number values ≡ Err refusal
Fills number values (Err OutOfMemory) = Unit {0}
