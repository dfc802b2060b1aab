-- Lines as they are printed, and the lines of a plan.
use Rattle.std.specs.Prelude.{◌≡◌, ℕ, ◌+◌, ◌*◌, List, [], ◌∷◌, ◌++◌, Option, None, Some}
use Rattle.std.specs.Prelude.{codes, decimal, min, take, true, false}
use Rattle.base_set_rows.specs.declared.kind.ClassKind.TheVariants.{Intersect, Except}
use Rattle.base_set_rows.specs.declared.kind.SetOperation.{SetOperation}
use Rattle.base_set_rows.specs.declared.kind.SetOperation.TheVariants.{Union, Classes}
use Rattle.plan_algebra.specs.declared.node.Node.{Node}
use Rattle.plan_algebra.specs.declared.node.Node.TheVariants.{Scan, Kept, Domain, Select, Project, Join}
use Rattle.plan_algebra.specs.declared.node.Node.TheVariants.{Outer}
use Rattle.plan_algebra.specs.declared.node.Node.TheVariants.{Mark, Single, Group, Fill, Distinct, Set}
use Rattle.plan_algebra.specs.Plans.{inputs_of}
use Rattle.app_plan_text.specs.declared.line.PlanLine.{PlanLine}

-- sixty-four spaces
abbrev pub blanks : List ℕ
blanks = codes "                                                                "

-- two spaces for each step of depth, up to 31 of them, and two more
abbrev pub spaces : ℕ → List ℕ
spaces depth = take (min depth 31 * 2 + 2) blanks

-- how many rows a node has, where they were counted, and the end of the line
abbrev pub rows_text : Option ℕ → List ℕ
rows_text None = codes "\n"
rows_text (Some count) = codes "  [" ++ decimal count ++ codes " rows]\n"

-- numbers, a space before each
abbrev pub inputs_text : List ℕ → List ℕ
inputs_text [] = []
inputs_text (number ∷ numbers) = codes " " ++ decimal number ++ inputs_text numbers

-- the start of a line: the number and the kind
abbrev pub line_start : PlanLine → List ℕ
line_start line = spaces line.depth ++ decimal line.number ++ codes " " ++ line.kind.items

-- the rest of a line: the numbers of what is read, what the node does, its rows
abbrev pub line_rest : PlanLine → List ℕ
line_rest line = inputs_text line.inputs.items ++ codes " " ++ line.detail.items
    ++ rows_text line.rows

-- a line: its start and its rest
abbrev pub line_text : PlanLine → List ℕ
line_text line = line_start line ++ line_rest line

-- lines, one after the other
abbrev pub lines_text : List PlanLine → List ℕ
lines_text [] = []
lines_text (line ∷ lines) = line_text line ++ lines_text lines

-- the words for a set operation, as SQL writes it; UNION is the DISTINCT of UNION ALL
abbrev pub operation_words : SetOperation → List ℕ
operation_words Union = codes "union all"
operation_words (Classes Intersect false) = codes "intersect"
operation_words (Classes Intersect true) = codes "intersect all"
operation_words (Classes Except false) = codes "except"
operation_words (Classes Except true) = codes "except all"

-- the word for a node's kind
abbrev pub kind_word : Node → List ℕ
kind_word (Scan table) = codes "scan"
kind_word (Kept number plan) = codes "kept"
kind_word (Domain i cs) = codes "domain"
kind_word (Select i e) = codes "select"
kind_word (Project i es) = codes "project"
kind_word (Join i j matched e) = codes "join"
kind_word (Outer i j matched nulls e) = codes "outer"
kind_word (Mark i j matched e) = codes "mark"
kind_word (Single i j matched c) = codes "single"
kind_word (Group i by aggregates) = codes "group"
kind_word (Fill i j empty) = codes "fill"
kind_word (Distinct i) = codes "distinct"
kind_word (Set i j operation) = operation_words operation

-- a line is of the node of this number: it has its kind, and names the nodes that it reads
abbrev pub IsLineOf : ℕ → Node → PlanLine → Type 0
IsLineOf number node line = (line.number ≡ number) × (line.kind.items ≡ kind_word node)
    × (line.inputs.items ≡ inputs_of node)

-- one line for each of these nodes, in their order, numbered on from the first one's number
abbrev pub AreLinesFrom : ℕ → List Node → List PlanLine → Type 0
AreLinesFrom number [] lines = lines ≡ []
AreLinesFrom number (node ∷ nodes) lines = (first : PlanLine) × (rest : List PlanLine)
    × (lines ≡ first ∷ rest) × IsLineOf number node first × AreLinesFrom (number + 1) nodes rest
