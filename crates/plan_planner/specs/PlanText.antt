-- A flat plan as it is printed.
use Rattle.std.specs.Prelude.{ℕ, ◌+◌, Bool, true, false, List, [], ◌∷◌, ◌++◌, length, codes}
use Rattle.std.specs.Prelude.{decimal}
use Rattle.std.specs.List.{flat_map}
use Rattle.base_schema.specs.Tables.{table_name}
use Rattle.plan_algebra.specs.declared.node.Node.{Node}
use Rattle.plan_algebra.specs.declared.node.Node.TheVariants.{Scan, Kept, Domain, Select, Project}
use Rattle.plan_algebra.specs.declared.node.Node.TheVariants.{Join, Outer}
use Rattle.plan_algebra.specs.declared.node.Node.TheVariants.{Mark, Single, Group, Fill, Distinct}
use Rattle.plan_algebra.specs.declared.node.Node.TheVariants.{Set}
use Rattle.base_set_rows.specs.declared.kind.ClassKind.TheVariants.{Intersect, Except}
use Rattle.base_set_rows.specs.declared.kind.SetOperation.{SetOperation}
use Rattle.base_set_rows.specs.declared.kind.SetOperation.TheVariants.{Union, Classes}
use Rattle.plan_algebra.specs.Plans.{inputs_of, plan_scans}

-- the name of a set operation, with ALL and without
abbrev pub operation_name : SetOperation → List ℕ
operation_name Union = codes "union"
operation_name (Classes Intersect all) = codes "intersect"
operation_name (Classes Except all) = codes "except"

-- the name of a node's kind
abbrev pub kind_name : Node → List ℕ
kind_name (Scan table) = codes "scan"
kind_name (Kept number plan) = codes "kept"
kind_name (Domain i cs) = codes "domain"
kind_name (Select i e) = codes "select"
kind_name (Project i es) = codes "project"
kind_name (Join i j matched e) = codes "join"
kind_name (Outer i j matched nulls e) = codes "outer"
kind_name (Mark i j matched e) = codes "mark"
kind_name (Single i j matched c) = codes "single"
kind_name (Group i by aggregates) = codes "group"
kind_name (Fill i j empty) = codes "fill"
kind_name (Distinct i) = codes "distinct"
kind_name (Set i j operation) = operation_name operation

-- whether a node is a scan, of a table or of a kept view
abbrev pub is_scan : Node → Bool
is_scan (Scan table) = true
is_scan (Kept number plan) = true
is_scan node = false

-- a number after a space
abbrev pub spaced : ℕ → List ℕ
spaced n = codes " " ++ decimal n

-- what a node reads: its table by its name, its kept view by its number, or its inputs by their
-- numbers, in the node's order
abbrev pub reads_text : Node → List ℕ
reads_text (Scan table) = codes " " ++ table_name table
reads_text (Kept number plan) = spaced number
reads_text node = flat_map spaced (inputs_of node)

-- the line of a node by its number
abbrev pub node_line : ℕ → Node → List ℕ
node_line number node = decimal number ++ codes " " ++ kind_name node ++ reads_text node
    ++ codes "\n"

-- the lines of nodes, numbered on from the first one's number
abbrev pub node_lines : ℕ → List Node → List ℕ
node_lines number [] = []
node_lines number (node ∷ nodes) = node_line number node ++ node_lines (number + 1) nodes

-- the first line: how many nodes there are, and how many of them are scans
abbrev pub head_line : List Node → List ℕ
head_line nodes = codes "plan nodes " ++ decimal (length nodes) ++ codes " reads "
    ++ decimal (length (plan_scans nodes)) ++ codes "\n"

-- the first line, and the lines of the nodes, numbered from 0
abbrev pub text_of_plan : List Node → List ℕ
text_of_plan nodes = head_line nodes ++ node_lines 0 nodes
