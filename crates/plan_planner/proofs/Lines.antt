-- Lists of lines, one more.
use Rattle.std.proofs.Common.{◌≡◌, ℕ, ◌+◌, ◌<◌, List, [], ◌∷◌, ◌++◌, sym, ap, ◌∙◌, arith, length}
use Rattle.std.proofs.Common.{take, get_or}
use Rattle.std.proofs.lemmas.Grind.{flat_map-append}
use Rattle.std.proofs.lemmas.List.{append-nil, append_assoc, length-append, take_more}
use Rattle.std.proofs.lemmas.List.{length-take-le}
use Rattle.plan_algebra.specs.declared.node.Node.{Node}
use Rattle.plan_algebra.specs.Plans.{scan_of, plan_scans}
use Rattle.plan_planner.specs.PlanText.{head_line, node_line, node_lines}

lines_append : (number : ℕ) (xs : List Node) (x : Node)
    → node_lines number (xs ++ x ∷ []) ≡ node_lines number xs ++ node_line (number + length xs) x
lines_append number [] x = append-nil (node_line number x) ∙ ap (λ k. node_line k x) (omega arith)
lines_append number (y ∷ xs) x =
    ap (λ l. node_line number y ++ l)
    (lines_append (number + 1) xs x
    ∙ ap (λ k. node_lines (number + 1) xs ++ node_line k x) (omega arith))
    ∙ sym (append_assoc (node_line number y) (node_lines (number + 1) xs)
    (node_line (number + length (y ∷ xs)) x))

-- one line more
pub lines_more : (nodes : List Node) (i : ℕ) (x : Node) → i < length nodes → x ≡ get_or nodes i x
    → node_lines 0 (take (i + 1) nodes) ≡ node_lines 0 (take i nodes) ++ node_line i x
lines_more nodes i x h e =
    let n : length (take i nodes) ≡ i = length-take-le i nodes (omega arith) in
    ap (node_lines 0) (take_more nodes i x h ∙ ap (λ y. take i nodes ++ y ∷ []) (sym e))
    ∙ lines_append 0 (take i nodes) x
    ∙ ap (λ k. node_lines 0 (take i nodes) ++ node_line k x) (omega (arith, n))

-- one scan more, or none
pub scans_more : (nodes : List Node) (i : ℕ) (x : Node) → i < length nodes → x ≡ get_or nodes i x
    → length (plan_scans (take (i + 1) nodes))
    ≡ length (plan_scans (take i nodes)) + length (scan_of x)
scans_more nodes i x h e =
    ap (λ l. length (plan_scans l))
    (take_more nodes i x h ∙ ap (λ y. take i nodes ++ y ∷ []) (sym e))
    ∙ ap length (flat_map-append scan_of (take i nodes) (x ∷ [])
    ∙ ap (λ l. plan_scans (take i nodes) ++ l) (append-nil (scan_of x)))
    ∙ length-append (plan_scans (take i nodes)) (scan_of x)

-- the text with one line more
pub text_more : (nodes : List Node) (i : ℕ) (x : Node) (old new : List ℕ) → i < length nodes
    → x ≡ get_or nodes i x → old ≡ head_line nodes ++ node_lines 0 (take i nodes)
    → new ≡ old ++ node_line i x → new ≡ head_line nodes ++ node_lines 0 (take (i + 1) nodes)
text_more nodes i x old new h e before after =
    after ∙ ap (λ l. l ++ node_line i x) before
    ∙ append_assoc (head_line nodes) (node_lines 0 (take i nodes)) (node_line i x)
    ∙ ap (λ l. head_line nodes ++ l) (sym (lines_more nodes i x h e))
