-- Plans that grow keep the rows and widths of their nodes; and what a node adds that is put last.
use Rattle.std.proofs.Common.{◌≡◌, ℕ, ◌+◌, ◌<◌, ◌≤◌, List, [], ◌∷◌, ◌++◌, refl, sym, ap, ◌∙◌, arith, length}
use Rattle.std.proofs.lemmas.List.{append_assoc, append-nil, length-append}
use Rattle.std.proofs.lemmas.Grind.{flat_map-append}
use Rattle.std.proofs.lemmas.List.Sums.{sum_by-append}
use Rattle.plan_algebra.specs.Trees.{Occurrence}
use Rattle.plan_algebra.specs.declared.node.Node.{Node}
use Rattle.plan_algebra.specs.Trees.{Database}
use Rattle.plan_algebra.specs.Plans.{made_from, node_rows, node_width, plan_rows, plan_width, scan_of, plan_scans, is_domain, plan_domains}
use Rattle.plan_algebra.proofs.Made.{kept_at, put_at}
use Rattle.plan_unnested_nodes.specs.Growth.{Grows, IsPut}

pub kept_rows : {before after : List Node} {tables : List Occurrence} {most : ℕ} (db : Database) (i : ℕ) → Grows before after tables most → i < length before
    → plan_rows db after i ≡ plan_rows db before i
unfolding plan_rows
kept_rows {before = before} {after = after} db i g h = kept_at (node_rows db) [] before after g.more i g.grows h

pub kept_width : {before after : List Node} {tables : List Occurrence} {most : ℕ} (i : ℕ) → Grows before after tables most → i < length before
    → plan_width after i ≡ plan_width before i
unfolding plan_width
kept_width {before = before} {after = after} i g h = kept_at node_width 0 before after g.more i g.grows h

pub put_rows : {old new : List Node} {n : Node} {id : ℕ} (db : Database) → IsPut old new n id → plan_rows db new id ≡ node_rows db (made_from (node_rows db) [] old) n
unfolding plan_rows
put_rows {old = old} {new = new} {n = n} {id = id} db p = put_at (node_rows db) [] old new n id p.nodes p.number

pub put_width : {old new : List Node} {n : Node} {id : ℕ} → IsPut old new n id → plan_width new id ≡ node_width (made_from node_width [] old) n
unfolding plan_width
put_width {old = old} {new = new} {n = n} {id = id} p = put_at node_width 0 old new n id p.nodes p.number

pub put_last : {old new : List Node} {n : Node} {id : ℕ} → IsPut old new n id → length new ≡ id + 1
put_last {old = old} {n = n} p = ap length p.nodes ∙ length-append old (n ∷ []) ∙ omega (arith, p.number)

-- the node that was put is in the plan
pub put_within : (old : List Node) (n : Node) {new : List Node} {id : ℕ} → id ≡ length old → new ≡ old ++ n ∷ [] → id < length new
put_within old n e g = let l = ap length g in let m = length-append old (n ∷ []) in omega (arith, e, l, m)

one_scan : (n : Node) → plan_scans (n ∷ []) ≡ scan_of n
one_scan n = append-nil (scan_of n)

-- no growth
pub same_plan : (ns : List Node) → Grows ns ns [] 0
same_plan ns = record { more = []; grows = sym (append-nil ns); scans = refl; domains = omega arith }

-- growth by one node more
pub put_more : {before old new : List Node} {tables : List Occurrence} {most : ℕ} {n : Node} {id : ℕ} → Grows before old tables most → IsPut old new n id
    → Grows before new (tables ++ scan_of n) (most + is_domain n)
put_more {before = before} {tables = tables} {n = n} g p = record {
  more = g.more ++ n ∷ [];
  grows = p.nodes ∙ ap (λ l. l ++ n ∷ []) g.grows ∙ append_assoc before g.more (n ∷ []);
  scans = flat_map-append scan_of g.more (n ∷ []) ∙ ap (λ l. l ++ plan_scans (n ∷ [])) g.scans ∙ ap (λ l. tables ++ l) (one_scan n);
  domains = let e = sum_by-append is_domain g.more (n ∷ []) in let one : plan_domains (n ∷ []) ≡ is_domain n = omega arith in omega (arith, e, one, g.domains);
}

-- growth after growth
pub both_more : {a b c : List Node} {tables others : List Occurrence} {most least : ℕ} → Grows a b tables most → Grows b c others least → Grows a c (tables ++ others) (most + least)
both_more {a = a} {tables = tables} g h = record {
  more = g.more ++ h.more;
  grows = h.grows ∙ ap (λ l. l ++ h.more) g.grows ∙ append_assoc a g.more h.more;
  scans = flat_map-append scan_of g.more h.more ∙ ap (λ l. l ++ plan_scans h.more) g.scans ∙ ap (λ l. tables ++ l) h.scans;
  domains = let e = sum_by-append is_domain g.more h.more in omega (arith, e, g.domains, h.domains);
}

pub grown_length : {before after : List Node} {tables : List Occurrence} {most : ℕ} → Grows before after tables most → length before ≤ length after
grown_length {before = before} g = let e = ap length g.grows in let l = length-append before g.more in omega (arith, e, l)

pub grows_as : {before after : List Node} {tables others : List Occurrence} {most least : ℕ} → Grows before after tables most → tables ≡ others → most ≤ least → Grows before after others least
grows_as g e h = record { more = g.more; grows = g.grows; scans = g.scans ∙ e; domains = let d = g.domains in omega arith }
