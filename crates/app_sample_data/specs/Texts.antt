-- The eleven texts that are made for the number n.
use Rattle.std.specs.Prelude.{ℕ, ◌+◌, ◌*◌, List, [], ◌∷◌, ◌++◌, codes, map}
use Rattle.std.specs.String.{string_bytes}
use Rattle.app_sample_data.specs.declared.text.NamedText.{NamedText}
use Rattle.app_sample_data.specs.Lines.{lines, region_line, nation_line, part_line, supplier_line}
use Rattle.app_sample_data.specs.Lines.{partsupp_lines, customer_line, order_line, order_lineitems}
use Rattle.app_sample_data.specs.Lines.{delete_line}

-- the tables that refreshes leave as they are
unfoldable pub lasting : ℕ → List (List ℕ × List ℕ)
lasting n =
    (codes "region.tbl", lines region_line 0 5)
    ∷ (codes "nation.tbl", lines nation_line 0 25)
    ∷ (codes "part.tbl", lines (part_line n) 1 (20 * n + 1))
    ∷ (codes "supplier.tbl", lines (supplier_line n) 1 (10 * n + 1))
    ∷ (codes "partsupp.tbl", lines (partsupp_lines n) 1 (20 * n + 1))
    ∷ (codes "customer.tbl", lines (customer_line n) 1 (15 * n + 1))
    ∷ []

-- the tables of the orders
unfoldable pub ordered : ℕ → List (List ℕ × List ℕ)
ordered n =
    (codes "orders.tbl", lines (order_line n) 1 (30 * n + 1))
    ∷ (codes "lineitem.tbl", lines (order_lineitems n) 1 (30 * n + 1))
    ∷ []

-- set 1: orders after those of the table with their lineitems, and the keys of the first orders
unfoldable pub refresh_set : ℕ → List (List ℕ × List ℕ)
refresh_set n =
    (codes "orders.tbl.u1", lines (order_line n) (30 * n + 1) (33 * n + 1))
    ∷ (codes "lineitem.tbl.u1", lines (order_lineitems n) (30 * n + 1) (33 * n + 1))
    ∷ (codes "delete.1", lines delete_line 1 (3 * n + 1))
    ∷ []

-- all eleven texts, each after its name
unfoldable pub made : ℕ → List (List ℕ × List ℕ)
made n = lasting n ++ ordered n ++ refresh_set n

-- named texts, each as its name and its bytes
unfoldable pub named : List NamedText → List (List ℕ × List ℕ)
named texts = map (λ t. (string_bytes t.name, t.bytes.items)) texts
