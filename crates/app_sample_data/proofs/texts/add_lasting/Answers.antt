use Rattle.std.proofs.Common.{ℕ, ◌+◌, ◌*◌, List, [], ◌∷◌}
use Rattle.std.specs.Prelude.{codes}
use Rattle.app_sample_data.proofs.Steps.{none_added, text_added}
use Rattle.app_sample_data.specs.Lines.{lines, customer_line, nation_line, part_line, partsupp_lines, region_line, supplier_line}
use Rattle.app_sample_data.specs.Texts.{lasting, named}
use Rattle.app_sample_data.proofs.texts.add_lasting.Goals as goal

pub returns : goal.returns
unfolding lasting
returns c =
    let n = c.args.number in
    let start = named c.args.texts.now.items in
    let region : List ℕ × List ℕ = (codes "region.tbl", lines region_line 0 5) in
    let with_region = text_added start _ _ ([]) (codes "region.tbl") _ (lines region_line 0 5) (none_added start) c.in_ok-add.ensures c.in_ok-region_text.ensures in
    let nation : List ℕ × List ℕ = (codes "nation.tbl", lines nation_line 0 25) in
    let with_nation = text_added start _ _ (region ∷ []) (codes "nation.tbl") _ (lines nation_line 0 25) with_region c.in_ok-add-2.ensures c.in_ok-nation_text.ensures in
    let part : List ℕ × List ℕ = (codes "part.tbl", lines (part_line n) 1 (20 * n + 1)) in
    let with_part = text_added start _ _ (region ∷ nation ∷ []) (codes "part.tbl") _ (lines (part_line n) 1 (20 * n + 1)) with_nation c.in_ok-add-3.ensures c.in_ok-part_text.ensures in
    let supplier : List ℕ × List ℕ = (codes "supplier.tbl", lines (supplier_line n) 1 (10 * n + 1)) in
    let with_supplier = text_added start _ _ (region ∷ nation ∷ part ∷ []) (codes "supplier.tbl") _ (lines (supplier_line n) 1 (10 * n + 1)) with_part c.in_ok-add-4.ensures c.in_ok-supplier_text.ensures in
    let partsupp : List ℕ × List ℕ = (codes "partsupp.tbl", lines (partsupp_lines n) 1 (20 * n + 1)) in
    let with_partsupp = text_added start _ _ (region ∷ nation ∷ part ∷ supplier ∷ []) (codes "partsupp.tbl") _ (lines (partsupp_lines n) 1 (20 * n + 1)) with_supplier c.in_ok-add-5.ensures c.in_ok-partsupp_text.ensures in
    text_added start _ _ (region ∷ nation ∷ part ∷ supplier ∷ partsupp ∷ []) (codes "customer.tbl") _ (lines (customer_line n) 1 (15 * n + 1)) with_partsupp c.in_ok-add-6.ensures c.in_ok-customer_text.ensures
