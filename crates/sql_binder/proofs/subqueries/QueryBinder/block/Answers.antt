use Rattle.sql_binder.proofs.Opened.{block_Select, block_Combined}
use Rattle.sql_binder.proofs.Sized.{select_of, first_of, parts_of}
use Rattle.sql_binder.proofs.Smaller.{block_below, each_part, at_size}
use Rattle.sql_binder.proofs.subqueries.QueryBinder.block.Goals as goal

pub select-requires : goal.select-requires
select-requires g c = at_size c.requires (select_of _ _ c.in-Select.is)

pub returns-in-Select : goal.returns-in-Select
returns-in-Select g c = rw (c.in-Select.is, block_Select) c.select.ensures

pub combined-requires : goal.combined-requires
combined-requires g c = record {
  first = block_below c.requires _ (first_of _ _ _ c.in-Combined.is);
  parts = rw c.as_slice.ensures (each_part c.requires _ (parts_of _ _ _ c.in-Combined.is));
}

pub returns-in-Combined : goal.returns-in-Combined
returns-in-Combined g c =
    rw (c.in-Combined.is, block_Combined, ← c.as_slice.ensures) c.combined.ensures
