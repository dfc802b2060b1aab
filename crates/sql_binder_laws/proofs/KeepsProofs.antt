-- A statement that is bound keeps the kinds and scales of its columns.
use Rattle.std.proofs.Common.{[], refl}
use Rattle.sql_bound_query.proofs.KeepsLaw.{keeps_kinds}
use Rattle.sql_binder_laws.specs.WellTyped.{BoundKeepsKinds}
use Rattle.sql_binder_laws.proofs.TypedTrees.{bound_is_well_typed}

pub bound_keeps_kinds : BoundKeepsKinds
bound_keeps_kinds q views bound typed is =
    let w = bound_is_well_typed q views bound typed is in
    (w.0, w.1, λ state st. keeps_kinds bound.block [] w.0 [] state st refl w.1)
